-- What a pass takes off next, and what beginning it makes of the areas.
use Rattle.std.specs.Prelude.{ℕ, ◌≡◌, List, [], ◌∷◌, drop}
use Rattle.std.specs.Prelude.{Option as Found, Some, None}
use Rattle.std.proofs.Math.Option.{Option, none, some}
use Rattle.unit.specs.declared.Act.{Act as Entered}
use Rattle.schedule.specs.Schedule.{list_full}
use Rattle.model.specs.Base.{snoc}
use Rattle.model.specs.Circuit.{Circuit}
use Rattle.model.specs.State.{Act, Send}
use Rattle.model.specs.Closing.{as_listed}
use Rattle.units.specs.View.{Lists, Units}
use Rattle.units.specs.Raising.{late≔, delivered≔, with_lists}
use Rattle.areas.specs.Areas.{Contents, Kept}
use Rattle.chain.specs.declared.Ran.{Ran}
use Rattle.unit.specs.Unit.{act_in, Result}
use Rattle.passes.specs.Passes.{with_begun}

-- ---- the late pass

-- the next one, by the late list and the delivered events
unfoldable pub next_of : List Act → List Act → Option Act
next_of [] [] = none
next_of [] (a ∷ d) = some a
next_of (a ∷ l) d = some a

-- the lists after it, by the late list
unfoldable pub rest_of : Lists → List Act → Lists
rest_of l [] = delivered≔ l (drop 1 l.delivered)
rest_of l (a ∷ k) = late≔ l k

-- what was taken, if anything was
unfoldable pub act_next : Circuit → List Send → Found Entered → Option Act
act_next c es None = none
act_next c es (Some a) = some (act_in c es a)

-- The next one of the late pass was taken off: u became v, with the answer r.
pub record Takes (c : Circuit) (u v : Units) (r : Found Entered) : Type 0 where
  pub next : act_next c u.events r ≡ next_of u.lists.late u.lists.delivered
  pub rest : v ≡ with_lists u (rest_of u.lists u.lists.late)

-- ---- the end of a pass in which no unit may begin any more

-- it is a stop if one waits
unfoldable pub over : Option Act → ℕ
over none = 0
over (some a) = list_full

-- ---- a unit

-- one more unit begun
abbrev pub one_begun : Kept → Act → Kept
one_begun k a = with_begun k (snoc k.begun (as_listed a))

-- The areas became b, with the answer r, as a unit that came to z and keeps k.
pub record Works (b : Contents) (r : Ran) (k : Kept) (z : Result) : Type 0 where
  pub state : b.state ≡ z.state
  pub lists : b.lists ≡ z.lists
  pub kept : b.kept ≡ k
  pub left : r.left ≡ z.left
  pub stop : r.stop ≡ z.stop
