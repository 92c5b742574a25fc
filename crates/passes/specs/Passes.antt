-- What a pass makes of the areas.
use Rattle.std.specs.Prelude.{ℕ, ◌-◌, ◌≡◌, List, ◌++◌, map, length}
use Rattle.schedule.specs.Schedule.{most_units, Passed, acts}
use Rattle.model.specs.Circuit.{Circuit}
use Rattle.model.specs.Unit.{World, state≔}
use Rattle.model.specs.Record.{Listed}
use Rattle.model.specs.Closing.{as_listed}
use Rattle.units.specs.View.{Lists}
use Rattle.areas.specs.Areas.{Contents, Kept}
use Rattle.chain.specs.declared.Ran.{Ran}
use Rattle.passes.specs.Waiting.{bare}

-- all but the units begun
abbrev pub with_begun : Kept → List Listed → Kept
with_begun k b =
    record { begun = b; events = k.events; parts = k.parts; behind_values = k.behind_values; behind_units = k.behind_units; behind_delays = k.behind_delays }

-- the units that a tick may still begin
abbrev pub units_left : Contents → ℕ
units_left a = most_units - length a.kept.begun

-- The areas a became b, with the answer r, as the pass p, from the world w on; h is what waits for it.
pub record Passes (c : Circuit) {Q : Type 0} (h : Lists → Q) (a b : Contents) (r : Ran) (w : World) (p : Passed (bare c) Q) : Type 0 where
  pub world : p.world ≡ state≔ w r.left b.state
  pub queue : p.queue ≡ h b.lists
  pub stop : p.stop ≡ r.stop
  pub left : p.left ≡ units_left b
  pub kept : b.kept ≡ with_begun a.kept (a.kept.begun ++ map as_listed (acts (bare c) p.turns))
