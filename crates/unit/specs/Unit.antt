-- What the code's unit makes of the areas.
use Rattle.std.specs.Prelude.{ℕ, ◌≤◌, ◌≡◌, List, eqb, length, Ok, Err}
use Rattle.lists.specs.Lists.{Filed}
use Rattle.schedule.specs.Schedule.{list_full}
use Rattle.model.specs.Base.{if◌then◌otherwise◌}
use Rattle.model.specs.Circuit.{Circuit, calls_of}
use Rattle.model.specs.State.{Act, Send, State, wires≔}
use Rattle.model.specs.Chain.{no_calls, Chained}
use Rattle.model.specs.Loops.{run_chain}
use Rattle.model.specs.Settle.{publish_writes, settle}
use Rattle.model.specs.Unit.{begin, enter}
use Rattle.units.specs.declared.Place.{Place}
use Rattle.units.specs.View.{act_of, event_of, Lists}
use Rattle.units.specs.Raising.{Went}
use Rattle.areas.specs.Areas.{Contents, with_calls}
use Rattle.settling.specs.Settling.{filed_into}
use Rattle.chain.specs.declared.Ran.{Ran}
use Rattle.unit.specs.declared.Act.{Act as Entered}
use Rattle.unit.specs.declared.Act.TheVariants.{Waiting, Event}

-- no output makes more calls than the chain stack or the forks hold; a circuit has at most 256 calls
abbrev pub FewCalls : Circuit → Type 0
FewCalls c = (o : ℕ) → length (calls_of c o) ≤ 256

-- what the unit of an entry is of, with the events of the tick before
unfoldable pub act_in : Circuit → List Send → Entered → Act
act_in c es (Waiting x) = act_of c x
act_in c es (Event x) = event_of es x

-- what a unit comes to: the state, what waits, the steps that the tick may still make, and the stop, or 0
pub record Result : Type 0 where
  pub state : State
  pub lists : Lists
  pub left : ℕ
  pub stop : ℕ

-- a list that was full stops the tick
unfoldable pub stop_of : Filed → ℕ
stop_of (Err e) = list_full
stop_of (Ok u) = 0

-- what filing led to
unfoldable pub with_left : ℕ → Went → Result
with_left left w = record { state = w.state; lists = w.lists; left = left; stop = stop_of w.answer }

module _ (c : Circuit) (to : Place) where
  -- after the chain and its forks, if they ended without a stop, the Vars written are published, and what changed is settled and filed
  unfoldable pub finished : State → ℕ → ℕ → Lists → Result
  finished s left stop l =
      if eqb stop 0 then with_left left (filed_into c to (settle c (wires≔ s (publish_writes c s.wires))) l)
      otherwise record { state = s; lists = l; left = left; stop = stop }

  -- after that chain
  unfoldable pub finished_chain : Chained → Lists → Result
  finished_chain k l = finished k.state k.left k.stop l

  -- a unit, whose tick may still make so many steps
  unfoldable pub ran : ℕ → Act → State → Lists → Result
  ran left a s l = finished_chain (run_chain c left (begin c a) (enter c s a)) l

-- the areas a became b, with the answer r, as the result z says; the calls that are left stay open
pub record RanAs (a b : Contents) (r : Ran) (z : Result) : Type 0 where
  pub areas : with_calls b no_calls ≡ record { state = z.state; lists = z.lists; calls = no_calls; kept = a.kept }
  pub left : r.left ≡ z.left
  pub stop : r.stop ≡ z.stop

-- the end of a unit alone, which leaves the calls as they are and answers its stop r
pub record Finishes (a b : Contents) (r : ℕ) (z : Result) : Type 0 where
  pub areas : b ≡ record { state = z.state; lists = z.lists; calls = a.calls; kept = a.kept }
  pub stop : r ≡ z.stop
