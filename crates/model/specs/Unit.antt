-- A unit: what it does first, its chain and forks, and what follows them.
use Rattle.std.specs.Prelude.{ℕ, ◌-◌, ◌&&◌, List, [], ◌∷◌, map, leb, ltb, eqb}
use Rattle.std.proofs.Math.Option.{some}
use Rattle.schedule.specs.Schedule.{Raise, When, Did}
use Rattle.model.specs.Base.{if◌then◌otherwise◌}
use Rattle.model.specs.Kinds.{Stopwatch}
use Rattle.model.specs.Circuit.{Circuit, kind_of_gate, input, output}
use Rattle.model.specs.State.{form_pin, form_output, Act, State, wires≔}
use Rattle.model.specs.Wires.{set_outs}
use Rattle.model.specs.Chain.{Calls, no_calls, Chained, push_calls}
use Rattle.model.specs.Loops.{run_chain}
use Rattle.model.specs.Settle.{publish_writes, settle}

-- What a unit and a tick hand on: the state, the steps that the tick may still make, the bytes of the log that are free, and the words of the record
-- that was written last.
pub record World : Type 0 where
  pub state : State
  pub left : ℕ
  pub room : ℕ
  pub logged : List ℕ

-- another state, and other steps left
unfoldable pub state≔ : World → ℕ → State → World
state≔ w left s = record { state = s; left = left; room = w.room; logged = w.logged }

-- what was raised at a state was raised in this world
unfoldable pub raises_in : {P : Type 0} → World → ℕ → List (Raise State Act P) → List (Raise World Act P)
raises_in w left rs = map (λ r. record { at = state≔ w left r.at; act = r.act; place = r.place }) rs

module _ (c : Circuit) where
  -- the output that a unit fires: form-output + output that output, a Stopwatch's Fire Expired, any other output 0
  unfoldable pub fired : ℕ → ℕ → ℕ
  fired g form = if leb form_output form then output c g (form - form_output) otherwise if eqb (kind_of_gate c g) Stopwatch then output c g 1 otherwise output c g 0

  -- form-pin + pin enters its gate, which is a step; any other fires an output; a circuit has at most 256 calls (question 1), so the first ones always find room
  unfoldable pub begin : Act → Calls
  begin a =
      if leb form_pin a.form && ltb a.form form_output then record { stack = input c a.gate (a.form - form_pin) ∷ []; forks = [] }
      otherwise push_calls c (some (fired a.gate a.form)) no_calls

  -- the values that it brings are put on its outputs from 1 on
  unfoldable pub enter : State → Act → State
  enter s a = wires≔ s (set_outs c s.wires (output c a.gate 1) a.row)

  -- a unit's chain and forks
  unfoldable pub run_unit : World → Act → Chained
  run_unit w a = run_chain c w.left (begin a) (enter w.state a)

  -- when the chain and its forks have ended, the Vars written are published, and what changed is settled; only then a unit raises
  unfoldable pub finish_chain : World → Chained → Did World Act When
  finish_chain w r =
      if eqb r.stop 0 then
      (let z = settle c (wires≔ r.state (publish_writes c r.state.wires)) in
      record { world = state≔ w r.left z.state; raises = raises_in w r.left z.raises; stop = 0 })
      otherwise record { world = state≔ w r.left r.state; raises = []; stop = r.stop }

  unfoldable pub unit_opened : ℕ
  unfolding state≔ raises_in fired begin enter run_unit finish_chain
  unit_opened = 0
