-- What contracts say of the opening, over the circuit of the links.
use Rattle.std.specs.Prelude.{ℕ, List}
use Rattle.words.specs.Slices.{Slice, before, after}
use Rattle.schedule.specs.Schedule.{Place}
use Rattle.model.specs.Circuit.{Circuit}
use Rattle.model.specs.Script.{Given}
use Rattle.model.specs.State.{State}
use Rattle.model.specs.Opening.{Opened}
use Rattle.links.specs.Lent.{net_of}
use Rattle.wires.specs.Lent.{values_in, values_out}
use Rattle.states.specs.View.{delays}
use Rattle.opening.specs.Opening.{stimuli_of}
use Rattle.opening.specs.Stages.{MovesOn}

-- what a script with these words gives to a tick of length dt that has those stimuli
abbrev pub given_at : Circuit → List ℕ → ℕ → ℕ → ℕ → ℕ → Given
given_at c ws dt gates constants n = record { dt = dt; stimuli = stimuli_of c ws gates constants n }

-- a gate moved on as f has it, and n Fires of gate g are still to be filed
abbrev pub MovesGate : List ℕ → Slice → Slice → (Circuit → State → Opened) → Place → ℕ → ℕ → Type 0
MovesGate links vs ds f p g n =
    MovesOn (values_in links (before vs)) (values_out links (after vs)) (delays (net_of links) (before ds)) (delays (net_of links) (after ds)) (f (net_of links)) p g n
