-- What the steps of settling answer: how a value moved, what a change leads to, what a round comes to.
use Rattle.std.specs.Prelude.{ℕ, ◌-◌, ◌≡◌, Bool, true, false, Result, Ok, Err}
use Rattle.std.proofs.Math.Option.{Option, none, some}
use Rattle.schedule.specs.Schedule.{When}
use Rattle.lists.specs.Lists.{Filed as Answer}
use Rattle.lists.specs.declared.Full.{Full}
use Rattle.model.specs.declared.Value.{Value}
use Rattle.model.specs.Circuit.{Circuit, kind_of_gate, input, gate_at_input}
use Rattle.model.specs.State.{State, wires≔}
use Rattle.model.specs.Settle.{Settled, calm, detect, when_checked, check, check_on}
use Rattle.wires.specs.View.{Values}
use Rattle.wires.specs.Checks.{oldest, oldest_taken}
use Rattle.states.specs.View.{Delays}
use Rattle.units.specs.declared.Place.{Place}
use Rattle.units.specs.View.{Lists, Units}
use Rattle.units.specs.Raising.{Went}
use Rattle.areas.specs.Areas.{Contents, together, with_state, with_went}
use Rattle.settling.specs.declared.Raised.{Raised}
use Rattle.settling.specs.declared.Edge.{Edge}
use Rattle.settling.specs.declared.Edge.TheVariants.{Rising, Falling, Level}
use Rattle.settling.specs.Settling.{settled, filed_into}

-- what a moved value leads to: rising is output 0, falling output 1
unfoldable pub hit_by : Edge → State → (State → ℕ → Settled) → Settled
hit_by Rising s hit = hit s 0
hit_by Falling s hit = hit s 1
hit_by Level s hit = calm s

-- what a change of watched input i leads to
unfoldable pub acted : Circuit → ℕ → Value → Value → When → State → Settled
acted c i was now when s = detect c (kind_of_gate c (gate_at_input c i)) when s (gate_at_input c i) (i - input c (gate_at_input c i) 0) was now

-- Wires and small states go on as f has it, whatever the units are and however what may wait is raised, and r is what f raises.
abbrev pub Acts : Circuit → Values → Delays → Values → Delays → (When → State → Settled) → Raised → Type 0
Acts c v d w e f r =
    (u : Units) (when : When) →
    (together w u e ≡ with_state (together v u d) (f when (together v u d).state).state) × (settled c when (f when (together v u d).state).state r ≡ f when (together v u d).state)

-- ---- rounds

-- what n rounds come to
unfoldable pub goes_on : Circuit → Place → ℕ → State → Lists → Went
goes_on c to n s l = filed_into c to (check_on c n (calm s)) l

-- what a round comes to, where an input waits
unfoldable pub round_of : Circuit → Place → State → Lists → Option Went
round_of c to s l = elim (oldest s.wires) [ none ↦ none | some i ↦ some (filed_into c to (check c (when_checked s.wires i) (wires≔ s (oldest_taken s.wires)) i) l) ]

-- what the code answers: whether an input waited, or that what its check raised found its list full
abbrev pub Round : Type 0
Round = Result Bool Full

abbrev pub Idle : Round
Idle = Ok false

abbrev pub Done : Round
Done = Ok true

-- its answer
unfoldable pub answer_of : Answer → Round
answer_of (Err e) = Err e
answer_of (Ok u) = Done

unfoldable pub round_answer : Option Went → Round
round_answer none = Idle
round_answer (some w) = answer_of w.answer

-- what it leaves
unfoldable pub after_round : Contents → Option Went → Contents
after_round a none = a
after_round a (some w) = with_went a w
