-- What contracts say of settling, over the circuit of the links.
use Rattle.std.specs.Prelude.{ℕ, ◌+◌, ◌-◌, ◌≡◌, List}
use Rattle.std.proofs.Math.Option.{Option}
use Rattle.words.specs.Slices.{Slice, before, after}
use Rattle.schedule.specs.Schedule.{When, Filed}
use Rattle.model.specs.declared.Value.{Value}
use Rattle.model.specs.Base.{if◌then◌otherwise◌}
use Rattle.model.specs.Value.{truthy}
use Rattle.model.specs.Circuit.{Circuit, input}
use Rattle.model.specs.State.{form_pin, State}
use Rattle.model.specs.Settle.{Settled, calm, raise}
use Rattle.links.specs.Lent.{net_of}
use Rattle.wires.specs.Lent.{values_in, values_out}
use Rattle.states.specs.View.{Delays, delays}
use Rattle.units.specs.View.{Lists, Units}
use Rattle.units.specs.Raising.{answer, lists_after, with_lists, Went}
use Rattle.areas.specs.Areas.{Contents, with_state}
use Rattle.settling.specs.declared.Raised.{Raised}
use Rattle.settling.specs.Settling.{settled}
use Rattle.settling.specs.Rounds.{Acts, Round, answer_of, round_answer, after_round}

-- wires and small states go on as f has it, and r is what f raises: of the wires alone, and of both
abbrev pub ActsInValues : List ℕ → Slice → (Circuit → When → State → Settled) → Raised → Type 0
ActsInValues links vs f r = (d : Delays) → Acts (net_of links) (values_in links (before vs)) d (values_out links (after vs)) d (f (net_of links)) r

abbrev pub ActsInBoth : List ℕ → Slice → Slice → (Circuit → When → State → Settled) → Raised → Type 0
ActsInBoth links vs ds f r =
    Acts
    (net_of links)
    (values_in links (before vs))
    (delays (net_of links) (before ds))
    (values_out links (after vs))
    (delays (net_of links) (after ds))
    (f (net_of links))
    r

-- r is what pin i of gate g raises by what it reads: the gate, where that is true
abbrev pub PinRaises : Circuit → ℕ → ℕ → Value → Raised → Type 0
PinRaises c g i v r = (when : When) (s : State) → settled c when s r ≡ (if truthy v then raise when s g (form_pin + (i - input c g 0)) otherwise calm s)

-- a became b, and r is what z raises, however what may wait is raised
abbrev pub Settles : Circuit → Contents → Contents → Raised → (When → Settled) → Type 0
Settles c a b r z = (when : When) → (b ≡ with_state a (z when).state) × (settled c when (z when).state r ≡ z when)

-- u became v, and r is a round's answer, as filing came to x
abbrev pub FilesInRound : Units → Units → Round → Filed Lists → Type 0
FilesInRound u v r x = (r ≡ answer_of (answer x)) × (v ≡ with_lists u (lists_after u.lists x))

-- a became b, with the answer r, as a round came to w
abbrev pub GoesRound : Contents → Contents → Round → Option Went → Type 0
GoesRound a b r w = (r ≡ round_answer w) × (b ≡ after_round a w)
