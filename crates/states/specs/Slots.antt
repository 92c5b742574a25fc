-- What becomes of the words of a slot, whatever records its gate has.
use Rattle.std.specs.Prelude.{ℕ, ◌≡◌, Bool, cond, List, ltb, length}
use Rattle.std.proofs.Math.Option.{Option, none, some}
use Rattle.model.specs.declared.Value.{Value}
use Rattle.lists.specs.Lists.{Filed, NoRoom, Done}
use Rattle.model.specs.State.{Countdown, Flight, Queued, Delay}
use Rattle.model.specs.Delays.{Moved, moved}
use Rattle.model.specs.Exec.{most_fires}
use Rattle.delays.specs.States.{counts_seconds, row_of, add_fire}
use Rattle.states.specs.declared.slots.Landed.{Landed}
use Rattle.states.specs.View.{delay_of}

-- The small state in the slot becomes what f makes of it.
abbrev pub Becomes : Bool → List ℕ → List ℕ → (Delay → Delay) → Type 0
Becomes seconds ws to f = (qs : List Queued) → delay_of seconds to qs ≡ f (delay_of seconds ws qs)

-- The same whether its countdowns are in seconds or in ticks.
abbrev pub BecomesAny : List ℕ → List ℕ → (Delay → Delay) → Type 0
BecomesAny ws to f = (seconds : Bool) → Becomes seconds ws to f

-- Whether the countdown of what is in flight counts seconds, and not ticks. Where nothing is in flight it is as given.
unfoldable pub flies_by : Bool → Option Flight → Bool
flies_by seconds none = seconds
flies_by seconds (some f) = counts_seconds f.left

-- The same for a slot of the kind, seconds or ticks, that the countdown of the flight has.
abbrev pub BecomesBy : Option Flight → List ℕ → List ℕ → (Delay → Delay) → Type 0
BecomesBy flight ws to f = (seconds : Bool) → flies_by seconds flight ≡ seconds → Becomes seconds ws to f

-- It moves on by f, which hands out a row and fires n times.
abbrev pub Turns : Bool → List ℕ → List ℕ → (Delay → Moved) → List Value → ℕ → Type 0
Turns seconds ws to f row n = (qs : List Queued) → f (delay_of seconds ws qs) ≡ moved (delay_of seconds to qs) row n

-- A value buffer moves on by f: what lands, and whether narrowing changed a wait.
abbrev pub Lands : Bool → List ℕ → List ℕ → (Delay → Moved) → Landed → Type 0
Lands seconds ws to f r =
    (qs : List Queued) → f (delay_of seconds ws qs) ≡ record { state = delay_of seconds to qs; row = row_of r.what; fires = 0; changed = r.changed }

-- The same whether its countdowns are in seconds or in ticks.
abbrev pub TurnsAny : List ℕ → List ℕ → (Delay → Moved) → List Value → ℕ → Type 0
TurnsAny ws to f row n = (seconds : Bool) → Turns seconds ws to f row n

-- One fire more with the countdown k, if there is room.
abbrev pub Added : Bool → List ℕ → List ℕ → Countdown → Filed → Type 0
Added seconds ws to k r =
    (qs : List Queued)
    → (r ≡ cond (ltb (length (delay_of seconds ws qs).fires) most_fires) Done NoRoom) × (delay_of seconds to qs ≡ add_fire (delay_of seconds ws qs) k)
