-- Publishing the Vars that a unit wrote, and settling: each watched input that a change reached, or that waits from the start, is read and acted on. Only this raises
-- activations inside a pass.
use Rattle.std.specs.Prelude.{ℕ, zero, suc, ◌+◌, ◌-◌, ◌*◌, Bool, true, false, not, ◌||◌, List, [], ◌∷◌, ◌++◌, map, eqb, length, get_or, set}
use Rattle.std.proofs.Math.Option.{Option, none, some}
use Rattle.schedule.specs.Schedule.{Raise, When, by_rank, put_off}
use Rattle.model.specs.declared.Value.{Value}
use Rattle.model.specs.declared.Value.TheVariants.{Nothing, Bool as Truth}
use Rattle.model.specs.Base.{if◌then◌otherwise◌, each}
use Rattle.model.specs.Value.{truthy, as_float, same, lt64}
use Rattle.model.specs.Kinds.{ChangeDetector, Edge, Change, EdgeExec, BufferTicks, BufferSeconds}
use Rattle.model.specs.Circuit.{Circuit, kind_of_gate, input, output, gate_at_input, gate_at_output}
use Rattle.model.specs.State.{Wires, form-Fire, form_pin, form_output, Act, State, to_check≔, late_checks≔, last≔, pulses≔, written≔, written_outside≔, wires≔}
use Rattle.model.specs.Wires.{look, ready, refresh_all, mark_readers_for, set_out}
use Rattle.model.specs.Delays.{buffer_input}
use Rattle.model.specs.Exec.{with_countdown, countdown}

-- a state, and what was raised on the way to it, in order, each with the state at that moment
pub record Settled : Type 0 where
  pub state : State
  pub raises : List (Raise State Act When)

-- nothing was raised
unfoldable pub calm : State → Settled
calm s = record { state = s; raises = [] }

-- gate g is raised, by rank or put off, in a form that brings no values
unfoldable pub raise : When → State → ℕ → ℕ → Settled
raise when s g form = record { state = s; raises = record { at = s; act = record { gate = g; form = form; row = [] }; place = when } ∷ [] }

-- what the last check read, nothing where there was none
unfoldable pub last_value : Option Value → Value
last_value none = Nothing
last_value (some u) = u

-- whether it is equal to what is read now
unfoldable pub unchanged : Option Value → Value → Bool
unchanged none v = false
unchanged (some u) v = same u v

-- Input i, the first that waits, is taken to be checked: it waits no more, and may be queued again; its mark for a late check is gone, whatever comes of it.
unfoldable pub taken : Wires → ℕ → List ℕ → Wires
taken w i is = late_checks≔ (to_check≔ w is (set w.queued i false)) (set w.late_checks i false)

-- how a check of input i raises what may be put off: where the input is marked for a late check, it is
unfoldable pub when_checked : Wires → ℕ → When
when_checked w i = if get_or w.late_checks i false then put_off otherwise by_rank

-- no Var is written
unfoldable pub none_written : Wires → Wires
none_written w = written_outside≔ (written≔ w []) (map (λ _. false) w.written_outside)

module _ (c : Circuit) where
  -- a Var that was written reaches what reads it, for a late check if it was written only inside bodies
  unfoldable pub publish_write : Wires → ℕ → Wires
  publish_write w o = mark_readers_for c (not (get_or w.written_outside (gate_at_output c o) false)) w o

  -- all that were, in the order of their first write, also where the value did not change; then none is written
  unfoldable pub publish_writes : Wires → Wires
  publish_writes w = none_written (each publish_write w w.written)

  -- a detector's output goes up, or stays up, from this tick on
  unfoldable pub pulse : Wires → ℕ → Wires
  pulse w o = let u = set_out c w o (Truth true) in pulses≔ u (set u.pulses o u.tick)

  -- Edge and EdgeExec compare as Floats, nothing as 0.0: rising is output 0, falling output 1
  unfoldable pub edge : State → Value → Value → (State → ℕ → Settled) → Settled
  edge s was now hit =
      if lt64 (as_float 0 was) (as_float 0 now) then hit s 0 otherwise if lt64 (as_float 0 now) (as_float 0 was) then hit s 1 otherwise calm s

  -- watched input p of gate g changed: a detector, a value buffer, or an exec pin, which raises where the value is true; only a ChangeDetector and a pin are put off
  unfoldable pub detect : ℕ → When → State → ℕ → ℕ → Value → Value → Settled
  detect k when s g p was now =
      if eqb k ChangeDetector then raise when s g form-Fire
      otherwise if eqb k Edge then edge s was now (λ t o. calm (wires≔ t (pulse t.wires (output c g o))))
      otherwise if eqb k Change then calm (wires≔ s (pulse s.wires (output c g 0)))
      otherwise if eqb k EdgeExec then edge s was now (λ t o. raise by_rank t g (form_output + o))
      otherwise if eqb k BufferTicks || eqb k BufferSeconds then calm (with_countdown c s g (λ d left. buffer_input d now left) (countdown c g (truthy now)))
      otherwise if truthy now then raise when s g (form_pin + p)
      otherwise calm s

  -- `last` is replaced at every check, and acted on is only a change
  unfoldable pub compared : When → State → ℕ → Option Value → Value → Settled
  compared when s i was now =
      let t = wires≔ s (last≔ s.wires (set s.wires.last i (some now))) in
      if unchanged was now then calm t otherwise detect (kind_of_gate c (gate_at_input c i)) when t (gate_at_input c i) (i - input c (gate_at_input c i) 0) (last_value was) now

  -- a watched input is read
  unfoldable pub check : When → State → ℕ → Settled
  check when s i = let t = wires≔ s (ready c s.wires i) in compared when t i (get_or s.wires.last i none) (look c t.wires i)

  -- first in, first out
  unfoldable pub check_on : ℕ → Settled → Settled
  check_on zero z = z
  check_on (suc n) z =
      let w = z.state.wires in
      elim w.to_check [
        | [] ↦ z
        | (i ∷ is) ↦
            let r = check (when_checked w i) (wires≔ z.state (taken w i is)) i in
            check_on n (record { state = r.state; raises = z.raises ++ r.raises })
      ]

  -- Inputs are queued again only when a pulse goes up, and none goes down in a settling, so these checks suffice.
  abbrev pub most_checks : ℕ
  most_checks = suc (length c.pins) * suc (length c.outputs)

  -- what is stale at its start is refreshed first; what becomes stale on the way stays so
  unfoldable pub settle : State → Settled
  settle s = check_on most_checks (calm (wires≔ s (refresh_all c s.wires)))

  unfoldable pub settle_opened : ℕ
  unfolding calm raise last_value unchanged taken when_checked none_written publish_write publish_writes pulse edge detect compared check check_on settle
  settle_opened = 0
