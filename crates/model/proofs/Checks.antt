-- What one check does to a state, by the kind of the gate whose input it is.
use mathlib.Core.Path.{◌≡◌, refl, sym}
use mathlib.Core.Bool.{Bool, true, false, ◌||◌, true≢false}
use Prim.Native.Nat.{ℕ, zero, suc, ◌<◌}
use native.Mathlib.Omega.{arith}
use lib.Dec.{leb, eqb}
use lib.ListN.{length}
use borrow.Author.Tests.{leb-true, eqb-true}
use Rattle.schedule.specs.Schedule.{When, by_rank}
use Rattle.model.specs.declared.Value.{Value}
use Rattle.model.specs.Kinds.{kind_at, pure, kinds_opened}
use Rattle.model.specs.Circuit.{Circuit, kind_of_gate, output}
use Rattle.model.specs.State.{State, Delay, wires≔}
use Rattle.model.specs.Exec.{count_changed, delay≔}
use Rattle.model.specs.Settle.{Settled, calm, raise, pulse, edge, detect}
use Rattle.model.proofs.Lists.{if_both, if_by, both_true}

-- ---- kinds

-- 7 and 8, whose outputs are pulses
unfoldable pub pulses_up : ℕ → Bool
pulses_up k = eqb k 7 || eqb k 8

-- a pure gate has an output, and it is no pulse
pub pure_kind : (k : ℕ) → pure k ≡ true → (0 < length (kind_at k).outs) × (pulses_up k ≡ false)
unfolding kinds_opened pulses_up
pure_kind zero e = absurd (true≢false (sym e))
pure_kind (suc zero) e = (omega arith, refl)
pure_kind (suc (suc zero)) e = (omega arith, refl)
pure_kind (suc (suc (suc zero))) e = (omega arith, refl)
pure_kind (suc (suc (suc (suc zero)))) e = (omega arith, refl)
pure_kind (suc (suc (suc (suc (suc k))))) e =
    let n = suc (suc (suc (suc (suc k)))) in
    absurd (omega (arith, leb-true n 4 (both_true (leb 1 n) (leb n 4) e).1))

outs_7 : length (kind_at 7).outs ≡ 2
unfolding kinds_opened
outs_7 = refl

outs_8 : length (kind_at 8).outs ≡ 1
unfolding kinds_opened
outs_8 = refl

-- ---- what is kept by each thing that a check may do is kept by the check

module _ (c : Circuit) (P : Settled → Type 0) (s : State) (g : ℕ) (calmed : P (calm s)) (raised : (when : When) (form : ℕ) → P (raise when s g form))
    (pulsed : (o k : ℕ) → kind_of_gate c g ≡ k → pulses_up k ≡ true → o < length (kind_at k).outs → P (calm (wires≔ s (pulse c s.wires (output c g o)))))
    (delayed : (d : Delay) (changed : Bool) → P (calm (count_changed (delay≔ c s g d) changed))) where
  edge_keeps : (was now : Value) (hit : State → ℕ → Settled) → P (hit s 0) → P (hit s 1) → P (edge c s was now hit)
  unfolding edge
  edge_keeps was now hit a b = if_both P _ a (if_both P _ b calmed)

  pub detect_keeps : (when : When) (p : ℕ) (was now : Value) → P (detect c (kind_of_gate c g) when s g p was now)
  unfolding detect pulses_up
  detect_keeps when p was now =
      if_both P _ (raised when 0)
      (if_by P (eqb (kind_of_gate c g) 7)
      (λ e. let k = eqb-true (kind_of_gate c g) 7 e in
      edge_keeps was now _ (pulsed 0 7 k refl (omega (arith, outs_7))) (pulsed 1 7 k refl (omega (arith, outs_7))))
      λ _. if_by P (eqb (kind_of_gate c g) 8)
      (λ e. pulsed 0 8 (eqb-true (kind_of_gate c g) 8 e) refl (omega (arith, outs_8)))
      λ _. if_both P _ (edge_keeps was now _ (raised by_rank _) (raised by_rank _)) (if_both P _ (delayed _ _) (if_both P _ (raised when _) calmed)))
