-- What is known where a reader is not refused.
use Prim.Native.Nat.{ℕ, zero, suc}
use mathlib.Core.Path.{◌≡◌, refl}
use mathlib.Core.Bool.{Bool, true, false}
use mathlib.Core.List.{List}
use mathlib.Core.Option.{none}
use native.Mathlib.Omega.{arith}
use Rattle.words.specs.Words.{words}
use Rattle.model.specs.Base.{if◌then◌otherwise◌}
use Rattle.model.specs.Circuit.{circuit}
use Rattle.model.specs.Questions.{circuit_refusal, or_else}
use Rattle.records.specs.Whole.{whole, not_whole, log_refusal}

-- the circuit is not refused, and the log is whole
pub not_refused : (circuit_bytes log : List ℕ) → log_refusal circuit_bytes log ≡ 0 → (circuit_refusal none circuit_bytes ≡ 0) × (whole (circuit (words circuit_bytes)) log ≡ true)
unfolding log_refusal or_else if◌then◌otherwise◌
not_refused circuit_bytes log h = go (circuit_refusal none circuit_bytes) (whole (circuit (words circuit_bytes)) log) h
  where
    go : (n : ℕ) (b : Bool) → or_else n (if b then 0 otherwise not_whole) ≡ 0 → (n ≡ 0) × (b ≡ true)
    go zero true e = (refl, refl)
    go zero false e = absurd (omega (arith, e))
    go (suc n) b e = absurd (omega (arith, e))
