-- Refusals and their numbers.
use Prim.Native.Nat.{ℕ}
use mathlib.Core.Path.{◌≡◌, refl, sym, ap, ◌∙◌}
use native.Mathlib.Omega.{arith}
use Rattle.std.specs.Prelude.{Result, Ok, Err}
use Rattle.std.specs.Result.{IsErrAnd}
use Rattle.std.proofs.lemmas.Result.{err_from_is_err_and}
use Rattle.circuit.specs.declared.refusals.Refusal.{Refusal}
use Rattle.circuit.specs.declared.refusals.Refusal.TheVariants.{Sizes, Constants, Gates, Inputs, Calls, Order, Areas, ScriptSizes, Ticks, Stimuli, NoBook, NotWhole, WrongNames, NoRoom, Bodies, RingOrLoop, WrongTicks}
use Rattle.circuit.specs.Numbers.{number_of, refused, numbered}

pub not_zero : (r : Refusal) → number_of r ≡ 0 → ⊥
not_zero Sizes e = omega (arith, e)
not_zero Constants e = omega (arith, e)
not_zero Gates e = omega (arith, e)
not_zero Inputs e = omega (arith, e)
not_zero Calls e = omega (arith, e)
not_zero Order e = omega (arith, e)
not_zero Areas e = omega (arith, e)
not_zero ScriptSizes e = omega (arith, e)
not_zero Ticks e = omega (arith, e)
not_zero Stimuli e = omega (arith, e)
not_zero NoBook e = omega (arith, e)
not_zero NotWhole e = omega (arith, e)
not_zero WrongNames e = omega (arith, e)
not_zero NoRoom e = omega (arith, e)
not_zero Bodies e = omega (arith, e)
not_zero RingOrLoop e = omega (arith, e)
not_zero WrongTicks e = omega (arith, e)

-- what a `?` hands on
pub handed : {A : Type 0} (e : Refusal) (r : Result A Refusal) (n : ℕ) → IsErrAnd r (λ x. x ≡ e) → number_of e ≡ n → (refused r ≡ n) × (refused r ≡ 0 → ⊥)
handed e r n h q =
    let p = err_from_is_err_and r h in
    let z : refused r ≡ number_of e = ap refused p.1 ∙ ap number_of p.2 in
    (z ∙ q, λ k. not_zero e (sym z ∙ k))

pub handed_number : {A : Type 0} (e : Refusal) (r : Result A Refusal) → IsErrAnd r (λ x. x ≡ e) → numbered r ≡ Err (number_of e)
handed_number e r h =
    let p = err_from_is_err_and r h in
    ap numbered p.1 ∙ ap (λ (x : Refusal). Err (number_of x)) p.2
