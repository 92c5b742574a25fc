-- The parts of a log: they lie in it, one behind the other.
use Prim.Native.Nat.{ℕ, suc, ◌+◌, ◌*◌, ◌/◌, ◌≤◌, ◌<◌}
use mathlib.Core.Path.{◌≡◌, refl, sym, ap, ◌∙◌}
use native.Mathlib.Omega.{arith}
use native.Mathlib.Nat.{mul_assoc, mul_comm, mul-le-mul_right, suc-mul, div-add-mod'}
use Rattle.model.specs.Book.{part_of}

pub part_is : (n l : ℕ) → 8 * (l / (8 * n)) ≡ part_of n l
unfolding part_of
part_is n l = refl

-- all n of them
pub parts_in : (n l : ℕ) → n * (8 * (l / (8 * n))) ≤ l
parts_in n l =
    let q : ℕ = l / (8 * n) in
    let e : n * (8 * q) ≡ q * (8 * n) = sym (mul_assoc n 8 q) ∙ mul_comm (n * 8) q ∙ ap (λ (m : ℕ). q * m) (mul_comm n 8) in
    fit (n * (8 * q)) (q * (8 * n)) l _ e (div-add-mod' l (8 * n))
  where
    fit : (a b l r : ℕ) → a ≡ b → b + r ≡ l → a ≤ l
    fit a b l r e f = omega arith

-- part k
pub part_in : (n size k l : ℕ) → k < n → n * size ≤ l → k * size + size ≤ l
part_in n size k l h e = let x : suc k * size ≤ n * size = mul-le-mul_right size h in omega (arith, x, suc-mul k size)

-- so each is no larger than the log
pub one_in : (n l : ℕ) → 1 ≤ n → 8 * (l / (8 * n)) ≤ l
one_in n l h = let x = part_in n (8 * (l / (8 * n))) 0 l h (parts_in n l) in fit (8 * (l / (8 * n))) l x
  where
    fit : (a l : ℕ) → 0 * a + a ≤ l → a ≤ l
    fit a l x = omega (arith, x)
