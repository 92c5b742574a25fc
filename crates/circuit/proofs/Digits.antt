-- Laws of the binary digits of words.
use Prim.Native.Nat.{ℕ, zero, suc, ◌+◌, ◌*◌, ◌/◌, ◌%◌, ◌^◌, ◌<◌, min, max}
use mathlib.Core.Path.{◌≡◌, refl, sym, ap, ap₂, ◌∙◌}
use mathlib.Core.Bool.{Bool, true, false, not, ◌&&◌}
use mathlib.Core.List.{List, [], ◌∷◌, map}
use native.Mathlib.Nat.{pow-suc}
use native.Mathlib.Omega.{arith}
use lib.Bits.{bit_and, bit_or, and_step, or_step, and_zero_l, and_zero_r, or_add_and, and_le_l, and_le_r}
use lib.Dec.{eqb}
use lib.ListN.{length, get_or}
use borrow.Author.Tests.{eqb-true, eqb-false, eq-eqb, ne_eqb}
use Rattle.model.specs.Base.{all}
use Rattle.model.specs.Value.{bit}
use Rattle.model.proofs.Lists.{bit_most}
use Rattle.circuit.specs.Gates.{word_of_bits}

-- ---- `and` of an `or`

-- a digit and the number that stands above it
halves : (x y m : ℕ) → x ≡ y * 2 + m → m < 2 → (x / 2 ≡ y) × (x % 2 ≡ m)
halves x y m e h = (omega arith, omega arith)

or_halves : (a b : ℕ) → (bit_or a b / 2 ≡ bit_or (a / 2) (b / 2)) × (bit_or a b % 2 ≡ max (a % 2) (b % 2))
or_halves a b = halves (bit_or a b) (bit_or (a / 2) (b / 2)) (max (a % 2) (b % 2)) (or_step a b) (omega arith)

and_halves : (a b : ℕ) → (bit_and a b / 2 ≡ bit_and (a / 2) (b / 2)) × (bit_and a b % 2 ≡ min (a % 2) (b % 2))
and_halves a b = halves (bit_and a b) (bit_and (a / 2) (b / 2)) (min (a % 2) (b % 2)) (and_step a b) (omega arith)

digit_spread : (x y z : ℕ) → min (max x y) z ≡ max (min x z) (min y z)
digit_spread x y z = omega arith

-- k is the number of digits of u
and_or : (k a b u : ℕ) → u < 2 ^ k → bit_and (bit_or a b) u ≡ bit_or (bit_and a u) (bit_and b u)
and_or zero a b u h = let e : u ≡ 0 = omega arith in rw (e, and_zero_r (bit_or a b), and_zero_r a, and_zero_r b)
and_or (suc k) a b u h =
    let o = or_halves a b in
    let x = and_halves a u in
    let y = and_halves b u in
    and_step (bit_or a b) u
    ∙ ap₂ (λ (p q : ℕ). bit_and p (u / 2) * 2 + min q (u % 2)) o.0 o.1
    ∙ ap₂ (λ (p q : ℕ). p * 2 + q) (and_or k (a / 2) (b / 2) (u / 2) (omega (arith, pow-suc 2 k))) (digit_spread (a % 2) (b % 2) (u % 2))
    ∙ ap₂ (λ (p q : ℕ). bit_or p q * 2 + max (min (a % 2) (u % 2)) (min (b % 2) (u % 2))) (sym x.0) (sym y.0)
    ∙ ap₂ (λ (p q : ℕ). bit_or (bit_and a u / 2) (bit_and b u / 2) * 2 + max p q) (sym x.1) (sym y.1)
    ∙ sym (or_step (bit_and a u) (bit_and b u))

or_none : (x y : ℕ) → eqb (bit_or x y) 0 ≡ (eqb x 0 && eqb y 0)
or_none x y = go (eqb x 0) (eqb y 0) refl refl
  where
    go : (p q : Bool) → eqb x 0 ≡ p → eqb y 0 ≡ q → eqb (bit_or x y) 0 ≡ (p && q)
    go true true e f = eq-eqb (bit_or x y) 0 (omega (arith, eqb-true x 0 e, eqb-true y 0 f, or_add_and x y))
    go true false e f = ne_eqb (bit_or x y) 0 (λ z. eqb-false y 0 f (omega (arith, eqb-true x 0 e, or_add_and x y, and_le_l x y)))
    go false q e f = ne_eqb (bit_or x y) 0 (λ z. eqb-false x 0 e (omega (arith, or_add_and x y, and_le_l x y, and_le_r x y)))

-- what neither of two words has a digit in common with, their `or` has none in common with
pub apart_or : (k a b u : ℕ) → u < 2 ^ k → eqb (bit_and (bit_or a b) u) 0 ≡ (eqb (bit_and a u) 0 && eqb (bit_and b u) 0)
apart_or k a b u h = ap (λ (x : ℕ). eqb x 0) (and_or k a b u h) ∙ or_none (bit_and a u) (bit_and b u)

-- ---- words of bits

pub word_most : (bs : List Bool) → word_of_bits bs < 2 ^ length bs
unfolding word_of_bits bit
word_most [] = omega arith
word_most (true ∷ bs) = omega (arith, word_most bs, pow-suc 2 (length bs))
word_most (false ∷ bs) = omega (arith, word_most bs, pow-suc 2 (length bs))

double_none : (x m : ℕ) → m ≡ 0 → eqb (x * 2 + m) 0 ≡ eqb x 0
double_none x m h = go (eqb x 0) refl
  where
    go : (b : Bool) → eqb x 0 ≡ b → eqb (x * 2 + m) 0 ≡ b
    go true e = eq-eqb (x * 2 + m) 0 (omega (arith, eqb-true x 0 e))
    go false e = ne_eqb (x * 2 + m) 0 (λ z. eqb-false x 0 e (omega arith))

-- the word of what is false is 0 where all are true
pub word_none : (bs : List Bool) → eqb (word_of_bits (map not bs)) 0 ≡ all (λ b. b) bs
unfolding word_of_bits bit all
word_none [] = refl
word_none (true ∷ bs) = double_none (word_of_bits (map not bs)) 0 refl ∙ word_none bs
word_none (false ∷ bs) = ne_eqb (word_of_bits (map not bs) * 2 + 1) 0 (λ z. omega arith)

-- it has no bit h where h is true
pub word_apart : (bs : List Bool) (h : ℕ) → eqb (bit_and (2 ^ h) (word_of_bits (map not bs))) 0 ≡ get_or bs h true
unfolding word_of_bits bit
word_apart [] h = rw (and_zero_r (2 ^ h))
word_apart (true ∷ bs) zero =
    let w = word_of_bits (map not bs) in
    eq-eqb (bit_and 1 (w * 2 + 0)) 0 (omega (arith, and_step 1 (w * 2 + 0), and_zero_l (w * 2 / 2)))
word_apart (false ∷ bs) zero =
    let w = word_of_bits (map not bs) in
    ne_eqb (bit_and 1 (w * 2 + 1)) 0 (λ z. omega (arith, and_step 1 (w * 2 + 1)))
word_apart (b ∷ bs) (suc h) =
    let w = word_of_bits (map not bs) in
    let x : 2 ^ suc h / 2 ≡ 2 ^ h = omega (arith, pow-suc 2 h) in
    let y : (w * 2 + bit (not b)) / 2 ≡ w = omega (arith, bit_most (not b)) in
    let z : min (2 ^ suc h % 2) ((w * 2 + bit (not b)) % 2) ≡ 0 = omega (arith, pow-suc 2 h) in
    ap (λ (n : ℕ). eqb n 0) (and_step (2 ^ suc h) (w * 2 + bit (not b)))
    ∙ double_none (bit_and (2 ^ suc h / 2) ((w * 2 + bit (not b)) / 2)) _ z
    ∙ rw (x, y) (word_apart bs h)
