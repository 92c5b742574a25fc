-- A word of gates, gate by gate: its first gate by the zeros below it, and the word without that gate.
use Prim.Native.Nat.{ℕ, zero, suc, ◌+◌, ◌-◌, ◌*◌, ◌/◌, ◌%◌, ◌^◌, ◌≤◌, ◌<◌}
use mathlib.Core.Path.{◌≡◌, refl, sym, ap, ◌∙◌}
use mathlib.Core.Bool.{Bool}
use mathlib.Core.List.{List, [], ◌∷◌}
use native.Mathlib.Nat.{zero-add, add-zero, pow-succ', mul-add, one-mul, div-one, div-div-eq-div-mul}
use native.Mathlib.Omega.{arith}
use lib.Dec.{eqb}
use lib.ListN.{length, get_or, drop}
use lib.Count.{count_trailing_zeros, under, trailing_of_zero}
use Rattle.floats.proofs.Bits.{unit_is}
use Rattle.model.specs.Base.{if◌then◌otherwise◌, keep, each, from}
use Rattle.links.specs.Links.{word_of_gates, gates_of_word}
use Rattle.links.proofs.Tables.{double, next_place}

-- of the numbers from a on, those whose bits among the n lowest of d are set
bits : ℕ → ℕ → ℕ → List ℕ
bits a zero d = []
bits a (suc n) d = if eqb (d % 2) 1 then a ∷ bits (suc a) n (d / 2) otherwise bits (suc a) n (d / 2)

keep_bits : (p : ℕ → Bool) (a n d : ℕ) → ((i : ℕ) → i < n → p (a + i) ≡ eqb (d / 2 ^ i % 2) 1) → keep p (from a n) ≡ bits a n d
unfolding keep from bits
keep_bits p a zero d h = refl
keep_bits p a (suc n) d h =
    let e : p a ≡ eqb (d % 2) 1 = sym (ap p (add-zero a)) ∙ h 0 (omega arith) ∙ ap (λ x. eqb (x % 2) 1) (div-one d) in
    let r : keep p (from (suc a) n) ≡ bits (suc a) n (d / 2) =
    keep_bits p (suc a) n (d / 2)
    (λ i k.
    ap p (next_place a i) ∙ h (suc i) (omega arith)
    ∙ ap (λ x. eqb (x % 2) 1) (ap (λ y. d / y) (pow-succ' 2 i) ∙ sym (div-div-eq-div-mul d 2 (2 ^ i))))
    in
    λ j. if e j then a ∷ r j otherwise r j

gates_are : (d : ℕ) → gates_of_word d ≡ bits 0 64 d
unfolding gates_of_word
gates_are d = keep_bits (λ g. eqb (d / 2 ^ g % 2) 1) 0 64 d (λ i k. ap (λ g. eqb (d / 2 ^ g % 2) 1) (zero-add i))

-- the first of them stands above the zeros
bits_first : (a n d : ℕ) → get_or (bits a n d) 0 (a + n) ≡ a + count_trailing_zeros n d
unfolding bits count_trailing_zeros if◌then◌otherwise◌
bits_first a zero d = refl
bits_first a (suc n) d = go (d % 2) (omega arith) (bits_first (suc a) n (d / 2))
  where
    go : (m : ℕ) → m < 2 → get_or (bits (suc a) n (d / 2)) 0 (suc a + n) ≡ suc a + count_trailing_zeros n (d / 2) →
        get_or (if eqb m 1 then a ∷ bits (suc a) n (d / 2) otherwise bits (suc a) n (d / 2)) 0 (a + suc n) ≡ a + under m (count_trailing_zeros n (d / 2))
    go zero h r = sym (ap (λ x. get_or (bits (suc a) n (d / 2)) 0 x) (next_place a n)) ∙ r ∙ next_place a (count_trailing_zeros n (d / 2))
    go (suc zero) h r = sym (add-zero a)
    go (suc (suc m)) h r = absurd (omega arith)

-- without it the rest are left
bits_rest : (a n d : ℕ) → bits a n (d - 2 ^ count_trailing_zeros n d) ≡ drop 1 (bits a n d)
unfolding bits count_trailing_zeros if◌then◌otherwise◌
bits_rest a zero d = refl
bits_rest a (suc n) d = go (d % 2) refl (omega arith) (bits_rest (suc a) n (d / 2))
  where
    go : (m : ℕ) → d % 2 ≡ m → m < 2 → bits (suc a) n (d / 2 - 2 ^ count_trailing_zeros n (d / 2)) ≡ drop 1 (bits (suc a) n (d / 2)) →
        bits a (suc n) (d - 2 ^ under m (count_trailing_zeros n (d / 2))) ≡ drop 1 (if eqb m 1 then a ∷ bits (suc a) n (d / 2) otherwise bits (suc a) n (d / 2))
    go zero e h r =
        let t = count_trailing_zeros n (d / 2) in
        let q : (d - 2 ^ suc t) % 2 ≡ 0 = omega (arith, pow-succ' 2 t) in
        let k : (d - 2 ^ suc t) / 2 ≡ d / 2 - 2 ^ t = omega (arith, pow-succ' 2 t) in
        rw (q, k) r
    go (suc zero) e h r =
        let q : (d - 1) % 2 ≡ 0 = omega arith in
        let k : (d - 1) / 2 ≡ d / 2 = omega arith in
        rw (q, k) refl
    go (suc (suc m)) e h r = absurd (omega arith)

bits_none : (a n d : ℕ) → n ≤ count_trailing_zeros n d → bits a n d ≡ []
unfolding bits count_trailing_zeros if◌then◌otherwise◌
bits_none a zero d h = refl
bits_none a (suc n) d h = go (d % 2) (omega arith) (bits_none (suc a) n (d / 2)) h
  where
    go : (m : ℕ) → m < 2 → (n ≤ count_trailing_zeros n (d / 2) → bits (suc a) n (d / 2) ≡ []) → suc n ≤ under m (count_trailing_zeros n (d / 2)) →
        (if eqb m 1 then a ∷ bits (suc a) n (d / 2) otherwise bits (suc a) n (d / 2)) ≡ []
    go zero l r h = r (omega arith)
    go (suc zero) l r h = absurd (omega arith)
    go (suc (suc m)) l r h = absurd (omega arith)

zeros_fit : (n d : ℕ) → count_trailing_zeros n d < n → 2 ^ count_trailing_zeros n d ≤ d
unfolding count_trailing_zeros
zeros_fit zero d h = absurd (omega arith)
zeros_fit (suc n) d h = go (d % 2) refl (omega arith) (zeros_fit n (d / 2)) h
  where
    go : (m : ℕ) → d % 2 ≡ m → m < 2 → (count_trailing_zeros n (d / 2) < n → 2 ^ count_trailing_zeros n (d / 2) ≤ d / 2) →
        under m (count_trailing_zeros n (d / 2)) < suc n → 2 ^ under m (count_trailing_zeros n (d / 2)) ≤ d
    go zero e l r h = omega (arith, r (omega arith), pow-succ' 2 (count_trailing_zeros n (d / 2)))
    go (suc zero) e l r h = omega arith
    go (suc (suc m)) e l r h = absurd (omega arith)

bits_again : (a n d : ℕ) → d < 2 ^ n → word_of_gates (bits a n d) ≡ 2 ^ a * d
unfolding bits word_of_gates if◌then◌otherwise◌
bits_again a zero d h = let e : d ≡ 0 = omega arith in rw e (omega arith)
bits_again a (suc n) d h = go (d % 2) refl (omega arith) (bits_again (suc a) n (d / 2) (omega (arith, pow-succ' 2 n)))
  where
    go : (m : ℕ) → d % 2 ≡ m → m < 2 → word_of_gates (bits (suc a) n (d / 2)) ≡ 2 ^ suc a * (d / 2) →
        word_of_gates (if eqb m 1 then a ∷ bits (suc a) n (d / 2) otherwise bits (suc a) n (d / 2)) ≡ 2 ^ a * d
    go zero e l r = let q : 2 * (d / 2) ≡ d = omega arith in r ∙ double a (d / 2) ∙ ap (λ x. 2 ^ a * x) q
    go (suc zero) e l r =
        let q : 1 + 2 * (d / 2) ≡ d = omega arith in
        omega (arith, r, double a (d / 2), mul-add (2 ^ a) 1 (2 * (d / 2)), ap (λ x. 2 ^ a * x) q)
    go (suc (suc m)) e l r = absurd (omega arith)

-- ---- for the code

-- a 64-bit word is determined by its gates
pub word_again : (d : ℕ) → d < 2 ^ 64 → word_of_gates (gates_of_word d) ≡ d
word_again d h = ap word_of_gates (gates_are d) ∙ bits_again 0 64 d h ∙ one-mul d

pub first_is : (d : ℕ) → count_trailing_zeros 64 d ≡ get_or (gates_of_word d) 0 64
first_is d = sym (ap (λ gs. get_or gs 0 64) (gates_are d) ∙ bits_first 0 64 d ∙ zero-add (count_trailing_zeros 64 d))

module _ (d g : ℕ) (e : g ≡ get_or (gates_of_word d) 0 64) where
  zeros_are : g ≡ count_trailing_zeros 64 d
  zeros_are = e ∙ sym (first_is d)

  pub first_fits : g < 64 → 1 * 2 ^ g % 2 ^ 64 ≤ d
  first_fits h =
      let z = zeros_are in
      let f : 2 ^ g ≤ d = rw z (zeros_fit 64 d (omega arith)) in
      omega (arith, unit_is g h)

  pub later_some : g < 64 → gates_of_word (d - 1 * 2 ^ g % 2 ^ 64) ≡ drop 1 (gates_of_word d)
  later_some h =
      let z = zeros_are in
      ap (λ x. gates_of_word (d - x)) (unit_is g h) ∙ gates_are (d - 2 ^ g) ∙ rw z (bits_rest 0 64 d) ∙ ap (drop 1) (sym (gates_are d))

  pub none_are : 64 ≤ g → gates_of_word d ≡ []
  none_are h = gates_are d ∙ bits_none 0 64 d (omega (arith, zeros_are))

  pub later_none : 64 ≤ g → gates_of_word 0 ≡ drop 1 (gates_of_word d)
  later_none h = gates_are 0 ∙ bits_none 0 64 0 (omega (arith, trailing_of_zero 64)) ∙ ap (drop 1) (sym (none_are h))

-- ---- for those who walk along a word

first_and_rest : (gs : List ℕ) (g : ℕ) → g ≡ get_or gs 0 64 → g < 64 → gs ≡ g ∷ drop 1 gs
first_and_rest [] g e h = absurd (omega arith)
first_and_rest (x ∷ gs) g e h = ap (λ y. y ∷ gs) (sym e)

module _ {B : Type 0} (f : B → ℕ → B) (b : B) (d g : ℕ) (e : g ≡ get_or (gates_of_word d) 0 64) where
  pub gates_next : (r : ℕ) → g < 64 → gates_of_word r ≡ drop 1 (gates_of_word d) → each f b (gates_of_word d) ≡ each f (f b g) (gates_of_word r)
  unfolding each
  gates_next r h k = ap (each f b) (first_and_rest (gates_of_word d) g e h) ∙ ap (each f (f b g)) (sym k)

  pub gates_over : 64 ≤ g → each f b (gates_of_word d) ≡ b
  unfolding each
  gates_over h = ap (each f b) (none_are d g e h)

-- each turn leaves one gate fewer
pub gates_fewer :
    (d g r : ℕ) → g ≡ get_or (gates_of_word d) 0 64 → g < 64 → gates_of_word r ≡ drop 1 (gates_of_word d) → length (gates_of_word r) < length (gates_of_word d)
gates_fewer d g r e h k = omega (arith, ap (λ (gs : List ℕ). length gs) k, ap (λ (gs : List ℕ). length gs) (first_and_rest (gates_of_word d) g e h))
