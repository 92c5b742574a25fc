-- The words of signed numbers, added and multiplied modulo 2^64, are the word of the index.
use Rattle.std.proofs.Common.{◌≡◌, ℕ, zero, suc, ◌+◌, ◌-◌, ◌*◌, ◌%◌, ◌^◌, ◌<◌, ◌≤◌, Bool, true, false, cond, ltb, ℤ, pos, negsuc, ◌+ℤ◌, neg_ℤ, sym, refl, ap, ◌∙◌, mul-add, arith, w64, Fits, SFits, to_z, of_z, ltb-false, ltb-true, le-ltb, lt-ltb}
use native.Mathlib.Nat.{add-mod-mod, mod-add-mod, add-mul-mod_self_right}
use lib.IntN.{sub_ℕ}
use mir.ValLaws.{to_z-Fits, of_z-to_z}
use Rattle.model.specs.Loops.{wrapped, index}

-- a word that b wraps to a
Wraps : ℕ → ℕ → ℕ → Type 0
Wraps a b w = (w + b) % 2 ^ 64 ≡ a % 2 ^ 64

-- there is one only
one_only : (a b w v : ℕ) → w < 2 ^ 64 → v < 2 ^ 64 → Wraps a b w → Wraps a b v → w ≡ v
unfolding Wraps
one_only a b w v h k e f = let z : (w + b) % 2 ^ 64 ≡ (v + b) % 2 ^ 64 = e ∙ sym f in omega (arith, z)

wrapped_less : (z : ℤ) → wrapped z < 2 ^ 64
unfolding wrapped
wrapped_less (pos n) = omega arith
wrapped_less (negsuc n) = omega arith

-- a less b wraps to it
wrapped_sub : (a b : ℕ) → Wraps a b (wrapped (sub_ℕ a b))
unfolding wrapped Wraps
wrapped_sub a b = go (ltb a b) (ltb-true a b) (ltb-false a b)
  where
    go : (t : Bool) → (t ≡ true → a < b) → (t ≡ false → b ≤ a) → (wrapped (cond t (negsuc (b - suc a)) (pos (a - b))) + b) % 2 ^ 64 ≡ a % 2 ^ 64
    go true f g = let h = f refl in omega (arith, h)
    go false f g = let h = g refl in omega (arith, h)

-- sums of a sign each
pos_less : (f n : ℕ) → pos f +ℤ neg_ℤ (pos n) ≡ sub_ℕ f n
pos_less f zero = let q : ltb f 0 ≡ false = le-ltb f 0 (omega arith) in let e : f + 0 ≡ f - 0 = omega arith in rw q (ap pos e)
pos_less f (suc n) = refl

neg_less : (f n : ℕ) → negsuc f +ℤ neg_ℤ (pos n) ≡ sub_ℕ 0 (suc f + n)
neg_less f zero = let e : suc f ≡ suc f + 0 = omega arith in ap (sub_ℕ 0) e
neg_less f (suc n) =
    let q : ltb 0 (suc f + suc n) ≡ true = lt-ltb 0 (suc f + suc n) (omega arith) in
    let e : suc (f + n) ≡ suc f + suc n - 1 = omega arith in
    rw q (ap negsuc e)

-- a multiple of 2^64 less what was taken off it
lifted : (d s : ℕ) → s < 2 ^ 64 → d * (2 ^ 64 - suc s) + d * suc s ≡ d * 2 ^ 64
lifted d s h = let z : 2 ^ 64 - suc s + suc s ≡ 2 ^ 64 = omega arith in sym (mul-add d (2 ^ 64 - suc s) (suc s)) ∙ ap (λ (x : ℕ). d * x) z

-- each number is that of a word
unfoldable pub Word : ℤ → Type 0
Word (pos n) = n < 2 ^ 64
Word (negsuc n) = n < 2 ^ 64

-- every signed number of 64 bits
pub word_of : (z : ℤ) → SFits w64 z → Word z
unfolding Word
word_of (pos n) h = let k = h.sfits in omega (arith, k)
word_of (negsuc n) h = let k = h.sfits in omega (arith, k)

-- a sum that is a less b, and the word that is added up for it
by_sub : (z : ℤ) (a b x : ℕ) → z ≡ sub_ℕ a b → (x + b) % 2 ^ 64 ≡ a % 2 ^ 64 → x % 2 ^ 64 ≡ wrapped z
unfolding Wraps
by_sub z a b x e h =
    let w : (wrapped z + b) % 2 ^ 64 ≡ a % 2 ^ 64 = rw e (wrapped_sub a b) in
    one_only a b (x % 2 ^ 64) (wrapped z) (omega arith) (wrapped_less z) (mod-add-mod x (2 ^ 64) b ∙ h) w

-- The index, from the words of the first and of the step.
pub index_of_words : (first step : ℤ) (done : ℕ) → Word first → Word step → (of_z w64 first + done * of_z w64 step) % 2 ^ 64 ≡ index first done step
unfolding Word index wrapped
index_of_words (pos f) (pos s) d hf hs = refl
index_of_words (pos f) (negsuc s) d hf hs =
    let l = lifted d s hs in
    let m = add-mul-mod_self_right f d (2 ^ 64) in
    let x : f + d * (2 ^ 64 - suc s) + d * suc s ≡ f + d * 2 ^ 64 = omega (arith, l) in
    by_sub _ f (d * suc s) (f + d * (2 ^ 64 - suc s)) (pos_less f (d * suc s)) (ap (λ (y : ℕ). y % 2 ^ 64) x ∙ m)
index_of_words (negsuc f) (pos s) d hf hs =
    let x : 2 ^ 64 - suc f + d * s + suc f ≡ d * s + 1 * 2 ^ 64 = omega (arith, hf) in
    by_sub _ (d * s) (suc f) (2 ^ 64 - suc f + d * s) refl (ap (λ (y : ℕ). y % 2 ^ 64) x ∙ add-mul-mod_self_right (d * s) 1 (2 ^ 64))
index_of_words (negsuc f) (negsuc s) d hf hs =
    let l = lifted d s hs in
    let m = add-mul-mod_self_right (2 ^ 64) d (2 ^ 64) in
    let x : 2 ^ 64 - suc f + d * (2 ^ 64 - suc s) + (suc f + d * suc s) ≡ 2 ^ 64 + d * 2 ^ 64 = omega (arith, l, hf) in
    by_sub _ 0 (suc f + d * suc s) (2 ^ 64 - suc f + d * (2 ^ 64 - suc s)) (neg_less f (d * suc s)) (ap (λ (y : ℕ). y % 2 ^ 64) x ∙ m)

-- the index, as the code adds it up of two words
pub index_found :
    (first done step p r : ℕ) → Fits w64 first → Fits w64 step → p ≡ (done * step) % 2 ^ 64 → r ≡ (first + p) % 2 ^ 64 → r ≡ index (to_z w64 first) done (to_z w64 step)
index_found first done step p r hf hs ep er =
    er ∙ ap (λ (x : ℕ). (first + x) % 2 ^ 64) ep ∙ add-mod-mod first (done * step) (2 ^ 64)
    ∙ (λ j. (sym (of_z-to_z w64 first hf) j + done * sym (of_z-to_z w64 step hs) j) % 2 ^ 64)
    ∙ index_of_words (to_z w64 first) (to_z w64 step) done (word_of (to_z w64 first) (to_z-Fits w64 first hf)) (word_of (to_z w64 step) (to_z-Fits w64 step hs))
