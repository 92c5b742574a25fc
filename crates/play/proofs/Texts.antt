-- Laws of words as text.
use mathlib.Core.Path.{◌≡◌, refl, sym, ap, ◌∙◌}
use Prim.Native.Nat.{ℕ, zero, suc, ◌+◌, ◌-◌, ◌^◌, ◌<◌, ◌≤◌}
use mathlib.Core.Bool.{Bool, true, false, cond}
use mathlib.Core.List.{List, [], ◌∷◌, ◌++◌}
use native.Mathlib.Nat.{pow-le-pow_right}
use native.Mathlib.Numerals.{add-one}
use lib.Dec.{ltb}
use lib.ListN.{length, take, set, get_or}
use lib.Seq.{paste, paste-suc, length-take-le, take-paste, take-suc-set}
use native.Mathlib.Omega.{arith}
use borrow.Author.Tests.{ltb-true, ltb-false, lt-ltb, le-ltb}
use Rattle.io.specs.Counts.{IsPrefixLen}
use Rattle.io.specs.Digits.{last_digits, IsDigitCount}
use Rattle.play.specs.Text.{places_from, decimal, spelled}

-- the fewest digits are found
not_above : (j k n : ℕ) → j ≤ k → (1 < k → 10 ^ (k - 1) ≤ n) → 1 ≤ j → n < 10 ^ j → j ≡ k
not_above j k n jk least one h = go (ltb j k) refl
  where
    go : (b : Bool) → ltb j k ≡ b → j ≡ k
    go false e = omega (arith, ltb-false j k e, jk)
    go true e =
        let l : j < k = ltb-true j k e in
        let p : 10 ^ j ≤ 10 ^ (k - 1) = pow-le-pow_right (omega arith) (omega (arith, l)) in
        let q : 10 ^ (k - 1) ≤ n = least (omega (arith, l, one)) in
        omega (arith, p, q, h)

below : (j k n : ℕ) → n < 10 ^ k → 10 ^ j ≤ n → j < k
below j k n h up = go (ltb j k) refl
  where
    go : (b : Bool) → ltb j k ≡ b → j < k
    go true e = ltb-true j k e
    go false e =
        let p : 10 ^ k ≤ 10 ^ j = pow-le-pow_right (omega arith) (ltb-false j k e) in
        omega (arith, p, up, h)

pub places_are : (f j k n : ℕ) → j ≤ k → k ≤ j + f → n < 10 ^ k → (1 < k → 10 ^ (k - 1) ≤ n) → 1 ≤ j → places_from f j n ≡ k
unfolding places_from
places_are zero j k n jk kf h least one = omega (arith, jk, kf)
places_are (suc f) j k n jk kf h least one = go (λ l. places_are f (suc j) k n l (omega (arith, kf)) h least (omega arith)) (ltb n (10 ^ j)) refl
  where
    go : (suc j ≤ k → places_from f (suc j) n ≡ k) → (b : Bool) → ltb n (10 ^ j) ≡ b → cond b j (places_from f (suc j) n) ≡ k
    go rec true e = not_above j k n jk least one (ltb-true n (10 ^ j) e)
    go rec false e = rec (omega (arith, below j k n h (ltb-false n (10 ^ j) e)))

-- the digits that were made are the decimal ones
pub decimal_is : (k n : ℕ) → k ≤ 20 → IsDigitCount 10 1 n k → last_digits 10 k n ≡ decimal n
unfolding decimal
decimal_is k n few f = ap (λ (x : ℕ). last_digits 10 x n) (sym (places_are 20 1 k n f.0 (omega (arith, few)) f.1 f.2 (omega arith)))

-- a number added to a text
pub number_added : (t t₁ ds : List ℕ) (p k n : ℕ) → p + 20 ≤ length t → k ≤ 20 → k ≤ length ds → IsDigitCount 10 1 n k → take k ds ≡ last_digits 10 k n → t₁ ≡ paste t p ds k → take (p + k) t₁ ≡ take p t ++ decimal n
number_added t t₁ ds p k n room few kd f e et =
    ap (take (p + k)) et ∙ take-paste t p ds k (omega (arith, room)) kd ∙ ap (λ (l : List ℕ). take p t ++ l) (e ∙ decimal_is k n few f)

-- a byte added to a text
pub byte_added : (t : List ℕ) (p b : ℕ) → p < length t → take (p + 1) (set t p b) ≡ take p t ++ (b ∷ [])
byte_added t p b h = ap (λ (x : ℕ). take x (set t p b)) (add-one p) ∙ take-suc-set t p b h

-- texts one after the other
pub joined_twice : (a b c : List ℕ) → (a ++ b) ++ c ≡ a ++ (b ++ c)
joined_twice [] b c = refl
joined_twice (x ∷ a) b c = ap (λ (l : List ℕ). x ∷ l) (joined_twice a b c)

-- a word added that has no minus
pub word_added : (t t₁ t₂ : List ℕ) (w b : ℕ) → w < 2 ^ 63 → t₁ ≡ t ++ decimal w → t₂ ≡ t₁ ++ (b ∷ []) → t₂ ≡ t ++ (spelled w ++ (b ∷ []))
unfolding spelled
word_added t t₁ t₂ w b h e₁ e₂ =
    let s : ltb w (2 ^ 63) ≡ true = lt-ltb w (2 ^ 63) h in
    rw s (e₂ ∙ ap (λ (l : List ℕ). l ++ (b ∷ [])) e₁ ∙ joined_twice t (decimal w) (b ∷ []))

-- and one that has
pub minus_added : (t t₁ t₂ t₃ : List ℕ) (w b : ℕ) → 2 ^ 63 ≤ w → t₁ ≡ t ++ (45 ∷ []) → t₂ ≡ t₁ ++ decimal (18446744073709551615 - w + 1) → w < 18446744073709551616 → t₃ ≡ t₂ ++ (b ∷ []) → t₃ ≡ t ++ (spelled w ++ (b ∷ []))
unfolding spelled
minus_added t t₁ t₂ t₃ w b h e₁ e₂ fits e₃ =
    let z : ltb w (2 ^ 63) ≡ false = le-ltb w (2 ^ 63) h in
    let m : 18446744073709551615 - w + 1 ≡ 2 ^ 64 - w = omega (arith, fits) in
    rw z (e₃ ∙ ap (λ (l : List ℕ). l ++ (b ∷ [])) (e₂ ∙ ap (λ (x : ℕ). t₁ ++ decimal x) m ∙ ap (λ (l : List ℕ). l ++ decimal (2 ^ 64 - w)) e₁ ∙ joined_twice t (45 ∷ []) (decimal (2 ^ 64 - w))) ∙ joined_twice t (45 ∷ decimal (2 ^ 64 - w)) (b ∷ []))

-- one more digit put
pub digit_put : (t₀ t ds : List ℕ) (p i : ℕ) → p + i < length t₀ → i < length ds → t ≡ paste t₀ p ds i → set t (p + i) (get_or ds i 0) ≡ paste t₀ p ds (i + 1)
digit_put t₀ t ds p i ht hd e =
    ap (λ (d : List ℕ). set d (p + i) (get_or ds i 0)) e ∙ paste-suc t₀ p ds i 0 ht hd ∙ ap (paste t₀ p ds) (sym (add-one i))

-- all digits put
pub digits_put : (t₀ t ds : List ℕ) (p i n : ℕ) → i ≤ n → n ≤ i → t ≡ paste t₀ p ds i → t ≡ paste t₀ p ds n
digits_put t₀ t ds p i n h h₁ e = let k : i ≡ n = omega (arith, h, h₁) in e ∙ ap (paste t₀ p ds) k

-- twenty digits hold a word
pub few_digits : (k n : ℕ) → n < 18446744073709551616 → IsDigitCount 10 1 n k → k ≤ 20
few_digits k n h f = go (ltb 20 k) refl
  where
    go : (b : Bool) → ltb 20 k ≡ b → k ≤ 20
    go false e = ltb-false 20 k e
    go true e =
        let l : 20 < k = ltb-true 20 k e in
        let p : 10 ^ 20 ≤ 10 ^ (k - 1) = pow-le-pow_right {n = 10} (omega arith) {i = 20} {j = k - 1} (omega (arith, l)) in
        let q : 10 ^ (k - 1) ≤ n = f.2 (omega (arith, l)) in
        omega (arith, p, q, h)

-- what is not beyond the end counts bytes
pub counts_of : (n : ℕ) (xs : List ℕ) → n ≤ length xs → IsPrefixLen n xs
counts_of n xs h = (h, sym (length-take-le n xs h))
