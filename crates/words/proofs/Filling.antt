-- Rows of words written to an area: a row behind a row, and a loop that writes one word after the other.
use Prim.Native.Nat.{ℕ, suc, ◌+◌, ◌*◌, ◌≤◌}
use mathlib.Core.Path.{◌≡◌, refl, sym, ap, ◌∙◌}
use mathlib.Core.List.{List, [], ◌∷◌, ◌++◌, map, append_assoc}
use native.Mathlib.Nat.{add-zero}
use native.Mathlib.Omega.{arith}
use lib.ListN.{length, set, drop, drop_of_length-le}
use lib.Seq.{get_or-drop, sets, sets-eq}
use Rattle.words.specs.Words.{words, tail, bytes, Stored, Filled}
use Rattle.words.proofs.Laws.{Below, words_long, bytes_words, drop_words, drop_tail}

-- ---- a row behind a row

pub sets_more : (l : List ℕ) (i : ℕ) (xs ys : List ℕ) → sets l i (xs ++ ys) ≡ sets (sets l i xs) (i + length xs) ys
sets_more l i [] ys = rw (add-zero i)
sets_more l i (x ∷ xs) ys =
    let k : suc i + length xs ≡ i + suc (length xs) = omega arith in
    sets_more (set l i x) (suc i) xs ys ∙ ap (λ (j : ℕ). sets (sets (set l i x) (suc i) xs) j ys) k

pub filled_more : {s t u : List ℕ} {p q : ℕ} {xs ys : List ℕ} → q ≡ p + length xs → Filled s t p xs → Filled t u q ys → Filled s u p (xs ++ ys)
filled_more {s = s} {p = p} {xs = xs} {ys = ys} e a b =
    record {
      words = b.words ∙ rw (a.words, e) (sym (sets_more (words s) p xs ys));
      tail = b.tail ∙ a.tail;
    }

-- ---- words written from the first on, as bytes

bytes_append : (xs ys : List ℕ) → bytes (xs ++ ys) ≡ bytes xs ++ bytes ys
unfolding bytes
bytes_append [] ys = refl
bytes_append (x ∷ xs) ys = rw (bytes_append xs ys) refl

-- they come first, and behind them is what was there
pub front_bytes :
    (old new ws : List ℕ) → Below 256 old → Below 256 new → length ws * 8 ≤ length old → words new ≡ ws ++ drop (length ws) (words old) → tail new ≡ tail old →
    new ≡ bytes ws ++ drop (8 * length ws) old
front_bytes old new ws b₁ b₂ h w t =
    let e : length ws * 8 ≡ 8 * length ws = omega arith in
    sym (bytes_words new b₂)
    ∙ rw (w, t) (rw (bytes_append ws (drop (length ws) (words old)))
    (append_assoc (bytes ws) (bytes (drop (length ws) (words old))) (tail old) ∙ ap (λ (x : List ℕ). bytes ws ++ x)
    (rest ∙ ap (λ (n : ℕ). drop n old) e)))
  where
    rest : bytes (drop (length ws) (words old)) ++ tail old ≡ drop (length ws * 8) old
    rest =
        rw (← drop_words (length ws) old, ← drop_tail (length ws) old h)
        (bytes_words (drop (length ws * 8) old) (λ i. rw (get_or-drop (length ws * 8) old i 0) (b₁ (length ws * 8 + i))))

-- the same of a row that fills the first words
pub filled_bytes : (old new ws : List ℕ) → Below 256 old → Below 256 new → length ws * 8 ≤ length old → Filled old new 0 ws → new ≡ bytes ws ++ drop (8 * length ws) old
filled_bytes old new ws b₁ b₂ h f =
    let z : 0 + length ws ≡ length ws = omega arith in
    let k : 0 + length ws ≤ length (words old) = let l = words_long (length ws) old h in omega (arith, l) in
    front_bytes old new ws b₁ b₂ h (f.words ∙ sets-eq ws (words old) 0 k ∙ ap (λ (n : ℕ). ws ++ drop n (words old)) z) f.tail

-- ---- a loop over a list: what is left to write at turn i

module _ {A : Type 0} (f : A → ℕ) (l : List A) where
  pub record Filling (before now : List ℕ) (p i : ℕ) : Type 0 where
    pub words : sets (words now) (p + i) (map f (drop i l)) ≡ sets (words before) p (map f l)
    pub tail : tail now ≡ tail before

  pub filling_first : (s : List ℕ) (p : ℕ) → Filling s s p 0
  filling_first s p = record { words = rw (add-zero p); tail = refl }

  pub filling_next :
      {s t u : List ℕ} {p i x : ℕ} (a : A) → drop i l ≡ a ∷ drop (i + 1) l → x ≡ f a → Stored t u (p + i) x → Filling s t p i → Filling s u p (i + 1)
  filling_next {s = s} {t = t} {u = u} {p = p} {i = i} {x = x} a d e m q =
      let k : p + (i + 1) ≡ suc (p + i) = omega arith in
      record {
        words = rw (k, m.words, e) (ap (λ (r : List A). sets (words t) (p + i) (map f r)) (sym d) ∙ q.words);
        tail = m.tail ∙ q.tail;
      }

  pub filling_last : {s t : List ℕ} {p i : ℕ} → length l ≤ i → Filling s t p i → Filled s t p (map f l)
  filling_last {s = s} {t = t} {p = p} {i = i} h q = record { words = ap (λ (r : List A). sets (words t) (p + i) (map f r)) (sym (drop_of_length-le l h)) ∙ q.words; tail = q.tail }
