-- Laws of a row of words that is put into an area.
use Prim.Native.Nat.{ℕ, ◌+◌, ◌-◌, ◌*◌, ◌≤◌, ◌<◌}
use mathlib.Core.Path.{◌≡◌, refl, sym, ap, ◌∙◌}
use mathlib.Core.Bool.{Bool, true, false}
use mathlib.Core.List.{List, ◌++◌, append_assoc}
use native.Mathlib.Omega.{arith}
use native.Mathlib.Numerals.{add-one}
use borrow.Author.Tests.{leb-true}
use lib.Dec.{leb}
use lib.ListN.{length, get_or, take, drop, length-drop, take-append-drop, get_or-append}
use lib.Seq.{get_or-take, length-take-le, take_all, take_at, drop_at, take-append-le, drop-append-le, drop-drop, paste, paste-zero, paste-suc, drop-paste}
use Rattle.words.specs.Words.{words, tail, Stored}
use Rattle.words.proofs.Laws.{words_long}

-- ---- the loop

-- what i turns of putting the row vs from word p on have done to the bytes s
pub record Put (s t vs : List ℕ) (p i : ℕ) : Type 0 where
  pub words : words t ≡ paste (words s) p vs i
  pub tail : tail t ≡ tail s

pub put_first : (s vs : List ℕ) (p : ℕ) → Put s s vs p 0
put_first s vs p = record { words = paste-zero (words s) p vs; tail = refl }

pub put_next : (s t u vs : List ℕ) (p i : ℕ) → (p + length vs) * 8 ≤ length s → i < length vs → Put s t vs p i → Stored t u (p + i) (get_or vs i 0) → Put s u vs p (i + 1)
put_next s t u vs p i l h e f =
    let m = words_long (p + length vs) s l in
    record {
      words = rw (f.words, e.words, add-one) (paste-suc (words s) p vs i 0 (omega arith) (omega arith));
      tail = f.tail ∙ e.tail;
    }

pub put_last : (s t vs : List ℕ) (p i : ℕ) → length vs ≤ i → i ≤ length vs → Put s t vs p i → (words t ≡ paste (words s) p vs (length vs)) × (tail t ≡ tail s)
put_last s t vs p i h k e = let m : i ≡ length vs = omega arith in (e.words ∙ ap (paste (words s) p vs) m, e.tail)

-- ---- the words after it

-- n words from p on became vs
module _ (n : ℕ) (w vs : List ℕ) (p : ℕ) (l : p + n ≤ length w) (k : length vs ≡ n) where
  -- they are vs
  pub put_here : take n (drop p (paste w p vs n)) ≡ vs
  put_here =
      rw (append_assoc (take p w) (take n vs) (drop (p + n) w), drop_at (take p w) (take n vs ++ drop (p + n) w) p (length-take-le p w (omega arith)))
      (take_at (take n vs) (drop (p + n) w) n (length-take-le n vs (omega arith)) ∙ take_all n vs (omega arith))

  -- a word before p
  pub put_before : (i : ℕ) → i < p → get_or (paste w p vs n) i 0 ≡ get_or w i 0
  put_before i h =
      let m = length-take-le p w (omega arith) in
      rw (append_assoc (take p w) (take n vs) (drop (p + n) w), get_or-append (take p w) (take n vs ++ drop (p + n) w) 0 i (omega arith)) (get_or-take p w i 0 h)

  -- o words that lie before p, whatever comes behind
  front : (o q : ℕ) (r : List ℕ) → q + o ≤ p → take o (drop q (take p w ++ r)) ≡ take o (drop q (take p w))
  front o q r h =
      let m = length-take-le p w (omega arith) in
      let d = length-drop q (take p w) in
      rw (drop-append-le q (take p w) r (omega arith)) (take-append-le o (drop q (take p w)) r (omega arith))

  -- o words apart from them
  pub put_apart : (o q : ℕ) → (leb (q + o) p ≡ false → p + n ≤ q) → take o (drop q (paste w p vs n)) ≡ take o (drop q w)
  put_apart o q apart = go (leb (q + o) p) refl
    where
      go : (b : Bool) → leb (q + o) p ≡ b → take o (drop q (paste w p vs n)) ≡ take o (drop q w)
      go true e =
          let h : q + o ≤ p = leb-true (q + o) p e in
          rw (append_assoc (take p w) (take n vs) (drop (p + n) w))
          (front o q (take n vs ++ drop (p + n) w) h ∙ sym (front o q (drop p w) h) ∙ ap (λ (x : List ℕ). take o (drop q x)) (take-append-drop p w))
      go false e =
          let h : p + n ≤ q = apart e in
          let m : q ≡ p + n + (q - (p + n)) = omega arith in
          ap (λ (x : List ℕ). take o x)
          (ap (λ (i : ℕ). drop i (paste w p vs n)) m
          ∙ sym (drop-drop (q - (p + n)) (p + n) (paste w p vs n))
          ∙ ap (drop (q - (p + n))) (drop-paste w p vs n (omega arith) (omega arith))
          ∙ drop-drop (q - (p + n)) (p + n) w
          ∙ ap (λ (i : ℕ). drop i w) (sym m))
