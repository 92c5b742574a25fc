-- What the sizes of a circuit and of a script show.
use Prim.Native.Nat.{ℕ, ◌+◌, ◌*◌, ◌/◌, ◌%◌, ◌≤◌, ◌<◌}
use mathlib.Core.Path.{◌≡◌, sym, ◌∙◌}
use mathlib.Core.Bool.{Bool, true, false, ◌&&◌}
use mathlib.Core.List.{List}
use native.Mathlib.Omega.{arith}
use borrow.Author.Tests.{le-leb, lt-leb, eq-eqb, ne_eqb, eqb-true}
use lib.Dec.{leb, eqb}
use lib.ListN.{length, get_or}
use Rattle.words.specs.Words.{words}
use Rattle.words.proofs.Laws.{lengths, count_words, words_long}
use Rattle.model.specs.Circuit.{word_at}
use Rattle.model.specs.Questions.{within, question_1, question_8}
use Rattle.model.proofs.Lists.{both_true}
use Rattle.model.proofs.Sizes.{within_true, Sizes, sizes}

-- ---- whole words, and enough of them

-- the first half of questions 1 and 8
abbrev whole : ℕ → List ℕ → Bool
whole n s = eqb (length s % 8) 0 && leb n (length (words s))

is_whole : (n : ℕ) (s : List ℕ) → length s % 8 ≡ 0 → n * 8 ≤ length s → whole n s ≡ true
is_whole n s h l = rw (eq-eqb (length s % 8) 0 h) (le-leb n (length (words s)) (words_long n s l))

is_broken : (n : ℕ) (s : List ℕ) → (length s % 8 ≡ 0 → ⊥) → whole n s ≡ false
is_broken n s h = rw (ne_eqb (length s % 8) 0 h)

is_short : (n : ℕ) (s : List ℕ) → length s % 8 ≡ 0 → length s < n * 8 → whole n s ≡ false
is_short n s h l = let k = lengths s in rw (eq-eqb (length s % 8) 0 h) (lt-leb n (length (words s)) (omega arith))

-- ---- question 1

pub broken_1 : (s : List ℕ) → (length s % 8 ≡ 0 → ⊥) → false ≡ question_1 s (words s)
unfolding question_1
broken_1 s h = rw (is_broken 4 s h)

pub short_1 : (s : List ℕ) → length s % 8 ≡ 0 → length s < 32 → false ≡ question_1 s (words s)
unfolding question_1
short_1 s h l = rw (is_short 4 s h l)

-- Four sizes in range.
module _ (g k i c : ℕ) (t₁ t₂ t₃ t₄ : Bool) (q₁ : t₁ ≡ within 1 64 g) (q₂ : t₂ ≡ within 0 64 k) (q₃ : t₃ ≡ within 0 640 i) (q₄ : t₄ ≡ within 0 256 c) where
  all_four : (b : Bool) → (t₁ && t₂ && t₃ && t₄) ≡ b → (within 1 64 g && within 0 64 k && within 0 640 i && within 0 256 c) ≡ b
  all_four b f = rw (← q₁, ← q₂, ← q₃, ← q₄) f

  pub four_bounds : (t₁ && t₂ && t₃ && t₄) ≡ true → (g ≤ 64) × (k ≤ 64) × (i ≤ 640) × (c ≤ 256)
  four_bounds f =
      let a = both_true (t₁ && t₂ && t₃) t₄ f in
      let b = both_true (t₁ && t₂) t₃ a.0 in
      let d = both_true t₁ t₂ b.0 in
      ((within_true 1 64 g (sym q₁ ∙ d.0)).1, (within_true 0 64 k (sym q₂ ∙ d.1)).1, (within_true 0 640 i (sym q₃ ∙ b.1)).1, (within_true 0 256 c (sym q₄ ∙ a.1)).1)

  module _ (s : List ℕ) (h : length s % 8 ≡ 0) (l : 32 ≤ length s) (eg : g ≡ get_or (words s) 0 0) (ek : k ≡ get_or (words s) 1 0) (ei : i ≡ get_or (words s) 2 0) (ec : c ≡ get_or (words s) 3 0) where
    pub fit_1 : (t₁ && t₂ && t₃ && t₄) ≡ true → (r : ℕ) → r ≡ 4 + 2 * (g + k + i + c) → eqb (length s / 8) r ≡ question_1 s (words s)
    unfolding question_1 word_at
    fit_1 f r er = rw (er, ← eg, ← ek, ← ei, ← ec, is_whole 4 s h l, all_four true f, count_words s)

    pub unfit_1 : (t₁ && t₂ && t₃ && t₄) ≡ false → false ≡ question_1 s (words s)
    unfolding question_1 word_at
    unfit_1 f = rw (← eg, ← ek, ← ei, ← ec, is_whole 4 s h l, all_four false f)

-- The sizes of a circuit that question 1 lets through, and with them its bytes.
pub sized :
    (s : List ℕ) → question_1 s (words s) ≡ true →
    Sizes s (words s) × (length s ≡ 8 * (4 + 2 * (get_or (words s) 0 0 + get_or (words s) 1 0 + get_or (words s) 2 0 + get_or (words s) 3 0)))
sized s e = let z = sizes s (words s) e in (z, omega (arith, z.whole, z.counted, lengths s))

-- ---- question 8

pub broken_8 : (s : List ℕ) → (length s % 8 ≡ 0 → ⊥) → false ≡ question_8 s (words s)
unfolding question_8
broken_8 s h = rw (is_broken 2 s h)

pub short_8 : (s : List ℕ) → length s % 8 ≡ 0 → length s < 16 → false ≡ question_8 s (words s)
unfolding question_8
short_8 s h l = rw (is_short 2 s h l)

-- Two sizes in range.
module _ (n m : ℕ) (t₁ t₂ : Bool) (q₁ : t₁ ≡ within 0 100000 n) (q₂ : t₂ ≡ within 0 65535 m) where
  all_two : (b : Bool) → (t₁ && t₂) ≡ b → (within 0 100000 n && within 0 65535 m) ≡ b
  all_two b f = rw (← q₁, ← q₂) f

  pub two_bounds : (t₁ && t₂) ≡ true → (n ≤ 100000) × (m ≤ 65535)
  two_bounds f = let a = both_true t₁ t₂ f in ((within_true 0 100000 n (sym q₁ ∙ a.0)).1, (within_true 0 65535 m (sym q₂ ∙ a.1)).1)

  module _ (s : List ℕ) (h : length s % 8 ≡ 0) (l : 16 ≤ length s) (en : n ≡ get_or (words s) 0 0) (em : m ≡ get_or (words s) 1 0) where
    pub fit_8 : (t₁ && t₂) ≡ true → (r : ℕ) → r ≡ 2 + 2 * (n + m) → eqb (length s / 8) r ≡ question_8 s (words s)
    unfolding question_8 word_at
    fit_8 f r er = rw (er, ← en, ← em, is_whole 2 s h l, all_two true f, count_words s)

    pub unfit_8 : (t₁ && t₂) ≡ false → false ≡ question_8 s (words s)
    unfolding question_8 word_at
    unfit_8 f = rw (← en, ← em, is_whole 2 s h l, all_two false f)

-- The sizes of a script that question 8 lets through.
pub record ScriptSizes (s : List ℕ) : Type 0 where
  pub ticks : get_or (words s) 0 0 ≤ 100000
  pub stimuli : get_or (words s) 1 0 ≤ 65535
  pub bytes : length s ≡ 8 * (2 + 2 * (get_or (words s) 0 0 + get_or (words s) 1 0))

pub script_sized : (s : List ℕ) → question_8 s (words s) ≡ true → ScriptSizes s
unfolding question_8 word_at
script_sized s e =
    let n = within 0 100000 (get_or (words s) 0 0) in
    let k = within 0 65535 (get_or (words s) 1 0) in
    let m = 2 + 2 * (get_or (words s) 0 0 + get_or (words s) 1 0) in
    let w = whole 2 s in
    let h₁ = both_true (w && n && k) (eqb (length (words s)) m) e in
    let h₂ = both_true (w && n) k h₁.0 in
    let h₃ = both_true w n h₂.0 in
    let h₄ = both_true (eqb (length s % 8) 0) (leb 2 (length (words s))) h₃.0 in
    let l : length (words s) ≡ m = eqb-true (length (words s)) m h₁.1 in
    let z : length s % 8 ≡ 0 = eqb-true (length s % 8) 0 h₄.0 in
    let q = lengths s in
    record {
      ticks = (within_true 0 100000 (get_or (words s) 0 0) h₃.1).1;
      stimuli = (within_true 0 65535 (get_or (words s) 1 0) h₂.1).1;
      bytes = omega arith;
    }
