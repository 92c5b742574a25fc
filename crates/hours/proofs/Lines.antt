-- One law for each way out of the functions that write.
use mathlib.Core.Path.{◌≡◌, refl, sym, ap, subst, ◌∙◌}
use mathlib.Core.List.{List, [], ◌∷◌, ◌++◌, append_assoc}
use native.Mathlib.Numerals.{add-one}
use Prim.Native.Nat.{ℕ, zero, suc, ◌+◌, ◌*◌, ◌≤◌, ◌<◌}
use native.Mathlib.Omega.{arith}
use lib.ListN.{length, get_or, take, drop, drop_of_length-le, length-append}
use lib.Seq.{sets, drop-cons, get_or-take, length-take-le}
use Rattle.words.specs.Words.{words, tail, Stored, Filled}
use Rattle.words.proofs.Filling.{sets_more, filled_more}
use Rattle.hours.specs.Hours.{minutes, line_words}
use Rattle.hours.specs.Tally.{line_row, driver_rows, rows_from, line_size, driver_size}

-- a line
pub line_filled :
    {s₀ s₁ s₂ s₃ s₄ s₅ : List ℕ} {p first d a ms m : ℕ} → Stored s₀ s₁ p first → Stored s₁ s₂ (p + 1) d → Stored s₂ s₃ (p + 2) a → Stored s₃ s₄ (p + 3) ms →
    m ≡ minutes ms → Stored s₄ s₅ (p + 4) m → Filled s₀ s₅ p (line_row first d a ms)
unfolding line_row line_words
line_filled {s₀ = s₀} {s₅ = s₅} {p = p} w₀ w₁ w₂ w₃ e w₄ =
    let k₁ : p + 1 ≡ suc p = omega arith in
    let k₂ : p + 2 ≡ suc (suc p) = omega arith in
    let k₃ : p + 3 ≡ suc (suc (suc p)) = omega arith in
    let k₄ : p + 4 ≡ suc (suc (suc (suc p))) = omega arith in
    record {
      words = rw (w₄.words, w₃.words, w₂.words, w₁.words, w₀.words, e, k₁, k₂, k₃, k₄);
      tail = w₄.tail ∙ w₃.tail ∙ w₂.tail ∙ w₁.tail ∙ w₀.tail;
    }

row_five : (first d a ms : ℕ) → length (line_row first d a ms) ≡ line_size
unfolding line_row line_words
row_five first d a ms = refl

-- the first lines of driver i
unfoldable pub first_rows : ℕ → ℕ → List ℕ → ℕ → ℕ → List ℕ
first_rows len d cs i zero = []
first_rows len d cs i (suc a) = first_rows len d cs i a ++ line_row 1 d a (get_or cs (1 + 4 * i + a) 0 * len)

module _ (len d : ℕ) (cs : List ℕ) (i : ℕ) where
  first_long : (a : ℕ) → length (first_rows len d cs i a) ≡ line_size * a
  unfolding first_rows
  first_long zero = refl
  first_long (suc a) =
      let x = get_or cs (1 + 4 * i + a) 0 * len in
      let h = first_long a in
      let e = length-append (first_rows len d cs i a) (line_row 1 d a x) in
      let r = row_five 1 d a x in
      omega (arith, h, e, r)

  pub lines_first : (s : List ℕ) → Filled s s (driver_size * i) (first_rows len d cs i 0)
  unfolding first_rows
  lines_first s = record { words = refl; tail = refl }

  pub lines_next :
      {s t u : List ℕ} (a : ℕ) {x : ℕ} → Filled s t (driver_size * i) (first_rows len d cs i a) → x ≡ get_or cs (1 + 4 * i + a) 0 * len → Filled t u (driver_size * i + line_size * a) (line_row 1 d a x) →
      Filled s u (driver_size * i) (first_rows len d cs i (a + 1))
  unfolding first_rows
  lines_next a f e g = let n = first_long a in rw (add-one a, first_rows, ← e) (filled_more (omega (arith, n)) f g)

  four : first_rows len d cs i 4 ≡ driver_rows len d cs i
  unfolding first_rows driver_rows
  four = let z : 1 + 4 * i + 0 ≡ 1 + 4 * i = omega arith in rw z (simp append_assoc)

  -- all four
  pub lines_last : {s t : List ℕ} (a : ℕ) → a ≤ 4 → 4 ≤ a → Filled s t (driver_size * i) (first_rows len d cs i a) → Filled s t (driver_size * i) (driver_rows len d cs i)
  lines_last {s = s} {t = t} a l m f =
      let e : a ≡ 4 = omega (arith, l, m) in
      subst (λ (rows : List ℕ). Filled s t (driver_size * i) rows) (ap (first_rows len d cs i) e ∙ four) f

rows_twenty : (len d : ℕ) (cs : List ℕ) (i : ℕ) → length (driver_rows len d cs i) ≡ driver_size
unfolding driver_rows line_row line_words
rows_twenty len d cs i = refl

-- what is left to write at turn i
pub record Writing (len : ℕ) (cs ds before now : List ℕ) (i : ℕ) : Type 0 where
  pub words : sets (words now) (driver_size * i) (rows_from len cs i (drop i ds)) ≡ sets (words before) 0 (rows_from len cs 0 ds)
  pub tail : tail now ≡ tail before

pub writing_first : (len : ℕ) (cs ds s : List ℕ) → Writing len cs ds s s 0
writing_first len cs ds s = record { words = refl; tail = refl }

pub writing_next :
    (len : ℕ) (cs ds : List ℕ) (n : ℕ) (before now next : List ℕ) (i : ℕ) → n ≤ length ds → i < n → Writing len cs (take n ds) before now i →
    Filled now next (driver_size * i) (driver_rows len (get_or ds i 0) cs i) → Writing len cs (take n ds) before next (i + 1)
unfolding rows_from
writing_next len cs ds n before now next i l h w f =
    let k : i + 1 ≡ suc i = omega arith in
    let m = length-take-le n ds l in
    let d : drop i (take n ds) ≡ get_or ds i 0 ∷ drop (suc i) (take n ds) = drop-cons (take n ds) i 0 (omega (arith, m, h)) ∙ ap (λ (x : ℕ). x ∷ drop (suc i) (take n ds)) (get_or-take n ds i 0 h) in
    let z = rows_twenty len (get_or ds i 0) cs i in
    let p : driver_size * (i + 1) ≡ driver_size * i + length (driver_rows len (get_or ds i 0) cs i) = omega (arith, z) in
    record {
      words = (λ j. sets (f.words j) (p j) (rows_from len cs (k j) (drop (k j) (take n ds))))
          ∙ sym (sets_more (words now) (driver_size * i) (driver_rows len (get_or ds i 0) cs i) (rows_from len cs (suc i) (drop (suc i) (take n ds))))
          ∙ sym (ap (λ (l : List ℕ). sets (words now) (driver_size * i) (rows_from len cs i l)) d)
          ∙ w.words;
      tail = f.tail ∙ w.tail;
    }

pub writing_last :
    (len : ℕ) (cs ds : List ℕ) (n : ℕ) (before now next : List ℕ) (i x : ℕ) → n ≤ length ds → i ≤ n → n ≤ i → Writing len cs (take n ds) before now i → x ≡ get_or cs 0 0 * len →
    Filled now next (driver_size * n) (line_row 0 0 0 x) → Filled before next 0 (rows_from len cs 0 (take n ds))
unfolding rows_from
writing_last len cs ds n before now next i x l a b w e f =
    let m = length-take-le n ds l in
    let z : drop i (take n ds) ≡ [] = drop_of_length-le (take n ds) {i = i} (omega (arith, m, b)) in
    let k : n ≡ i = omega (arith, a, b) in
    record {
      words = f.words ∙ (λ j. sets (words now) (driver_size * k j) (line_row 0 0 0 (e j))) ∙ sym (ap (λ (l : List ℕ). sets (words now) (driver_size * i) (rows_from len cs i l)) z) ∙ w.words;
      tail = f.tail ∙ w.tail;
    }
