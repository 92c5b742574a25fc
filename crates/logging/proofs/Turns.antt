-- What the rows of a record come to: the head, the loops over units and over the outputs, and the two words of a value.
use Prim.Native.Nat.{ℕ, zero, suc, ◌+◌, ◌-◌, ◌≤◌, ◌<◌}
use mathlib.Core.Path.{◌≡◌, sym, ap, ap₂, subst, ◌∙◌}
use mathlib.Core.List.{List, [], ◌∷◌, map, map-id}
use native.Mathlib.Numerals.{add-one}
use native.Mathlib.Omega.{arith}
use lib.ListN.{length, get_or, drop, length-map}
use lib.Seq.{drop-cons}
use Rattle.words.specs.Words.{words, Stored, Filled}
use Rattle.model.specs.declared.Value.{Value}
use Rattle.model.specs.Value.{kind_of, content_of}
use Rattle.model.specs.Record.{Listed}
use Rattle.wires.specs.Held.{held}
use Rattle.wires.specs.View.{out_tags_at, out_contents_at}
use Rattle.units.specs.View.{listed_of}
use Rattle.logging.specs.declared.Head.{Head}
use Rattle.logging.specs.Rows.{head_row, entries_in, outs_in, Says}
use Rattle.words.proofs.Filling.{Filling, filling_first, filling_next, filling_last}
use Rattle.logging.proofs.Held.{outs_in_length, outs_at, entries_length, entries_at}

-- ---- the head

pub head_filled :
    (h : Head) (n k m : ℕ) {s₀ s₁ s₂ s₃ s₄ s₅ s₆ s₇ : List ℕ} {p : ℕ} → m ≡ n - h.late →
    Stored s₀ s₁ p h.tick → Stored s₁ s₂ (p + 1) h.steps → Stored s₂ s₃ (p + 2) (n - m) → Stored s₃ s₄ (p + 3) m →
    Stored s₄ s₅ (p + 4) k → Stored s₅ s₆ (p + 5) h.stop → Stored s₆ s₇ (p + 6) h.changed → Filled s₀ s₇ p (head_row h n k)
unfolding head_row
head_filled h n k m {s₀ = s₀} {s₇ = s₇} {p = p} q a b c d e f g =
    let k₁ : p + 1 ≡ suc p = omega arith in
    let k₂ : p + 2 ≡ suc (suc p) = omega arith in
    let k₃ : p + 3 ≡ suc (suc (suc p)) = omega arith in
    let k₄ : p + 4 ≡ suc (suc (suc (suc p))) = omega arith in
    let k₅ : p + 5 ≡ suc (suc (suc (suc (suc p)))) = omega arith in
    let k₆ : p + 6 ≡ suc (suc (suc (suc (suc (suc p))))) = omega arith in
    record {
      words = rw (g.words, f.words, e.words, d.words, c.words, b.words, a.words, k₁, k₂, k₃, k₄, k₅, k₆, q);
      tail = g.tail ∙ f.tail ∙ e.tail ∙ d.tail ∙ c.tail ∙ b.tail ∙ a.tail;
    }

-- ---- a row, word by word

-- until turn i what is written is the row that f says
pub record Row (f : ℕ → ℕ → Type 0) (n : ℕ) (s t : List ℕ) (p i : ℕ) : Type 0 where
  pub filling : (row : List ℕ) → Says f n row → Filling (λ (x : ℕ). x) row s t p i

module _ (f : ℕ → ℕ → Type 0) (n : ℕ) where
  pub row_first : (s : List ℕ) (p : ℕ) → Row f n s s p 0
  row_first s p = record { filling = λ row h. filling_first (λ (x : ℕ). x) row s p }

  pub row_next : {s t u : List ℕ} {p i r : ℕ} → i < n → f i r → Stored t u (p + i) r → Row f n s t p i → Row f n s u p (i + 1)
  row_next {s = s} {u = u} {p = p} {i = i} {r = r} l a m q = record { filling = next }
    where
      next : (row : List ℕ) → Says f n row → Filling (λ (x : ℕ). x) row s u p (i + 1)
      next row h =
          let d : drop i row ≡ get_or row i 0 ∷ drop (i + 1) row = rw (add-one i) (drop-cons row i 0 (let e = h.length in omega (arith, e, l))) in
          filling_next (λ (x : ℕ). x) row (get_or row i 0) d (h.words i r l a) m (q.filling row h)

  pub row_last : {s t : List ℕ} {p i : ℕ} → n ≤ i → Row f n s t p i → (row : List ℕ) → Says f n row → Filled s t p row
  row_last {s = s} {t = t} {p = p} l q row h =
      subst (λ (x : List ℕ). Filled s t p x) (map-id row) (filling_last (λ (x : ℕ). x) row (let e = h.length in omega (arith, e, l)) (q.filling row h))

-- ---- the rows of n entries in the area us, from word k on, and of the first n outputs in the area vs

-- the rest of a list tells its word
at_place : {A : Type 0} (f : A → ℕ) (l : List A) (i : ℕ) {a : A} {m : List A} → drop i l ≡ a ∷ m → f a ≡ get_or (map f l) i 0
at_place f (x ∷ l) zero e = ap f (sym (ap (λ (r : List _). get_or r 0 x) e))
at_place f (x ∷ l) (suc i) e = at_place f l i e
at_place f [] zero e = cc
at_place f [] (suc i) e = cc

pub entries_say :
    (f : Listed → ℕ) (us : List ℕ) (k n : ℕ) {g : ℕ → ℕ → Type 0} → ((i r : ℕ) → i < n → g i r → r ≡ f (listed_of (get_or (words us) (k + i) 0))) →
    Says g n (map f (entries_in k n us))
entries_say f us k n h =
    record {
      length = length-map (entries_in k n us) f ∙ entries_length k n us;
      words = λ i r l a. h i r l a ∙ at_place f (entries_in k n us) i (entries_at k n us i l);
    }

pub outs_say :
    (f : Value → ℕ) (vs : List ℕ) (n : ℕ) {g : ℕ → ℕ → Type 0} → 65536 ≤ length vs → n ≤ 576 →
    ((i r : ℕ) → i < n → g i r → r ≡ f (held (get_or (words vs) (out_tags_at + i) 0) (get_or (words vs) (out_contents_at + i) 0))) →
    Says g n (map f (outs_in n vs))
outs_say f vs n b m h =
    record {
      length = length-map (outs_in n vs) f ∙ outs_in_length vs n b m;
      words = λ i r l a. h i r l a ∙ at_place f (outs_in n vs) i (outs_at vs n b m i l);
    }

-- ---- the kind and the content of a value whose tag t and content d were read

pub kind_read : (r t k b : ℕ) → ((d : ℕ) → r ≡ kind_of (held t d)) → t ≡ k → r ≡ kind_of (held k b)
kind_read r t k b h e = h b ∙ ap (λ (x : ℕ). kind_of (held x b)) e

pub content_read : (r t d k b : ℕ) → r ≡ content_of (held t d) → t ≡ k → d ≡ b → r ≡ content_of (held k b)
content_read r t d k b h e f = h ∙ ap₂ (λ (x y : ℕ). content_of (held x y)) e f
