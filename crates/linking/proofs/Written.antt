-- Each table of the definition, as the builder writes it.
use Prim.Native.Nat.{ℕ, zero, suc, ◌+◌, ◌-◌, ◌/◌, ◌%◌, ◌^◌, ◌≤◌, ◌<◌}
use mathlib.Core.Path.{◌≡◌, refl, sym, ap, ◌∙◌}
use mathlib.Core.Bool.{Bool, true, false, ◌&&◌, ◌||◌, true≢false}
use mathlib.Core.List.{List, ◌∷◌, map}
use native.Mathlib.Omega.{arith}
use borrow.Author.Tests.{eq-eqb, ne_eqb, leb-true, leb-false, ltb-true, ltb-false, eqb-true, eqb-false}
use lib.Dec.{eqb, ltb, leb}
use lib.ListN.{length, get_or, get_or-eq_default}
use Rattle.model.specs.declared.Value.{Value}
use Rattle.model.specs.declared.Value.TheVariants.{Nothing}
use Rattle.model.specs.Base.{if◌then◌otherwise◌, keep, joined, both, from, starts, owners}
use Rattle.model.specs.Value.{value_of, kind_of, content_of}
use Rattle.model.specs.Kinds.{kind_at}
use Rattle.model.specs.Circuit.{source_of, gates_such}
use Rattle.model.specs.Questions.{within, good_constant}
use Rattle.model.proofs.Lists.{both_true}
use Rattle.model.proofs.Sizes.{within_true}
use Rattle.value.proofs.Laws.{taken_apart}
use Rattle.links.specs.Links.{packed, paired, word_of_gates, source_cell, gate_cells, listed}
use Rattle.links.proofs.Reading.{listed_length, listed_in}
use Rattle.links.proofs.Net.{source_back}
use Rattle.linking.specs.Building.{below, named_word, gate_bit, ins_at, outs_at, bits_of, gate_cell, output_cells}
use Rattle.linking.proofs.Loops.{below_same}
use Rattle.linking.proofs.Elements.{listed_same, map_listed, both_listed, starts_listed, owners_listed, keep_from}
use Rattle.linking.proofs.Leaves.{two_words}

-- ---- gates

-- four parallel lists in one cell each
pub packed_listed : (n : ℕ) (a b c d : ℕ → ℕ) → gate_cells (listed n a) (listed n b) (listed n c) (listed n d) ≡ listed n (λ k. packed (a k) (b k) (c k) (d k))
unfolding gate_cells
packed_listed n a b c d =
    rw (both_listed packed n a b, both_listed (λ (f : ℕ → ℕ → ℕ) (i : ℕ). f i) n (λ k. packed (a k) (b k)) c)
    (both_listed (λ (f : ℕ → ℕ) (i : ℕ). f i) n (λ k. packed (a k) (b k) (c k)) d)

module _ (ws : List ℕ) (kinds G : ℕ) where
  -- where the inputs, or the outputs, of each gate begin
  pub first_table : {A : Type 0} (row : ℕ → List A) (ks : List ℕ) → ks ≡ listed G (λ g. get_or ws (kinds + g) 0) →
      starts 0 (map (λ k. length (row k)) ks) ≡ listed G (below (λ g. length (row (get_or ws (kinds + g) 0))))
  first_table row ks ek =
      rw (ek, map_listed (λ k. length (row k)) G (λ g. get_or ws (kinds + g) 0)) (starts_listed G (λ g. length (row (get_or ws (kinds + g) 0))))

  pub gate_table :
      (es ks rs bs fs xs os : List ℕ) → ks ≡ listed G (λ g. get_or ws (kinds + g) 0) → rs ≡ listed G (λ g. get_or ws (kinds + G + g) 0 % 65536) →
      bs ≡ listed G (λ g. get_or ws (kinds + G + g) 0 / 65536) → fs ≡ listed G (below (ins_at ws kinds)) → xs ≡ listed G (λ g. get_or es g 0) →
      os ≡ listed G (below (outs_at ws kinds)) →
      gate_cells (both (paired 256) ks bs) rs (both (paired 1024) fs xs) os ≡ listed G (gate_cell ws kinds G es)
  unfolding gate_cell
  gate_table es ks rs bs fs xs os ek er eb ef ex eo =
      rw (ek, er, eb, ef, ex, eo)
      (rw (both_listed (paired 256) G (λ g. get_or ws (kinds + g) 0) (λ g. get_or ws (kinds + G + g) 0 / 65536), both_listed (paired 1024) G (below (ins_at ws kinds)) (λ g. get_or es g 0))
      (packed_listed G _ _ _ _))

  pub output_table : (ks : List ℕ) → ks ≡ listed G (λ g. get_or ws (kinds + g) 0) → owners 0 (map (λ k. length (kind_at k).outs) ks) ≡ joined (listed G (output_cells ws kinds))
  unfolding output_cells outs_at
  output_table ks ek =
      rw (ek, map_listed (λ k. length (kind_at k).outs) G (λ g. get_or ws (kinds + g) 0)) (owners_listed G (λ g. length (kind_at (get_or ws (kinds + g) 0)).outs))

-- ---- words of gates

-- the word of the gates from a on that pass a test
word_from : (t : ℕ → Bool) (a n : ℕ) → below (λ g. if t g then 2 ^ g otherwise 0) a + word_of_gates (keep t (from a n)) ≡ below (λ g. if t g then 2 ^ g otherwise 0) (a + n)
unfolding word_of_gates keep from below if◌then◌otherwise◌
word_from t a zero = let e : a + 0 ≡ a = omega arith in rw e (omega arith)
word_from t a (suc n) =
    let e : a + suc n ≡ suc a + n = omega arith in
    rw e (go (t a) refl (word_from t (suc a) n))
  where
    f : ℕ → ℕ
    f g = if t g then 2 ^ g otherwise 0

    go :
        (b : Bool) → t a ≡ b → below f a + (if t a then 2 ^ a otherwise 0) + word_of_gates (keep t (from (suc a) n)) ≡ below f (suc a + n) →
        below f a + word_of_gates (if b then a ∷ keep t (from (suc a) n) otherwise keep t (from (suc a) n)) ≡ below f (suc a + n)
    go true h q = let r = rw h at q in omega arith
    go false h q = let r = rw h at q in omega arith

word_first : (t : ℕ → Bool) (n : ℕ) → word_of_gates (keep t (from 0 n)) ≡ below (λ g. if t g then 2 ^ g otherwise 0) n
unfolding below
word_first t n = let e : 0 + n ≡ n = omega arith in let q = rw e at (word_from t 0 n) in omega arith

-- of the gates whose kinds pass a test
words_of : (p : ℕ → Bool) (ks : List ℕ) (G : ℕ) (kind : ℕ → ℕ) → ks ≡ listed G kind → word_of_gates (gates_such p ks) ≡ below (λ g. if p (kind g) then 2 ^ g otherwise 0) G
unfolding gates_such
words_of p ks G kind e =
    let n : length (listed G kind) ≡ G = listed_length G kind in
    let z : 0 + G ≡ G = omega arith in
    rw (e, n)
    (ap (λ (r : List ℕ). word_of_gates r) (keep_from (λ g. p (get_or (listed G kind) g 0)) (λ g. p (kind g)) 0 G (λ g l. ap p (listed_in G kind g 0 (omega arith))))
    ∙ word_first (λ g. p (kind g)) G)

-- where no kind is in both ranges
two_tests : (low high low₁ high₁ k x : ℕ) → high < low₁ →
    (if (within low high k || within low₁ high₁ k) then x otherwise 0) ≡ (if within low high k then x otherwise 0) + (if within low₁ high₁ k then x otherwise 0)
unfolding within if◌then◌otherwise◌
two_tests low high low₁ high₁ k x m = go (leb low k && leb k high) refl (leb low₁ k && leb k high₁) refl
  where
    go :
        (a : Bool) → (leb low k && leb k high) ≡ a → (b : Bool) → (leb low₁ k && leb k high₁) ≡ b →
        (if (a || b) then x otherwise 0) ≡ (if a then x otherwise 0) + (if b then x otherwise 0)
    go true e true d =
        let p = leb-true k high (both_true (leb low k) (leb k high) e).1 in
        let q = leb-true low₁ k (both_true (leb low₁ k) (leb k high₁) d).0 in
        absurd (omega arith)
    go true e false d = omega arith
    go false e true d = omega arith
    go false e false d = omega arith

module _ (ws : List ℕ) (kinds G : ℕ) (ks : List ℕ) (e : ks ≡ listed G (λ g. get_or ws (kinds + g) 0)) where
  -- where the test is a range of kinds
  pub word_within : (p : ℕ → Bool) (low high : ℕ) → ((k : ℕ) → p k ≡ within low high k) → word_of_gates (gates_such p ks) ≡ bits_of ws kinds G low high
  unfolding bits_of gate_bit
  word_within p low high h =
      words_of p ks G (λ g. get_or ws (kinds + g) 0) e
      ∙ below_same (λ g. if p (get_or ws (kinds + g) 0) then 2 ^ g otherwise 0) (λ g. if within low high (get_or ws (kinds + g) 0) then 2 ^ g otherwise 0) G
      (λ g l. ap (λ (b : Bool). if b then 2 ^ g otherwise 0) (h (get_or ws (kinds + g) 0)))

  -- or two of them
  pub word_within_two : (p : ℕ → Bool) (low high low₁ high₁ : ℕ) → high < low₁ → ((k : ℕ) → p k ≡ (within low high k || within low₁ high₁ k)) →
      word_of_gates (gates_such p ks) ≡ bits_of ws kinds G low high + bits_of ws kinds G low₁ high₁
  unfolding gate_bit
  word_within_two p low high low₁ high₁ m h =
      words_of p ks G (λ g. get_or ws (kinds + g) 0) e
      ∙ below_same (λ g. if p (get_or ws (kinds + g) 0) then 2 ^ g otherwise 0) (λ g. gate_bit low high (get_or ws (kinds + g) 0) g + gate_bit low₁ high₁ (get_or ws (kinds + g) 0) g) G
      (λ g l. ap (λ (b : Bool). if b then 2 ^ g otherwise 0) (h (get_or ws (kinds + g) 0)) ∙ two_tests low high low₁ high₁ (get_or ws (kinds + g) 0) (2 ^ g) m)
      ∙ sym (two_words ws kinds G low high low₁ high₁)

-- ---- tests of kinds as ranges

pub one_kind : (a k : ℕ) → eqb k a ≡ within a a k
unfolding within
one_kind a k = go (leb a k) refl (leb k a) refl
  where
    go : (p : Bool) → leb a k ≡ p → (q : Bool) → leb k a ≡ q → eqb k a ≡ (p && q)
    go true e true d = let x = leb-true a k e in let y = leb-true k a d in eq-eqb k a (omega arith)
    go true e false d = let y = leb-false k a d in ne_eqb k a (λ z. omega arith)
    go false e true d = let x = leb-false a k e in ne_eqb k a (λ z. omega arith)
    go false e false d = let x = leb-false a k e in ne_eqb k a (λ z. omega arith)

-- the number behind a
above : (a k : ℕ) → a ≤ k → k ≤ a + 1 → (k ≡ a → ⊥) → k ≡ a + 1
above a k x y n = go (ltb a k) refl
  where
    go : (b : Bool) → ltb a k ≡ b → k ≡ a + 1
    go true e = let z = ltb-true a k e in omega arith
    go false e = let z = ltb-false a k e in absurd (n (omega arith))

pub two_kinds : (a k : ℕ) → (eqb k a || eqb k (a + 1)) ≡ within a (a + 1) k
unfolding within
two_kinds a k = go (leb a k) refl (leb k (a + 1)) refl (eqb k a) refl
  where
    go : (p : Bool) → leb a k ≡ p → (q : Bool) → leb k (a + 1) ≡ q → (r : Bool) → eqb k a ≡ r → (r || eqb k (a + 1)) ≡ (p && q)
    go true e true d true h = refl
    go true e true d false h = let x = leb-true a k e in let y = leb-true k (a + 1) d in eq-eqb k (a + 1) (above a k x y (eqb-false k a h))
    go true e false d true h = let y = leb-false k (a + 1) d in let x = eqb-true k a h in absurd (omega arith)
    go true e false d false h = let y = leb-false k (a + 1) d in ne_eqb k (a + 1) (λ z. omega arith)
    go false e q d true h = let x = leb-false a k e in let y = eqb-true k a h in absurd (omega arith)
    go false e q d false h = let x = leb-false a k e in ne_eqb k (a + 1) (λ z. omega arith)

-- ---- sources

pub source_table : (n : ℕ) (f : ℕ → ℕ) → map source_cell (map source_of (listed n f)) ≡ listed n f
source_table n f =
    rw (map_listed source_of n f, map_listed source_cell n (λ i. source_of (f i))) (listed_same n (λ i. source_cell (source_of (f i))) f (λ i l. source_back (f i)))

-- ---- constants

-- no constant is of a kind above 3
no_kind : (k b : ℕ) → 3 < k → good_constant k b ≡ true → ⊥
unfolding good_constant if◌then◌otherwise◌
no_kind k b l h = true≢false (sym (rw (ne_eqb k 1 (λ z. omega arith), ne_eqb k 2 (λ z. omega arith), ne_eqb k 3 (λ z. omega arith)) at h))

-- the words of a good constant can be a value's
good_words : (k b : ℕ) → good_constant k b ≡ true → (0 < k) × (k < 4) × (k ≡ 3 → b < 2)
unfolding good_constant if◌then◌otherwise◌
good_words zero b h = absurd (true≢false (sym h))
good_words (suc zero) b h = (omega arith, omega arith, λ e. absurd (omega arith))
good_words (suc (suc zero)) b h = (omega arith, omega arith, λ e. absurd (omega arith))
good_words (suc (suc (suc zero))) b h = (omega arith, omega arith, λ e. omega (arith, (within_true 0 1 b h).1))
good_words (suc (suc (suc (suc k)))) b h = absurd (no_kind (suc (suc (suc (suc k)))) b (omega arith) h)

-- so it is read back as it was
pub constant_back : (k b : ℕ) → good_constant k b ≡ true → (kind_of (value_of k b) ≡ k) × (content_of (value_of k b) ≡ b)
constant_back k b h = let g = good_words k b h in taken_apart k b g.1 (λ e. absurd (omega (arith, g.0))) g.2

-- the constants as the words from `first` on show them, kinds or contents
module _ (K : ℕ) (a b : ℕ → ℕ) (show : Value → ℕ) (nothing : show Nothing ≡ 0) (f : ℕ → ℕ) (back : (k : ℕ) → k < K → show (value_of (a k) (b k)) ≡ f k) where
  pub constant_table : map show (both value_of (listed K a) (listed K b)) ≡ listed K f
  constant_table =
      rw (both_listed value_of K a b, map_listed show K (λ k. value_of (a k) (b k))) (listed_same K (λ k. show (value_of (a k) (b k))) f back)

  -- by name
  named_show : (ws : List ℕ) (first : ℕ) → ((k : ℕ) → f k ≡ get_or ws (first + k) 0) → (n : ℕ) →
      show (get_or (Nothing ∷ both value_of (listed K a) (listed K b)) n Nothing) ≡ named_word ws first K n
  unfolding named_word if◌then◌otherwise◌
  named_show ws first e zero = nothing
  named_show ws first e (suc n) =
      rw (both_listed value_of K a b, ne_eqb (suc n) 0 (λ z. omega arith)) (go (ltb K (suc n)) refl)
    where
      go : (t : Bool) → ltb K (suc n) ≡ t → show (get_or (listed K (λ k. value_of (a k) (b k))) n Nothing) ≡ (if t then 0 otherwise get_or ws (first + (suc n - 1)) 0)
      go true h =
          let l = ltb-true K (suc n) h in
          ap show (get_or-eq_default (listed K (λ k. value_of (a k) (b k))) Nothing (omega (arith, listed_length K (λ k. value_of (a k) (b k))))) ∙ nothing
      go false h =
          let l = ltb-false K (suc n) h in
          let s : suc n - 1 ≡ n = omega arith in
          rw s (ap show (listed_in K (λ k. value_of (a k) (b k)) n Nothing (omega arith)) ∙ back n (omega arith) ∙ e n)

  pub stored_table : (ws : List ℕ) (first : ℕ) → ((k : ℕ) → f k ≡ get_or ws (first + k) 0) → (n : ℕ) (name : ℕ → ℕ) →
      map show (map (λ k. get_or (Nothing ∷ both value_of (listed K a) (listed K b)) k Nothing) (listed n name)) ≡ listed n (λ i. named_word ws first K (name i))
  stored_table ws first e n name =
      rw (map_listed (λ k. get_or (Nothing ∷ both value_of (listed K a) (listed K b)) k Nothing) n name, map_listed show n (λ i. get_or (Nothing ∷ both value_of (listed K a) (listed K b)) (name i) Nothing))
      (listed_same n (λ i. show (get_or (Nothing ∷ both value_of (listed K a) (listed K b)) (name i) Nothing)) (λ i. named_word ws first K (name i)) (λ i l. named_show ws first e (name i)))
