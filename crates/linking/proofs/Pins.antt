-- The inputs' cells, gate by gate, and the lists of readers and calls, as the definition has them.
use Prim.Native.Nat.{ℕ, zero, suc, ◌+◌, ◌*◌, ◌/◌, ◌%◌, ◌≤◌, ◌<◌}
use mathlib.Core.Path.{◌≡◌, refl, sym, ap, ◌∙◌}
use mathlib.Core.Bool.{Bool, true, false}
use mathlib.Core.List.{List, [], ◌∷◌, ◌++◌, map, map-map}
use mathlib.Core.Option.{Option, none, some}
use native.Mathlib.Omega.{arith}
use borrow.Author.Tests.{eq-eqb, ne_eqb, eqb-true, eqb-false}
use lib.Dec.{eqb}
use lib.ListN.{length, get_or, replicate, length-map, length-append, length-replicate}
use Rattle.schedule.proofs.Erase.{map_append}
use Rattle.model.specs.Base.{if◌then◌otherwise◌, keep, joined, both, from, starts, owners}
use Rattle.model.specs.Value.{bit}
use Rattle.model.specs.Kinds.{In, value, kind_at}
use Rattle.model.specs.Circuit.{Call, Listed, minus_one, source_of, is_watched, reads, listed_call, calls_from}
use Rattle.model.proofs.Lists.{both_length, from_length, from_append}
use Rattle.links.specs.Links.{packed, call_cell, gate_cells, listed}
use Rattle.links.proofs.Reading.{listed_in}
use Rattle.linking.specs.Building.{below, members, row_of, ins_at, input_cell, input_cells}
use Rattle.linking.proofs.Elements.{map_same, open_listed, listed_same, map_listed, starts_listed, map_joined, keep_map, keep_from}
use Rattle.linking.proofs.Written.{packed_listed}

-- ---- parallel lists, part after part

both_append : {A B C : Type 0} (h : A → B → C) (xs xs₁ : List A) (ys ys₁ : List B) → length xs ≡ length ys → both h (xs ++ xs₁) (ys ++ ys₁) ≡ both h xs ys ++ both h xs₁ ys₁
unfolding both
both_append h [] xs₁ [] ys₁ e = refl
both_append h [] xs₁ (y ∷ ys) ys₁ e = absurd (omega arith)
both_append h (x ∷ xs) xs₁ [] ys₁ e = absurd (omega arith)
both_append h (x ∷ xs) xs₁ (y ∷ ys) ys₁ e = λ j. h x y ∷ both_append h xs xs₁ ys ys₁ (omega arith) j

from_shift : {A : Type 0} (f : ℕ → A) (a n : ℕ) → map f (from (suc a) n) ≡ map (λ k. f (suc k)) (from a n)
unfolding from
from_shift f a zero = refl
from_shift f a (suc n) = λ j. f (suc a) ∷ from_shift f (suc a) n j

-- ---- the inputs of one gate

module _ (S : ℕ → Option ℕ) where
  -- the cell of an input of gate g
  abbrev mark : ℕ → Bool → ℕ
  mark g w = packed g (bit w) 0 0

  gate_marks : (g : ℕ) (pins : List In) (b : ℕ) →
      both mark (replicate (length pins) g) (both is_watched pins (map S (from b (length pins))))
      ≡ map (λ p. mark g (is_watched (get_or pins p value) (S (b + p)))) (from 0 (length pins))
  unfolding both from
  gate_marks g [] b = refl
  gate_marks g (x ∷ pins) b =
      let z : b ≡ b + 0 = omega arith in
      let t : map (λ p. mark g (is_watched (get_or pins p value) (S (suc b + p)))) (from 0 (length pins))
      ≡ map (λ p. mark g (is_watched (get_or (x ∷ pins) p value) (S (b + p)))) (from 1 (length pins))
      = map_same (λ p. mark g (is_watched (get_or pins p value) (S (suc b + p)))) (λ p. mark g (is_watched (get_or pins p value) (S (b + suc p))))
      (λ p. let s : suc b + p ≡ b + suc p = omega arith in ap (λ (i : ℕ). mark g (is_watched (get_or pins p value) (S i))) s) (from 0 (length pins))
      ∙ sym (from_shift (λ p. mark g (is_watched (get_or (x ∷ pins) p value) (S (b + p)))) 0 (length pins)) in
      λ j. mark g (is_watched x (S (z j))) ∷ (gate_marks g pins (suc b) ∙ t) j

  -- ---- of all gates

  module _ (pins : ℕ → List In) where
    -- how many inputs gate g has
    abbrev size : ℕ → ℕ
    size g = length (pins g)

    -- the cells of gate g
    abbrev cells_of : ℕ → List ℕ
    cells_of g = listed (size g) (λ p. mark g (is_watched (get_or (pins g) p value) (S (below size g + p))))

    all_marks : (a n : ℕ) →
        both mark (owners a (map size (from a n))) (both is_watched (joined (map pins (from a n))) (map S (from (below size a) (length (joined (map pins (from a n)))))))
        ≡ joined (map cells_of (from a n))
    unfolding from owners joined both listed below
    all_marks a zero = refl
    all_marks a (suc n) =
        let k : ℕ = size a in
        let rest : List In = joined (map pins (from (suc a) n)) in
        let m : length (pins a ++ rest) ≡ k + length rest = length-append (pins a) rest in
        let lw : length (pins a) ≡ length (map S (from (below size a) k)) = sym (length-map (from (below size a) k) S ∙ from_length (below size a) k) in
        let lf : length (replicate k a) ≡ length (both is_watched (pins a) (map S (from (below size a) k))) = length-replicate k a ∙ sym (both_length is_watched (pins a) (map S (from (below size a) k)) lw) in
        rw (m, from_append (below size a) k (length rest), map_append S (from (below size a) k) (from (below size a + k) (length rest)))
        (rw (both_append is_watched (pins a) rest (map S (from (below size a) k)) (map S (from (below size a + k) (length rest))) lw)
        (both_append mark (replicate k a) (owners (suc a) (map size (from (suc a) n))) (both is_watched (pins a) (map S (from (below size a) k))) (both is_watched rest (map S (from (below size a + k) (length rest)))) lf
        ∙ (λ j. gate_marks a (pins a) (below size a) j ++ all_marks (suc a) n j)))

-- the table of the definition
pub input_table : (ws : List ℕ) (kinds G s I : ℕ) (ks : List ℕ) (ss : List (Option ℕ)) → ks ≡ listed G (λ g. get_or ws (kinds + g) 0) →
    ss ≡ listed I (λ i. source_of (get_or ws (s + i) 0)) → length (joined (map (λ k. (kind_at k).ins) ks)) ≡ I →
    both (λ g w. packed g (bit w) 0 0) (owners 0 (map (λ k. length (kind_at k).ins) ks)) (both is_watched (joined (map (λ k. (kind_at k).ins) ks)) ss)
    ≡ joined (listed G (input_cells ws kinds s))
unfolding input_cells input_cell ins_at listed below
input_table ws kinds G s I ks ss ek es el =
    let P : ℕ → List In = λ g. (kind_at (get_or ws (kinds + g) 0)).ins in
    let S : ℕ → Option ℕ = λ i. source_of (get_or ws (s + i) 0) in
    let e₁ : map (λ k. (kind_at k).ins) ks ≡ map P (from 0 G) = ap (λ (r : List ℕ). map (λ k. (kind_at k).ins) r) ek ∙ map-map (λ k. (kind_at k).ins) (λ g. get_or ws (kinds + g) 0) (from 0 G) in
    let e₂ : map (λ k. length (kind_at k).ins) ks ≡ map (λ g. length (P g)) (from 0 G) = ap (λ (r : List ℕ). map (λ k. length (kind_at k).ins) r) ek ∙ map-map (λ k. length (kind_at k).ins) (λ g. get_or ws (kinds + g) 0) (from 0 G) in
    let n : I ≡ length (joined (map P (from 0 G))) = sym el ∙ ap (λ (r : List (List In)). length (joined r)) e₁ in
    rw (e₁, e₂, es, n)
    (all_marks S P 0 G
    ∙ ap (λ (r : List (List ℕ)). joined r)
    (map_same (cells_of S P) (λ g. listed (length (P g)) (λ p. packed g (bit (is_watched (get_or (P g) p value) (source_of (get_or ws (s + below (λ h. length (P h)) g + p) 0)))) 0 0))
    (λ g. listed_same (length (P g)) (λ p. packed g (bit (is_watched (get_or (P g) p value) (S (below (λ h. length (P h)) g + p)))) 0 0)
    (λ p. packed g (bit (is_watched (get_or (P g) p value) (source_of (get_or ws (s + below (λ h. length (P h)) g + p) 0)))) 0 0)
    (λ p l. let a : s + (below (λ h. length (P h)) g + p) ≡ s + below (λ h. length (P h)) g + p = omega arith in
    ap (λ (i : ℕ). packed g (bit (is_watched (get_or (P g) p value) (source_of (get_or ws i 0)))) 0 0) a)) (from 0 G)))

-- ---- readers

eqb_turn : (a b : ℕ) → eqb a b ≡ eqb b a
eqb_turn a b = go (eqb b a) refl
  where
    go : (t : Bool) → eqb b a ≡ t → eqb a b ≡ t
    go true e = eq-eqb a b (sym (eqb-true b a e))
    go false e = ne_eqb a b (λ z. eqb-false b a e (sym z))

-- whether a source is o
abbrev is_output : ℕ → Option ℕ → Bool
is_output o s = elim s as (λ _. Bool) [ none ↦ false | some p ↦ eqb o p ]

reads_word : (o w : ℕ) → o < 576 → is_output o (source_of w) ≡ eqb w o
unfolding source_of if◌then◌otherwise◌
reads_word o w l = go (eqb w minus_one) refl
  where
    go : (b : Bool) → eqb w minus_one ≡ b → is_output o (if b then none otherwise some w) ≡ eqb w o
    go true e = let x = eqb-true w minus_one e in sym (ne_eqb w o (λ z. omega arith))
    go false e = eqb_turn o w

pub reader_lists : (I O : ℕ) (key : ℕ → ℕ) (ss : List (Option ℕ)) → O ≤ 576 → ss ≡ listed I (λ i. source_of (key i)) →
    map (λ o. keep (reads o ss) (from 0 I)) (from 0 O) ≡ listed O (members key I)
unfolding members reads
reader_lists I O key ss m e =
    sym (open_listed (λ o. keep (reads o ss) (from 0 I)) O)
    ∙ listed_same O (λ o. keep (reads o ss) (from 0 I)) (λ o. keep (λ i. eqb (key i) o) (from 0 I))
    (λ o l. keep_from (reads o ss) (λ i. eqb (key i) o) 0 I
    (λ i h. ap (λ (r : List (Option ℕ)). is_output o (get_or r i none)) e
    ∙ ap (λ (s : Option ℕ). is_output o s) (listed_in I (λ i. source_of (key i)) i none (omega arith))
    ∙ reads_word o (key i) (omega arith)))

-- ---- calls

-- call i of the list
abbrev pub call_at : (ℕ → ℕ) → ℕ → Call
call_at to i = record { to = to i / 2; remote = eqb (to i % 2) 1 }

pub call_lists : (C O : ℕ) (out to : ℕ → ℕ) (ls : List Listed) → ls ≡ listed C (λ i. listed_call (out i) (to i)) →
    map (λ o. calls_from o ls) (from 0 O) ≡ listed O (λ o. map (call_at to) (members out C o))
unfolding members calls_from listed_call
call_lists C O out to ls e =
    sym (open_listed (λ o. calls_from o ls) O)
    ∙ listed_same O (λ o. calls_from o ls) (λ o. map (call_at to) (keep (λ i. eqb (out i) o) (from 0 C)))
    (λ o l. let f : ℕ → Listed = λ i. listed_call (out i) (to i) in
    ap (λ (r : List Listed). map (λ l. l.call) (keep (λ l. eqb l.out o) r)) (e ∙ open_listed f C)
    ∙ ap (λ (r : List Listed). map (λ l. l.call) r) (keep_map (λ l. eqb l.out o) f (from 0 C))
    ∙ map-map (λ l. l.call) f (keep (λ i. eqb (out i) o) (from 0 C)))

one : (m : ℕ) → m < 2 → (m ≡ 0 → ⊥) → m ≡ 1
one zero l h = absurd (h refl)
one (suc m) l h = omega arith

even : (n : ℕ) → (n % 2 ≡ 1 → ⊥) → 2 * (n / 2) + 0 ≡ n
even n h = go (eqb (n % 2) 0) refl
  where
    go : (b : Bool) → eqb (n % 2) 0 ≡ b → 2 * (n / 2) + 0 ≡ n
    go true e = let x = eqb-true (n % 2) 0 e in omega arith
    go false e = absurd (h (one (n % 2) (omega arith) (eqb-false (n % 2) 0 e)))

-- its cell is the word that it was read from
call_back : (to : ℕ → ℕ) (i : ℕ) → call_cell (call_at to i) ≡ to i
unfolding call_cell bit
call_back to i = go (eqb (to i % 2) 1) refl
  where
    go : (b : Bool) → eqb (to i % 2) 1 ≡ b → 2 * (to i / 2) + bit b ≡ to i
    go true e = let x = eqb-true (to i % 2) 1 e in omega arith
    go false e = even (to i) (eqb-false (to i % 2) 1 e)

pub call_table : (C O : ℕ) (out to : ℕ → ℕ) → map call_cell (joined (listed O (λ o. map (call_at to) (members out C o)))) ≡ joined (listed O (λ o. map to (members out C o)))
call_table C O out to =
    map_joined call_cell O (λ o. map (call_at to) (members out C o))
    ∙ ap (λ (r : List (List ℕ)). joined r)
    (listed_same O (λ o. map call_cell (map (call_at to) (members out C o))) (λ o. map to (members out C o))
    (λ o l. map-map call_cell (call_at to) (members out C o) ∙ map_same (λ i. call_cell (call_at to i)) to (call_back to) (members out C o)))

-- ---- rows

pub row_table : {A B : Type 0} (O : ℕ) (r : ℕ → List A) (k : ℕ → List B) (f g : ℕ → ℕ) → ((o : ℕ) → length (r o) ≡ f o) → ((o : ℕ) → length (k o) ≡ g o) →
    gate_cells (starts 0 (map (λ x. length x) (listed O r))) (map (λ x. length x) (listed O r)) (starts 0 (map (λ x. length x) (listed O k))) (map (λ x. length x) (listed O k))
    ≡ listed O (row_of f g)
unfolding row_of
row_table O r k f g ef eg =
    let a : map (λ x. length x) (listed O r) ≡ listed O f = map_listed (λ x. length x) O r ∙ listed_same O (λ o. length (r o)) f (λ o l. ef o) in
    let b : map (λ x. length x) (listed O k) ≡ listed O g = map_listed (λ x. length x) O k ∙ listed_same O (λ o. length (k o)) g (λ o l. eg o) in
    rw (a, b) (rw (starts_listed O f, starts_listed O g) (packed_listed O (below f) f (below g) g))
