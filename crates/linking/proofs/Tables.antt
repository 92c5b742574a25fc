-- Tables that are written one after the other into cleared cells.
use Prim.Native.Nat.{ℕ, zero, suc, ◌+◌, ◌-◌, ◌≤◌, ◌<◌}
use mathlib.Core.Path.{◌≡◌, refl, sym, ap, ◌∙◌}
use mathlib.Core.List.{List, [], ◌∷◌, ◌++◌, append_assoc, append-nil}
use native.Mathlib.Nat.{zero-add, sub-zero}
use native.Mathlib.Omega.{arith}
use lib.ListN.{length, get_or, set, drop, replicate, length-append, length-replicate, drop_of_length-le, replicate-append-replicate}
use lib.Seq.{sets, sets-eq, drop_at}
use Rattle.model.specs.Base.{joined, both, sum}
use Rattle.links.specs.Links.{table_of}
use Rattle.links.proofs.Tables.{base, Room, [·], ◌∷·◌, table_length}
use Rattle.linking.specs.Building.{written}
use Rattle.linking.proofs.Elements.{listed_replicate}

-- tables of these sizes, one behind the other
unfoldable pub tables : List ℕ → List (List ℕ) → List ℕ
tables ns ts = joined (both table_of ns ts)

-- ---- stores behind a front

set_behind : (p l : List ℕ) (i v : ℕ) → set (p ++ l) (length p + i) v ≡ p ++ set l i v
set_behind [] l i v = ap (λ (k : ℕ). set l k v) (zero-add i)
set_behind (x ∷ p) l i v =
    let e : suc (length p) + i ≡ suc (length p + i) = omega arith in
    ap (λ (k : ℕ). set (x ∷ (p ++ l)) k v) e ∙ ap (λ (r : List ℕ). x ∷ r) (set_behind p l i v)

sets_behind : (p l : List ℕ) (i : ℕ) (vs : List ℕ) → sets (p ++ l) (length p + i) vs ≡ p ++ sets l i vs
sets_behind p l i [] = refl
sets_behind p l i (v ∷ vs) =
    let e : suc (length p + i) ≡ length p + suc i = omega arith in
    (λ j. sets (set_behind p l i v j) (e j) vs) ∙ sets_behind p (set l i v) (suc i) vs

drop_zeros : (m n : ℕ) (l : List ℕ) → m ≤ n → drop m (replicate n 0 ++ l) ≡ replicate (n - m) 0 ++ l
drop_zeros m n l h =
    let e : n ≡ m + (n - m) = omega arith in
    ap (λ (k : ℕ). drop m (replicate k 0 ++ l)) e
    ∙ ap (λ (r : List ℕ). drop m (r ++ l)) (sym (replicate-append-replicate m (n - m) 0))
    ∙ ap (λ (r : List ℕ). drop m r) (append_assoc (replicate m 0) (replicate (n - m) 0) l)
    ∙ drop_at (replicate m 0) (replicate (n - m) 0 ++ l) m (length-replicate m 0)

-- a table is written into zeros
sets_zeros : (n : ℕ) (l xs : List ℕ) → length xs ≤ n → sets (replicate n 0 ++ l) 0 xs ≡ table_of n xs ++ l
unfolding table_of
sets_zeros n l xs h =
    let k : length {A = ℕ} (replicate n 0 ++ l) ≡ length {A = ℕ} (replicate n 0) + length l = length-append (replicate n 0) l in
    let z : length {A = ℕ} (replicate n 0) ≡ n = length-replicate n 0 in
    let e : 0 + length xs ≡ length xs = omega arith in
    sets-eq xs (replicate n 0 ++ l) 0 (omega arith)
    ∙ ap (λ (k : ℕ). xs ++ drop k (replicate n 0 ++ l)) e
    ∙ ap (λ (r : List ℕ). xs ++ r) (drop_zeros (length xs) n l h)
    ∙ sym (append_assoc xs (replicate (n - length xs) 0) l)

-- an empty table is all zeros
open_table : (n : ℕ) → table_of n [] ≡ replicate n 0
unfolding table_of
open_table n = ap (λ (k : ℕ). replicate k 0) (sub-zero n)

-- ---- one table

-- a table that is empty is written, and the others stay as they are
put_table :
    (ns : List ℕ) (ts : List (List ℕ)) (t : ℕ) (xs : List ℕ) → Room ns ts → t < length ts → get_or ts t [] ≡ [] → length xs ≤ get_or ns t 0 →
    (sets (tables ns ts) (base ns t) xs ≡ tables ns (set ts t xs)) × Room ns (set ts t xs)
unfolding tables joined both
put_table [] (s ∷ ts) t xs x8 h e l = elim x8 [ ]
put_table (n ∷ ns) [] t xs x6 h e l = elim x6 [ ]
put_table [] [] t xs [·] h e l = absurd (omega arith)
put_table (n ∷ ns) (s ∷ ts) zero xs (◌∷·◌ f fs) h e l =
    let z : table_of n [] ≡ replicate n 0 = open_table n in (
      ap (λ (r : List ℕ). sets (table_of n r ++ joined (both table_of ns ts)) 0 xs) e
          ∙ ap (λ (r : List ℕ). sets (r ++ joined (both table_of ns ts)) 0 xs) z
          ∙ sets_zeros n (joined (both table_of ns ts)) xs l,
      l ∷· fs,
    )
put_table (n ∷ ns) (s ∷ ts) (suc t) xs (◌∷·◌ f fs) h e l =
    let q = put_table ns ts t xs fs (omega arith) e l in (
      ap (λ (k : ℕ). sets (table_of n s ++ joined (both table_of ns ts)) (k + base ns t) xs) (sym (table_length n s f))
          ∙ sets_behind (table_of n s) (joined (both table_of ns ts)) (base ns t) xs
          ∙ ap (λ (r : List ℕ). table_of n s ++ r) q.0,
      f ∷· q.1,
    )

-- ---- all tables

-- the cells l hold these tables
pub record Holds (ns : List ℕ) (ts : List (List ℕ)) (l : List ℕ) : Type 0 where
  pub cells : l ≡ tables ns ts
  pub room : Room ns ts

-- none of them is written yet
abbrev pub empty : List ℕ → List (List ℕ)
empty [] = []
empty (n ∷ ns) = [] ∷ empty ns

empty_tables : (ns : List ℕ) → tables ns (empty ns) ≡ replicate (sum ns) 0
unfolding tables joined both sum
empty_tables [] = refl
empty_tables (n ∷ ns) = (λ j. open_table n j ++ empty_tables ns j) ∙ replicate-append-replicate n (sum ns) 0

empty_room : (ns : List ℕ) → Room ns (empty ns)
empty_room [] = [·]
empty_room (n ∷ ns) = ◌∷·◌ {n = n} {x = []} (omega arith) (empty_room ns)

-- after clearing
pub cleared : (ns l : List ℕ) → l ≡ replicate (sum ns) 0 → Holds ns (empty ns) l
cleared ns l e =
    record {
      cells = e ∙ sym (empty_tables ns);
      room = empty_room ns;
    }

-- after one table more
pub table_put :
    (ns : List ℕ) (ts : List (List ℕ)) (t : ℕ) (xs l l₁ : List ℕ) → t < length ts → get_or ts t [] ≡ [] → length xs ≤ get_or ns t 0 → l₁ ≡ sets l (base ns t) xs →
    Holds ns ts l → Holds ns (set ts t xs) l₁
table_put ns ts t xs l l₁ h e m q p =
    let w = put_table ns ts t xs p.room h e m in
    record { cells = q ∙ ap (λ (r : List ℕ). sets r (base ns t) xs) p.cells ∙ w.0; room = w.1 }
