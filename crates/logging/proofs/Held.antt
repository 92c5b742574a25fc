-- What the areas `values` and `units` hold of outputs and of units begun and carried: how many they are, and where each stands.
use Prim.Native.Nat.{ℕ, suc, ◌+◌, ◌≤◌, ◌<◌}
use mathlib.Core.Path.{◌≡◌, refl, sym, ap, ap₂, ◌∙◌}
use mathlib.Core.List.{List, [], ◌∷◌, map, map-map}
use native.Mathlib.Numerals.{add-one}
use native.Mathlib.Omega.{arith}
use lib.ListN.{length, get_or, drop, length-map, length-reverse}
use lib.Seq.{length-take-le, get_or-take, drop-cons, ext_get_or}
use Rattle.words.specs.Words.{words}
use Rattle.words.specs.Tables.{base}
use Rattle.lists.specs.Lists.{stacked, appended}
use Rattle.lists.proofs.Stacks.{stacked_length, entry_is}
use Rattle.model.specs.declared.Value.{Value}
use Rattle.model.specs.declared.Value.TheVariants.{Nothing}
use Rattle.model.specs.Base.{both, from}
use Rattle.model.specs.Circuit.{Circuit}
use Rattle.model.specs.Record.{Listed, listed}
use Rattle.model.specs.Closing.{as_listed}
use Rattle.model.proofs.Lists.{both_length, map_from, from_length}
use Rattle.wires.specs.Held.{held}
use Rattle.wires.specs.View.{cut as cut_values, values, out_tags_at, out_contents_at}
use Rattle.wires.proofs.Lists.{both_get}
use Rattle.wires.proofs.Area.{cut_peek, sized}
use Rattle.units.specs.View.{sizes, cut, act_of, listed_of, units}
use Rattle.units.proofs.Lending.{to, cut_peek as units_peek}
use Rattle.logging.specs.Rows.{begun_first, carried_first, entries_in, outs_in}

-- ---- the outputs

-- The wires show as many as the circuit has.
pub outs_are : (c : Circuit) (bs : List ℕ) → (values c bs).wires.outs ≡ outs_in (length c.outputs) bs
unfolding values outs_in
outs_are c bs = refl

module _ (bs : List ℕ) (n : ℕ) (l : 65536 ≤ length bs) (h : n ≤ 576) where
  tags_length : length (cut_values (words bs)).out_tags ≡ 576
  tags_length = sized bs 8 l (omega arith) (omega arith)

  contents_length : length (cut_values (words bs)).out_contents ≡ 576
  contents_length = sized bs 9 l (omega arith) (omega arith)

  pub outs_in_length : length (outs_in n bs) ≡ n
  unfolding outs_in
  outs_in_length =
      let t = cut_values (words bs) in
      let k : length (both held t.out_tags t.out_contents) ≡ 576 = both_length held t.out_tags t.out_contents (tags_length ∙ sym contents_length) ∙ tags_length in
      length-take-le n (both held t.out_tags t.out_contents) (omega arith)

  outs_get : (i : ℕ) → i < n → get_or (outs_in n bs) i Nothing ≡ held (get_or (words bs) (out_tags_at + i) 0) (get_or (words bs) (out_contents_at + i) 0)
  unfolding outs_in
  outs_get i k =
      let t = cut_values (words bs) in
      get_or-take n (both held t.out_tags t.out_contents) i Nothing k
      ∙ both_get held t.out_tags t.out_contents i 0 0 Nothing (omega (arith, tags_length)) (omega (arith, contents_length))
      ∙ sym (ap₂ held (cut_peek (words bs) 8 i (omega arith)) (cut_peek (words bs) 9 i (omega arith)))

  -- the i-th of them, and those behind it
  pub outs_at : (i : ℕ) → i < n → drop i (outs_in n bs) ≡ held (get_or (words bs) (out_tags_at + i) 0) (get_or (words bs) (out_contents_at + i) 0) ∷ drop (i + 1) (outs_in n bs)
  outs_at i k =
      let d : drop i (outs_in n bs) ≡ get_or (outs_in n bs) i Nothing ∷ drop (suc i) (outs_in n bs) = drop-cons (outs_in n bs) i Nothing (omega (arith, outs_in_length)) in
      rw (add-one i) (d ∙ ap (λ (v : Value). v ∷ drop (suc i) (outs_in n bs)) (outs_get i k))

-- ---- entries of units

pub entries_length : (k n : ℕ) (bs : List ℕ) → length (entries_in k n bs) ≡ n
unfolding entries_in
entries_length k n bs = length-map (from k n) (λ i. listed_of (get_or (words bs) i 0)) ∙ from_length k n

-- the i-th of them, and those behind it
pub entries_at : (k n : ℕ) (bs : List ℕ) (i : ℕ) → i < n → drop i (entries_in k n bs) ≡ listed_of (get_or (words bs) (k + i) 0) ∷ drop (i + 1) (entries_in k n bs)
unfolding entries_in
entries_at k n bs i h =
    let l = entries_in k n bs in
    let d : drop i l ≡ get_or l i (listed 0 0) ∷ drop (suc i) l = drop-cons l i (listed 0 0) (omega (arith, entries_length k n bs)) in
    rw (add-one i) (d ∙ ap (λ (u : Listed). u ∷ drop (suc i) l) (map_from (λ j. listed_of (get_or (words bs) j 0)) k n i (listed 0 0) h))

-- The entries of table t, a list of at most `most`, stand behind its count.
module _ (bs : List ℕ) (t most n : ℕ) (e : get_or sizes t 0 ≡ most + 1) where
  abbrev table : List ℕ
  table = get_or (to (cut (words bs))) t []

  table_entries : n ≡ length (stacked most table) → map listed_of (appended most table) ≡ entries_in (base sizes t + 1) n bs
  unfolding entries_in
  table_entries m = ap (map listed_of) same ∙ map-map listed_of (λ i. get_or (words bs) i 0) (from (base sizes t + 1) n)
    where
      word : (i : ℕ) → i < n → get_or (appended most table) i 0 ≡ get_or (map (λ i. get_or (words bs) i 0) (from (base sizes t + 1) n)) i 0
      word i h =
          let k : base sizes t + 1 + i ≡ base sizes t + (i + 1) = omega arith in
          sym (entry_is most n i (get_or table (i + 1) 0) table m h refl)
          ∙ sym (units_peek (words bs) t (i + 1) (omega (arith, e, m, stacked_length most table)))
          ∙ ap (λ (j : ℕ). get_or (words bs) j 0) (sym k)
          ∙ sym (map_from (λ i. get_or (words bs) i 0) (base sizes t + 1) n i 0 h)

      same : appended most table ≡ map (λ i. get_or (words bs) i 0) (from (base sizes t + 1) n)
      same =
          let a : length (appended most table) ≡ n = length-reverse (stacked most table) ∙ sym m in
          let b : length (map (λ i. get_or (words bs) i 0) (from (base sizes t + 1) n)) ≡ n = length-map (from (base sizes t + 1) n) (λ i. get_or (words bs) i 0) ∙ from_length (base sizes t + 1) n in
          ext_get_or 0 (appended most table) (map (λ i. get_or (words bs) i 0) (from (base sizes t + 1) n)) (a ∙ sym b) (λ i h. word i (omega (arith, a)))

-- the units begun,
pub begun_is : (c : Circuit) (bs : List ℕ) (n : ℕ) → n ≡ length (units c bs).begun → (units c bs).begun ≡ entries_in begun_first n bs
unfolding units
begun_is c bs n e =
    let w = (cut (words bs)).begun in
    table_entries bs 6 1024 n refl (e ∙ length-map (appended 1024 w) listed_of ∙ length-reverse (stacked 1024 w))

-- and those carried
pub carried_is : (c : Circuit) (bs : List ℕ) (n : ℕ) → n ≡ length (units c bs).lists.carried → map as_listed (units c bs).lists.carried ≡ entries_in carried_first n bs
unfolding units act_of listed_of
carried_is c bs n e =
    let w = (cut (words bs)).carried in
    map-map as_listed (act_of c) (appended 256 w)
    ∙ table_entries bs 4 256 n refl (e ∙ length-map (appended 256 w) (act_of c) ∙ length-reverse (stacked 256 w))
