-- The words of good records are a whole log, and are read back as these records: what a run writes has to be shown to be good, and no more.
use mathlib.Core.Path.{◌≡◌, refl, sym, ap, ◌∙◌}
use mathlib.Core.Bool.{Bool, true, false, ◌&&◌, true≢false}
use mathlib.Core.List.{List, [], ◌∷◌, ◌++◌, map}
use Prim.Native.Nat.{ℕ, zero, suc, ◌+◌, ◌-◌, ◌^◌, ◌≤◌}
use native.Mathlib.Omega.{arith}
use lib.Dec.{eqb}
use lib.ListN.{length, drop, length-append}
use borrow.Author.Tests.{eq-eqb, ne_eqb, le-leb, lt-ltb}
use Rattle.model.specs.declared.Value.{Value}
use Rattle.model.specs.Base.{all, both, joined}
use Rattle.model.specs.Value.{kind_of, content_of}
use Rattle.model.specs.Kinds.{Out}
use Rattle.model.specs.Circuit.{Circuit, word_at}
use Rattle.model.specs.Questions.{yes_all}
use Rattle.schedule.specs.Schedule.{most_units, most_waiting}
use Rattle.model.specs.Record.{LogRecord, head, record_words, begun_count, carried_count, stop_in, carried_at, shown_at, shown_count, record_size, units_at, record_at}
use Rattle.model.proofs.ReadBack.{begun_is, begun_back, carried_back, rows_back, parts_back, size_back, rest_back}
use Rattle.records.specs.Whole.{good_unit, good_output, good_outputs, good_stop, good_head, good_rows, good_record, whole_from}
use Rattle.records.specs.Records.{records_in, log_words}
use Rattle.records.specs.Good.{good_values, Good, nothing_follows, GoodLog}

and_true : {a b : Bool} → a ≡ true → b ≡ true → (a && b) ≡ true
and_true {a = a} {b = b} ea eb = rw (ea, eb)

rows_tested : (os : List Out) (vs : List Value) → both (λ f b. f b) (both good_output os (map kind_of vs)) (map content_of vs) ≡ both (λ o v. good_output o (kind_of v) (content_of v)) os vs
unfolding both
rows_tested [] [] = refl
rows_tested [] (v ∷ vs) = refl
rows_tested (o ∷ os) [] = refl
rows_tested (o ∷ os) (v ∷ vs) = λ j. good_output o (kind_of v) (content_of v) ∷ rows_tested os vs j

module _ (c : Circuit) (t : ℕ) (r : LogRecord) (s : List ℕ) (g : Good c t (nothing_follows s) r) where
  abbrev n : ℕ
  n = length c.outputs

  abbrev ws : List ℕ
  ws = record_words r ++ s

  size : record_size n ws + length s ≡ length ws
  size = ap (λ (x : ℕ). x + length s) (size_back r s n g.shows) ∙ sym (length-append (record_words r) s)

  outputs_tested : good_outputs c ws (shown_at ws) (shown_count n ws) ≡ true
  unfolding good_outputs good_values
  outputs_tested =
      let q = rows_back r s n g.shows in
      (λ j. yes_all (both (λ f b. f b) (both good_output c.outputs (q.0 j)) (q.1 j))) ∙ ap yes_all (rows_tested c.outputs r.outs) ∙ g.outputs

  last_tested : (s : List ℕ) (k l : ℕ) → k + length s ≡ l → good_stop r.stop (nothing_follows s) ≡ true → good_stop r.stop (eqb k l) ≡ true
  last_tested [] k l e h = rw (eq-eqb k l (omega (arith, e))) h
  last_tested (x ∷ s) k l e h = rw (ne_eqb k l (λ z. omega (arith, e, z))) h

  head_good : good_head t ws ≡ true
  unfolding good_head carried_count stop_in word_at record_words head
  head_good =
      and_true (eq-eqb r.tick t g.tick)
      (and_true g.steps
      (and_true (le-leb (begun_count ws) most_units (omega (arith, begun_is r s, g.begun)))
      (and_true (le-leb (length r.carried) most_waiting g.carried) (lt-ltb r.changed (2 ^ 63) g.changed))))

  carried_units : units_at ws (carried_at ws) (carried_count ws) ≡ r.carried
  unfolding record_at
  carried_units = carried_back r s n

  rows_good : good_rows c ws ≡ true
  unfolding good_rows
  rows_good =
      and_true (ap (all (good_unit c)) (begun_back r s) ∙ g.units_begun)
      (and_true (ap (all (good_unit c)) (carried_units) ∙ g.units_carried) outputs_tested)

  record_good : good_record c t ws ≡ true
  unfolding good_record stop_in word_at record_words head
  record_good =
      and_true (le-leb (record_size n ws) (length ws) (omega (arith, size)))
      (and_true head_good (and_true (last_tested s (record_size n ws) (length ws) size g.stop) rows_good))

  long : eqb (length ws) 0 ≡ false
  unfolding record_words head
  long = ne_eqb (length ws) 0 (λ z. omega (arith, z))

-- no words where no record follows
follow_words : (rs : List LogRecord) → nothing_follows (log_words rs) ≡ nothing_follows rs
unfolding log_words joined record_words head
follow_words [] = refl
follow_words (r ∷ rs) = refl

-- one record more
whole_next :
    (c : Circuit) (left t : ℕ) (ws s : List ℕ) → good_record c t ws ≡ true → drop (record_size (length c.outputs) ws) ws ≡ s →
    whole_from c left (suc t) s ≡ true → whole_from c (suc left) t ws ≡ true
unfolding whole_from
whole_next c left t ws s g e w = go (eqb (length ws) 0)
  where
    go : (b : Bool) → (elim b [ true ↦ true | false ↦ good_record c t ws && whole_from c left (suc t) (drop (record_size (length c.outputs) ws) ws) ]) ≡ true
    go true = refl
    go false = and_true g (ap (whole_from c left (suc t)) e ∙ w)

records_next :
    (n left : ℕ) (ws s : List ℕ) (r : LogRecord) (rs : List LogRecord) → eqb (length ws) 0 ≡ false → record_at n ws ≡ r → drop (record_size n ws) ws ≡ s →
    records_in n left s ≡ rs → records_in n (suc left) ws ≡ r ∷ rs
unfolding records_in
records_next n left ws s r rs z er e q = go (eqb (length ws) 0) z
  where
    go : (b : Bool) → b ≡ false → ◌≡◌ {A = List LogRecord} (elim b [ true ↦ [] | false ↦ record_at n ws ∷ records_in n left (drop (record_size n ws) ws) ]) (r ∷ rs)
    go true h = absurd (true≢false h)
    go false h = λ j. er j ∷ (ap (records_in n left) e ∙ q) j

-- what the test and the reading come to on the words of records
pub good_whole :
    (c : Circuit) (left t : ℕ) (rs : List LogRecord) → length rs ≤ left → GoodLog c t rs →
    (whole_from c left t (log_words rs) ≡ true) × (records_in (length c.outputs) left (log_words rs) ≡ rs)
unfolding whole_from records_in log_words joined
good_whole c zero t [] h g = (refl, refl)
good_whole c zero t (r ∷ rs) h g = absurd (omega (arith, h))
good_whole c (suc left) t [] h g = (refl, refl)
good_whole c (suc left) t (r ∷ rs) h g =
    let s : List ℕ = log_words rs in
    let k : Good c t (nothing_follows s) r = rw (follow_words rs) g.0 in
    let q = good_whole c left (suc t) rs (omega (arith, h)) g.1 in
    let e = rest_back r s (length c.outputs) k.shows in (
      whole_next c left t (record_words r ++ s) s (record_good c t r s k) e q.0,
      records_next (length c.outputs) left (record_words r ++ s) s r rs (long c t r s k) (parts_back r s (length c.outputs) k.shows) e q.1,
    )
