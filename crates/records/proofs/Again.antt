-- A whole log is the words of its records.
use mathlib.Core.Path.{◌≡◌, refl, sym, ap, ◌∙◌}
use mathlib.Core.Bool.{Bool, true, false, ◌&&◌}
use mathlib.Core.List.{List, [], ◌∷◌, ◌++◌, map}
use Prim.Native.Nat.{ℕ, zero, suc, ◌+◌, ◌-◌, ◌*◌, ◌^◌, ◌≤◌}
use native.Mathlib.Omega.{arith}
use lib.Dec.{ltb, eqb}
use lib.ListN.{length, take, drop, take-append-drop, length-drop}
use lib.Seq.{length-take-le, take-add, drop-drop}
use borrow.Author.Tests.{eqb-true, leb-true}
use Rattle.words.specs.Words.{words}
use Rattle.model.specs.Base.{if◌then◌otherwise◌, all, both, joined}
use Rattle.model.specs.Circuit.{Circuit, part, word_at}
use Rattle.schedule.specs.Schedule.{most_units, most_waiting}
use Rattle.model.specs.Record.{Listed, head_size, head, gates_and_forms, kinds_and_contents, record_words, begun_count, carried_count, stop_in, carried_at, shown_at, shown_count, record_size, listed, units_at, outputs_at, record_at}
use Rattle.model.proofs.Lists.{both_true}
use Rattle.records.specs.Whole.{good_unit, good_outputs, good_steps, good_stop, good_head, good_rows, good_record, whole_from}
use Rattle.records.specs.Records.{records_in, log_words}
use Rattle.records.proofs.Outputs.{held_all}

-- ---- parts

pub part_length : (ws : List ℕ) (k n : ℕ) → k + n ≤ length ws → length (part ws k n) ≡ n
unfolding part
part_length ws k n h = length-take-le n (drop k ws) (omega (arith, h, length-drop k ws))

part_add : (ws : List ℕ) (k n m : ℕ) → part ws k (n + m) ≡ part ws k n ++ part ws (k + n) m
unfolding part
part_add ws k n m = take-add n m (drop k ws) ∙ ap (λ (l : List ℕ). take n (drop k ws) ++ take m l) (drop-drop n k ws)

-- two parallel rows of units
units_both : (gs fs : List ℕ) → length gs ≡ length fs → (map (λ (e : Listed). e.gate) (both listed gs fs) ≡ gs) × (map (λ (e : Listed). e.form) (both listed gs fs) ≡ fs) × (length (both listed gs fs) ≡ length gs)
unfolding both
units_both [] [] h = (refl, refl, refl)
units_both [] (f ∷ fs) h = absurd (omega (arith, h))
units_both (g ∷ gs) [] h = absurd (omega (arith, h))
units_both (g ∷ gs) (f ∷ fs) h =
    let r = units_both gs fs (omega (arith, h)) in
    (λ j. g ∷ r.0 j, λ j. f ∷ r.1 j, ap suc r.2)

module _ (ws : List ℕ) (k n : ℕ) (h : k + n + n ≤ length ws) where
  rows_alike : length (part ws k n) ≡ length (part ws (k + n) n)
  rows_alike = part_length ws k n (omega (arith, h)) ∙ sym (part_length ws (k + n) n (omega (arith, h)))

  units_length : length (units_at ws k n) ≡ n
  unfolding units_at
  units_length = (units_both (part ws k n) (part ws (k + n) n) rows_alike).2 ∙ part_length ws k n (omega (arith, h))

  units_again : gates_and_forms (units_at ws k n) ≡ part ws k (n + n)
  unfolding units_at gates_and_forms
  units_again =
      let r = units_both (part ws k n) (part ws (k + n) n) rows_alike in
      (λ j. r.0 j ++ r.1 j) ∙ sym (part_add ws k n n)

  outputs_again : (c : Circuit) → n ≤ length c.outputs → good_outputs c ws k n ≡ true → kinds_and_contents (outputs_at ws k n) ≡ part ws k (n + n)
  unfolding outputs_at kinds_and_contents good_outputs
  outputs_again c few g =
      let l : length (part ws k n) ≤ length c.outputs = omega (arith, part_length ws k n (omega (arith, h)), few) in
      let r = held_all c.outputs (part ws k n) (part ws (k + n) n) rows_alike l g in
      (λ j. r.0 j ++ r.1 j) ∙ sym (part_add ws k n n)

-- ---- the head

first_seven : (ws : List ℕ) → 7 ≤ length ws → take 7 ws ≡ word_at ws 0 ∷ word_at ws 1 ∷ word_at ws 2 ∷ word_at ws 3 ∷ carried_count ws ∷ stop_in ws ∷ word_at ws 6 ∷ []
unfolding word_at carried_count stop_in
first_seven [] h = absurd (omega arith)
first_seven (a ∷ []) h = absurd (omega arith)
first_seven (a ∷ b ∷ []) h = absurd (omega arith)
first_seven (a ∷ b ∷ c ∷ []) h = absurd (omega arith)
first_seven (a ∷ b ∷ c ∷ d ∷ []) h = absurd (omega arith)
first_seven (a ∷ b ∷ c ∷ d ∷ e ∷ []) h = absurd (omega arith)
first_seven (a ∷ b ∷ c ∷ d ∷ e ∷ f ∷ []) h = absurd (omega arith)
first_seven (a ∷ b ∷ c ∷ d ∷ e ∷ f ∷ g ∷ r) h = refl

shown_few : (n : ℕ) (ws : List ℕ) → shown_count n ws ≤ n
unfolding shown_count if◌then◌otherwise◌
shown_few n ws = go (eqb (stop_in ws) 0)
  where
    go : (b : Bool) → (if b then n otherwise 0) ≤ n
    go true = omega arith
    go false = omega arith

-- ---- a record

-- what a whole record's test says
pub record Tested (c : Circuit) (t : ℕ) (ws : List ℕ) : Type 0 where
  pub fits : record_size (length c.outputs) ws ≤ length ws
  pub tick : word_at ws 0 ≡ t
  pub steps : good_steps (word_at ws 1) (stop_in ws) ≡ true
  pub begun : begun_count ws ≤ most_units
  pub carried : carried_count ws ≤ most_waiting
  pub stop : good_stop (stop_in ws) (eqb (record_size (length c.outputs) ws) (length ws)) ≡ true
  pub changed : ltb (word_at ws 6) (2 ^ 63) ≡ true
  pub units_begun : all (good_unit c) (units_at ws head_size (begun_count ws)) ≡ true
  pub units_carried : all (good_unit c) (units_at ws (carried_at ws) (carried_count ws)) ≡ true
  pub outputs : good_outputs c ws (shown_at ws) (shown_count (length c.outputs) ws) ≡ true

pub tested : (c : Circuit) (t : ℕ) (ws : List ℕ) → good_record c t ws ≡ true → Tested c t ws
unfolding good_record good_head good_rows
tested c t ws h =
    let a = both_true _ _ h in
    let b = both_true _ _ a.1 in
    let d = both_true _ _ b.1 in
    let e = both_true _ _ b.0 in
    let f = both_true _ _ e.1 in
    let g = both_true _ _ f.1 in
    let i = both_true _ _ g.1 in
    let k = both_true _ _ d.1 in
    let l = both_true _ _ k.1 in
    record {
      fits = leb-true _ _ a.0;
      tick = eqb-true _ _ e.0;
      steps = f.0;
      begun = leb-true _ _ g.0;
      carried = leb-true _ _ i.0;
      stop = d.0;
      changed = i.1;
      units_begun = k.0;
      units_carried = l.0;
      outputs = l.1;
    }

-- the words of a record: its head, the units begun, the units carried, the outputs
taken : (ws : List ℕ) (u k o : ℕ) → take (7 + 2 * u + 2 * k + 2 * o) ws ≡ take 7 ws ++ (part ws 7 (u + u) ++ (part ws (7 + 2 * u) (k + k) ++ part ws (7 + 2 * u + 2 * k) (o + o)))
unfolding part
taken ws u k o =
    let a : 7 + 2 * u + 2 * k + 2 * o ≡ 7 + (u + u + (k + k + (o + o))) = omega arith in
    let b : 7 + 2 * u ≡ 7 + (u + u) = omega arith in
    let d : 7 + 2 * u + 2 * k ≡ 7 + (u + u) + (k + k) = omega arith in
    rw (a, d, b) (take-add 7 (u + u + (k + k + (o + o))) ws
    ∙ ap (λ (l : List ℕ). take 7 ws ++ l) (part_add ws 7 (u + u) (k + k + (o + o)) ∙ ap (λ (l : List ℕ). part ws 7 (u + u) ++ l) (part_add ws (7 + (u + u)) (k + k) (o + o))))

module _ (c : Circuit) (t : ℕ) (ws : List ℕ) (h : Tested c t ws) where
  room : 7 + 2 * begun_count ws + 2 * carried_count ws + 2 * shown_count (length c.outputs) ws ≤ length ws
  unfolding record_size shown_at carried_at
  room = h.fits

  long : 7 ≤ length ws
  long = omega (arith, room)

  begun_fits : 7 + begun_count ws + begun_count ws ≤ length ws
  begun_fits = omega (arith, room)

  carried_fits : 7 + 2 * begun_count ws + carried_count ws + carried_count ws ≤ length ws
  carried_fits = omega (arith, room)

  shown_fits : 7 + 2 * begun_count ws + 2 * carried_count ws + shown_count (length c.outputs) ws + shown_count (length c.outputs) ws ≤ length ws
  shown_fits = omega (arith, room)

  late_length : length (take (word_at ws 2) (units_at ws head_size (begun_count ws))) ≡ word_at ws 2
  unfolding begun_count
  late_length = length-take-le (word_at ws 2) (units_at ws head_size (word_at ws 2 + word_at ws 3)) (omega (arith, units_length ws 7 (word_at ws 2 + word_at ws 3) begun_fits))

  main_length : length (drop (word_at ws 2) (units_at ws head_size (begun_count ws))) ≡ word_at ws 3
  unfolding begun_count
  main_length = omega (arith, length-drop (word_at ws 2) (units_at ws head_size (word_at ws 2 + word_at ws 3)), units_length ws 7 (word_at ws 2 + word_at ws 3) begun_fits)

  -- the words that a whole record is read from are its words
  pub words_again : record_words (record_at (length c.outputs) ws) ≡ take (record_size (length c.outputs) ws) ws
  unfolding record_words record_at record_size shown_at carried_at head
  words_again =
      let u = begun_count ws in
      let k = carried_count ws in
      let o = shown_count (length c.outputs) ws in
      let es : List Listed = units_at ws head_size u in
      let eb : gates_and_forms (take (word_at ws 2) es ++ drop (word_at ws 2) es) ≡ part ws 7 (u + u) = ap gates_and_forms (take-append-drop (word_at ws 2) es) ∙ units_again ws 7 u begun_fits in
      let ec : gates_and_forms (units_at ws (7 + 2 * u) k) ≡ part ws (7 + 2 * u) (k + k) = units_again ws (7 + 2 * u) k carried_fits in
      let eo : kinds_and_contents (outputs_at ws (7 + 2 * u + 2 * k) o) ≡ part ws (7 + 2 * u + 2 * k) (o + o) = outputs_again ws (7 + 2 * u + 2 * k) o shown_fits c (shown_few (length c.outputs) ws) h.outputs in
      (λ j. word_at ws 0 ∷ word_at ws 1 ∷ late_length j ∷ main_length j ∷ units_length ws (7 + 2 * u) k carried_fits j ∷ stop_in ws ∷ word_at ws 6 ∷ (eb j ++ (ec j ++ eo j)))
      ∙ sym (taken ws u k o ∙ ap (λ (l : List ℕ). l ++ (part ws 7 (u + u) ++ (part ws (7 + 2 * u) (k + k) ++ part ws (7 + 2 * u + 2 * k) (o + o)))) (first_seven ws long))

-- ---- a log

-- an empty list is one of length 0
empty : (ws : List ℕ) → eqb (length ws) 0 ≡ true → ws ≡ []
empty [] h = refl
empty (w ∷ ws) h = absurd (let e = eqb-true (suc (length ws)) 0 h in omega (arith, e))

-- whole words are the words of the records that they are read as
pub whole_words : (c : Circuit) (left t : ℕ) (ws : List ℕ) → whole_from c left t ws ≡ true → log_words (records_in (length c.outputs) left ws) ≡ ws
unfolding whole_from records_in log_words joined
whole_words c zero t ws h = sym (empty ws h)
whole_words c (suc left) t ws h = go (λ v. whole_words c left (suc t) v) (eqb (length ws) 0) refl h
  where
    n : ℕ
    n = length c.outputs

    go :
        ((v : List ℕ) → whole_from c left (suc t) v ≡ true → log_words (records_in (length c.outputs) left v) ≡ v) → (b : Bool) → eqb (length ws) 0 ≡ b →
        (elim b [ true ↦ true | false ↦ good_record c t ws && whole_from c left (suc t) (drop (record_size (length c.outputs) ws) ws) ]) ≡ true →
        joined (map record_words (elim b [ true ↦ [] | false ↦ record_at (length c.outputs) ws ∷ records_in (length c.outputs) left (drop (record_size (length c.outputs) ws) ws) ])) ≡ ws
    go rec true e k = sym (empty ws e)
    go rec false e k =
        let q = both_true _ _ k in
        (λ j. words_again c t ws (tested c t ws q.0) j ++ rec (drop (record_size (length c.outputs) ws) ws) q.1 j) ∙ take-append-drop (record_size (length c.outputs) ws) ws
