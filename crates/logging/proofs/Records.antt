-- A whole record: its rows one behind the other, how long it is, and what the log is after it.
use Prim.Native.Nat.{ℕ, ◌+◌, ◌-◌, ◌*◌, ◌/◌, ◌≤◌, ◌<◌}
use mathlib.Core.Path.{◌≡◌, refl, sym, ap, subst, ◌∙◌}
use mathlib.Core.Bool.{Bool, true, false}
use Rattle.std.specs.Prelude.{Some, None}
use mathlib.Core.List.{List, [], ◌∷◌, ◌++◌, map}
use native.Mathlib.Omega.{arith}
use borrow.Author.Tests.{eq-eqb, ne_eqb, le-leb, lt-leb}
use lib.Dec.{eqb, leb}
use lib.ListN.{length, take, drop, length-map, length-take, length-drop, take-append-drop}
use lib.Seq.{sets-eq}
use Rattle.words.specs.Words.{words, Filled}
use Rattle.words.proofs.Laws.{count_words}
use Rattle.model.specs.declared.Value.{Value}
use Rattle.model.specs.Base.{if◌then◌otherwise◌}
use Rattle.model.specs.Value.{kind_of, content_of}
use Rattle.model.specs.Circuit.{Circuit}
use Rattle.model.specs.Record.{Listed, LogRecord, head_size, head, gates_and_forms, kinds_and_contents, record_words}
use Rattle.model.specs.Closing.{as_listed}
use Rattle.model.proofs.ReadBack.{length_units, record_length}
use Rattle.wires.specs.View.{values}
use Rattle.units.specs.View.{units}
use Rattle.logging.specs.declared.Head.{Head}
use Rattle.logging.specs.Log.{record_of, fits, written_as, Writes}
use Rattle.logging.specs.Rows.{head_row, begun_first, carried_first, entries_in, outs_in}
use Rattle.words.proofs.Filling.{filled_more}
use Rattle.logging.proofs.Held.{outs_are, outs_in_length, entries_length, begun_is, carried_is}

-- ---- two rows

pub units_filled :
    (us : List ℕ) {s t u : List ℕ} {p : ℕ} (k n : ℕ) → Filled s t p (map (λ u. u.gate) (entries_in k n us)) →
    Filled t u (p + n) (map (λ u. u.form) (entries_in k n us)) → Filled s u p (gates_and_forms (entries_in k n us))
unfolding gates_and_forms
units_filled us {p = p} k n = filled_more (ap (λ (k : ℕ). p + k) (sym (length-map (entries_in k n us) (λ u. u.gate) ∙ entries_length k n us)))

pub outputs_filled :
    (vs : List ℕ) {s t u : List ℕ} {p : ℕ} (n : ℕ) → 65536 ≤ length vs → n ≤ 576 → Filled s t p (map kind_of (outs_in n vs)) →
    Filled t u (p + n) (map content_of (outs_in n vs)) → Filled s u p (kinds_and_contents (outs_in n vs))
unfolding kinds_and_contents
outputs_filled vs {p = p} n l m = filled_more (ap (λ (k : ℕ). p + k) (sym (length-map (outs_in n vs) kind_of ∙ outs_in_length vs n l m)))

-- ---- how many outputs a record shows

pub shown_all : (stop m n : ℕ) → stop ≡ 0 → (n ≡ m) × (n ≤ 576) → (n ≡ (if eqb stop 0 then m otherwise 0)) × (n ≤ 576)
unfolding if◌then◌otherwise◌
shown_all stop m n z e = let q : eqb stop 0 ≡ true = eq-eqb stop 0 z in (rw q e.0, e.1)

pub shown_none : (stop m : ℕ) → (stop ≡ 0 → ⊥) → (0 ≡ (if eqb stop 0 then m otherwise 0)) × (0 ≤ 576)
unfolding if◌then◌otherwise◌
shown_none stop m z = let q : eqb stop 0 ≡ false = ne_eqb stop 0 z in (rw q, omega arith)

-- ---- a record by its parts

-- the head, where n units have begun and k are carried
head_is : (h : Head) (begun carried : List Listed) (outs : List Value) (n k : ℕ) → n ≡ length begun → k ≡ length carried → head (record_of h begun carried outs) ≡ head_row h n k
unfolding head record_of head_row
head_is h begun carried outs n k e f =
    let a : length (take h.late begun) ≡ n - (n - h.late) = omega (arith, length-take h.late begun, e) in
    let b : length (drop h.late begun) ≡ n - h.late = omega (arith, length-drop h.late begun, e) in
    λ j. h.tick ∷ h.steps ∷ a j ∷ b j ∷ sym f j ∷ h.stop ∷ h.changed ∷ []

-- the outputs, of which a stopped tick shows none
outs_shown :
    (c : Circuit) (vs : List ℕ) (stop o : ℕ) → o ≡ (if eqb stop 0 then length c.outputs otherwise 0) → (if eqb stop 0 then (values c vs).wires.outs otherwise []) ≡ outs_in o vs
unfolding if◌then◌otherwise◌ outs_in
outs_shown c vs stop o = go (eqb stop 0)
  where
    go : (b : Bool) → o ≡ (if b then length c.outputs otherwise 0) → (if b then (values c vs).wires.outs otherwise []) ≡ outs_in o vs
    go true e = outs_are c vs ∙ ap (λ (k : ℕ). outs_in k vs) (sym e)
    go false e = rw e

-- ---- the record of circuit c that the areas us and vs tell

module _ (c : Circuit) (us vs : List ℕ) (h : Head) {n k o : ℕ} (l : 65536 ≤ length vs) (en : (c : Circuit) → n ≡ length (units c us).begun) (ek : (c : Circuit) → k ≡ length (units c us).lists.carried) (eo : (o ≡ (if eqb h.stop 0 then length c.outputs otherwise 0)) × (o ≤ 576)) where
  abbrev parts : LogRecord
  parts = record_of h (units c us).begun (map as_listed (units c us).lists.carried) (values c vs).wires.outs

  abbrev the_record : List ℕ
  the_record = record_words parts

  carried_counted : k ≡ length (map as_listed (units c us).lists.carried)
  carried_counted = ek c ∙ sym (length-map (units c us).lists.carried as_listed)

  -- its rows
  record_rows :
      the_record
      ≡ head_row h n k ++ (gates_and_forms (entries_in begun_first n us) ++ (gates_and_forms (entries_in carried_first k us) ++ kinds_and_contents (outs_in o vs)))
  unfolding record_words record_of
  record_rows =
      λ j.
      head_is h (units c us).begun (map as_listed (units c us).lists.carried) (values c vs).wires.outs n k (en c) carried_counted j
      ++ (gates_and_forms ((take-append-drop h.late (units c us).begun ∙ begun_is c us n (en c)) j)
      ++ (gates_and_forms (carried_is c us k (ek c) j) ++ kinds_and_contents (outs_shown c vs h.stop o eo.0 j)))

  -- its length, as the code works it out
  pub record_size : head_size + 2 * n + 2 * k + 2 * o ≡ length the_record
  unfolding record_of
  record_size =
      omega (
        arith,
        record_length parts,
        length-take h.late (units c us).begun,
        length-drop h.late (units c us).begun,
        en c,
        carried_counted,
        ap length (outs_shown c vs h.stop o eo.0),
        outs_in_length vs o l eo.1,
      )

  -- It does not fit.
  pub record_full : {s : List ℕ} {at : ℕ} → length s / 8 < at + (head_size + 2 * n + 2 * k + 2 * o) → (None ≡ written_as (fits s at the_record) the_record) × Writes s s at the_record
  unfolding fits written_as if◌then◌otherwise◌
  record_full {s = s} {at = at} x =
      let q : leb (at + length the_record) (length (words s)) ≡ false = lt-leb (at + length the_record) (length (words s)) (omega (arith, count_words s, record_size)) in
      (rw q, record { words = rw q; tail = refl })

  -- It fits, and its rows are written one behind the other.
  pub record_written :
      {s t u v w : List ℕ} {at : ℕ} → at + (head_size + 2 * n + 2 * k + 2 * o) ≤ length s / 8 → Filled s t at (head_row h n k) → Filled t u (at + head_size) (gates_and_forms (entries_in begun_first n us)) →
      Filled u v (at + head_size + 2 * n) (gates_and_forms (entries_in carried_first k us)) → Filled v w (at + head_size + 2 * n + 2 * k) (kinds_and_contents (outs_in o vs)) →
      (Some (head_size + 2 * n + 2 * k + 2 * o) ≡ written_as (fits s at the_record) the_record) × Writes s w at the_record
  unfolding fits written_as if◌then◌otherwise◌ head_row
  record_written {s = s} {w = w} {at = at} x a b d e =
      let y : at + head_size + 2 * n ≡ at + head_size + length (gates_and_forms (entries_in begun_first n us)) = omega (arith, length_units (entries_in begun_first n us), entries_length begun_first n us) in
      let z : at + head_size + 2 * n + 2 * k ≡ at + head_size + 2 * n + length (gates_and_forms (entries_in carried_first k us)) = omega (arith, length_units (entries_in carried_first k us), entries_length carried_first k us) in
      let f : Filled s w at the_record = subst (λ (x : List ℕ). Filled s w at x) (sym record_rows) (filled_more refl a (filled_more y b (filled_more z d e))) in
      let m : at + length the_record ≤ length (words s) = omega (arith, count_words s, record_size) in
      let q : leb (at + length the_record) (length (words s)) ≡ true = le-leb (at + length the_record) (length (words s)) m in
      (rw (q, record_size), record { words = rw q (f.words ∙ sets-eq the_record (words s) at m); tail = f.tail })
