-- What a unit brings: one law for each way out of a function.
use Prim.Native.Nat.{ℕ, zero, suc, ◌+◌, ◌-◌, ◌*◌, ◌≤◌, ◌<◌, min}
use mathlib.Core.Path.{◌≡◌, sym, ap, ap₂, ◌∙◌}
use mathlib.Core.Bool.{Bool, true, false, not}
use mathlib.Core.List.{List, [], ◌∷◌, map}
use native.Mathlib.Omega.{arith}
use native.Mathlib.Numerals.{add-one}
use borrow.Author.Tests.{eq-eqb, ne_eqb}
use lib.ListN.{length, get_or, drop, length-take, length-drop, length-map, drop_of_length-le, get_or-eq_default}
use lib.Seq.{drop-cons}
use Rattle.words.specs.Words.{words}
use Rattle.words.proofs.Laws.{words_long}
use Rattle.words.proofs.Tables.{tables_length}
use Rattle.model.specs.declared.Value.{Value}
use Rattle.model.specs.declared.Value.TheVariants.{Nothing}
use Rattle.model.specs.Base.{if◌then◌otherwise◌, from}
use Rattle.model.specs.Value.{value_of}
use Rattle.model.specs.Circuit.{Circuit, part, output}
use Rattle.model.specs.State.{Send}
use Rattle.model.specs.Wires.{set_out, set_outs}
use Rattle.model.proofs.Lists.{both_length}
use Rattle.wires.specs.View.{Values, with_wires, values}
use Rattle.units.specs.View.{Tables, sizes, cut, gate_of, form_of, brings, row_of, act_of, event_of, event_at, half_at, events_of, second_half, units}
use Rattle.unit.specs.declared.Act.{Act as Entered}
use Rattle.unit.specs.declared.Act.TheVariants.{Waiting, Event}
use Rattle.unit.specs.Unit.{act_in}

-- ---- one that waited

module _ (c : Circuit) (vs : List ℕ) (x o f : ℕ) (ef : (f ≡ form_of x) × (f < 65536)) where
  pub brings_none : (f ≡ 2 → ⊥) → values c vs ≡ with_wires (values c vs) (set_outs c (values c vs).wires o (row_of c (form_of x) (brings x)))
  unfolding row_of if◌then◌otherwise◌ set_outs
  brings_none h = rw (ne_eqb (form_of x) 2 (λ q. h (ef.0 ∙ q)))

  pub brings_nothing : (k : ℕ) → f ≡ 2 → (k ≡ brings x) × (k < 65536) → k ≡ 0 → values c vs ≡ with_wires (values c vs) (set_outs c (values c vs).wires o (row_of c (form_of x) (brings x)))
  unfolding row_of if◌then◌otherwise◌ set_outs
  brings_nothing k h ek z = rw (eq-eqb (form_of x) 2 (sym ef.0 ∙ h), eq-eqb (brings x) 0 (sym ek.0 ∙ z))

pub brings_constant :
    (c : Circuit) (vs vs₁ : List ℕ) (x o f k g : ℕ) (v : Value) → (f ≡ form_of x) × (f < 65536) → f ≡ 2 → (k ≡ brings x) × (k < 65536) → (k ≡ 0 → ⊥) → v ≡ get_or c.constants k Nothing →
    (g ≡ gate_of x) × (g < 65536) → (o ≡ output c g 1) × (o < 131072) → values c vs₁ ≡ with_wires (values c vs) (set_out c (values c vs).wires o v) →
    values c vs₁ ≡ with_wires (values c vs) (set_outs c (values c vs).wires (output c (gate_of x) 1) (row_of c (form_of x) (brings x)))
unfolding row_of if◌then◌otherwise◌ set_outs
brings_constant c vs vs₁ x o f k g v ef h ek z ev eg eo e =
    rw (eq-eqb (form_of x) 2 (sym ef.0 ∙ h), ne_eqb (brings x) 0 (λ q. z (ek.0 ∙ q)))
    (e ∙ ap₂ (λ (p : ℕ) (u : Value). with_wires (values c vs) (set_out c (values c vs).wires p u)) (eo.0 ∙ ap (λ (y : ℕ). output c y 1) eg.0) (ev ∙ ap (λ (y : ℕ). get_or c.constants y Nothing) ek.0))

-- ---- an event

part_length : (rows : List ℕ) (p : ℕ) → p + 8 ≤ length rows → length (part rows p 8) ≡ 8
unfolding part
part_length rows p h = length-take 8 (drop p rows) ∙ omega (arith, length-drop p rows)

event_length : (senders rows : List ℕ) (k : ℕ) → length rows ≡ 2048 → k < 128 → length (event_at senders rows k).row ≡ 8
unfolding event_at
event_length senders rows k l h =
    let a : length (part rows (16 * k) 8) ≡ 8 = part_length rows (16 * k) (omega arith) in
    let b : length (part rows (16 * k + 8) 8) ≡ 8 = part_length rows (16 * k + 8) (omega arith) in
    both_length value_of (part rows (16 * k) 8) (part rows (16 * k + 8) 8) (a ∙ sym b) ∙ a

rows_length :
    (senders rows : List ℕ) (a n e : ℕ) → length rows ≡ 2048 → a + n ≤ 128 → e < length (map (event_at senders rows) (from a n)) →
    length (get_or (map (λ (m : Send). m.row) (map (event_at senders rows) (from a n))) e []) ≡ 8
unfolding from
rows_length senders rows a zero e l h m = absurd (omega (arith, m))
rows_length senders rows a (suc n) zero l h m = event_length senders rows a l (omega arith)
rows_length senders rows a (suc n) (suc e) l h m = rows_length senders rows (suc a) n e l (omega arith) (omega (arith, m))

rows_sized : (bs : List ℕ) → 65536 ≤ length bs → length (cut (words bs)).rows ≡ 2048
unfolding cut
rows_sized bs l = tables_length sizes (words bs) 10 (omega arith) (omega (arith, words_long 8192 bs (omega arith)))

half_row : (b : Bool) (t : Tables) (e : ℕ) → length t.rows ≡ 2048 → e < length (events_of b t) → length (get_or (map (λ (m : Send). m.row) (events_of b t)) e []) ≡ 8
unfolding events_of half_at if◌then◌otherwise◌
half_row true t e l h = rows_length t.senders t.rows 64 (min (get_or t.counts 1 0) 64) e l (omega arith) h
half_row false t e l h = rows_length t.senders t.rows 0 (min (get_or t.counts 0 0) 64) e l (omega arith) h

-- an event has eight values
pub event_eight : (c : Circuit) (bs : List ℕ) (e : ℕ) → 65536 ≤ length bs → e < length (units c bs).events → length (get_or (map (λ (m : Send). m.row) (units c bs).events) e []) ≡ 8
unfolding units
event_eight c bs e l h = half_row (not (second_half (cut (words bs)))) (cut (words bs)) e (rows_sized bs l) h

module _ (c : Circuit) (o : ℕ) (row : List Value) where
  pub row_first : (v : Values) → with_wires v (set_outs c v.wires (o + 0) (drop 0 row)) ≡ with_wires v (set_outs c v.wires o row)
  row_first v = let z : o + 0 ≡ o = omega arith in rw z

  pub row_next :
      (v v₁ z : Values) (j : ℕ) (x : Value) → length row ≡ 8 → j < 8 → x ≡ get_or row j Nothing → v₁ ≡ with_wires v (set_out c v.wires (o + j) x) →
      with_wires v (set_outs c v.wires (o + j) (drop j row)) ≡ z → with_wires v₁ (set_outs c v₁.wires (o + (j + 1)) (drop (j + 1) row)) ≡ z
  unfolding set_outs
  row_next v v₁ z j x l h ex e i =
      let s : o + (j + 1) ≡ suc (o + j) = omega arith in
      let d : drop j row ≡ x ∷ drop (suc j) row = drop-cons row j Nothing (omega arith) ∙ ap (λ (y : Value). y ∷ drop (suc j) row) (sym ex) in
      rw (s, add-one j)
      (ap (λ (u : Values). with_wires u (set_outs c u.wires (suc (o + j)) (drop (suc j) row))) e
      ∙ sym (ap (λ (y : List Value). with_wires v (set_outs c v.wires (o + j) y)) d)
      ∙ i)

  pub row_last : (v z : Values) (j : ℕ) → length row ≡ 8 → 8 ≤ j → with_wires v (set_outs c v.wires (o + j) (drop j row)) ≡ z → v ≡ z
  unfolding set_outs
  row_last v z j l h i =
      let m : length row ≤ j = omega arith in
      let d : drop j row ≡ [] = drop_of_length-le row m in
      sym (ap (λ (y : List Value). with_wires v (set_outs c v.wires (o + j) y)) d) ∙ i

-- there is no such event
pub no_event :
    (c : Circuit) (vs us : List ℕ) (e n x o : ℕ) → (e ≡ brings x) × (e < 65536) → n ≡ length (units c us).events → n ≤ e →
    values c vs ≡ with_wires (values c vs) (set_outs c (values c vs).wires o (get_or (map (λ (m : Send). m.row) (units c us).events) (brings x) []))
unfolding set_outs
no_event c vs us e n x o ee en h =
    let d : get_or (map (λ (m : Send). m.row) (units c us).events) (brings x) [] ≡ [] =
    get_or-eq_default (map (λ (m : Send). m.row) (units c us).events) [] {n = brings x} (omega (arith, ee.0, length-map (units c us).events (λ (m : Send). m.row)))
    in
    sym (ap (λ (y : List Value). with_wires (values c vs) (set_outs c (values c vs).wires o y)) d)

pub event_there : (c : Circuit) (us : List ℕ) (n e : ℕ) → n ≡ length (units c us).events → e < n → e < length (units c us).events
event_there c us n e en h = omega (arith, en)

pub some_event :
    (c : Circuit) (vs vs₁ us : List ℕ) (e x o g : ℕ) → (e ≡ brings x) × (e < 65536) → (g ≡ gate_of x) × (g < 65536) → (o ≡ output c g 1) × (o < 131072) →
    values c vs₁ ≡ with_wires (values c vs) (set_outs c (values c vs).wires o (get_or (map (λ (m : Send). m.row) (units c us).events) e [])) →
    values c vs₁ ≡ with_wires (values c vs) (set_outs c (values c vs).wires (output c (gate_of x) 1) (get_or (map (λ (m : Send). m.row) (units c us).events) (brings x) []))
some_event c vs vs₁ us e x o g ee eg eo h =
    h
    ∙ ap₂
    (λ (p k : ℕ). with_wires (values c vs) (set_outs c (values c vs).wires p (get_or (map (λ (m : Send). m.row) (units c us).events) k [])))
    (eo.0 ∙ ap (λ (y : ℕ). output c y 1) eg.0)
    ee.0

-- ---- one or the other

module _ (c : Circuit) (vs vs₁ : List ℕ) (es : List Send) (a : Entered) (x : ℕ) where
  pub enter_waiting :
      a ≡ Waiting x → values c vs₁ ≡ with_wires (values c vs) (set_outs c (values c vs).wires (output c (gate_of x) 1) (row_of c (form_of x) (brings x))) →
      values c vs₁ ≡ with_wires (values c vs) (set_outs c (values c vs).wires (output c (act_in c es a).gate 1) (act_in c es a).row)
  unfolding act_in act_of
  enter_waiting ea e = rw ea e

  pub enter_event :
      a ≡ Event x → values c vs₁ ≡ with_wires (values c vs) (set_outs c (values c vs).wires (output c (gate_of x) 1) (get_or (map (λ (m : Send). m.row) es) (brings x) [])) →
      values c vs₁ ≡ with_wires (values c vs) (set_outs c (values c vs).wires (output c (act_in c es a).gate 1) (act_in c es a).row)
  unfolding act_in event_of
  enter_event ea e = rw ea e
