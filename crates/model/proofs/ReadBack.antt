-- The words of a record are read back as that record, whatever follows them.
use mathlib.Core.Path.{◌≡◌, refl, sym, ap, ◌∙◌}
use mathlib.Core.Bool.{true, false}
use mathlib.Core.List.{List, [], ◌∷◌, ◌++◌, map, append_assoc}
use Prim.Native.Nat.{ℕ, ◌+◌, ◌*◌}
use native.Mathlib.Omega.{arith}
use lib.Dec.{eqb}
use lib.ListN.{length, take, drop, length-append, length-map}
use lib.Seq.{take_at, drop_at, drop-drop, take-append_seam, drop-append_seam}
use Rattle.model.specs.declared.Value.{Value}
use Rattle.model.specs.declared.Value.TheVariants.{Nothing, Int, Float, Bool as Truth}
use Rattle.model.specs.Base.{if◌then◌otherwise◌, both}
use Rattle.model.specs.Value.{bit, kind_of, content_of, value_of}
use Rattle.model.specs.Circuit.{part, word_at}
use Rattle.model.specs.Record.{Listed, LogRecord, head_size, head, gates_and_forms, kinds_and_contents, record_words, begun_count, carried_count, stop_in, shown_count, carried_at, shown_at, record_size, listed, units_at, outputs_at, record_at}

-- ---- rows

pub length_units : (us : List Listed) → length (gates_and_forms us) ≡ 2 * length us
unfolding gates_and_forms
length_units us = omega (arith, length-append (map (λ (u : Listed). u.gate) us) (map (λ (u : Listed). u.form) us), length-map us (λ (u : Listed). u.gate), length-map us (λ (u : Listed). u.form))

pub length_outputs : (vs : List Value) → length (kinds_and_contents vs) ≡ 2 * length vs
unfolding kinds_and_contents
length_outputs vs = omega (arith, length-append (map kind_of vs) (map content_of vs), length-map vs kind_of, length-map vs content_of)

-- how many words a record has
pub record_length : (r : LogRecord) → length (record_words r) ≡ head_size + 2 * (length r.late + length r.main) + 2 * length r.carried + 2 * length r.outs
unfolding record_words head
record_length r =
    omega (
      arith,
      length-append (gates_and_forms (r.late ++ r.main)) (gates_and_forms r.carried ++ kinds_and_contents r.outs),
      length-append (gates_and_forms r.carried) (kinds_and_contents r.outs),
      length-append r.late r.main,
      length_units (r.late ++ r.main),
      length_units r.carried,
      length_outputs r.outs,
    )

units_of : (us : List Listed) → both listed (map (λ (u : Listed). u.gate) us) (map (λ (u : Listed). u.form) us) ≡ us
unfolding both
units_of [] = refl
units_of (u ∷ us) = λ j. u ∷ units_of us j

-- a value is that of its kind and content
pub value_again : (v : Value) → value_of (kind_of v) (content_of v) ≡ v
unfolding value_of kind_of content_of bit
value_again Nothing = refl
value_again (Int b) = refl
value_again (Float b) = refl
value_again (Truth true) = refl
value_again (Truth false) = refl

outputs_of : (vs : List Value) → both value_of (map kind_of vs) (map content_of vs) ≡ vs
unfolding both
outputs_of [] = refl
outputs_of (v ∷ vs) = λ j. value_again v j ∷ outputs_of vs j

-- two rows of n words, behind k others
rows : (ws p x y s : List ℕ) (k n : ℕ) → ws ≡ p ++ ((x ++ y) ++ s) → length p ≡ k → length x ≡ n → length y ≡ n → (part ws k n ≡ x) × (part ws (k + n) n ≡ y)
unfolding part
rows ws p x y s k n e lp lx ly =
    let a : drop k ws ≡ x ++ (y ++ s) = ap (drop k) e ∙ drop_at p ((x ++ y) ++ s) k lp ∙ append_assoc x y s in
    let b : drop (k + n) ws ≡ y ++ s = sym (drop-drop n k ws) ∙ ap (drop n) a ∙ drop_at x (y ++ s) n lx in
    (ap (take n) a ∙ take_at x (y ++ s) n lx, ap (take n) b ∙ take_at y s n ly)

units_back : (ws p s : List ℕ) (us : List Listed) (k n : ℕ) → ws ≡ p ++ (gates_and_forms us ++ s) → length p ≡ k → length us ≡ n → units_at ws k n ≡ us
unfolding gates_and_forms units_at
units_back ws p s us k n e lp le =
    let r = rows ws p (map (λ (u : Listed). u.gate) us) (map (λ (u : Listed). u.form) us) s k n e lp (length-map us (λ (u : Listed). u.gate) ∙ le) (length-map us (λ (u : Listed). u.form) ∙ le) in
    (λ j. both listed (r.0 j) (r.1 j)) ∙ units_of us

-- ---- a record, and what follows it

module _ (r : LogRecord) (s : List ℕ) where
  abbrev ws : List ℕ
  ws = record_words r ++ s

  abbrev begun : List Listed
  begun = r.late ++ r.main

  -- head, units begun, units carried, outputs, and what follows
  layout : ws ≡ head r ++ (gates_and_forms begun ++ (gates_and_forms r.carried ++ (kinds_and_contents r.outs ++ s)))
  unfolding record_words
  layout =
      append_assoc (head r) (gates_and_forms begun ++ (gates_and_forms r.carried ++ kinds_and_contents r.outs)) s
      ∙ ap (λ (l : List ℕ). head r ++ l)
      (append_assoc (gates_and_forms begun) (gates_and_forms r.carried ++ kinds_and_contents r.outs) s
      ∙ ap (λ (l : List ℕ). gates_and_forms begun ++ l) (append_assoc (gates_and_forms r.carried) (kinds_and_contents r.outs) s))

  pub begun_is : begun_count ws ≡ length begun
  unfolding begun_count word_at record_words head
  begun_is = sym (length-append r.late r.main)

  carried_is : carried_at ws ≡ head_size + 2 * length begun
  unfolding carried_at
  carried_is = ap (λ (x : ℕ). head_size + 2 * x) begun_is

  shown_is : shown_at ws ≡ head_size + 2 * length begun + 2 * length r.carried
  unfolding shown_at carried_count word_at record_words head
  shown_is = ap (λ (x : ℕ). x + 2 * length r.carried) carried_is

  pub begun_back : units_at ws head_size (begun_count ws) ≡ begun
  begun_back =
      units_back ws (head r) (gates_and_forms r.carried ++ (kinds_and_contents r.outs ++ s)) begun head_size (begun_count ws) layout (unfold head in refl) (sym begun_is)

  -- the carried units are read back, whatever the outputs
  pub carried_back : (outputs : ℕ) → (record_at outputs ws).carried ≡ r.carried
  unfolding record_at carried_count word_at record_words head
  carried_back outputs =
      units_back ws (head r ++ gates_and_forms begun) (kinds_and_contents r.outs ++ s) r.carried (carried_at ws) (length r.carried)
      (layout ∙ sym (append_assoc (head r) (gates_and_forms begun) (gates_and_forms r.carried ++ (kinds_and_contents r.outs ++ s))))
      (omega (arith, length-append (head r) (gates_and_forms begun), length_units begun, carried_is)) refl

  -- where it shows all of n outputs, or none if it is stopped
  module _ (n : ℕ) (shows : length r.outs ≡ (if eqb r.stop 0 then n otherwise 0)) where
    count_is : shown_count n ws ≡ length r.outs
    unfolding shown_count stop_in word_at record_words head
    count_is = sym shows

    pub size_back : record_size n ws ≡ length (record_words r)
    unfolding record_size
    size_back = (λ j. shown_is j + 2 * count_is j) ∙ omega (arith, record_length r, length-append r.late r.main)

    abbrev front : List ℕ
    front = head r ++ (gates_and_forms begun ++ gates_and_forms r.carried)

    in_front : ws ≡ front ++ (kinds_and_contents r.outs ++ s)
    in_front =
        layout
        ∙ ap (λ (l : List ℕ). head r ++ l) (sym (append_assoc (gates_and_forms begun) (gates_and_forms r.carried) (kinds_and_contents r.outs ++ s)))
        ∙ sym (append_assoc (head r) (gates_and_forms begun ++ gates_and_forms r.carried) (kinds_and_contents r.outs ++ s))

    front_length : length front ≡ shown_at ws
    unfolding head
    front_length =
        omega (arith, length-append (head r) (gates_and_forms begun ++ gates_and_forms r.carried), length-append (gates_and_forms begun) (gates_and_forms r.carried), length_units begun, length_units r.carried, shown_is)

    -- the two rows of its outputs,
    pub rows_back : (part ws (shown_at ws) (shown_count n ws) ≡ map kind_of r.outs) × (part ws (shown_at ws + shown_count n ws) (shown_count n ws) ≡ map content_of r.outs)
    unfolding kinds_and_contents
    rows_back =
        rows ws front (map kind_of r.outs) (map content_of r.outs) s (shown_at ws) (shown_count n ws) in_front front_length
        (length-map r.outs kind_of ∙ sym count_is) (length-map r.outs content_of ∙ sym count_is)

    outs_back : outputs_at ws (shown_at ws) (shown_count n ws) ≡ r.outs
    unfolding outputs_at
    outs_back = (λ j. both value_of (rows_back.0 j) (rows_back.1 j)) ∙ outputs_of r.outs

    -- its parts are read back,
    pub parts_back : record_at n ws ≡ r
    unfolding record_at stop_in word_at record_words head
    parts_back =
        let el : take (length r.late) (units_at ws head_size (begun_count ws)) ≡ r.late = ap (take (length r.late)) begun_back ∙ take-append_seam r.late r.main in
        let em : drop (length r.late) (units_at ws head_size (begun_count ws)) ≡ r.main = ap (drop (length r.late)) begun_back ∙ drop-append_seam r.late r.main in
        λ j. record { tick = r.tick; steps = r.steps; late = el j; main = em j; carried = carried_back n j; stop = r.stop; changed = r.changed; outs = outs_back j }

    -- and what follows it is behind its words
    pub rest_back : drop (record_size n ws) ws ≡ s
    rest_back = ap (λ (k : ℕ). drop k ws) size_back ∙ drop-append_seam (record_words r) s
