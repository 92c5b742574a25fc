-- A whole log, record by record: what a loop over its records keeps.
use Prim.Native.Nat.{ℕ, zero, suc, ◌+◌, ◌-◌, ◌/◌, ◌%◌, ◌≤◌, ◌<◌, min}
use mathlib.Core.Path.{◌≡◌, refl, sym, ap, ◌∙◌}
use mathlib.Core.Bool.{Bool, true, false, ◌&&◌, true≢false}
use mathlib.Core.List.{List, [], ◌∷◌}
use native.Mathlib.Omega.{arith}
use borrow.Author.Tests.{ne_eqb}
use lib.Dec.{eqb}
use lib.ListN.{length, drop, length-drop}
use lib.Seq.{drop-drop}
use Rattle.words.specs.Words.{words}
use Rattle.words.proofs.Laws.{count_words}
use Rattle.model.specs.Circuit.{Circuit}
use Rattle.model.specs.Script.{most_ticks}
use Rattle.model.specs.Record.{LogRecord, head_size, carried_at, shown_at, record_size, record_at}
use Rattle.model.proofs.Lists.{both_true}
use Rattle.records.specs.Whole.{good_record, whole_from, whole}
use Rattle.records.specs.Records.{records_in}
use Rattle.records.proofs.Again.{tested}
use Rattle.walk.specs.Walk.{Fits, WholeLog}

-- the ticks from tick t on, as many as a log can have
abbrev ticks_from : ℕ → ℕ
ticks_from t = suc most_ticks - t

-- from word `at` on stand whole records of ticks t, t + 1, .., of some circuit with so many outputs
pub record Left (outs : ℕ) (s : List ℕ) (at t : ℕ) : Type 0 where
  circuit : Circuit
  outputs : outs ≡ length circuit.outputs
  whole : whole_from circuit (ticks_from t) t (drop at (words s)) ≡ true

-- these records
unfoldable pub records_left : ℕ → List ℕ → ℕ → ℕ → List LogRecord
records_left outs s at t = records_in outs (ticks_from t) (drop at (words s))

-- at the beginning they are all
pub walk_begins : (outs : ℕ) (s : List ℕ) → WholeLog outs s → Left outs s 0 1
unfolding whole
walk_begins outs s h =
    record {
      circuit = h.circuit;
      outputs = h.outputs;
      whole = (both_true (eqb (length s % 8) 0) (whole_from h.circuit most_ticks 1 (words s)) h.whole).1;
    }

-- ---- a record

-- the words from word `at` on
pub room_is : (s : List ℕ) (at : ℕ) → length (drop at (words s)) ≡ length s / 8 - at
room_is s at = length-drop at (words s) ∙ ap (λ (x : ℕ). x - at) (count_words s)

more_there : (s : List ℕ) (at : ℕ) → at < length s / 8 → eqb (length (drop at (words s))) 0 ≡ false
more_there s at h = ne_eqb (length (drop at (words s))) 0 (λ z. omega (arith, z, room_is s at, h))

when_more : {A : Type 0} (b : Bool) (x y : A) → b ≡ false → (elim b [ true ↦ x | false ↦ y ]) ≡ y
when_more true x y e = absurd (true≢false e)
when_more false x y e = refl

-- what a whole log with words left begins with: a good record, and the rest
abbrev Split : Circuit → ℕ → ℕ → List ℕ → Type 0
Split c zero t ws = ⊥
Split c (suc n) t ws = (good_record c t ws ≡ true) × (whole_from c n (suc t) (drop (record_size (length c.outputs) ws) ws) ≡ true)

split : (c : Circuit) (n t : ℕ) (ws : List ℕ) → eqb (length ws) 0 ≡ false → whole_from c n t ws ≡ true → Split c n t ws
unfolding whole_from
split c zero t ws e h = absurd (true≢false (sym h ∙ e))
split c (suc n) t ws e h =
    both_true _ _ (sym (when_more (eqb (length ws) 0) true (good_record c t ws && whole_from c n (suc t) (drop (record_size (length c.outputs) ws) ws)) e) ∙ h)

-- where words are left there is a tick left, its record is a good one, and whole records follow
record Here (c : Circuit) (s : List ℕ) (at t : ℕ) : Type 0 where
  tick : t ≤ most_ticks
  good : good_record c t (drop at (words s)) ≡ true
  rest : whole_from c (ticks_from (t + 1)) (t + 1) (drop (record_size (length c.outputs) (drop at (words s))) (drop at (words s))) ≡ true

here : (c : Circuit) (s : List ℕ) (at t : ℕ) → at < length s / 8 → whole_from c (ticks_from t) t (drop at (words s)) ≡ true → Here c s at t
here c s at t h w = go (ticks_from t) refl (split c (ticks_from t) t (drop at (words s)) (more_there s at h) w)
  where
    go : (n : ℕ) → ticks_from t ≡ n → Split c n t (drop at (words s)) → Here c s at t
    go zero e v = absurd v
    go (suc n) e v =
        let p : n ≡ ticks_from (t + 1) = omega (arith, e) in
        let q : suc t ≡ t + 1 = omega arith in
        record {
          tick = omega (arith, e);
          good = v.0;
          rest = (λ j. whole_from c (sym p j) (sym q j) (drop (record_size (length c.outputs) (drop at (words s))) (drop at (words s)))) ∙ v.1;
        }

-- a record has a head at the least, and ends where its outputs do
pub size_least : (outs : ℕ) (ws : List ℕ) → (head_size ≤ record_size outs ws) × (shown_at ws ≤ record_size outs ws)
unfolding record_size shown_at carried_at
size_least outs ws = (omega arith, omega arith)

-- ---- one record more: at word `at` begins that of tick t, and the next behind it, at word x

module _ (outs : ℕ) (s : List ℕ) (at t : ℕ) (h : at < length s / 8) (l : Left outs s at t) where
  it : Here l.circuit s at t
  it = here l.circuit s at t h l.whole

  pub tick_left : t ≤ most_ticks
  tick_left = it.tick

  -- as many outputs, as many words
  same_size : record_size outs (drop at (words s)) ≡ record_size (length l.circuit.outputs) (drop at (words s))
  same_size = ap (λ (n : ℕ). record_size n (drop at (words s))) l.outputs

  pub fits_here : Fits outs s at
  fits_here =
      let g = tested l.circuit t (drop at (words s)) it.good in
      let f = g.fits in
      let k = (size_least outs (drop at (words s))).1 in
      record {
        stands = record { begun = g.begun; carried = g.carried; room = omega (arith, f, k, same_size, room_is s at, h) };
        room = omega (arith, f, same_size, room_is s at, h);
      }

  module _ {n x : ℕ} (en : n ≡ min (record_size outs (drop at (words s))) (length s / 8 - at)) (ex : x ≡ at + n) where
    -- the next one begins behind it
    behind : x ≡ at + record_size outs (drop at (words s))
    behind = let f = fits_here.room in omega (arith, f, en, ex, h)

    pub goes_on : (at < x) × (x ≤ length s / 8)
    goes_on = let f = fits_here.room in let k = (size_least outs (drop at (words s))).0 in (omega (arith, behind, k), omega (arith, behind, f))

    next_words : drop (record_size outs (drop at (words s))) (drop at (words s)) ≡ drop x (words s)
    next_words = drop-drop (record_size outs (drop at (words s))) at (words s) ∙ ap (λ (k : ℕ). drop k (words s)) (sym behind)

    pub walk_next : Left outs s x (t + 1)
    walk_next =
        let z = ap (λ (k : ℕ). drop k (drop at (words s))) (sym same_size) ∙ next_words in
        record {
          circuit = l.circuit;
          outputs = l.outputs;
          whole = ap (whole_from l.circuit (ticks_from (t + 1)) (t + 1)) (sym z) ∙ it.rest;
        }

    pub records_next : records_left outs s at t ≡ record_at outs (drop at (words s)) ∷ records_left outs s x (t + 1)
    unfolding records_left records_in
    records_next =
        let l = tick_left in
        let p : ticks_from t ≡ suc (ticks_from (t + 1)) = omega (arith, l) in
        ap (λ (n : ℕ). records_in outs n (drop at (words s))) p
        ∙ when_more (eqb (length (drop at (words s))) 0) [] (record_at outs (drop at (words s)) ∷ records_in outs (ticks_from (t + 1)) (drop (record_size outs (drop at (words s))) (drop at (words s)))) (more_there s at h)
        ∙ ap (λ (l : List ℕ). record_at outs (drop at (words s)) ∷ records_in outs (ticks_from (t + 1)) l) next_words

-- behind the last word there is no record
pub records_over : (outs : ℕ) (s : List ℕ) (at t : ℕ) → length s / 8 ≤ at → records_left outs s at t ≡ []
unfolding records_left records_in
records_over outs s at t h = go (ticks_from t) (drop at (words s)) (omega (arith, room_is s at, h))
  where
    go : (n : ℕ) (ws : List ℕ) → length ws ≡ 0 → records_in outs n ws ≡ []
    go zero ws z = refl
    go (suc n) [] z = refl
    go (suc n) (w ∷ ws) z = absurd (omega (arith, z))
