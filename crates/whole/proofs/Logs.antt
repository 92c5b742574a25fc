-- A log, record by record: what is left of it gives the same as the whole of it. And what a reader has asked.
use mathlib.Core.Path.{◌≡◌, refl, sym, ap, ◌∙◌}
use mathlib.Core.Bool.{Bool, true, false, ◌&&◌}
use mathlib.Core.List.{List}
use mathlib.Core.Option.{none}
use Rattle.std.specs.Prelude.{Some, None}
use Prim.Native.Nat.{ℕ, zero, suc, ◌+◌, ◌-◌, ◌/◌, ◌%◌, ◌≤◌, ◌<◌}
use native.Mathlib.Omega.{arith}
use lib.ListN.{length, drop}
use lib.Seq.{drop-drop}
use lib.Dec.{eqb}
use borrow.Author.Tests.{eq-eqb, ne_eqb, eqb-true, eqb-false}
use Rattle.words.specs.Words.{words}
use Rattle.model.specs.Base.{if◌then◌otherwise◌}
use Rattle.model.specs.Circuit.{Circuit, circuit}
use Rattle.model.specs.Record.{record_size}
use Rattle.model.specs.Script.{most_ticks}
use Rattle.model.specs.Questions.{circuit_refusal}
use Rattle.links.specs.Links.{net}
use Rattle.circuit.specs.Refusals.{links_after}
use Rattle.circuit.proofs.Order.{first_number, later_number}
use Rattle.circuit.proofs.Theorems.{links_are_circuit}
use Rattle.records.specs.Whole.{good_record, whole_from, whole, not_whole, log_refusal}
use Rattle.whole.specs.Asked.{size_if_good, Asked}
use Rattle.walk.proofs.Walk.{room_is}
use Rattle.whole.proofs.Records.{says}

module _ (c : Circuit) where
  -- no record is whole
  nothing_left : (n t : ℕ) (ws : List ℕ) → length ws ≡ 0 → whole_from c n t ws ≡ true
  unfolding whole_from
  nothing_left zero t ws z = eq-eqb (length ws) 0 z
  nothing_left (suc n) t ws z = rw (eq-eqb (length ws) 0 z, whole_from)

  -- the first of several
  one_more : (n t : ℕ) (ws : List ℕ) → (length ws ≡ 0 → ⊥) → whole_from c (suc n) t ws ≡ (good_record c t ws && whole_from c n (suc t) (drop (record_size (length c.outputs) ws) ws))
  unfolding whole_from
  one_more n t ws z = rw (ne_eqb (length ws) 0 z, whole_from)

  -- they begin with a good record of n words
  sized : (t : ℕ) (ws : List ℕ) (n : ℕ) → Some n ≡ size_if_good c t ws → (n ≡ record_size (length c.outputs) ws) × (good_record c t ws ≡ true)
  unfolding size_if_good if◌then◌otherwise◌
  sized t ws n e = go (good_record c t ws) refl e
    where
      go : (b : Bool) → good_record c t ws ≡ b → Some n ≡ (if b then Some (record_size (length c.outputs) ws) otherwise None)
          → (n ≡ record_size (length c.outputs) ws) × (good_record c t ws ≡ true)
      go true q f = let z : n ≡ record_size (length c.outputs) ws = cc in (z, q)
      go false q f = cc

  -- they begin with none
  unsized : (t : ℕ) (ws : List ℕ) → None ≡ size_if_good c t ws → good_record c t ws ≡ false
  unfolding size_if_good if◌then◌otherwise◌
  unsized t ws e = go (good_record c t ws) refl e
    where
      go : (b : Bool) → good_record c t ws ≡ b → None ≡ (if b then Some (record_size (length c.outputs) ws) otherwise None) → good_record c t ws ≡ false
      go true q f = cc
      go false q f = q

module _ (c : Circuit) (s : List ℕ) where
  pub odd_bytes : (length s % 8 ≡ 0 → ⊥) → false ≡ whole c s
  unfolding whole
  odd_bytes n = rw (ne_eqb (length s % 8) 0 n)

  -- what is left, from word `at` and tick t on
  unfoldable pub left_whole : ℕ → ℕ → Bool
  left_whole at t = whole_from c (suc most_ticks - t) t (drop at (words s))

  pub whole_begins : length s % 8 ≡ 0 → left_whole 0 1 ≡ whole c s
  unfolding whole left_whole
  whole_begins h = rw (eq-eqb (length s % 8) 0 h)

  pub all_passed : (at t : ℕ) → left_whole at t ≡ whole c s → length s / 8 ≤ at → true ≡ whole c s
  unfolding left_whole
  all_passed at t e h = sym (nothing_left c (suc most_ticks - t) t (drop at (words s)) (omega (arith, room_is s at, h))) ∙ e

  module _ (at t : ℕ) (e : left_whole at t ≡ whole c s) (l : at < length s / 8) where
    some_left : length (drop at (words s)) ≡ 0 → ⊥
    some_left z = omega (arith, z, room_is s at, l)

    pub too_many : most_ticks < t → false ≡ whole c s
    unfolding left_whole whole_from
    too_many h =
        let p : suc most_ticks - t ≡ 0 = omega (arith, h) in
        let q : whole_from c (suc most_ticks - t) t (drop at (words s)) ≡ false = rw p (ne_eqb (length (drop at (words s))) 0 some_left) in
        sym q ∙ e

    module _ (h : t ≤ most_ticks) where
      step : left_whole at t ≡ (good_record c t (drop at (words s)) && whole_from c (suc most_ticks - (t + 1)) (t + 1) (drop (record_size (length c.outputs) (drop at (words s))) (drop at (words s))))
      unfolding left_whole
      step =
          let p : suc most_ticks - t ≡ suc (suc most_ticks - (t + 1)) = omega (arith, h) in
          let q : suc t ≡ t + 1 = omega arith in
          ap (λ (x : ℕ). whole_from c x t (drop at (words s))) p
          ∙ one_more c (suc most_ticks - (t + 1)) t (drop at (words s)) some_left
          ∙ ap (λ (x : ℕ). good_record c t (drop at (words s)) && whole_from c (suc most_ticks - (t + 1)) x (drop (record_size (length c.outputs) (drop at (words s))) (drop at (words s)))) q

      pub no_record : None ≡ size_if_good c t (drop at (words s)) → false ≡ whole c s
      no_record z = let q = unsized c t (drop at (words s)) z in sym (step ∙ rw q) ∙ e

      module _ (n : ℕ) (en : Some n ≡ size_if_good c t (drop at (words s))) where
        pub record_passed : left_whole (at + n) (t + 1) ≡ whole c s
        unfolding left_whole
        record_passed =
            let q = sized c t (drop at (words s)) n en in
            let d : drop (record_size (length c.outputs) (drop at (words s))) (drop at (words s)) ≡ drop (at + n) (words s) = ap (λ (x : ℕ). drop x (drop at (words s))) (sym q.0) ∙ drop-drop n at (words s) in
            sym (step ∙ rw (q.1, d)) ∙ e

        -- it is in the log
        pub record_within : at + n ≤ length s / 8
        record_within = let q = sized c t (drop at (words s)) n en in let f = (says c t (drop at (words s)) q.1).fits in omega (arith, q.0, f, room_is s at, l)

  -- no tick is left
  pub at_end : (at t n : ℕ) → n ≡ length s / 8 → at ≤ length s / 8 → left_whole at t ≡ whole c s → most_ticks < t → eqb at n ≡ whole c s
  at_end at t n m l e h = go (eqb at n) refl
    where
      go : (b : Bool) → eqb at n ≡ b → b ≡ whole c s
      go true q = let z = eqb-true at n q in all_passed at t e (omega arith)
      go false q = let z = eqb-false at n q in too_many at t e (omega arith) h

-- ---- what a reader has asked

module _ (bytes log links made : List ℕ) (x : ℕ) (e : (x ≡ circuit_refusal none bytes) × (made ≡ links_after bytes links)) where
  -- the circuit refuses it
  pub asked_early : (x ≡ 0 → ⊥) → Asked bytes log links made x
  unfolding log_refusal
  asked_early n = record { number = first_number x _ _ e.0 n; links_made = e.1; shows = λ z. absurd (n z) }

  module _ (z : x ≡ 0) (t : Bool) (et : t ≡ whole (net made) log) where
    shown : net made ≡ circuit (words bytes)
    shown = links_are_circuit none bytes links made (sym e.0 ∙ z) e.1

    tested : t ≡ whole (circuit (words bytes)) log
    tested = et ∙ ap (λ (c : Circuit). whole c log) shown

    -- it is whole, or not
    pub asked_whole : t ≡ true → Asked bytes log links made 0
    unfolding log_refusal if◌then◌otherwise◌
    asked_whole h = record { number = later_number x 0 _ _ e.0 z (rw (← tested, h)); links_made = e.1; shows = λ q. shown }

    pub asked_not_whole : t ≡ false → Asked bytes log links made not_whole
    unfolding log_refusal if◌then◌otherwise◌
    asked_not_whole h = record { number = later_number x not_whole _ _ e.0 z (rw (← tested, h)); links_made = e.1; shows = λ q. shown }
