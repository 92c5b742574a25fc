-- A record that begins at a word of a log: one law for each way out of its test.
use mathlib.Core.Path.{◌≡◌, sym, ap, ◌∙◌}
use mathlib.Core.Bool.{Bool, true, false, not, true≢false}
use mathlib.Core.List.{List}
use Rattle.std.specs.Prelude.{Some, None}
use Prim.Native.Nat.{ℕ, ◌+◌, ◌-◌, ◌*◌, ◌/◌, ◌≤◌, ◌<◌, min}
use native.Mathlib.Omega.{arith}
use lib.Dec.{leb, eqb}
use lib.ListN.{length, take, drop}
use lib.Seq.{drop-drop}
use borrow.Author.Tests.{leb-true, le-leb}
use Rattle.words.specs.Words.{words}
use Rattle.model.specs.Base.{if◌then◌otherwise◌, all, both}
use Rattle.model.specs.Circuit.{Circuit, part}
use Rattle.model.specs.Record.{head_size, begun_count, carried_count, stop_in, shown_count, carried_at, shown_at, record_size, listed, units_at}
use Rattle.model.specs.Questions.{yes_all}
use Rattle.model.proofs.Lists.{both_true, not_so}
use Rattle.circuit.proofs.Asking.{no, yes}
use Rattle.walk.specs.Walk.{Stands}
use Rattle.walk.proofs.Walk.{room_is, size_least}
use Rattle.records.specs.Whole.{good_unit, good_output, good_outputs, good_stop, good_head, good_rows, good_record}
use Rattle.whole.specs.Asked.{size_if_good}
use Rattle.whole.proofs.Heads.{head_counts}

-- ---- rows of a record that begins at word `at`

module _ (ws : List ℕ) (at : ℕ) where
  part_behind : (k n : ℕ) → part (drop at ws) k n ≡ part ws (at + k) n
  unfolding part
  part_behind k n = ap (take n) (drop-drop k at ws)

  -- the second of two rows
  second_behind : (k n : ℕ) → part (drop at ws) (k + n) n ≡ part ws (at + k + n) n
  second_behind k n = let e : at + (k + n) ≡ at + k + n = omega arith in part_behind (k + n) n ∙ ap (λ (x : ℕ). part ws x n) e

  units_behind : (k n : ℕ) → units_at (drop at ws) k n ≡ units_at ws (at + k) n
  unfolding units_at
  units_behind k n = λ j. both listed (part_behind k n j) (second_behind k n j)

  outputs_behind : (c : Circuit) (k n : ℕ) → good_outputs c (drop at ws) k n ≡ good_outputs c ws (at + k) n
  unfolding good_outputs
  outputs_behind c k n = λ j. yes_all (both (λ f b. f b) (both good_output c.outputs (part_behind k n j)) (second_behind k n j))

module _ (c : Circuit) (s : List ℕ) (at n k : ℕ) (en : n ≡ begun_count (drop at (words s))) (ek : k ≡ carried_count (drop at (words s))) where
  abbrev ws : List ℕ
  ws = words s

  abbrev here : List ℕ
  here = drop at (words s)

  begun_are : all (good_unit c) (units_at here head_size (begun_count here)) ≡ all (good_unit c) (units_at ws (at + head_size) n)
  begun_are = ap (all (good_unit c)) (units_behind ws at head_size (begun_count here) ∙ ap (units_at ws (at + head_size)) (sym en))

  -- the carried units stand behind those begun
  carried_are : all (good_unit c) (units_at here (carried_at here) (carried_count here)) ≡ all (good_unit c) (units_at ws (at + head_size + 2 * n) k)
  unfolding carried_at
  carried_are =
      let p : at + (head_size + 2 * begun_count here) ≡ at + head_size + 2 * n = omega (arith, en) in
      ap (all (good_unit c)) (units_behind ws at (head_size + 2 * begun_count here) (carried_count here) ∙ (λ j. units_at ws (p j) (sym ek j)))

  -- both rows fit where the record does
  module _ (fits : (at + record_size (length c.outputs) here) * 8 ≤ length s) where
    pub begun_fit : (at + head_size + 2 * n) * 8 ≤ length s
    unfolding record_size shown_at carried_at
    begun_fit = omega (arith, en, fits)

    pub carried_fit : (at + head_size + 2 * n + 2 * k) * 8 ≤ length s
    unfolding record_size shown_at carried_at
    carried_fit = omega (arith, en, ek, fits)

  module _ (t : Bool) (e : t ≡ all (good_unit c) (units_at ws (at + head_size) n)) where
    pub bad_begun : not t ≡ true → false ≡ good_rows c here
    unfolding good_rows
    bad_begun h = rw (begun_are ∙ no t _ e h)

    module _ (h : not t ≡ false) (u : Bool) (f : u ≡ all (good_unit c) (units_at ws (at + head_size + 2 * n) k)) where
      pub bad_carried : not u ≡ true → false ≡ good_rows c here
      unfolding good_rows
      bad_carried i = rw (begun_are ∙ yes t _ e h, carried_are ∙ no u _ f i)

      module _ (i : not u ≡ false) (p o : ℕ) (ep : p ≡ at + shown_at here) (eo : o ≡ shown_count (length c.outputs) here) where
        pub rows_are : (v : Bool) → v ≡ good_outputs c ws p o → v ≡ good_rows c here
        unfolding good_rows
        rows_are v g =
            let q : good_outputs c here (shown_at here) (shown_count (length c.outputs) here) ≡ good_outputs c ws p o =
            outputs_behind ws at c (shown_at here) (shown_count (length c.outputs) here) ∙ (λ j. good_outputs c ws (sym ep j) (sym eo j)) in
            rw (begun_are ∙ yes t _ e h, carried_are ∙ yes u _ f i) (g ∙ sym q)

-- the outputs fit there too
pub shown_fit :
    (c : Circuit) (s : List ℕ) (at p o : ℕ) → p ≡ at + shown_at (drop at (words s)) → o ≡ shown_count (length c.outputs) (drop at (words s)) →
    (at + record_size (length c.outputs) (drop at (words s))) * 8 ≤ length s → (p + 2 * o) * 8 ≤ length s
unfolding record_size
shown_fit c s at p o ep eo fits = omega (arith, ep, eo, fits)

-- ---- the record

-- what a good record says
pub record Says (c : Circuit) (t : ℕ) (ws : List ℕ) : Type 0 where
  pub fits : record_size (length c.outputs) ws ≤ length ws
  pub head : good_head t ws ≡ true
  pub stop : good_stop (stop_in ws) (eqb (record_size (length c.outputs) ws) (length ws)) ≡ true
  pub rows : good_rows c ws ≡ true

pub says : (c : Circuit) (t : ℕ) (ws : List ℕ) → good_record c t ws ≡ true → Says c t ws
unfolding good_record
says c t ws₀ h =
    let a = both_true _ _ h in
    let b = both_true _ _ a.1 in
    let d = both_true _ _ b.1 in
    record { fits = leb-true _ _ a.0; head = b.0; stop = d.0; rows = d.1 }

-- where none begins
no_size : (c : Circuit) (t : ℕ) (ws : List ℕ) → (Says c t ws → ⊥) → None ≡ size_if_good c t ws
unfolding size_if_good if◌then◌otherwise◌
no_size c t ws n = rw (not_so (good_record c t ws) (λ h. n (says c t ws h)))

module _ (c : Circuit) (s : List ℕ) (at t o n : ℕ) (eo : o ≡ length c.outputs) (en : n ≡ min (record_size o (drop at (words s))) (length s / 8 - at + 1)) where
  abbrev there : List ℕ
  there = drop at (words s)

  counted : n ≡ min (record_size (length c.outputs) there) (length s / 8 - at + 1)
  counted = en ∙ ap (λ (x : ℕ). min (record_size x there) (length s / 8 - at + 1)) eo

  pub no_fit : length s / 8 - at < n → None ≡ size_if_good c t there
  no_fit h = no_size c t there (λ q. omega (arith, q.fits, counted, room_is s at, h))

  module _ (fits : n ≤ length s / 8 - at) where
    -- it was not cut
    size_is : n ≡ record_size (length c.outputs) there
    size_is = omega (arith, counted, fits)

    pub record_fits : at * 8 ≤ length s → (at + record_size (length c.outputs) there) * 8 ≤ length s
    record_fits l = omega (arith, size_is, fits, l)

    module _ (b : Bool) (eb : b ≡ good_head t there) where
      pub no_head : not b ≡ true → None ≡ size_if_good c t there
      no_head h = no_size c t there (λ q. true≢false (sym q.head ∙ no b _ eb h))

      module _ (hb : not b ≡ false) where
        pub stands : at * 8 ≤ length s → Stands s at
        stands l =
            let k = head_counts t there (yes b _ eb hb) in
            let z = (size_least (length c.outputs) there).1 in
            record { begun = k.0; carried = k.1; room = omega (arith, record_fits l, z) }

        module _ (p : ℕ) (ep : p ≡ stop_in there) (d : Bool) (ed : d ≡ good_stop p (eqb n (length s / 8 - at))) where
          stopped : d ≡ good_stop (stop_in there) (eqb (record_size (length c.outputs) there) (length there))
          stopped = ed ∙ (λ j. good_stop (ep j) (eqb (size_is j) (sym (room_is s at) j)))

          pub bad_stop : not d ≡ true → None ≡ size_if_good c t there
          bad_stop h = no_size c t there (λ q. true≢false (sym q.stop ∙ no d _ stopped h))

          module _ (hd : not d ≡ false) (f : Bool) (ef : f ≡ good_rows c there) where
            pub bad_rows : not f ≡ true → None ≡ size_if_good c t there
            bad_rows h = no_size c t there (λ q. true≢false (sym q.rows ∙ no f _ ef h))

            pub good_sized : not f ≡ false → Some n ≡ size_if_good c t there
            unfolding size_if_good if◌then◌otherwise◌ good_record
            good_sized hf =
                let x : leb (record_size (length c.outputs) there) (length there) ≡ true =
                le-leb (record_size (length c.outputs) there) (length there) (omega (arith, size_is, room_is s at, fits)) in
                rw (x, yes b _ eb hb, yes d _ stopped hd, yes f _ ef hf) (ap Some size_is)
