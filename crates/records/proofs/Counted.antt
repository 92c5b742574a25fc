-- The ticks of a whole log count up by 1, and only the last record may be a stopped one.
use mathlib.Core.Path.{◌≡◌, refl, sym, ap, ◌∙◌}
use mathlib.Core.Bool.{Bool, true, false, ◌&&◌, ◌||◌}
use mathlib.Core.List.{List, [], ◌∷◌}
use Prim.Native.Nat.{ℕ, zero, suc}
use native.Mathlib.Omega.{arith}
use lib.Dec.{eqb}
use lib.ListN.{length, drop, drop_of_length-le}
use borrow.Author.Tests.{eqb-true}
use Rattle.model.specs.Circuit.{Circuit, word_at}
use Rattle.schedule.specs.Schedule.{list_full}
use Rattle.model.specs.Chain.{runaway}
use Rattle.model.specs.Record.{LogRecord, stop_in, record_at, record_size}
use Rattle.model.proofs.Lists.{both_true}
use Rattle.records.specs.Whole.{good_record, good_stop, whole_from}
use Rattle.records.specs.Records.{records_in}
use Rattle.records.proofs.Again.{Tested, tested}

-- ticks t, t + 1, ..; behind a stopped record nothing
abbrev pub Counted : ℕ → List LogRecord → Type 0
Counted t [] = Unit {0}
Counted t (r ∷ rs) = (r.tick ≡ t) × (eqb r.stop 0 ≡ false → rs ≡ []) × Counted (suc t) rs

-- nothing is read of no words
none_read : (n left : ℕ) → records_in n left [] ≡ []
unfolding records_in
none_read n zero = refl
none_read n (suc left) = refl

-- a stopped record is the last
last_stopped : (c : Circuit) (t : ℕ) (ws : List ℕ) → Tested c t ws → eqb (stop_in ws) 0 ≡ false → drop (record_size (length c.outputs) ws) ws ≡ []
unfolding good_stop
last_stopped c t ws h e =
    let k : ((eqb (stop_in ws) runaway || eqb (stop_in ws) list_full) && eqb (record_size (length c.outputs) ws) (length ws)) ≡ true = rw e at h.stop in
    let q = eqb-true (record_size (length c.outputs) ws) (length ws) (both_true ((eqb (stop_in ws) runaway || eqb (stop_in ws) list_full)) (eqb (record_size (length c.outputs) ws) (length ws)) k).1 in
    drop_of_length-le ws {i = record_size (length c.outputs) ws} (omega (arith, q))

stop_is : (n : ℕ) (ws : List ℕ) → (record_at n ws).stop ≡ stop_in ws
unfolding record_at
stop_is n ws = refl

tick_is : (n : ℕ) (ws : List ℕ) → (record_at n ws).tick ≡ word_at ws 0
unfolding record_at
tick_is n ws = refl

pub whole_counted : (c : Circuit) (left t : ℕ) (ws : List ℕ) → whole_from c left t ws ≡ true → Counted t (records_in (length c.outputs) left ws)
unfolding whole_from records_in
whole_counted c zero t ws h = tt
whole_counted c (suc left) t ws h = go (λ v. whole_counted c left (suc t) v) (eqb (length ws) 0) h
  where
    go :
        ((v : List ℕ) → whole_from c left (suc t) v ≡ true → Counted (suc t) (records_in (length c.outputs) left v)) → (b : Bool) →
        (elim b [ true ↦ true | false ↦ good_record c t ws && whole_from c left (suc t) (drop (record_size (length c.outputs) ws) ws) ]) ≡ true →
        Counted t (elim b [ true ↦ [] | false ↦ record_at (length c.outputs) ws ∷ records_in (length c.outputs) left (drop (record_size (length c.outputs) ws) ws) ])
    go rec true k = tt
    go rec false k =
        let q = both_true (good_record c t ws) (whole_from c left (suc t) (drop (record_size (length c.outputs) ws) ws)) k in
        let h = tested c t ws q.0 in (
          tick_is (length c.outputs) ws ∙ h.tick,
          λ e. ap (records_in (length c.outputs) left) (last_stopped c t ws h (ap (λ (x : ℕ). eqb x 0) (sym (stop_is (length c.outputs) ws)) ∙ e)) ∙ none_read (length c.outputs) left,
          rec (drop (record_size (length c.outputs) ws) ws) q.1,
        )
