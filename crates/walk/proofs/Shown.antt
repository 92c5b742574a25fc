-- What an output shows in a record of a tick that no stop ended.
use Prim.Native.Nat.{ℕ, zero, suc, ◌+◌, ◌/◌, ◌≤◌, ◌<◌}
use mathlib.Core.Path.{◌≡◌, refl, sym, ap, ◌∙◌}
use mathlib.Core.Bool.{Bool, true}
use mathlib.Core.List.{List, [], ◌∷◌}
use native.Mathlib.Omega.{arith}
use lib.Dec.{eqb}
use lib.ListN.{length, get_or, drop, length-drop}
use lib.Seq.{get_or-drop, get_or-take}
use Rattle.words.specs.Words.{words}
use Rattle.words.proofs.Laws.{count_words}
use Rattle.model.specs.declared.Value.{Value}
use Rattle.model.specs.declared.Value.TheVariants.{Nothing}
use Rattle.model.specs.Base.{if◌then◌otherwise◌, both}
use Rattle.model.specs.Value.{value_of}
use Rattle.model.specs.Circuit.{part}
use Rattle.model.specs.Record.{stop_in, shown_at, shown_count, record_size, outputs_at, record_at}
use Rattle.records.specs.Records.{shown_in}
use Rattle.records.proofs.Again.{part_length}
use Rattle.walk.specs.Walk.{Fits, shown_there}

both_at : (ks bs : List ℕ) (o : ℕ) → o < length ks → length ks ≡ length bs → get_or (both value_of ks bs) o Nothing ≡ value_of (get_or ks o 0) (get_or bs o 0)
unfolding both
both_at [] bs o h e = absurd (omega (arith, h))
both_at (k ∷ ks) [] o h e = absurd (omega (arith, e))
both_at (k ∷ ks) (b ∷ bs) zero h e = refl
both_at (k ∷ ks) (b ∷ bs) (suc o) h e = both_at ks bs o (omega (arith, h)) (omega (arith, e))

-- a word of a part of the record
part_there : (s : List ℕ) (at k n o y : ℕ) → o < n → at + (k + o) ≡ y → get_or (part (drop at (words s)) k n) o 0 ≡ get_or (words s) y 0
unfolding part
part_there s at k n o y h e =
    get_or-take n (drop k (drop at (words s))) o 0 h ∙ get_or-drop k (drop at (words s)) o 0 ∙ get_or-drop at (words s) (k + o) 0 ∙ ap (λ (i : ℕ). get_or (words s) i 0) e

module _ (outs : ℕ) (s : List ℕ) (at : ℕ) {k : ℕ} {b : Bool} (e : b ≡ eqb (stop_in (drop at (words s))) 0) (h : b ≡ true) (ek : k ≡ at + shown_at (drop at (words s))) (f : Fits outs s at) where
  all_shown : shown_count outs (drop at (words s)) ≡ outs
  unfolding shown_count if◌then◌otherwise◌
  all_shown = rw (sym e ∙ h)

  -- the two rows stand in the log
  pub shown_fits : k + outs + outs ≤ length s / 8
  unfolding record_size
  shown_fits = let r = f.room in omega (arith, all_shown, ek, r)

  outs_are : (record_at outs (drop at (words s))).outs ≡ both value_of (part (drop at (words s)) (shown_at (drop at (words s))) outs) (part (drop at (words s)) (shown_at (drop at (words s)) + outs) outs)
  unfolding record_at outputs_at
  outs_are = λ j. both value_of (part (drop at (words s)) (shown_at (drop at (words s))) (all_shown j)) (part (drop at (words s)) (shown_at (drop at (words s)) + all_shown j) (all_shown j))

  -- what output o shows
  pub value_there : (o : ℕ) → o < outs → shown_in o (record_at outs (drop at (words s))) ≡ shown_there s outs k o
  unfolding shown_in shown_there
  value_there o l =
      let ws = drop at (words s) in
      let q = shown_at (drop at (words s)) in
      let room : q + outs + outs ≤ length ws = omega (arith, shown_fits, ek, length-drop at (words s), count_words s) in
      let lk : length (part ws q outs) ≡ outs = part_length ws q outs (omega (arith, room)) in
      let lb : length (part ws (q + outs) outs) ≡ outs = part_length ws (q + outs) outs room in
      ap (λ (vs : List Value). get_or vs o Nothing) outs_are
      ∙ both_at (part ws q outs) (part ws (q + outs) outs) o (omega (arith, lk, l)) (lk ∙ sym lb)
      ∙ (λ j. value_of (part_there s at q outs o (k + o) l (omega (arith, ek)) j) (part_there s at (q + outs) outs o (k + outs + o) l (omega (arith, ek)) j))
