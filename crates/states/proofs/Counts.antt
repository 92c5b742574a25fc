-- The count of narrowings: one law for each way out of the functions of counting.rt.
use Prim.Native.Nat.{ℕ, suc, ◌+◌, ◌*◌, ◌≤◌, ◌<◌, min}
use mathlib.Core.Path.{◌≡◌, refl, sym, ap, ap₂, ◌∙◌}
use mathlib.Core.Bool.{Bool, true, false, not}
use mathlib.Core.List.{List, ◌++◌}
use native.Mathlib.Omega.{arith}
use mir.Val.{bool_byte}
use borrow.Author.Tests.{lt-ltb, le-ltb, not-true, not-false}
use lib.Dec.{leb}
use lib.ListN.{length, get_or, set, take, drop}
use lib.Seq.{take-set-le, drop-set-lt, get_or-take, get_or-set_same}
use Rattle.words.specs.Words.{words, tail, Stored}
use Rattle.words.proofs.Laws.{words_long}
use Rattle.model.specs.Base.{if◌then◌otherwise◌}
use Rattle.model.specs.Value.{bit}
use Rattle.model.specs.Circuit.{Circuit, kind_of_gate, gates}
use Rattle.model.specs.Questions.{queues}
use Rattle.model.specs.Exec.{most_changed, tally}
use Rattle.links.specs.Links.{net, cell}
use Rattle.links.proofs.Reading.{gates_counted}
use Rattle.states.specs.View.{slot_at, changed_at, queue_at, delay_of, records_at, delay_at, delays, with_changed, counting}
use Rattle.states.proofs.Lists.{part_front, part_before, part_behind, drop_behind, from_same}
use Rattle.states.proofs.Lending.{still}
use Rattle.states.proofs.Stores.{bit_is}

-- another word in its place, and nothing else
module _ (c : Circuit) (bs ds : List ℕ) (n x : ℕ) (l : queue_at 0 * 8 ≤ length bs) (en : (n ≡ length c.kinds) × (n ≤ 64)) (e : words ds ≡ set (words bs) changed_at x) where
  before_count : take changed_at (words ds) ≡ take changed_at (words bs)
  before_count = ap (take changed_at) e ∙ take-set-le changed_at (words bs) changed_at x (omega arith)

  behind_count : drop (queue_at 0) (words ds) ≡ drop (queue_at 0) (words bs)
  behind_count = ap (drop (queue_at 0)) e ∙ drop-set-lt (queue_at 0) (words bs) changed_at x (omega arith)

  records_kept : (h : ℕ) → h < 64 → records_at c (words ds) h ≡ records_at c (words bs) h
  unfolding records_at
  records_kept h u =
      let w : get_or (words ds) h 0 ≡ get_or (words bs) h 0 = sym (get_or-take changed_at (words ds) h 0 (omega arith)) ∙ ap (λ (t : List ℕ). get_or t h 0) before_count ∙ get_or-take changed_at (words bs) h 0 (omega arith) in
      rw (w, part_behind (queue_at 0) (queue_at (get_or (words bs) h 0)) 4354 (words bs) (words ds) (omega arith) behind_count)

  delay_kept : (h : ℕ) → h < 64 → delay_at c (words ds) h ≡ delay_at c (words bs) h
  unfolding delay_at
  delay_kept h u = ap₂ (delay_of (leb 12 (kind_of_gate c h))) (part_before changed_at (slot_at h) 43 (words bs) (words ds) (omega arith) before_count) (records_kept h u)

  pub recounted : tail ds ≡ tail bs → delays c ds ≡ with_changed (delays c bs) x
  unfolding delays gates
  recounted t =
      let here : get_or (words ds) changed_at 0 ≡ x = ap (λ (t : List ℕ). get_or t changed_at 0) e ∙ get_or-set_same (words bs) changed_at x 0 (omega (arith, words_long (queue_at 0) bs l)) in
      let slots = from_same (delay_at c (words bs)) (delay_at c (words ds)) 0 (length c.kinds) (λ h _ u. delay_kept h (omega (arith, en.0))) in
      let behind = drop_behind (queue_at 0) (queue_at (queues c)) (words bs) (words ds) (omega arith) behind_count in
      λ j. record { delays = slots j; changed = here j; parts = part_front changed_at 64 (words bs) (words ds) (omega arith) before_count j; rest = behind j ++ t j }

-- a word is put there, in the area of the circuit that links show
module _ (l bs : List ℕ) (fit : queue_at 0 * 8 ≤ length bs) where
  put_count : (ds : List ℕ) (x : ℕ) → Stored bs ds changed_at x → delays (net l) ds ≡ with_changed (delays (net l) bs) x
  put_count ds x p = recounted (net l) bs ds (min (cell l 0) 64) x fit (gates_counted l (min (cell l 0) 64) refl) p.words p.tail

  -- a tick begins
  pub begins : (b : Bool) (x : ℕ) (ds : List ℕ) → x ≡ bool_byte b → Stored bs ds changed_at x → delays (net l) ds ≡ with_changed (delays (net l) bs) (bit b)
  begins b x ds e p = put_count ds x p ∙ ap (with_changed (delays (net l) bs)) (bit_is b x e)

  -- none more, one more, or as many as are counted
  pub counts_none : (b : Bool) → not b ≡ true → delays (net l) bs ≡ counting (delays (net l) bs) b
  counts_none b e = rw (not-true b e) (still _)

  pub counts_one : (b : Bool) (n : ℕ) (ds : List ℕ) → not b ≡ false → n ≡ get_or (words bs) changed_at 0 → n < most_changed → Stored bs ds changed_at (n + 1)
      → delays (net l) ds ≡ counting (delays (net l) bs) b
  unfolding tally delays if◌then◌otherwise◌
  counts_one b n ds e en h p =
      let one : n + 1 ≡ suc n = omega arith in
      rw (not-false b e, ← en, lt-ltb n most_changed h) (put_count ds (n + 1) p ∙ ap (with_changed (delays (net l) bs)) one)

  pub counts_most : (b : Bool) (n : ℕ) → not b ≡ false → n ≡ get_or (words bs) changed_at 0 → most_changed ≤ n → delays (net l) bs ≡ counting (delays (net l) bs) b
  unfolding tally delays if◌then◌otherwise◌
  counts_most b n e en h = rw (not-false b e, ← en, le-ltb n most_changed h) refl
