-- The part of a Queue lent: what the area holds when it is back.
use Prim.Native.Nat.{ℕ, ◌+◌, ◌-◌, ◌*◌, ◌≤◌, ◌<◌}
use mathlib.Core.Path.{◌≡◌, refl, sym, ap, ap₂, ◌∙◌}
use mathlib.Core.Bool.{Bool, true, false}
use mathlib.Core.List.{List, []}
use native.Mathlib.Omega.{arith}
use borrow.Author.Tests.{leb-true, leb-false}
use borrow.Rule.Slice.PartMut.{put_mid}
use lib.Dec.{leb, eqb}
use lib.IntN.{ℤ, pos}
use lib.ListN.{length, get_or, take, drop}
use lib.Seq.{get_or-take}
use mir.Syntax.{w64}
use mir.Val.{to_z, of_z, SFits}
use mir.Facts.{to_z-of_z}
use Rattle.words.specs.Words.{words, tail}
use Rattle.words.proofs.Laws.{words_put, tail_put, words_mid, length_words, words_long}
use Rattle.model.specs.declared.Value.{Value}
use Rattle.model.specs.Base.{if◌then◌otherwise◌}
use Rattle.model.specs.Value.{as_int, as_float}
use Rattle.model.specs.Circuit.{Circuit, part, kind_of_gate}
use Rattle.model.specs.Questions.{queues}
use Rattle.model.specs.State.{Delay, Queued, idle, records≔}
use Rattle.model.specs.Delays.{Started, Moved, moved, in_ticks, in_seconds, queue_record, advance_records}
use Rattle.delays.specs.declared.countdown.Started.{Started as Starting}
use Rattle.delays.specs.States.{counted, started, counts_seconds}
use Rattle.queue.specs.declared.Record.{Record}
use Rattle.std.specs.Prelude.{Option}
use Rattle.queue.specs.Queue.{released, records}
use Rattle.queue.proofs.Laws.{moved_in, advance_in, released_in, queue_record_in}
use Rattle.states.specs.View.{slot_at, changed_at, queue_at, delay_of, is_queue, number, queue_countdown, records_at, delay_at, Delays, delay_in, with_delay, counting, starting, delays, Lent, Moves}
use Rattle.states.proofs.Lists.{part_front, part_before, part_behind, drop_behind, Replaced, replaced}
use Rattle.states.proofs.Lending.{one_changed, delay_here, still}
use Rattle.links.specs.Links.{net}
use Rattle.queues.proofs.Numbers.{number_below, number_rises, queue_there, gates_few}

-- ---- where a Queue's part lies

-- the table says its number
pub part_number : (c : Circuit) (bs : List ℕ) (g : ℕ) → Lent c bs → length c.kinds ≤ 64 → is_queue c g ≡ true → get_or (words bs) g 0 ≡ number c g
unfolding delays
part_number c bs g l m iq = sym (get_or-take 64 (words bs) g 0 (omega (arith, queue_there c g iq))) ∙ l.parted g iq

-- and it lies inside the area
pub part_fits : (c : Circuit) (bs : List ℕ) (g p : ℕ) → Lent c bs → length c.kinds ≤ 64 → is_queue c g ≡ true → p ≡ get_or (words bs) g 0 → queue_at p * 8 + 34832 ≤ length bs
part_fits c bs g p l m iq e = omega (arith, l.room, number_below c g iq, part_number c bs g l m iq)

-- ---- the part lent, which comes back as p

module _ (c : Circuit) (bs p : List ℕ) (g : ℕ) (l : Lent c bs) (iq : is_queue c g ≡ true) (m : length c.kinds ≤ 64) (e : length p ≡ 34832) where
  to : List ℕ
  to = put_mid (queue_at (number c g) * 8) 34832 bs p

  part_back : Replaced (words bs) (words to) (words p) (queue_at (number c g)) 4354
  unfolding to
  part_back =
      rw (words_put (queue_at (number c g)) 4354 bs p (omega (arith, l.room, number_below c g iq)) e)
      (replaced (words bs) (words p) (queue_at (number c g)) 4354 (omega (arith, words_long (queue_at (number c g) + 4354) bs (omega (arith, l.room, number_below c g iq)))) (length_words 4354 p e))

  -- the table of parts and the count are the same
  same_word : (h : ℕ) → h < queue_at 0 → get_or (words to) h 0 ≡ get_or (words bs) h 0
  same_word h u =
      sym (get_or-take (queue_at (number c g)) (words to) h 0 (omega arith)) ∙ ap (λ (t : List ℕ). get_or t h 0) part_back.before ∙ get_or-take (queue_at (number c g)) (words bs) h 0 (omega arith)

  -- and so is each slot
  same_slot : (h : ℕ) → h < 64 → part (words to) (slot_at h) 43 ≡ part (words bs) (slot_at h) 43
  same_slot h u = part_before (queue_at (number c g)) (slot_at h) 43 (words bs) (words to) (omega arith) part_back.before

  -- and the part of each other Queue
  other_part : (h : ℕ) → is_queue c h ≡ true → (h ≡ g → ⊥) → part (words to) (queue_at (number c h)) 4354 ≡ part (words bs) (queue_at (number c h)) 4354
  other_part h ih d = go (leb h g) refl
    where
      go : (b : Bool) → leb h g ≡ b → part (words to) (queue_at (number c h)) 4354 ≡ part (words bs) (queue_at (number c h)) 4354
      go true q =
          let u : h < g = omega (arith, leb-true h g q, d) in
          part_before (queue_at (number c g)) (queue_at (number c h)) 4354 (words bs) (words to) (omega (arith, number_rises c h g u ih)) part_back.before
      go false q =
          part_behind (queue_at (number c g) + 4354) (queue_at (number c h)) 4354 (words bs) (words to) (omega (arith, number_rises c g h (leb-false h g q) iq)) part_back.behind

  other_records : (h : ℕ) → h < 64 → (h ≡ g → ⊥) → records_at c (words to) h ≡ records_at c (words bs) h
  unfolding records_at if◌then◌otherwise◌
  other_records h u d = go (is_queue c h) refl
    where
      go : (b : Bool) → is_queue c h ≡ b
          → (if b then records (eqb (kind_of_gate c h) 17) (part (words to) (queue_at (get_or (words to) h 0)) 4354) otherwise [])
          ≡ (if b then records (eqb (kind_of_gate c h) 17) (part (words bs) (queue_at (get_or (words bs) h 0)) 4354) otherwise [])
      go true ih =
          ap (records (eqb (kind_of_gate c h) 17))
          (ap (λ (i : ℕ). part (words to) (queue_at i) 4354) (same_word h (omega arith) ∙ part_number c bs h l m ih) ∙ other_part h ih d
          ∙ ap (λ (i : ℕ). part (words bs) (queue_at i) 4354) (sym (part_number c bs h l m ih)))
      go false ih = refl

  -- its own records
  own_records : records_at c (words to) g ≡ records (eqb (kind_of_gate c g) 17) (words p)
  unfolding records_at if◌then◌otherwise◌
  own_records =
      rw iq
      (ap (records (eqb (kind_of_gate c g) 17))
      (ap (λ (i : ℕ). part (words to) (queue_at i) 4354) (same_word g (omega (arith, queue_there c g iq)) ∙ part_number c bs g l m iq) ∙ part_back.here))

  lent_part : delays c to ≡ with_delay (delays c bs) g (records≔ (delay_in (delays c bs) g) (records (eqb (kind_of_gate c g) 17) (words p)))
  unfolding delay_at delay_of records≔
  lent_part =
      let k : g < length c.kinds = queue_there c g iq in
      one_changed c bs to g (records≔ (delay_in (delays c bs) g) (records (eqb (kind_of_gate c g) 17) (words p)))
      (part_front (queue_at (number c g)) 64 (words bs) (words to) (omega arith) part_back.before)
      (same_word changed_at (omega arith))
      (drop_behind (queue_at (number c g) + 4354) (queue_at (queues c)) (words bs) (words to) (omega (arith, number_below c g iq)) part_back.behind)
      (back_tail)
      (ap₂ (delay_of (leb 12 (kind_of_gate c g))) (same_slot g (omega arith)) own_records ∙ ap (λ (d : Delay). records≔ d (records (eqb (kind_of_gate c g) 17) (words p))) (sym (delay_here c bs g k)))
      (λ h u d. ap₂ (delay_of (leb 12 (kind_of_gate c h))) (same_slot h (omega arith)) (other_records h (omega arith) d))
    where
      back_tail : tail to ≡ tail bs
      back_tail = (unfold to in tail_put (queue_at (number c g)) 4354 bs p (omega (arith, l.room, number_below c g iq)) e)

-- ---- a new record's countdown

pub countdown_seconds : (s : Bool) (v : Value) (w : ℕ) (k : Started) → s ≡ true → w ≡ as_float 0 v → k ≡ in_seconds w → k ≡ queue_countdown s v
unfolding queue_countdown if◌then◌otherwise◌
countdown_seconds s v w k es ew ek = rw es (ek ∙ ap in_seconds ew)

pub countdown_ticks : (s : Bool) (v : Value) (x : ℤ) (k : Started) → SFits w64 x → s ≡ false → x ≡ as_int (pos 0) v → k ≡ in_ticks (to_z w64 (of_z w64 x)) → k ≡ queue_countdown s v
unfolding queue_countdown if◌then◌otherwise◌
countdown_ticks s v x k f es ex ek = rw es (ek ∙ ap in_ticks (to_z-of_z f ∙ ex))

-- it counts seconds or ticks
countdown_kind : (s : Bool) (v : Value) → counts_seconds (queue_countdown s v).left ≡ s
unfolding queue_countdown if◌then◌otherwise◌ counts_seconds in_seconds in_ticks
countdown_kind true v = refl
countdown_kind false v = refl

-- ---- a Queue, when its part is back

module _ (c : Circuit) (bs p : List ℕ) (g x a e : ℕ) (l : Lent c bs) (m : length c.kinds ≤ 64) (iq : is_queue c g ≡ true) (ex : x ≡ get_or (words bs) g 0) (ea : a ≡ queue_at x * 8)
    (ee : e ≡ a + 34832) (ep : length p ≡ 34832) where
  number_is : x ≡ number c g
  number_is = ex ∙ part_number c bs g l m iq

  back : delays c (put_mid a (e - a) bs p) ≡ with_delay (delays c bs) g (records≔ (delay_in (delays c bs) g) (records (eqb (kind_of_gate c g) 17) (words p)))
  unfolding to
  back =
      let q : e - a ≡ 34832 = omega arith in
      let w : put_mid a (e - a) bs p ≡ put_mid (queue_at (number c g) * 8) 34832 bs p = rw (q, ea, number_is) in
      ap (delays c) w ∙ lent_part c bs p g l iq m ep

  lent_words : words (take (e - a) (drop a bs)) ≡ part (words bs) (queue_at x) 4354
  unfolding part
  lent_words = let q : e - a ≡ 34832 = omega arith in rw (q, ea) (words_mid (queue_at x) 4354 bs)

  own : (delay_in (delays c bs) g).records ≡ records (eqb (kind_of_gate c g) 17) (words (take (e - a) (drop a bs)))
  unfolding delay_at delay_of records_at if◌then◌otherwise◌
  own =
      ap (λ (d : Delay). d.records) (delay_here c bs g (queue_there c g iq))
      ∙ rw iq (ap (λ (i : ℕ). records (eqb (kind_of_gate c g) 17) (part (words bs) (queue_at i) 4354)) (sym ex) ∙ ap (records (eqb (kind_of_gate c g) 17)) (sym lent_words))

  pub record_queue :
      (fs : List ℕ) (y : ℕ) (vs : List Value) (j : Starting) (wait : Value) → y ≡ kind_of_gate c g → started j ≡ queue_countdown (eqb y 17) wait →
      records (counts_seconds (counted j.left)) (words p)
      ≡ (queue_record (records≔ idle (records (counts_seconds (counted j.left)) (words (take (e - a) (drop a bs))))) vs (counted j.left)).records →
      delays c fs ≡ counting (delays c (put_mid a (e - a) bs p)) j.changed →
      delays c fs ≡ starting (delays c bs) g (λ d left. queue_record d vs left) (queue_countdown (eqb (kind_of_gate c g) 17) wait)
  unfolding started
  record_queue fs y vs j wait ey el h et =
      let left = counted j.left in
      let k : started j ≡ queue_countdown (eqb (kind_of_gate c g) 17) wait = el ∙ ap (λ (i : ℕ). queue_countdown (eqb i 17) wait) ey in
      let s : counts_seconds left ≡ eqb (kind_of_gate c g) 17 = ap (λ (x : Started). counts_seconds x.left) k ∙ countdown_kind (eqb (kind_of_gate c g) 17) wait in
      let d = delay_in (delays c bs) g in
      let q : records (eqb (kind_of_gate c g) 17) (words p) ≡ (queue_record (records≔ idle d.records) vs left).records =
      ap (λ (b : Bool). records b (words p)) (sym s) ∙ h
      ∙ ap (λ (b : Bool). (queue_record (records≔ idle (records b (words (take (e - a) (drop a bs))))) vs left).records) s
      ∙ ap (λ (qs : List Queued). (queue_record (records≔ idle qs) vs left).records) (sym own) in
      let w = back ∙ ap (with_delay (delays c bs) g) (ap (records≔ d) q ∙ sym (queue_record_in d vs left)) in
      et ∙ ap (λ (x : Delays). counting x j.changed) w ∙ ap (starting (delays c bs) g (λ d left. queue_record d vs left)) k

  pub advance_queue :
      (y dt : ℕ) (r : Option Record) → y ≡ kind_of_gate c g →
      released r (records (eqb y 17) (words p)) ≡ advance_records dt (records≔ idle (records (eqb y 17) (words (take (e - a) (drop a bs))))) →
      Moves (delays c bs) (delays c (put_mid a (e - a) bs p)) g (advance_records dt (delay_in (delays c bs) g)) (released r []).row (released r []).fires
  unfolding moved
  advance_queue y dt r ey h =
      let d = delay_in (delays c bs) g in
      let k : released r (records (eqb (kind_of_gate c g) 17) (words p)) ≡ advance_records dt (records≔ idle d.records) =
      ap (λ (i : ℕ). released r (records (eqb i 17) (words p))) (sym ey) ∙ h
      ∙ ap (λ (i : ℕ). advance_records dt (records≔ idle (records (eqb i 17) (words (take (e - a) (drop a bs)))))) ey
      ∙ ap (λ (qs : List Queued). advance_records dt (records≔ idle qs)) (sym own) in
      let qs = records (eqb (kind_of_gate c g) 17) (words p) in
      let q : advance_records dt d ≡ moved (records≔ d qs) (released r []).row (released r []).fires = advance_in dt d ∙ ap (moved_in d) (sym k) ∙ released_in d r qs in
      record {
        state = back ∙ still _ ∙ ap (λ (o : Moved). counting (with_delay (delays c bs) g o.state) o.changed) (sym q);
        row = ap (λ (o : Moved). o.row) q;
        fires = ap (λ (o : Moved). o.fires) q;
      }

-- ---- what the code needs to find the part

module _ (l bs : List ℕ) (g : ℕ) (k : Lent (net l) bs) (iq : is_queue (net l) g ≡ true) where
  pub table_inside : g * 8 + 8 ≤ length bs
  table_inside = omega (arith, k.room, queue_there (net l) g iq, gates_few l)

  pub part_inside : (p : ℕ) → p ≡ get_or (words bs) g 0 → queue_at p * 8 + 34832 ≤ length bs
  part_inside p e = part_fits (net l) bs g p k (gates_few l) iq e
