-- What the proofs of the functions over all records cite: counting down, handing out the front record, and adding one.
use Prim.Native.Nat.{ℕ, zero, suc, ◌+◌, ◌-◌, ◌%◌, ◌≤◌, ◌<◌, min}
use mathlib.Core.Path.{◌≡◌, refl, sym, ap, ◌∙◌}
use mathlib.Core.Bool.{Bool, true, false, not}
use mathlib.Core.List.{List, [], ◌∷◌, ◌++◌, map, append-nil}
use native.Mathlib.Omega.{arith}
use native.Mathlib.Numerals.{add-one}
use borrow.Author.Tests.{lt-ltb, le-ltb, not-true, not-false}
use lib.Dec.{ltb}
use lib.ListN.{length, get_or, set, length-set}
use lib.Seq.{append_snoc, get_or-set_same, get_or-set_other}
use Rattle.model.specs.Base.{if◌then◌otherwise◌, snoc}
use Rattle.model.specs.declared.Value.{Value}
use Rattle.model.specs.State.{Countdown, Queued, Delay, idle, records≔}
use Rattle.model.specs.Delays.{Moved, moved, due, queue_record, hand_out, advance_records}
use Rattle.delays.specs.declared.countdown.Countdown.{Countdown as Counting}
use Rattle.delays.specs.States.{counted, of_word}
use Rattle.queue.specs.declared.Record.{Record}
use Rattle.std.specs.Prelude.{Option, None, Some}
use Rattle.std.proofs.Math.Option as math
use Rattle.queue.specs.Queue.{queued, released, front_if_due, ticked, slot, ring, records, Placed}
use Rattle.queue.proofs.Ring.{ring_length, ring_first, ring_same, ring_put, ring_behind}
use Rattle.queue.proofs.Slots.{slot_left}

-- ---- all records count down

-- what i of n turns from slot h on have done
pub record Turned (seconds : Bool) (dt : ℕ) (w to : List ℕ) (h n i : ℕ) : Type 0 where
  pub first : get_or to 0 0 ≡ get_or w 0 0
  pub count : get_or to 1 0 ≡ get_or w 1 0
  pub slots : ring (slot seconds to) h i ++ map (ticked dt) (ring (slot seconds to) (h + i) (n - i)) ≡ map (ticked dt) (ring (slot seconds w) h n)

-- before the first turn
pub turn_first : (seconds : Bool) (dt : ℕ) (w : List ℕ) (h n : ℕ) → Turned seconds dt w w h n 0
unfolding ring
turn_first seconds dt w h n =
    let a : h + 0 ≡ h = omega arith in
    let b : n - 0 ≡ n = omega arith in
    record { first = refl; count = refl; slots = rw (a, b) }

-- one more is done, and one less is left
turned : (T : Queued → Queued) (f : ℕ → Queued) (before all : List Queued) (j m : ℕ) → before ++ map T (ring f j (suc m)) ≡ all
    → snoc before (T (f (j % 256))) ++ map T (ring f (suc j) m) ≡ all
unfolding ring snoc
turned T f before all j m e = append_snoc before (T (f (j % 256))) (map T (ring f (suc j) m)) ∙ e

-- one turn more
pub turn_next : (seconds : Bool) (dt : ℕ) (w u v : List ℕ) (h n i : ℕ) → n ≡ min (get_or w 1 0) 256 → Turned seconds dt w u h n i → i < n
    → Placed seconds u v ((h + i) % 256) (ticked dt (slot seconds u ((h + i) % 256))) → Turned seconds dt w v h n (i + 1)
turn_next seconds dt w u v h n i en t l k =
    let m = n - (i + 1) in
    let a : n - i ≡ suc m = omega arith in
    let b : h + (i + 1) ≡ suc (h + i) = omega arith in
    let p : ring (slot seconds v) h (suc i) ≡ snoc (ring (slot seconds u) h i) (ticked dt (slot seconds u ((h + i) % 256))) =
    ring_put (slot seconds u) (slot seconds v) h i (ticked dt (slot seconds u ((h + i) % 256))) (omega arith) k.others k.here in
    let q : ring (slot seconds v) (suc (h + i)) m ≡ ring (slot seconds u) (suc (h + i)) m =
    ring_behind (slot seconds u) (slot seconds v) (h + i) m (omega arith) k.others in
    record {
      first = k.first ∙ t.first;
      count = k.count ∙ t.count;
      slots =
          (λ j. ring (slot seconds v) h (add-one i j) ++ map (ticked dt) (ring (slot seconds v) (b j) m))
          ∙ (λ j. p j ++ map (ticked dt) (q j))
          ∙ turned (ticked dt) (slot seconds u) (ring (slot seconds u) h i) (map (ticked dt) (ring (slot seconds w) h n)) (h + i) m (rw a at t.slots);
    }

-- after the last turn
pub turn_last : (seconds : Bool) (dt : ℕ) (w u : List ℕ) (h n i : ℕ) → h ≡ get_or w 0 0 % 256 → n ≡ min (get_or w 1 0) 256 → Turned seconds dt w u h n i → i ≤ n → n ≤ i
    → records seconds u ≡ map (ticked dt) (records seconds w)
unfolding records ring
turn_last seconds dt w u h n i eh en t a b =
    let e : i ≡ n = omega arith in
    let z : n - n ≡ 0 = omega arith in
    let m : h % 256 ≡ get_or w 0 0 % 256 = omega arith in
    let s : ring (slot seconds u) h n ++ [] ≡ map (ticked dt) (ring (slot seconds w) h n) = rw (e, z) at t.slots in
    rw (t.first, t.count, ← en, ← ring_first (slot seconds u) h (get_or w 0 0) n m, ← ring_first (slot seconds w) h (get_or w 0 0) n m) (sym (append-nil (ring (slot seconds u) h n)) ∙ s)

-- ---- the front record

-- no records, as in a part that is cleared
pub records_none : (seconds : Bool) (w : List ℕ) → get_or w 1 0 ≡ 0 → records seconds w ≡ []
unfolding records ring
records_none seconds w e = rw e

-- the front one, and those behind it
pub records_front : (seconds : Bool) (w : List ℕ) (n h : ℕ) → n ≡ min (get_or w 1 0) 256 → (n ≡ 0 → ⊥) → h ≡ get_or w 0 0 % 256
    → records seconds w ≡ slot seconds w h ∷ ring (slot seconds w) (h + 1) (n - 1)
unfolding records ring
records_front seconds w zero h en z eh = absurd (z refl)
records_front seconds w (suc n) h en z eh =
    let p : suc n - 1 ≡ n = omega arith in
    let m : suc (get_or w 0 0) % 256 ≡ (h + 1) % 256 = omega arith in
    rw (← en, p, eh) (ap (λ (r : List Queued). slot seconds w (get_or w 0 0 % 256) ∷ r) (ring_first (slot seconds w) (suc (get_or w 0 0)) (h + 1) n m ∙ rw eh))

-- another word for the first or the count leaves the slots as they are
slot_same : (seconds : Bool) (w : List ℕ) (i v s : ℕ) → i < 2 → slot seconds (set w i v) s ≡ slot seconds w s
unfolding slot
slot_same seconds w i v s l = slot_left seconds w i v s (omega arith) ∙ rw (get_or-set_other w i (2 + s) v 0 (omega arith))

-- the front one leaves
records_behind : (seconds : Bool) (w : List ℕ) (n h : ℕ) → 2 ≤ length w → n ≤ 256 → records seconds (set (set w 0 (h + 1)) 1 (n - 1)) ≡ ring (slot seconds w) (h + 1) (n - 1)
unfolding records
records_behind seconds w n h l b =
    let a : get_or (set (set w 0 (h + 1)) 1 (n - 1)) 0 0 ≡ h + 1 =
    get_or-set_other (set w 0 (h + 1)) 1 0 (n - 1) 0 (omega arith) ∙ get_or-set_same w 0 (h + 1) 0 (omega arith) in
    let c : get_or (set (set w 0 (h + 1)) 1 (n - 1)) 1 0 ≡ n - 1 = get_or-set_same (set w 0 (h + 1)) 1 (n - 1) 0 (simp length-set (omega arith)) in
    let m : min (n - 1) 256 ≡ n - 1 = omega arith in
    rw (a, c, m)
    (ring_same (slot seconds w) (slot seconds (set (set w 0 (h + 1)) 1 (n - 1))) (h + 1) (n - 1)
    (λ s. slot_same seconds (set w 0 (h + 1)) 1 (n - 1) s (omega arith) ∙ slot_same seconds w 0 (h + 1) s (omega arith)))

-- there is no front record
pub take_none : (seconds : Bool) (w : List ℕ) (n : ℕ) → n ≡ min (get_or w 1 0) 256 → n ≡ 0
    → (released None (records seconds w) ≡ hand_out idle (records seconds w)) × (math.none ≡ front_if_due (records seconds w))
unfolding released hand_out front_if_due
take_none seconds w n en z = let c : get_or w 1 0 ≡ 0 = omega arith in rw (records_none seconds w c) (refl, refl)

-- the front record's countdown, as it is read for itself
front_due : (seconds : Bool) (w : List ℕ) (h x : ℕ) (k : Counting) (d : Bool) → x ≡ get_or w (2 + h) 0 → counted k ≡ of_word seconds x → d ≡ due (counted k)
    → due (slot seconds w h).left ≡ d
unfolding slot
front_due seconds w h x k d ex ek ed = sym (ed ∙ ap due (ek ∙ ap (of_word seconds) ex))

-- the front record is not due
pub take_later : (seconds : Bool) (w : List ℕ) (n h x : ℕ) (k : Counting) (d : Bool) → n ≡ min (get_or w 1 0) 256 → (n ≡ 0 → ⊥) → h ≡ get_or w 0 0 % 256
    → x ≡ get_or w (2 + h) 0 → counted k ≡ of_word seconds x → d ≡ due (counted k) → not d ≡ true
    → (released None (records seconds w) ≡ hand_out idle (records seconds w)) × (math.none ≡ front_if_due (records seconds w))
unfolding released hand_out front_if_due if◌then◌otherwise◌
take_later seconds w n h x k d en z eh ex ek ed f =
    rw (records_front seconds w n h en z eh, front_due seconds w h x k d ex ek ed, not-true d f) (refl, refl)

-- the front record is due, and is handed out
pub take_due : (seconds : Bool) (w u v : List ℕ) (n h x : ℕ) (k : Counting) (d : Bool) (q : Record) → 2 ≤ length w → n ≡ min (get_or w 1 0) 256 → (n ≡ 0 → ⊥) → h ≡ get_or w 0 0 % 256
    → x ≡ get_or w (2 + h) 0 → counted k ≡ of_word seconds x → d ≡ due (counted k) → not d ≡ false → queued q ≡ slot seconds w h → u ≡ set w 0 (h + 1) → v ≡ set u 1 (n - 1)
    → (released (Some q) (records seconds v) ≡ hand_out idle (records seconds w)) × (math.some (queued q) ≡ front_if_due (records seconds w))
unfolding released hand_out front_if_due if◌then◌otherwise◌
take_due seconds w u v n h x k d q l en z eh ex ek ed f eq eu ev =
    let g : due (slot seconds w h).left ≡ true = front_due seconds w h x k d ex ek ed ∙ not-false d f in
    let b : records seconds v ≡ ring (slot seconds w) (h + 1) (n - 1) = rw (ev, eu) (records_behind seconds w n h l (omega arith)) in
    rw (records_front seconds w n h en z eh, g, b, eq) (refl, refl)

-- ---- a new record

-- how many records there are
records_length : (seconds : Bool) (w : List ℕ) → length (records seconds w) ≡ min (get_or w 1 0) 256
unfolding records
records_length seconds w = ring_length (slot seconds w) (get_or w 0 0) (min (get_or w 1 0) 256)

-- one record more
records_more : (seconds : Bool) (w u v : List ℕ) (n h : ℕ) (q : Queued) → 2 ≤ length u → n ≡ min (get_or w 1 0) 256 → n < 256 → h ≡ get_or w 0 0 % 256
    → Placed seconds w u ((h + n) % 256) q → v ≡ set u 1 (n + 1) → records seconds v ≡ snoc (records seconds w) q
unfolding records
records_more seconds w u v n h q l en m eh k ev =
    let a : get_or v 0 0 ≡ get_or w 0 0 = ap (λ (x : List ℕ). get_or x 0 0) ev ∙ get_or-set_other u 1 0 (n + 1) 0 (omega arith) ∙ k.first in
    let b : get_or v 1 0 ≡ n + 1 = ap (λ (x : List ℕ). get_or x 1 0) ev ∙ get_or-set_same u 1 (n + 1) 0 (omega arith) in
    let c : min (n + 1) 256 ≡ suc n = omega arith in
    let d : h % 256 ≡ get_or w 0 0 % 256 = omega arith in
    rw (a, b, c, ← en, ← ring_first (slot seconds v) h (get_or w 0 0) (suc n) d, ← ring_first (slot seconds w) h (get_or w 0 0) n d)
    (ring_same (slot seconds u) (slot seconds v) h (suc n) (λ s. ap (λ (x : List ℕ). slot seconds x s) ev ∙ slot_same seconds u 1 (n + 1) s (omega arith))
    ∙ ring_put (slot seconds w) (slot seconds u) h n q m k.others k.here)

-- there is room for it
pub push_room : (seconds : Bool) (w u v : List ℕ) (n h : ℕ) (q : Queued) → 2 ≤ length u → n ≡ min (get_or w 1 0) 256 → n < 256 → h ≡ get_or w 0 0 % 256
    → Placed seconds w u ((h + n) % 256) q → v ≡ set u 1 (n + 1) → records seconds v ≡ (queue_record (records≔ idle (records seconds w)) q.row q.left).records
unfolding queue_record records≔ if◌then◌otherwise◌
push_room seconds w u v n h q l en m eh k ev =
    let f : ltb (length (records seconds w)) 256 ≡ true = lt-ltb (length (records seconds w)) 256 (omega (arith, records_length seconds w)) in
    rw f (records_more seconds w u v n h q l en m eh k ev)

-- there is none
pub push_full : (seconds : Bool) (w : List ℕ) (n : ℕ) (q : Queued) → n ≡ min (get_or w 1 0) 256 → 256 ≤ n
    → records seconds w ≡ (queue_record (records≔ idle (records seconds w)) q.row q.left).records
unfolding queue_record records≔ if◌then◌otherwise◌
push_full seconds w n q en m =
    let f : ltb (length (records seconds w)) 256 ≡ false = le-ltb (length (records seconds w)) 256 (omega (arith, records_length seconds w)) in
    rw f

-- ---- a tick

-- the records of the small state itself are not looked at
hand_out_same : (d : Delay) (rs qs : List Queued) → hand_out (records≔ d rs) qs ≡ hand_out d qs
unfolding hand_out records≔
hand_out_same d rs [] = refl
hand_out_same d rs (q ∷ qs) = refl

-- all count down, then the front one is handed out if it is due
pub advance_all : (seconds : Bool) (dt : ℕ) (w u v : List ℕ) (r : Option Record) (q : math.Option Queued) → records seconds u ≡ map (ticked dt) (records seconds w)
    → (released r (records seconds v) ≡ hand_out idle (records seconds u)) × (q ≡ front_if_due (records seconds u))
    → (released r (records seconds v) ≡ advance_records dt (records≔ idle (records seconds w))) × (q ≡ front_if_due (map (ticked dt) (records seconds w)))
unfolding advance_records ticked records≔
advance_all seconds dt w u v r q e p =
    (p.0 ∙ ap (hand_out idle) e ∙ sym (hand_out_same idle (records seconds w) (map (ticked dt) (records seconds w))), p.1 ∙ ap front_if_due e)

-- ---- a small state with other parts, which are kept

-- what a tick comes to in the small state d, if it comes to m in one that has d's records alone
abbrev pub moved_in : Delay → Moved → Moved
moved_in d m = moved (records≔ d m.state.records) m.row m.fires

-- handing out
hand_out_in : (d : Delay) (qs : List Queued) → hand_out d qs ≡ moved_in d (hand_out idle qs)
unfolding hand_out records≔ moved if◌then◌otherwise◌
hand_out_in d [] = refl
hand_out_in d (q ∷ qs) = by_due (due q.left)
  where
    by_due : (b : Bool) → (if b then moved (records≔ d qs) q.row 1 otherwise moved (records≔ d (q ∷ qs)) [] 0)
        ≡ moved_in d (if b then moved (records≔ idle qs) q.row 1 otherwise moved (records≔ idle (q ∷ qs)) [] 0)
    by_due true = refl
    by_due false = refl

-- a tick
pub advance_in : (dt : ℕ) (d : Delay) → advance_records dt d ≡ moved_in d (advance_records dt (records≔ idle d.records))
unfolding advance_records records≔ ticked
advance_in dt d =
    hand_out_in d (map (ticked dt) d.records) ∙ ap (moved_in d) (sym (hand_out_same idle d.records (map (ticked dt) d.records)))

-- what was handed out, beside the records that are left
pub released_in : (d : Delay) (r : Option Record) (qs : List Queued) → moved_in d (released r qs) ≡ moved (records≔ d qs) (released r []).row (released r []).fires
unfolding released moved records≔
released_in d None qs = refl
released_in d (Some r) qs = refl

-- a new record
pub queue_record_in : (d : Delay) (row : List Value) (k : Countdown) → queue_record d row k ≡ records≔ d (queue_record (records≔ idle d.records) row k).records
unfolding queue_record records≔ if◌then◌otherwise◌
queue_record_in d row k = by_room (ltb (length d.records) 256)
  where
    q : Queued
    q = record { row = row; left = k }

    by_room : (b : Bool) → (if b then records≔ d (snoc d.records q) otherwise d)
        ≡ records≔ d (if b then records≔ idle (snoc d.records q) otherwise records≔ idle d.records).records
    by_room true = refl
    by_room false = refl
