-- The slot of a gate lent as a part: what the area holds when it is back.
use Prim.Native.Nat.{ℕ, ◌+◌, ◌-◌, ◌*◌, ◌≤◌, ◌<◌}
use mathlib.Core.Path.{◌≡◌, refl, sym, ap, ap₂, ◌∙◌}
use mathlib.Core.Bool.{Bool, true, false}
use mathlib.Core.List.{List, [], ◌++◌, map}
use native.Mathlib.Omega.{arith}
use borrow.Author.Tests.{leb-true, leb-false}
use lib.Dec.{leb}
use lib.ListN.{length, get_or, set, take, drop, length-map, get_or-eq_default}
use lib.Seq.{get_or-take, get_or-drop, set_out}
use borrow.Rule.Slice.PartMut.{put_mid}
use Rattle.words.specs.Words.{words, tail}
use Rattle.words.proofs.Laws.{words_put, tail_put, words_mid, length_words, words_long}
use Rattle.model.specs.declared.Value.{Value}
use Rattle.model.specs.Base.{if◌then◌otherwise◌, from}
use Rattle.model.specs.Value.{truthy, bit}
use Rattle.model.specs.Circuit.{Circuit, part, kind_of_gate, gates, setting}
use Rattle.model.specs.Questions.{queues}
use Rattle.model.specs.State.{Countdown, Delay, idle, elapsed≔}
use Rattle.model.specs.Delays.{Started, Moved, moved, in_ticks, countdown_ticks, advance_flight, advance_elapsed, advance_time}
use Rattle.model.specs.Exec.{tally, countdown}
use Rattle.delays.specs.declared.countdown.Started.{Started as Starting}
use Rattle.std.specs.Prelude.{None}
use Rattle.delays.specs.States.{counted, started, counts_seconds, row_of, clock, clock_moved, stopwatch_moved}
use Rattle.delays.specs.declared.clock.Clock.{Clock}
use Rattle.delays.proofs.Countdowns.{of_gate, kind_by}
use Rattle.model.proofs.Lists.{map_from, from_length}
use Rattle.states.specs.declared.slots.Landed.{Landed}
use Rattle.states.specs.View.{slot_at, changed_at, queue_at, delay_of, records_at, delay_at, Delays, delay_in, with_delay, counting, starting, delays, Lent, Moves}
use Rattle.states.specs.Slots.{Becomes, BecomesAny, Turns, TurnsAny, Lands}
use Rattle.states.proofs.Lists.{part_front, part_before, part_behind, drop_behind, from_set, Replaced, replaced}

-- what the area holds after one gate alone changed
pub one_changed : (c : Circuit) (bs ds : List ℕ) (g : ℕ) (x : Delay) → take 64 (words ds) ≡ take 64 (words bs) → get_or (words ds) changed_at 0 ≡ get_or (words bs) changed_at 0
    → drop (queue_at (queues c)) (words ds) ≡ drop (queue_at (queues c)) (words bs) → tail ds ≡ tail bs → delay_at c (words ds) g ≡ x
    → ((h : ℕ) → h < length c.kinds → (h ≡ g → ⊥) → delay_at c (words ds) h ≡ delay_at c (words bs) h) → delays c ds ≡ with_delay (delays c bs) g x
unfolding delays gates
one_changed c bs ds g x et en ed el eg eh =
    let z : 0 + g ≡ g = omega arith in
    let q : map (delay_at c (words ds)) (from 0 (length c.kinds)) ≡ set (map (delay_at c (words bs)) (from 0 (length c.kinds))) g x = from_set (delay_at c (words bs)) (delay_at c (words ds)) 0 (length c.kinds) g x (ap (delay_at c (words ds)) z ∙ eg) (λ j p u d. eh j (omega arith) (λ v. d (v ∙ sym z))) in
    λ j. record { delays = q j; changed = en j; parts = et j; rest = ed j ++ el j }

-- the small state of a gate that there is, and of one that there is not
pub delay_here : (c : Circuit) (bs : List ℕ) (g : ℕ) → g < length c.kinds → delay_in (delays c bs) g ≡ delay_at c (words bs) g
unfolding delays gates
delay_here c bs g h = let z : 0 + g ≡ g = omega arith in map_from (delay_at c (words bs)) 0 (length c.kinds) g idle h ∙ ap (delay_at c (words bs)) z

delays_long : (c : Circuit) (bs : List ℕ) → length (delays c bs).delays ≡ length c.kinds
unfolding delays gates
delays_long c bs = length-map (from 0 (length c.kinds)) (delay_at c (words bs)) ∙ from_length 0 (length c.kinds)

pub delay_past : (c : Circuit) (bs : List ℕ) (g : ℕ) → length c.kinds ≤ g → delay_in (delays c bs) g ≡ idle
delay_past c bs g h = get_or-eq_default (delays c bs).delays idle {n = g} (omega (arith, delays_long c bs))

-- a gate that there is not changes nothing
pub past : (c : Circuit) (bs : List ℕ) (g : ℕ) (x : Delay) → length c.kinds ≤ g → delays c bs ≡ with_delay (delays c bs) g x
past c bs g x h = let e : set (delays c bs).delays g x ≡ (delays c bs).delays = set_out (delays c bs).delays g x (omega (arith, delays_long c bs)) in λ j. record { delays = sym e j; changed = (delays c bs).changed; parts = (delays c bs).parts; rest = (delays c bs).rest }

-- ---- the slot of gate g lent, which comes back as p

-- the words that are lent
abbrev pub slot_words : List ℕ → ℕ → List ℕ
slot_words bs g = part (words bs) (slot_at g) 43

module _ (c : Circuit) (bs p : List ℕ) (g : ℕ) (l : Lent c bs) (k : g < length c.kinds) (m : length c.kinds ≤ 64) (e : length p ≡ 344) where
  slot_back : Replaced (words bs) (words (put_mid (slot_at g * 8) 344 bs p)) (words p) (slot_at g) 43
  slot_back =
      rw (words_put (slot_at g) 43 bs p (omega (arith, l.room)) e)
      (replaced (words bs) (words p) (slot_at g) 43 (omega (arith, words_long 2816 bs (omega (arith, l.room)))) (length_words 43 p e))

  -- the table of parts is the same
  same_part : (h : ℕ) → h < 64 → get_or (words (put_mid (slot_at g * 8) 344 bs p)) h 0 ≡ get_or (words bs) h 0
  same_part h u =
      sym (get_or-take (slot_at g) (words (put_mid (slot_at g * 8) 344 bs p)) h 0 (omega arith)) ∙ ap (λ (t : List ℕ). get_or t h 0) slot_back.before
      ∙ get_or-take (slot_at g) (words bs) h 0 (omega arith)

  -- and so are the records of each gate
  same_records : (h : ℕ) → h < 64 → records_at c (words (put_mid (slot_at g * 8) 344 bs p)) h ≡ records_at c (words bs) h
  unfolding records_at
  same_records h u =
      rw (same_part h u, part_behind (slot_at g + 43) (queue_at (get_or (words bs) h 0)) 4354 (words bs) (words (put_mid (slot_at g * 8) 344 bs p)) (omega arith) slot_back.behind)

  -- and the slots of the other gates
  same_slot : (h : ℕ) → h < 64 → (h ≡ g → ⊥) → slot_words (put_mid (slot_at g * 8) 344 bs p) h ≡ slot_words bs h
  same_slot h u d = go (leb h g) refl
    where
      go : (b : Bool) → leb h g ≡ b → slot_words (put_mid (slot_at g * 8) 344 bs p) h ≡ slot_words bs h
      go true q = part_before (slot_at g) (slot_at h) 43 (words bs) (words (put_mid (slot_at g * 8) 344 bs p)) (omega (arith, leb-true h g q, d)) slot_back.before
      go false q = part_behind (slot_at g + 43) (slot_at h) 43 (words bs) (words (put_mid (slot_at g * 8) 344 bs p)) (omega (arith, leb-false h g q)) slot_back.behind

  -- and the count
  same_count : get_or (words (put_mid (slot_at g * 8) 344 bs p)) changed_at 0 ≡ get_or (words bs) changed_at 0
  same_count =
      let to = words (put_mid (slot_at g * 8) 344 bs p) in
      let behind : drop changed_at to ≡ drop changed_at (words bs) = drop_behind (slot_at g + 43) changed_at (words bs) to (omega arith) slot_back.behind in
      sym (get_or-drop changed_at to 0 0) ∙ ap (λ (t : List ℕ). get_or t 0 0) behind ∙ get_or-drop changed_at (words bs) 0 0

  pub lent_slot : delays c (put_mid (slot_at g * 8) 344 bs p) ≡ with_delay (delays c bs) g (delay_of (leb 12 (kind_of_gate c g)) (words p) (records_at c (words bs) g))
  unfolding delay_at
  lent_slot =
      let to = words (put_mid (slot_at g * 8) 344 bs p) in
      one_changed c bs (put_mid (slot_at g * 8) 344 bs p) g (delay_of (leb 12 (kind_of_gate c g)) (words p) (records_at c (words bs) g))
      (part_front (slot_at g) 64 (words bs) to (omega arith) slot_back.before)
      same_count
      (drop_behind (slot_at g + 43) (queue_at (queues c)) (words bs) to (omega arith) slot_back.behind)
      (tail_put (slot_at g) 43 bs p (omega (arith, l.room)) e)
      (ap₂ (delay_of (leb 12 (kind_of_gate c g))) slot_back.here (same_records g (omega arith)))
      (λ h u d. ap₂ (delay_of (leb 12 (kind_of_gate c h))) (same_slot h (omega arith) d) (same_records h (omega arith)))

-- what did not change its number is not counted
pub still : (d : Delays) → d ≡ counting d false
unfolding tally if◌then◌otherwise◌
still d = refl

-- a countdown that a buffer starts is of its kind
pub of_kind : (c : Circuit) (g x : ℕ) (rising : Bool) (k : Starting) → x ≡ kind_of_gate c g → started k ≡ countdown c g rising → counts_seconds (counted k.left) ≡ leb 12 x
unfolding started
of_kind c g x rising k ex e =
    ap (λ (y : Started). counts_seconds y.left) (e ∙ of_gate c g rising) ∙ kind_by (leb 12 (kind_of_gate c g)) rising (setting c g 1) (setting c g 2) ∙ sym (ap (leb 12) ex)

-- the slot moves on, and with it the gate
module _ (c : Circuit) (bs p : List ℕ) (n g a e : ℕ) (l : Lent c bs) (en : (n ≡ length c.kinds) × (n ≤ 64)) (k : g < n) (ea : a ≡ slot_at g * 8) (ee : e ≡ a + 344) (ep : length p ≡ 344) where
  whole : put_mid a (e - a) bs p ≡ put_mid (slot_at g * 8) 344 bs p
  whole = let q : e - a ≡ 344 = omega arith in rw (q, ea)

  lent_words : words (take (e - a) (drop a bs)) ≡ slot_words bs g
  unfolding part
  lent_words = let q : e - a ≡ 344 = omega arith in rw (q, ea) (words_mid (slot_at g) 43 bs)

  pub lent_delay : delay_in (delays c bs) g ≡ delay_of (leb 12 (kind_of_gate c g)) (words (take (e - a) (drop a bs))) (records_at c (words bs) g)
  unfolding delay_at
  lent_delay =
      delay_here c bs g (omega (arith, en.0)) ∙ ap (λ (t : List ℕ). delay_of (leb 12 (kind_of_gate c g)) t (records_at c (words bs) g)) (sym lent_words)

  -- the area when the slot is back
  back : delays c (put_mid a (e - a) bs p) ≡ with_delay (delays c bs) g (delay_of (leb 12 (kind_of_gate c g)) (words p) (records_at c (words bs) g))
  back = ap (delays c) whole ∙ lent_slot c bs p g l (omega (arith, en.0)) (omega (arith, en.0)) ep

  pub becomes : (f : Delay → Delay) → Becomes (leb 12 (kind_of_gate c g)) (words (take (e - a) (drop a bs))) (words p) f
      → delays c (put_mid a (e - a) bs p) ≡ with_delay (delays c bs) g (f (delay_in (delays c bs) g))
  becomes f h =
      back ∙ ap (with_delay (delays c bs) g) (h (records_at c (words bs) g) ∙ ap f (sym lent_delay))

  pub turns : (f : Delay → Moved) (row : List Value) (i : ℕ) → Turns (leb 12 (kind_of_gate c g)) (words (take (e - a) (drop a bs))) (words p) f row i
      → Moves (delays c bs) (delays c (put_mid a (e - a) bs p)) g (f (delay_in (delays c bs) g)) row i
  unfolding moved
  turns f row i h =
      let m : f (delay_in (delays c bs) g) ≡ moved (delay_of (leb 12 (kind_of_gate c g)) (words p) (records_at c (words bs) g)) row i = ap f lent_delay ∙ h (records_at c (words bs) g) in
      record {
        state = back ∙ still _ ∙ ap (λ (x : Moved). counting (with_delay (delays c bs) g x.state) x.changed) (sym m);
        row = ap (λ (x : Moved). x.row) m;
        fires = ap (λ (x : Moved). x.fires) m;
      }

  -- the gate takes a countdown, whose narrowing is then counted
  pub starts_gate :
      (fs : List ℕ) (x : ℕ) (rising : Bool) (k : Starting) (f : Delay → Countdown → Delay) → x ≡ kind_of_gate c g → started k ≡ countdown c g rising →
      Becomes (leb 12 x) (words (take (e - a) (drop a bs))) (words p) (λ d. f d (counted k.left)) →
      delays c fs ≡ counting (delays c (put_mid a (e - a) bs p)) k.changed → delays c fs ≡ starting (delays c bs) g f (countdown c g rising)
  unfolding started
  starts_gate fs x rising k f ex ek h et =
      let q : leb 12 x ≡ leb 12 (kind_of_gate c g) = ap (leb 12) ex in
      et ∙ ap (λ (d : Delays). counting d k.changed) (becomes (λ d. f d (counted k.left)) (rw q at h)) ∙ ap (starting (delays c bs) g f) ek

  -- the slot moves on, by its kind
  pub turns_gate : (x : ℕ) (s : Bool) (f : Delay → Moved) (row : List Value) (i : ℕ) → x ≡ kind_of_gate c g → s ≡ leb 12 x → Turns s (words (take (e - a) (drop a bs))) (words p) f row i
      → Moves (delays c bs) (delays c (put_mid a (e - a) bs p)) g (f (delay_in (delays c bs) g)) row i
  turns_gate x s f row i ex es h = let q : s ≡ leb 12 (kind_of_gate c g) = es ∙ ap (leb 12) ex in turns f row i (rw q at h)

  -- a value buffer moves on, and its narrowing is then counted
  pub fly_gate : (fs : List ℕ) (x dt : ℕ) (r : Landed) → x ≡ kind_of_gate c g
      → Lands (leb 12 x) (words (take (e - a) (drop a bs))) (words p) (advance_flight (λ v. countdown c g (truthy v)) dt) r
      → delays c fs ≡ counting (delays c (put_mid a (e - a) bs p)) r.changed
      → Moves (delays c bs) (delays c fs) g (advance_flight (λ v. countdown c g (truthy v)) dt (delay_in (delays c bs) g)) (row_of r.what) 0
  fly_gate fs x dt r ex h et =
      let f = advance_flight (λ v. countdown c g (truthy v)) dt in
      let q : leb 12 x ≡ leb 12 (kind_of_gate c g) = ap (leb 12) ex in
      let m = ap f lent_delay ∙ (rw q at h) (records_at c (words bs) g) in
      record {
        state = et ∙ ap (λ (d : Delays). counting d r.changed) back ∙ ap (λ (x : Moved). counting (with_delay (delays c bs) g x.state) x.changed) (sym m);
        row = ap (λ (x : Moved). x.row) m;
        fires = ap (λ (x : Moved). x.fires) m;
      }

  -- a gate whose slot has no countdowns moves on
  pub turns_any : (f : Delay → Moved) (row : List Value) (i : ℕ) → TurnsAny (words (take (e - a) (drop a bs))) (words p) f row i
      → Moves (delays c bs) (delays c (put_mid a (e - a) bs p)) g (f (delay_in (delays c bs) g)) row i
  turns_any f row i h = turns f row i (h (leb 12 (kind_of_gate c g)))

  pub becomes_any : (f : Delay → Delay) → BecomesAny (words (take (e - a) (drop a bs))) (words p) f
      → delays c (put_mid a (e - a) bs p) ≡ with_delay (delays c bs) g (f (delay_in (delays c bs) g))
  becomes_any f h = becomes f (h (leb 12 (kind_of_gate c g)))

-- a gate that there is not
module _ (c : Circuit) (bs : List ℕ) (n g : ℕ) (en : (n ≡ length c.kinds) × (n ≤ 64)) (k : n ≤ g) where
  pub becomes_past : (x : Delay) → delays c bs ≡ with_delay (delays c bs) g x
  becomes_past x = past c bs g x (omega (arith, en.0))

  -- its countdown would be in ticks
  pub starts_past : (rising : Bool) (f : Delay → Countdown → Delay) → delays c bs ≡ starting (delays c bs) g f (countdown c g rising)
  unfolding countdown countdown_ticks in_ticks kind_of_gate if◌then◌otherwise◌
  starts_past rising f =
      let z : kind_of_gate c g ≡ 0 = get_or-eq_default c.kinds 0 {n = g} (omega (arith, en.0)) in
      let n : false ≡ (countdown c g rising).changed = rw z in
      becomes_past _ ∙ still _ ∙ ap (counting (with_delay (delays c bs) g (f (delay_in (delays c bs) g) (countdown c g rising).left))) n

  pub turns_past : (f : Delay → Moved) (row : List Value) (i : ℕ) → (f idle).row ≡ row → (f idle).fires ≡ i → (f idle).changed ≡ false
      → Moves (delays c bs) (delays c bs) g (f (delay_in (delays c bs) g)) row i
  turns_past f row i er ei ef =
      let d = delay_past c bs g (omega (arith, en.0)) in
      let n : false ≡ (f (delay_in (delays c bs) g)).changed = sym (ap (λ (x : Delay). (f x).changed) d ∙ ef) in
      record { state = becomes_past (f (delay_in (delays c bs) g)).state ∙ still _ ∙ ap (counting (with_delay (delays c bs) g (f (delay_in (delays c bs) g)).state)) n; row = ap (λ (x : Delay). (f x).row) d ∙ er; fires = ap (λ (x : Delay). (f x).fires) d ∙ ei }

-- whether a gate counts seconds
pub by_kind : (c : Circuit) (g x : ℕ) → x ≡ kind_of_gate c g → leb 12 x ≡ leb 12 (kind_of_gate c g)
by_kind c g x e = ap (leb 12) e

-- what moves on where there is no gate
module _ (c : Circuit) (bs : List ℕ) (n g : ℕ) (en : (n ≡ length c.kinds) × (n ≤ 64)) (k : n ≤ g) where
  pub fly_past : (dt : ℕ) → Moves (delays c bs) (delays c bs) g (advance_flight (λ v. countdown c g (truthy v)) dt (delay_in (delays c bs) g)) (row_of None) 0
  unfolding advance_flight idle row_of moved
  fly_past dt = turns_past c bs n g en k (advance_flight (λ v. countdown c g (truthy v)) dt) [] 0 refl refl refl

  pub clock_past :
      (dt interval : ℕ) (enabled : Bool) (r : Clock) → clock_moved r ≡ advance_elapsed dt interval enabled (clock (record { elapsed = 0; fired = false })) →
      Moves (delays c bs) (delays c bs) g (advance_elapsed dt interval enabled (delay_in (delays c bs) g)) [] (bit r.fired)
  unfolding clock clock_moved idle elapsed≔ moved
  clock_past dt interval enabled r h =
      turns_past c bs n g en k (advance_elapsed dt interval enabled) [] (bit r.fired) (sym (ap (λ (m : Moved). m.row) h)) (sym (ap (λ (m : Moved). m.fires) h)) (sym (ap (λ (m : Moved). m.changed) h))

  pub stopwatch_past : (dt limit : ℕ)
      → Moves (delays c bs) (delays c bs) g (advance_time dt limit (delay_in (delays c bs) g)) (stopwatch_moved (record { time = 0; running = false; shows = false; expired = false })).row (stopwatch_moved (record { time = 0; running = false; shows = false; expired = false })).fires
  unfolding advance_time stopwatch_moved idle moved bit if◌then◌otherwise◌
  stopwatch_past dt limit = turns_past c bs n g en k (advance_time dt limit) [] 0 refl refl refl

-- an area stays one that can hold the small states
pub lent_kept : (c : Circuit) (bs ds : List ℕ) → Lent c bs → length ds ≡ length bs → (delays c ds).parts ≡ (delays c bs).parts → Lent c ds
lent_kept c bs ds l e p = record { room = omega (arith, l.room); parted = λ g q. ap (λ (t : List ℕ). get_or t g 0) p ∙ l.parted g q }
