-- Laws of a buffer in exec mode: each way out of the functions of fires.rt.
use Prim.Native.Nat.{ℕ, suc, min, ◌+◌, ◌-◌, ◌%◌, ◌<◌, ◌≤◌}
use mathlib.Core.Path.{◌≡◌, refl, sym, ap, ◌∙◌}
use mathlib.Core.Bool.{Bool, true, false, not, not-not}
use mathlib.Core.List.{List, [], ◌∷◌, map}
use native.Mathlib.Omega.{arith}
use lib.Dec.{leb}
use lib.ListN.{length, get_or, set}
use borrow.Author.Tests.{leb-true, leb-false, le-leb, lt-leb, lt-ltb, le-ltb}
use Rattle.model.specs.Base.{if◌then◌otherwise◌, snoc}
use Rattle.model.specs.State.{Countdown, Delay, idle, fires≔}
use Rattle.model.specs.Delays.{Moved, moved, tick_down, due, drop_due, advance_fires}
use Rattle.delays.specs.declared.countdown.Countdown.{Countdown as Counting}
use Rattle.delays.specs.declared.fires.Fires.{Fires}
use Rattle.delays.specs.States.{counted, counts_seconds, word_of, of_word, ring, under_way, fires_of, fires, fires_moved, add_fire}
use Rattle.delays.proofs.Countdowns.{word_kept, kind_word, kind_tick}
use Rattle.delays.proofs.Rings.{under_way_length, under_way_same, under_way_set, under_way_add, under_way_front, under_way_get, ticked_from, ticked_next, ticked_none}

-- ---- counting down

module _ (s : Bool) (dt n h : ℕ) where
  -- none has counted down yet
  pub count_first : (ws : List ℕ) → ticked_from dt 0 (under_way s n h ws) ≡ map (tick_down dt) (under_way s n h ws)
  unfolding ticked_from
  count_first ws = refl

  -- one more counts down: k₁ is k after a tick, and w is its word
  module _ (ws : List ℕ) (i w : ℕ) (k k₁ : Counting) (x : List Countdown) where
    pub count_turn : length ws ≡ 32 → n ≤ 32 → ticked_from dt i (under_way s n h ws) ≡ x → i < n → counted k ≡ of_word s (get_or ws ((h + i) % 32) 0)
        → counted k₁ ≡ tick_down dt (counted k) → (w ≡ word_of (counted k₁)) × (of_word (counts_seconds (counted k₁)) w ≡ counted k₁)
        → ticked_from dt (i + 1) (under_way s n h (set ws ((h + i) % 32) w)) ≡ x
    count_turn l m q t e e₁ b =
        let one : i + 1 ≡ suc i = omega arith in
        let kind : counts_seconds (counted k₁) ≡ s = ap counts_seconds (e₁ ∙ ap (tick_down dt) e) ∙ kind_tick dt (of_word s (get_or ws ((h + i) % 32) 0)) ∙ kind_word s (get_or ws ((h + i) % 32) 0) in
        let y : of_word s w ≡ tick_down dt (of_word s (get_or ws ((h + i) % 32) 0)) = word_kept s w (counted k₁) kind b.1 ∙ e₁ ∙ ap (tick_down dt) e in
        let in_range : i < length (under_way s n h ws) = omega (arith, under_way_length s n h ws) in
        rw (one, under_way_set s n h i w ws l m t)
        (ticked_next dt i (under_way s n h ws) (of_word s w) (of_word s 0) in_range (y ∙ ap (tick_down dt) (sym (under_way_get s n h i ws t))) ∙ q)

  -- all have
  pub count_last : (ws : List ℕ) (i : ℕ) (x : List Countdown) → ticked_from dt i (under_way s n h ws) ≡ x → n ≤ i → under_way s n h ws ≡ x
  count_last ws i x q t = sym (ticked_none dt i (under_way s n h ws) (omega (arith, under_way_length s n h ws))) ∙ q

-- ---- whether there is room

length_fires : (f : Fires) → length (fires_of f) ≡ min 32 f.count
unfolding fires_of
length_fires f = under_way_length f.seconds (min 32 f.count) f.first f.words

-- the limit changes nothing
limited : (n : ℕ) → leb 32 n ≡ leb 32 (min 32 n)
limited n = go (leb 32 n) refl
  where
    go : (b : Bool) → leb 32 n ≡ b → b ≡ leb 32 (min 32 n)
    go true e = sym (le-leb 32 (min 32 n) (omega (arith, leb-true)))
    go false e = sym (lt-leb 32 (min 32 n) (omega (arith, leb-false)))

pub full_is : (f : Fires) → leb 32 f.count ≡ leb 32 (length (fires_of f))
full_is f = limited f.count ∙ ap (leb 32) (sym (length_fires f))

-- ---- one fire more

added : (s : Bool) (n h w : ℕ) (ws : List ℕ) (k : Countdown) → length ws ≡ 32 → n < 32 → of_word s w ≡ k
    → under_way s (min 32 (n + 1)) h (set ws ((h % 32 + n) % 32) w) ≡ snoc (under_way s (min 32 n) h ws) k
added s n h w ws k l m e =
    let a : min 32 (n + 1) ≡ suc n = omega arith in
    let b : min 32 n ≡ n = omega arith in
    let c : (h % 32 + n) % 32 ≡ (h + n) % 32 = omega arith in
    rw (a, b, c) (under_way_add s n h w ws l m ∙ ap (snoc (under_way s n h ws)) e)

module _ (f : Fires) (k : Countdown) where
  pub add_full : 32 ≤ f.count
      → fires_moved (record { seconds = f.seconds; first = f.first; count = f.count; words = f.words; fired = 0 })
      ≡ moved (add_fire (fires f) k) [] 0
  unfolding fires_moved add_fire fires fires_of fires≔ idle if◌then◌otherwise◌
  add_full l =
      let m : 32 ≤ length (fires_of f) = omega (arith, length_fires f) in
      rw (le-ltb (length (fires_of f)) 32 m)

  pub add_one_more : (w : ℕ) → length f.words ≡ 32 → f.count < 32 → counts_seconds k ≡ f.seconds → (w ≡ word_of k) × (of_word (counts_seconds k) w ≡ k)
      → fires_moved (record { seconds = f.seconds; first = f.first; count = f.count + 1; words = set f.words ((f.first % 32 + f.count) % 32) w; fired = 0 })
      ≡ moved (add_fire (fires f) k) [] 0
  unfolding fires_moved add_fire fires fires_of fires≔ idle if◌then◌otherwise◌
  add_one_more w l m e b =
      let short : length (fires_of f) < 32 = omega (arith, length_fires f) in
      rw (lt-ltb (length (fires_of f)) 32 short)
      (ap (λ (r : List Countdown). moved (fires≔ idle r) [] 0) (added f.seconds f.count f.first w f.words k l m (word_kept f.seconds w k e b.1)))

-- ---- those due leave

pub drop_front : (d : Delay) (k : Countdown) (ks : List Countdown) (n : ℕ) → due k ≡ true → drop_due d (k ∷ ks) n ≡ drop_due d ks (suc n)
unfolding drop_due
drop_front d k ks n e = rw (e, drop_due)

pub keep_front : (d : Delay) (k : Countdown) (ks : List Countdown) (n : ℕ) → due k ≡ false → drop_due d (k ∷ ks) n ≡ moved (fires≔ d (k ∷ ks)) [] n
unfolding drop_due
keep_front d k ks n e = rw (e, drop_due)

drop_mod : (s : Bool) (n h : ℕ) (ws : List ℕ) → under_way s n (h % 32 + 1) ws ≡ under_way s n (suc h) ws
drop_mod s n h ws = under_way_same s n (h % 32 + 1) (suc h) ws (omega arith)

module _ (s : Bool) (n h fired : ℕ) (ws : List ℕ) (k : Counting) (over : Bool) (x : Moved)
    (q : drop_due idle (under_way s n h ws) fired ≡ x) (t : 0 < n) (e : counted k ≡ of_word s (get_or ws (h % 32) 0)) (o : over ≡ due (counted k)) where
  front : under_way s n h ws ≡ of_word s (get_or ws (h % 32) 0) ∷ under_way s (n - 1) (suc h) ws
  front = let m : n ≡ suc (n - 1) = omega arith in ap (λ (j : ℕ). under_way s j h ws) m ∙ under_way_front s (n - 1) h ws

  front_due : (b : Bool) → not over ≡ not b → due (of_word s (get_or ws (h % 32) 0)) ≡ b
  front_due b r = ap due (sym e) ∙ sym o ∙ sym (not-not over) ∙ ap not r ∙ not-not b

  pub drop_turn : not over ≡ false → drop_due idle (under_way s (n - 1) (h % 32 + 1) ws) (fired + 1) ≡ x
  drop_turn r =
      let one : fired + 1 ≡ suc fired = omega arith in
      rw (drop_mod s (n - 1) h ws, one)
      (sym (ap (λ (l : List Countdown). drop_due idle l fired) front ∙ drop_front idle _ (under_way s (n - 1) (suc h) ws) fired (front_due true r)) ∙ q)

  pub drop_stays : not over ≡ true → moved (fires≔ idle (under_way s n h ws)) [] fired ≡ x
  drop_stays r =
      ap (λ (l : List Countdown). moved (fires≔ idle l) [] fired) front
      ∙ sym (ap (λ (l : List Countdown). drop_due idle l fired) front ∙ keep_front idle _ (under_way s (n - 1) (suc h) ws) fired (front_due false r))
      ∙ q

pub drop_none : (s : Bool) (n h fired : ℕ) (ws : List ℕ) (x : Moved) → drop_due idle (under_way s n h ws) fired ≡ x → n ≤ 0
    → moved (fires≔ idle (under_way s n h ws)) [] fired ≡ x
unfolding drop_due under_way ring
drop_none s n h fired ws x q t = let m : n ≡ 0 = omega arith in (rw m) ∙ q

-- the fires that are left, of a buffer g that has at most 32
pub drop_ends : (f g : Fires) → f.count + f.fired ≤ 32 → g.count ≤ 32
    → moved (fires≔ idle (under_way f.seconds f.count f.first f.words)) [] f.fired ≡ drop_due idle (under_way g.seconds g.count g.first g.words) 0
    → fires_moved f ≡ drop_due idle (fires_of g) 0
unfolding fires_moved fires fires_of
drop_ends f g l m q =
    let a : min 32 f.count ≡ f.count = omega arith in
    let b : min 32 g.count ≡ g.count = omega arith in
    rw (a, b) q

-- ---- a tick

-- d with the fires of e
unfoldable pub with_fires : Delay → Delay → Delay
with_fires d e = fires≔ d e.fires

-- d moved on to what m has of this part
unfoldable pub moved_fires : Delay → Moved → Moved
moved_fires d m = moved (with_fires d m.state) m.row m.fires

-- whatever the other parts are, the same fires leave
pub drop_kept : (d e : Delay) (ks : List Countdown) (n : ℕ) → drop_due d ks n ≡ moved_fires d (drop_due e ks n)
unfolding drop_due moved_fires with_fires fires≔ moved
drop_kept d e [] n = refl
drop_kept d e (k ∷ ks) n = go (due k) refl (drop_kept d e ks (suc n))
  where
    go : (b : Bool) → due k ≡ b → drop_due d ks (suc n) ≡ moved_fires d (drop_due e ks (suc n)) → drop_due d (k ∷ ks) n ≡ moved_fires d (drop_due e (k ∷ ks) n)
    go true q r = drop_front d k ks n q ∙ r ∙ ap (moved_fires d) (sym (drop_front e k ks n q))
    go false q r = keep_front d k ks n q ∙ ap (moved_fires d) (sym (keep_front e k ks n q))

drop_idle : (l ks : List Countdown) (n : ℕ) → drop_due (fires≔ idle l) ks n ≡ drop_due idle ks n
unfolding moved_fires with_fires fires≔
drop_idle l ks n = drop_kept (fires≔ idle l) idle ks n ∙ sym (drop_kept idle idle ks n)

pub advance_drops : (f r : Fires) (dt n : ℕ) (left : List ℕ) → n ≡ min 32 f.count
    → under_way f.seconds n (f.first % 32) left ≡ map (tick_down dt) (under_way f.seconds n (f.first % 32) f.words)
    → (r.seconds ≡ f.seconds) × (fires_moved r ≡ drop_due idle (fires_of (record { seconds = f.seconds; first = f.first % 32; count = n; words = left; fired = f.fired })) 0)
    → (r.seconds ≡ f.seconds) × (fires_moved r ≡ advance_fires dt (fires f))
unfolding fires_of fires advance_fires fires≔
advance_drops f r dt n left e c d =
    let m : min 32 n ≡ n = omega arith in
    let slot : f.first % 32 % 32 ≡ f.first % 32 = omega arith in
    let view : under_way f.seconds n (f.first % 32) f.words ≡ under_way f.seconds (min 32 f.count) f.first f.words =
    under_way_same f.seconds n (f.first % 32) f.first f.words slot ∙ ap (λ (j : ℕ). under_way f.seconds j f.first f.words) e in (
      d.0,
      d.1
          ∙ ap (λ (l : List Countdown). drop_due idle l 0) (ap (λ (j : ℕ). under_way f.seconds j (f.first % 32) left) m ∙ c ∙ ap (map (tick_down dt)) view)
          ∙ sym (drop_idle (fires_of f) (map (tick_down dt) (fires_of f)) 0),
    )
