-- The fires under way in a slot: one law for each way out of a function, and for each turn of a loop.
use Prim.Native.Nat.{ℕ, suc, ◌+◌, ◌-◌, ◌*◌, ◌≤◌, ◌<◌, min}
use mathlib.Core.Path.{◌≡◌, refl, sym, ap, ap₂, ◌∙◌, subst}
use mathlib.Core.Bool.{Bool, true, false, cond}
use mathlib.Core.List.{List, [], ◌∷◌, ◌++◌, map, append_assoc}
use native.Mathlib.Omega.{arith}
use borrow.Author.Tests.{lt-ltb, le-ltb}
use lib.Dec.{leb, ltb}
use lib.ListN.{length, get_or, set, take, drop, length-set, length-map}
use lib.Seq.{length-take-le, take_at, paste, take_all, take-suc, take-suc-set, take-set-le, get_or-take, get_or-drop, get_or-set_same, get_or-set_other}
use Rattle.words.specs.Words.{words}
use Rattle.words.proofs.Laws.{length_words}
use Rattle.words.proofs.Putting.{put_here}
use Rattle.lists.specs.Lists.{Filed, NoRoom, Done}
use Rattle.model.specs.Base.{if◌then◌otherwise◌}
use Rattle.model.specs.Circuit.{Circuit, part, kind_of_gate}
use Rattle.model.specs.State.{Countdown, Queued, Delay, idle, fires≔}
use Rattle.model.specs.Delays.{Moved, moved, tick_down, due, drop_due, advance_fires}
use Rattle.model.specs.Exec.{countdown, most_fires}
use Rattle.delays.specs.declared.countdown.Started.{Started as Starting}
use Rattle.delays.specs.declared.fires.Fires.{Fires}
use Rattle.delays.specs.States.{counted, started, under_way, fires_of, fires, fires_moved, add_fire}
use Rattle.delays.proofs.Rings.{under_way_length}
use Rattle.delays.proofs.Firing.{drop_front, keep_front}
use Rattle.delays.proofs.Kept.{fires_stored, add_stored}
use borrow.Rule.Slice.PartMut.{put_mid}
use Rattle.states.specs.View.{slot_at, flight_in, later_in, fires_in, delay_of, records_at, delays, delay_in, counting, Lent, Moves}
use Rattle.states.specs.Slots.{Becomes, Turns, Added}
use Rattle.states.proofs.Lists.{part_length, part_front}
use Rattle.states.specs.Lent.{AddsFire}
use Rattle.states.proofs.Lending.{lent_delay, starts_gate, turns_gate, starts_past, turns_past, delay_past}

-- ---- the 32 places

-- what place i holds
place : (ws : List ℕ) (i : ℕ) → i < 32 → get_or (part ws 11 32) i 0 ≡ get_or ws (11 + i) 0
unfolding part
place ws i h = get_or-take 32 (drop 11 ws) i 0 h ∙ get_or-drop 11 ws i 0

-- the places of a slot
pub places : (s : List ℕ) → length s ≡ 344 → length (part (words s) 11 32) ≡ 32
places s e = part_length 11 32 (words s) (omega (arith, length_words 43 s e))

-- a slot by what stands before the places and by the fires
by_fires : (s : Bool) (ws vs : List ℕ) (qs : List Queued) → take 9 vs ≡ take 9 ws → delay_of s vs qs ≡ fires≔ (delay_of s ws qs) (fires_in s vs)
unfolding delay_of flight_in later_in fires≔
by_fires s ws vs qs e =
    let w : (i : ℕ) → i < 9 → get_or vs i 0 ≡ get_or ws i 0 = λ i h. sym (get_or-take 9 vs i 0 h) ∙ ap (λ (t : List ℕ). get_or t i 0) e ∙ get_or-take 9 ws i 0 h in
    rw (w 0 (omega arith), w 1 (omega arith), w 2 (omega arith), w 3 (omega arith), w 4 (omega arith), w 5 (omega arith), w 6 (omega arith), w 7 (omega arith), w 8 (omega arith))

-- how many there are
pub many : (s : Bool) (ws : List ℕ) (qs : List Queued) → length (delay_of s ws qs).fires ≡ min 32 (get_or ws 10 0)
unfolding delay_of fires_in
many s ws qs = under_way_length s (min 32 (get_or ws 10 0)) (get_or ws 9 0) (part ws 11 32)

-- ---- the places loaded

copied_next : (xs ys : List ℕ) (i x : ℕ) → i < length xs → i < length ys → take i xs ≡ take i ys → x ≡ get_or ys i 0 → take (i + 1) (set xs i x) ≡ take (i + 1) ys
copied_next xs ys i x l m q e =
    let one : i + 1 ≡ suc i = omega arith in
    rw one (take-suc-set xs i x l ∙ ap₂ (λ (a : List ℕ) (b : ℕ). a ++ (b ∷ [])) q e ∙ sym (take-suc ys i 0 m))

pub load_next :
    (s xs : List ℕ) (i x : ℕ) → length s ≡ 344 → length xs ≡ 32 → i < 32 → take i xs ≡ take i (part (words s) 11 32) → x ≡ get_or (words s) (11 + i) 0 →
    take (i + 1) (set xs i x) ≡ take (i + 1) (part (words s) 11 32)
load_next s xs i x h l t q e = copied_next xs (part (words s) 11 32) i x (omega arith) (omega (arith, places s h)) q (e ∙ sym (place (words s) i t))

pub load_last :
    (s xs : List ℕ) (i : ℕ) → length s ≡ 344 → length xs ≡ 32 → take i xs ≡ take i (part (words s) 11 32) → 32 ≤ i → xs ≡ part (words s) 11 32
load_last s xs i h l q t = sym (take_all i xs (omega arith)) ∙ q ∙ take_all i (part (words s) 11 32) (omega (arith, places s h))

-- ---- the places stored

-- the places of a slot became ps: what stands before them is the same
stored_places : (ws ps : List ℕ) → length ws ≡ 43 → length ps ≡ 32 → (take 11 (paste ws 11 ps 32) ≡ take 11 ws) × (part (paste ws 11 ps 32) 11 32 ≡ ps)
unfolding part
stored_places ws ps l k = (
  ap (take 11) (append_assoc (take 11 ws) (take 32 ps) (drop 43 ws)) ∙ take_at (take 11 ws) (take 32 ps ++ drop 43 ws) 11 (length-take-le 11 ws (omega arith)),
  put_here 32 ws ps 11 (omega arith) k,
)

-- ---- the fires loaded and stored

pub loaded_fires :
    (s : Bool) (ws ps : List ℕ) (h n i : ℕ) → h ≡ get_or ws 9 0 → n ≡ get_or ws 10 0 → ps ≡ part ws 11 32 →
    fires_of (record { seconds = s; first = h; count = n; words = ps; fired = i }) ≡ fires_in s ws
unfolding fires_of fires_in
loaded_fires s ws ps h n i eh en ep = λ j. under_way s (min 32 (en j)) (eh j) (ep j)

pub stored_fires :
    (f : Fires) (bs w₁ w₂ w₃ : List ℕ) → length bs ≡ 344 → length f.words ≡ 32 → w₁ ≡ set (words bs) 9 f.first → w₂ ≡ set w₁ 10 f.count →
    w₃ ≡ paste w₂ 11 f.words (length f.words) → Becomes f.seconds (words bs) w₃ (λ d. fires≔ d (fires_of f))
unfolding fires_of fires_in
stored_fires f bs w₁ w₂ w₃ l k e₁ e₂ e₃ qs =
    let ws = words bs in
    let lw : length ws ≡ 43 = length_words 43 bs l in
    let w : w₂ ≡ set (set ws 9 f.first) 10 f.count = e₂ ∙ ap (λ (t : List ℕ). set t 10 f.count) e₁ in
    let lw₂ : length w₂ ≡ 43 = ap length w ∙ length-set (set ws 9 f.first) 10 f.count ∙ length-set ws 9 f.first ∙ lw in
    let p : (take 11 w₃ ≡ take 11 w₂) × (part w₃ 11 32 ≡ f.words) = rw (e₃ ∙ ap (paste w₂ 11 f.words) k) (stored_places w₂ f.words lw₂ k) in
    let front : take 9 w₃ ≡ take 9 ws = part_front 11 9 w₂ w₃ (omega arith) p.0 ∙ ap (take 9) w ∙ take-set-le 9 (set ws 9 f.first) 10 f.count (omega arith) ∙ take-set-le 9 ws 9 f.first (omega arith) in
    let same : (i : ℕ) → i < 11 → get_or w₃ i 0 ≡ get_or (set (set ws 9 f.first) 10 f.count) i 0 = λ i h. sym (get_or-take 11 w₃ i 0 h) ∙ ap (λ (t : List ℕ). get_or t i 0) p.0 ∙ get_or-take 11 w₂ i 0 h ∙ ap (λ (t : List ℕ). get_or t i 0) w in
    let first : get_or w₃ 9 0 ≡ f.first = same 9 (omega arith) ∙ get_or-set_other (set ws 9 f.first) 10 9 f.count 0 (λ q. omega arith) ∙ get_or-set_same ws 9 f.first 0 (omega arith) in
    let count : get_or w₃ 10 0 ≡ f.count = same 10 (omega arith) ∙ get_or-set_same (set ws 9 f.first) 10 f.count 0 (omega (arith, length-set ws 9 f.first)) in
    let to : fires_in f.seconds w₃ ≡ fires_of f = λ j. under_way f.seconds (min 32 (count j)) (first j) (p.1 j) in
    by_fires f.seconds ws w₃ qs front ∙ ap (fires≔ (delay_of f.seconds ws qs)) to

-- ---- one fire more

pub add_full : (s : Bool) (ws : List ℕ) (n : ℕ) (k : Countdown) → n ≡ get_or ws 10 0 → 32 ≤ n → Added s ws ws k NoRoom
unfolding add_fire if◌then◌otherwise◌
add_full s ws n k e h qs =
    let f : ltb (length (delay_of s ws qs).fires) 32 ≡ false = le-ltb (length (delay_of s ws qs).fires) 32 (omega (arith, many s ws qs)) in
    rw f (refl, refl)

pub add_moves :
    (s : Bool) (ws vs : List ℕ) (n : ℕ) (f r : Fires) (k : Countdown) → n ≡ get_or ws 10 0 → n < 32 → (f.seconds ≡ s) × (fires_of f ≡ fires_in s ws) →
    (r.seconds ≡ f.seconds) × (fires_moved r ≡ moved (add_fire (fires f) k) [] 0) → Becomes r.seconds ws vs (λ d. fires≔ d (fires_of r)) → Added s ws vs k Done
unfolding delay_of
add_moves s ws vs n f r k en h l m st qs =
    let room : ltb (length (delay_of s ws qs).fires) 32 ≡ true = lt-ltb (length (delay_of s ws qs).fires) 32 (omega (arith, many s ws qs)) in
    let to : Becomes s ws vs (λ d. fires≔ d (fires_of r)) = subst (λ (b : Bool). Becomes b ws vs (λ d. fires≔ d (fires_of r))) (m.0 ∙ l.0) st in
    (ap (λ (b : Bool). cond b Done NoRoom) (sym room), to qs ∙ add_stored (delay_of s ws qs) f r l.1 k m.1)

-- ---- a tick

-- none under way
idle_fires : (dt : ℕ) (d : Delay) → d.fires ≡ [] → advance_fires dt d ≡ moved d [] 0
unfolding advance_fires drop_due fires≔ moved
idle_fires dt d e = ap (λ (ks : List Countdown). drop_due d (map (tick_down dt) ks) 0) e ∙ ap (λ (ks : List Countdown). moved (fires≔ d ks) [] 0) (sym e)

pub fires_none : (s : Bool) (ws : List ℕ) (dt n : ℕ) → n ≡ get_or ws 10 0 → n ≡ 0 → Turns s ws ws (advance_fires dt) [] 0
fires_none s ws dt n e z qs = idle_fires dt (delay_of s ws qs) (empty (delay_of s ws qs).fires (omega (arith, many s ws qs)))
  where
    empty : (ks : List Countdown) → length ks ≡ 0 → ks ≡ []
    empty [] h = refl
    empty (k ∷ ks) h = absurd (omega arith)

-- no more leave than there are
drop_few : (d : Delay) (ks : List Countdown) (n : ℕ) → (drop_due d ks n).fires ≤ n + length ks
unfolding drop_due moved
drop_few d [] n = omega arith
drop_few d (k ∷ ks) n = go (due k) refl (drop_few d ks (suc n))
  where
    go : (b : Bool) → due k ≡ b → (drop_due d ks (suc n)).fires ≤ suc n + length ks → (drop_due d (k ∷ ks) n).fires ≤ n + length (k ∷ ks)
    go true e q = let z : (drop_due d (k ∷ ks) n).fires ≡ (drop_due d ks (suc n)).fires = ap (λ (m : Moved). m.fires) (drop_front d k ks n e) in omega arith
    go false e q = let z : (drop_due d (k ∷ ks) n).fires ≡ n = ap (λ (m : Moved). m.fires) (keep_front d k ks n e) in omega arith

-- some under way
pub fires_run :
    (s : Bool) (ws vs : List ℕ) (dt : ℕ) (f r : Fires) → (f.seconds ≡ s) × (fires_of f ≡ fires_in s ws) →
    (r.seconds ≡ f.seconds) × (fires_moved r ≡ advance_fires dt (fires f)) → Becomes r.seconds ws vs (λ d. fires≔ d (fires_of r)) →
    Turns s ws vs (advance_fires dt) [] r.fired × (r.fired ≤ 32)
unfolding delay_of fires_in fires_moved fires fires≔ advance_fires moved
fires_run s ws vs dt f r l m st =
    let to : Becomes s ws vs (λ d. fires≔ d (fires_of r)) = subst (λ (b : Bool). Becomes b ws vs (λ d. fires≔ d (fires_of r))) (m.0 ∙ l.0) st in
    let fired : r.fired ≡ (drop_due (fires f) (map (tick_down dt) (fires_of f)) 0).fires = ap (λ (x : Moved). x.fires) m.1 in
    let long : length (fires_of f) ≡ min 32 (get_or ws 10 0) = ap length l.1 ∙ under_way_length s (min 32 (get_or ws 10 0)) (get_or ws 9 0) (part ws 11 32) in (
      (λ qs. sym (fires_stored (delay_of s ws qs) f r l.1 dt m.1) ∙ ap (λ (d : Delay). moved d [] r.fired) (sym (to qs))),
      omega (arith, drop_few (fires f) (map (tick_down dt) (fires_of f)) 0, length-map (fires_of f) (tick_down dt)),
    )

-- ---- a gate's slot lent

module _ (c : Circuit) (bs p : List ℕ) (n g a e : ℕ) (l : Lent c bs) (en : (n ≡ length c.kinds) × (n ≤ 64)) (k : g < n) (ea : a ≡ slot_at g * 8) (ee : e ≡ a + 344) (ep : length p ≡ 344) where
  pub add_gate : (fs : List ℕ) (x : ℕ) (j : Starting) (r : Filed) → x ≡ kind_of_gate c g → started j ≡ countdown c g true
      → Added (leb 12 x) (words (take (e - a) (drop a bs))) (words p) (counted j.left) r → delays c fs ≡ counting (delays c (put_mid a (e - a) bs p)) j.changed
      → AddsFire (delays c bs) (delays c fs) g r (countdown c g true)
  add_gate fs x j r ex ej h et =
      let q : Added (leb 12 (kind_of_gate c g)) (words (take (e - a) (drop a bs))) (words p) (counted j.left) r = rw ex at h in (
        (q (records_at c (words bs) g)).0 ∙ ap (λ (d : Delay). cond (ltb (length d.fires) most_fires) Done NoRoom) (sym (lent_delay c bs p n g a e l en k ea ee ep)),
        starts_gate c bs p n g a e l en k ea ee ep fs x true j add_fire ex ej (λ qs. (h qs).1) et,
      )

  pub fires_gate : (x dt r : ℕ) → x ≡ kind_of_gate c g → Turns (leb 12 x) (words (take (e - a) (drop a bs))) (words p) (advance_fires dt) [] r × (r ≤ 32)
      → Moves (delays c bs) (delays c (put_mid a (e - a) bs p)) g (advance_fires dt (delay_in (delays c bs) g)) [] r × (r ≤ 32)
  fires_gate x dt r ex h = (turns_gate c bs p n g a e l en k ea ee ep x (leb 12 x) (advance_fires dt) [] r ex refl h.0, h.1)

module _ (c : Circuit) (bs : List ℕ) (n g : ℕ) (en : (n ≡ length c.kinds) × (n ≤ 64)) (k : n ≤ g) where
  pub add_past : AddsFire (delays c bs) (delays c bs) g Done (countdown c g true)
  unfolding idle
  add_past =
      (ap (λ (d : Delay). cond (ltb (length d.fires) most_fires) Done NoRoom) (sym (delay_past c bs g (omega (arith, en.0)))), starts_past c bs n g en k true add_fire)

  pub fires_past : (dt : ℕ) → Moves (delays c bs) (delays c bs) g (advance_fires dt (delay_in (delays c bs) g)) [] 0 × (0 ≤ 32)
  unfolding advance_fires drop_due idle moved
  fires_past dt = (turns_past c bs n g en k (advance_fires dt) [] 0 refl refl refl, omega arith)
