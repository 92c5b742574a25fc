-- Laws of the slots: what loads and stores of words say about the records in the slots.
use Prim.Native.Nat.{ℕ, ◌+◌, ◌*◌, ◌≤◌, ◌<◌}
use mathlib.Core.Path.{◌≡◌, sym, ap, ◌∙◌}
use mathlib.Core.Bool.{Bool, false}
use mathlib.Core.List.{List}
use native.Mathlib.Omega.{arith}
use borrow.Author.Tests.{leb-false}
use lib.Dec.{leb}
use lib.ListN.{length, get_or, set, take, drop, length-drop}
use lib.Seq.{length-take-le, get_or-take, get_or-drop, ext_get_or, drop-set-lt, get_or-set_same, get_or-set_other, paste, length-paste}
use Rattle.words.specs.Words.{words}
use Rattle.words.proofs.Laws.{words_long}
use Rattle.words.proofs.Putting.{put_here, put_before, put_apart}
use Rattle.model.specs.Base.{both}
use Rattle.model.specs.Value.{value_of}
use Rattle.model.specs.State.{Countdown}
use Rattle.model.specs.Delays.{tick_down}
use Rattle.delays.specs.declared.countdown.Countdown.{Countdown as Counting}
use Rattle.delays.specs.States.{counted, counts_seconds, of_word}
use Rattle.delays.proofs.Countdowns.{kind_word, kind_tick}
use Rattle.queue.specs.declared.Record.{Record}
use Rattle.queue.specs.Queue.{queued, ticked, slot, Placed}

-- ---- eight words in a row

-- eight words that were read one by one
pub eight_words : (s xs : List ℕ) (p : ℕ) → (p + 8) * 8 ≤ length s → length xs ≡ 8 → ((j : ℕ) → j < 8 → get_or xs j 0 ≡ get_or (words s) (p + j) 0) → xs ≡ take 8 (drop p (words s))
eight_words s xs p l n h =
    let m = words_long (p + 8) s l in
    let t : length (take 8 (drop p (words s))) ≡ 8 = length-take-le 8 (drop p (words s)) (omega (arith, length-drop p (words s))) in
    ext_get_or 0 xs (take 8 (drop p (words s))) (n ∙ sym t)
    (λ j k. h j (omega arith) ∙ sym (get_or-take 8 (drop p (words s)) j 0 (omega arith) ∙ get_or-drop p (words s) j 0))

-- ---- a slot

-- a word before the rows is stored: the rows are as before
pub slot_left : (seconds : Bool) (w : List ℕ) (i v t : ℕ) → i < 258 → slot seconds (set w i v) t ≡ record { row = (slot seconds w t).row; left = of_word seconds (get_or (set w i v) (2 + t) 0) }
unfolding slot
slot_left seconds w i v t h = rw (drop-set-lt (258 + t * 16) w i v (omega arith), drop-set-lt (266 + t * 16) w i v (omega arith))

-- the word of a slot's countdown is stored
left_placed : (seconds : Bool) (w : List ℕ) (s v : ℕ) (k : Countdown) → 4354 ≤ length w → s < 256 → of_word seconds v ≡ k
    → Placed seconds w (set w (2 + s) v) s (record { row = (slot seconds w s).row; left = k })
unfolding slot
left_placed seconds w s v k l h e =
    record {
      here = slot_left seconds w (2 + s) v s (omega arith) ∙ rw (get_or-set_same w (2 + s) v 0 (omega arith), e);
      others = λ t m d. slot_left seconds w (2 + s) v t (omega arith) ∙ rw (get_or-set_other w (2 + s) (2 + t) v 0 (omega arith));
      first = get_or-set_other w (2 + s) 0 v 0 (omega arith);
      count = get_or-set_other w (2 + s) 1 v 0 (omega arith);
    }

-- a row and the word of a countdown are stored
module _ (seconds : Bool) (w w₁ w₂ ks cs : List ℕ) (i v : ℕ) (k : Countdown) (l : 4354 ≤ length w) (h : i < 256) (lk : length ks ≡ 8) (lc : length cs ≡ 8)
    (e₁ : w₁ ≡ paste w (258 + i * 16) ks 8) (e₂ : w₂ ≡ paste w₁ (266 + i * 16) cs 8) (e : of_word seconds v ≡ k) where
  -- as many words as before
  length₁ : length w₁ ≡ length w
  length₁ = ap length e₁ ∙ length-paste w (258 + i * 16) ks 8 (omega arith) (omega arith)

  length₂ : length w₂ ≡ length w
  length₂ = ap length e₂ ∙ length-paste w₁ (266 + i * 16) cs 8 (omega (arith, length₁)) (omega arith) ∙ length₁

  -- the words before the rows
  before : (j : ℕ) → j < 258 → get_or w₂ j 0 ≡ get_or w j 0
  before j m =
      ap (λ (x : List ℕ). get_or x j 0) e₂ ∙ put_before 8 w₁ cs (266 + i * 16) (omega (arith, length₁)) lc j (omega arith)
      ∙ ap (λ (x : List ℕ). get_or x j 0) e₁ ∙ put_before 8 w ks (258 + i * 16) (omega arith) lk j (omega arith)

  -- eight words apart from both
  apart : (q : ℕ) → (leb (q + 8) (266 + i * 16) ≡ false → 266 + i * 16 + 8 ≤ q) → (leb (q + 8) (258 + i * 16) ≡ false → 258 + i * 16 + 8 ≤ q)
      → take 8 (drop q w₂) ≡ take 8 (drop q w)
  apart q b a =
      ap (λ (x : List ℕ). take 8 (drop q x)) e₂ ∙ put_apart 8 w₁ cs (266 + i * 16) (omega (arith, length₁)) lc 8 q b
      ∙ ap (λ (x : List ℕ). take 8 (drop q x)) e₁ ∙ put_apart 8 w ks (258 + i * 16) (omega arith) lk 8 q a

  -- the row itself
  kinds_here : take 8 (drop (258 + i * 16) w₂) ≡ ks
  kinds_here =
      ap (λ (x : List ℕ). take 8 (drop (258 + i * 16) x)) e₂
      ∙ put_apart 8 w₁ cs (266 + i * 16) (omega (arith, length₁)) lc 8 (258 + i * 16) (λ z. omega (arith, leb-false (258 + i * 16 + 8) (266 + i * 16) z))
      ∙ ap (λ (x : List ℕ). take 8 (drop (258 + i * 16) x)) e₁ ∙ put_here 8 w ks (258 + i * 16) (omega arith) lk

  contents_here : take 8 (drop (266 + i * 16) w₂) ≡ cs
  contents_here = ap (λ (x : List ℕ). take 8 (drop (266 + i * 16) x)) e₂ ∙ put_here 8 w₁ cs (266 + i * 16) (omega (arith, length₁)) lc

  -- the slot is the new record, and the other slots are as before
  pub row_placed : Placed seconds w (set w₂ (2 + i) v) i (record { row = both value_of ks cs; left = k })
  unfolding slot
  row_placed =
      let n = length₂ in
      record {
        here = slot_left seconds w₂ (2 + i) v i (omega arith) ∙ rw (kinds_here, contents_here, get_or-set_same w₂ (2 + i) v 0 (omega arith), e);
        others = λ t m d.
            slot_left seconds w₂ (2 + i) v t (omega arith)
            ∙ rw (
              apart (258 + t * 16) (λ z. omega (arith, leb-false (258 + t * 16 + 8) (266 + i * 16) z)) (λ z. omega (arith, leb-false (258 + t * 16 + 8) (258 + i * 16) z)),
              apart (266 + t * 16) (λ z. omega (arith, leb-false (266 + t * 16 + 8) (266 + i * 16) z)) (λ z. omega (arith, leb-false (266 + t * 16 + 8) (258 + i * 16) z)),
              get_or-set_other w₂ (2 + i) (2 + t) v 0 (omega arith),
              before (2 + t) (omega arith),
            );
        first = get_or-set_other w₂ (2 + i) 0 v 0 (omega arith) ∙ before 0 (omega arith);
        count = get_or-set_other w₂ (2 + i) 1 v 0 (omega arith) ∙ before 1 (omega arith);
      }

-- ---- ways out

-- a record is read
pub loaded : (s : List ℕ) (seconds : Bool) (i w : ℕ) (ks cs : List ℕ) (k : Counting) → ks ≡ take 8 (drop (258 + i * 16) (words s)) → cs ≡ take 8 (drop (266 + i * 16) (words s))
    → w ≡ get_or (words s) (2 + i) 0 → counted k ≡ of_word seconds w → queued (record { kinds = ks; contents = cs; left = k }) ≡ slot seconds (words s) i
unfolding queued slot
loaded s seconds i w ks cs k ek ec ew el = rw (ek, ec, el, ew)

-- a record counts down
pub counted_slot : (s t : List ℕ) (seconds : Bool) (dt i w v : ℕ) (k n : Counting) → 34832 ≤ length s → i < 256 → w ≡ get_or (words s) (2 + i) 0 → counted k ≡ of_word seconds w
    → counted n ≡ tick_down dt (counted k) → of_word (counts_seconds (counted n)) v ≡ counted n → words t ≡ set (words s) (2 + i) v
    → Placed seconds (words s) (words t) i (ticked dt (slot seconds (words s) i))
unfolding ticked slot
counted_slot s t seconds dt i w v k n l h ew ek en ev et =
    let m = words_long 4354 s l in
    let d : counted n ≡ tick_down dt (of_word seconds (get_or (words s) (2 + i) 0)) = en ∙ ap (tick_down dt) (ek ∙ ap (of_word seconds) ew) in
    let c : counts_seconds (counted n) ≡ seconds =
    ap counts_seconds en ∙ kind_tick dt (counted k) ∙ ap counts_seconds ek ∙ kind_word seconds w in
    rw et (left_placed seconds (words s) i v (tick_down dt (of_word seconds (get_or (words s) (2 + i) 0))) m h (sym (ap (λ (b : Bool). of_word b v) c) ∙ ev ∙ d))

-- a record is stored
pub stored_slot : (s t u z : List ℕ) (i v : ℕ) (r : Record) → 34832 ≤ length s → i < 256 → length r.kinds ≡ 8 → length r.contents ≡ 8
    → words t ≡ paste (words s) (258 + i * 16) r.kinds (length r.kinds) → words u ≡ paste (words t) (266 + i * 16) r.contents (length r.contents)
    → of_word (counts_seconds (counted r.left)) v ≡ counted r.left → words z ≡ set (words u) (2 + i) v
    → Placed (counts_seconds (counted r.left)) (words s) (words z) i (queued r)
unfolding queued
stored_slot s t u z i v r l h lk lc et eu ev ez =
    rw ez
    (row_placed (counts_seconds (counted r.left)) (words s) (words t) (words u) r.kinds r.contents i v (counted r.left) (words_long 4354 s l) h lk lc
    (et ∙ ap (paste (words s) (258 + i * 16) r.kinds) lk)
    (eu ∙ ap (paste (words t) (266 + i * 16) r.contents) lc)
    ev)
