-- The two halves of the events: what loads of words read of them, and what an event that is sent changes.
use Prim.Native.Nat.{ℕ, zero, suc, ◌+◌, ◌-◌, ◌*◌, ◌≤◌, ◌<◌, min}
use mathlib.Core.Path.{◌≡◌, refl, sym, ap, ap₂, ◌∙◌}
use mathlib.Core.Bool.{Bool, true, false, cond, not, ◌||◌, or-true}
use mathlib.Core.List.{List, [], ◌∷◌, ◌++◌, map}
use native.Mathlib.Omega.{arith}
use borrow.Author.Tests.{le-leb, lt-leb, leb-false, eq-eqb, ne_eqb}
use lib.Dec.{eqb, leb}
use lib.ListN.{length, get_or, set, drop, length-set, length-drop, length-map, length-take, get_or-eq_default}
use lib.Seq.{get_or-take, get_or-drop, get_or-set_same, get_or-set_other, length-take-le, paste, paste-zero, paste-suc, length-paste}
use Rattle.words.specs.Words.{words, tail, Stored}
use Rattle.words.proofs.Laws.{words_long}
use Rattle.words.proofs.Putting.{put_here, put_apart}
use Rattle.lists.specs.Lists.{queued}
use Rattle.model.specs.declared.Value.{Value}
use Rattle.model.specs.declared.Value.TheVariants.{Nothing}
use Rattle.model.specs.Base.{if◌then◌otherwise◌, both, from, among, snoc}
use Rattle.model.specs.Value.{value_of}
use Rattle.model.specs.Circuit.{Circuit, part}
use Rattle.model.specs.State.{Send}
use Rattle.units.specs.View.{Tables, Units, cut, event_of, event_at, half_at, events_of, second_half, units_of, units}
use Rattle.units.specs.Calls.{with_outbox, sent}
use Rattle.units.proofs.Lending.{with_table, cut_poke, cut_peek, sized}

-- ---- numbers in a row

from_length : (a n : ℕ) → length (from a n) ≡ n
unfolding from
from_length a zero = refl
from_length a (suc n) = ap suc (from_length (suc a) n)

module _ {A : Type 0} (f : ℕ → A) where
  -- what the e-th of them is taken to
  pub from_at : (a n e : ℕ) (d : A) → e < n → get_or (map f (from a n)) e d ≡ f (a + e)
  unfolding from
  from_at a zero e d h = absurd (omega arith)
  from_at a (suc n) zero d h = let k : a ≡ a + 0 = omega arith in ap f k
  from_at a (suc n) (suc e) d h = let k : suc a + e ≡ a + suc e = omega arith in from_at (suc a) n e d (omega arith) ∙ ap f k

  pub from_past : (a n e : ℕ) (d : A) → n ≤ e → get_or (map f (from a n)) e d ≡ d
  from_past a n e d h = get_or-eq_default (map f (from a n)) d (omega (arith, length-map (from a n) f, from_length a n))

  -- two functions that agree on them
  pub from_same : (g : ℕ → A) (a n : ℕ) → ((k : ℕ) → a ≤ k → k < a + n → f k ≡ g k) → map f (from a n) ≡ map g (from a n)
  unfolding from
  from_same g a zero h = refl
  from_same g a (suc n) h = λ j. h a (omega arith) (omega arith) j ∷ from_same g (suc a) n (λ k l m. h k (omega arith) (omega arith)) j

  -- one more at the end
  pub from_more : (a n : ℕ) → map f (from a (suc n)) ≡ map f (from a n) ++ (f (a + n) ∷ [])
  unfolding from
  from_more a zero = let k : a ≡ a + 0 = omega arith in ap (λ (x : ℕ). f x ∷ []) k
  from_more a (suc n) =
      let k : suc a + n ≡ a + suc n = omega arith in
      ap (λ (l : List A). f a ∷ l) (from_more (suc a) n ∙ ap (λ (x : ℕ). map f (from (suc a) n) ++ (f x ∷ [])) k)

-- of what they are taken to, one part
from_part : {A B : Type 0} (p : A → B) (f : ℕ → A) (l : List ℕ) → map p (map f l) ≡ map (λ k. p (f k)) l
from_part p f [] = refl
from_part {B = B} p f (x ∷ l) = ap (λ (r : List B). p (f x) ∷ r) (from_part p f l)

-- ---- the halves

-- the events of half h
abbrev pub half_events : ℕ → Tables → List Send
half_events h t = map (event_at t.senders t.rows) (from (h * 64) (min (get_or t.counts h 0) 64))

pub half_is : (b : Bool) (t : Tables) → events_of b t ≡ half_events (cond b 1 0) t
unfolding events_of half_at if◌then◌otherwise◌
half_is true t = refl
half_is false t = refl

pub other_half : (b : Bool) (t : Tables) → events_of (not b) t ≡ half_events (1 - cond b 1 0) t
other_half true t = half_is false t
other_half false t = half_is true t

-- What is known of the outbox's half h.
abbrev pub Outbox : List ℕ → ℕ → Type 0
Outbox bs h = (h ≡ cond (second_half (cut (words bs))) 1 0) × (h < 2)

-- which half it is
pub outbox_first : (bs : List ℕ) (x : ℕ) → x ≡ get_or (words bs) 2377 0 → x ≡ 0 → Outbox bs 0
unfolding second_half
outbox_first bs x e z =
    let q : eqb (get_or (cut (words bs)).half 0 0) 0 ≡ true = eq-eqb _ 0 (sym (e ∙ cut_peek (words bs) 7 0 (omega arith)) ∙ z) in
    (rw q, omega arith)

pub outbox_second : (bs : List ℕ) (x : ℕ) → x ≡ get_or (words bs) 2377 0 → (x ≡ 0 → ⊥) → Outbox bs 1
unfolding second_half
outbox_second bs x e z =
    let q : eqb (get_or (cut (words bs)).half 0 0) 0 ≡ false = ne_eqb _ 0 (λ y. z (e ∙ cut_peek (words bs) 7 0 (omega arith) ∙ y)) in
    (rw q, omega arith)

-- what is known of how many events half h holds
abbrev pub Held : List ℕ → ℕ → ℕ → Type 0
Held bs h n = (n ≡ min (get_or (words bs) (2378 + h) 0) 64) × (n ≤ 64)

pub outbox_is : (c : Circuit) (bs : List ℕ) (h : ℕ) → Outbox bs h → (units c bs).outbox ≡ half_events h (cut (words bs))
unfolding units
outbox_is c bs h e = half_is (second_half (cut (words bs))) (cut (words bs)) ∙ ap (λ (x : ℕ). half_events x (cut (words bs))) (sym e.0)

pub events_are : (c : Circuit) (bs : List ℕ) (h : ℕ) → Outbox bs h → (units c bs).events ≡ half_events (1 - h) (cut (words bs))
unfolding units
events_are c bs h e = other_half (second_half (cut (words bs))) (cut (words bs)) ∙ ap (λ (x : ℕ). half_events (1 - x) (cut (words bs))) (sym e.0)

-- with the count that was read
pub held_is : (bs : List ℕ) (h n : ℕ) → h < 2 → Held bs h n → min (get_or (cut (words bs)).counts h 0) 64 ≡ n
held_is bs h n l e = sym (e.0 ∙ ap (λ (x : ℕ). min x 64) (cut_peek (words bs) 8 h (omega arith)))

pub half_held :
    (bs : List ℕ) (h n : ℕ) → h < 2 → Held bs h n →
    half_events h (cut (words bs)) ≡ map (event_at (cut (words bs)).senders (cut (words bs)).rows) (from (h * 64) n)
half_held bs h n l e = ap (λ (x : ℕ). map (event_at (cut (words bs)).senders (cut (words bs)).rows) (from (h * 64) x)) (held_is bs h n l e)

pub half_length : (bs : List ℕ) (h n : ℕ) → h < 2 → Held bs h n → length (half_events h (cut (words bs))) ≡ n
half_length bs h n l e = ap length (half_held bs h n l e) ∙ length-map (from (h * 64) n) _ ∙ from_length (h * 64) n

-- the gates that sent them
pub half_senders :
    (bs : List ℕ) (h n : ℕ) → h < 2 → Held bs h n →
    map (λ m. m.gate) (half_events h (cut (words bs))) ≡ map (λ k. get_or (words bs) (2380 + k) 0) (from (h * 64) n)
unfolding event_at
half_senders bs h n l e =
    ap (map (λ m. m.gate)) (half_held bs h n l e)
    ∙ from_part (λ m. m.gate) (event_at (cut (words bs)).senders (cut (words bs)).rows) (from (h * 64) n)
    ∙ from_same (λ k. get_or (cut (words bs)).senders k 0) (λ k. get_or (words bs) (2380 + k) 0) (h * 64) n (λ k a b. sym (cut_peek (words bs) 9 k (omega arith)))

-- ---- ways out of the functions that read

-- a loop over senders: what is left of it at turn i
abbrev pub Scan : List ℕ → ℕ → ℕ → ℕ → ℕ → Bool
Scan ws a n g i = among g (map (λ k. get_or ws (2380 + k) 0) (from (a + i) (n - i)))

pub scan_first : (ws : List ℕ) (a n g : ℕ) → Scan ws a n g 0 ≡ among g (map (λ k. get_or ws (2380 + k) 0) (from a n))
scan_first ws a n g =
    let p : a + 0 ≡ a = omega arith in
    let q : n - 0 ≡ n = omega arith in
    rw (p, q)

-- one sender, and those behind it
scan_one : (ws : List ℕ) (a n g i : ℕ) → i < n → Scan ws a n g i ≡ (eqb g (get_or ws (2380 + (a + i)) 0) || Scan ws a n g (i + 1))
unfolding from among
scan_one ws a n g i h =
    let p : n - i ≡ suc (n - (i + 1)) = omega arith in
    let q : a + (i + 1) ≡ suc (a + i) = omega arith in
    rw (p, q)

pub scan_found : (ws : List ℕ) (a n g i x : ℕ) (r : Bool) → i < n → Scan ws a n g i ≡ r → x ≡ get_or ws (2380 + (a + i)) 0 → g ≡ x → true ≡ r
scan_found ws a n g i x r h e ex k =
    let q : eqb g (get_or ws (2380 + (a + i)) 0) ≡ true = eq-eqb g _ (k ∙ ex) in
    sym (ap (λ (b : Bool). b || Scan ws a n g (i + 1)) q) ∙ sym (scan_one ws a n g i h) ∙ e

pub scan_next : (ws : List ℕ) (a n g i x : ℕ) (r : Bool) → i < n → Scan ws a n g i ≡ r → x ≡ get_or ws (2380 + (a + i)) 0 → (g ≡ x → ⊥) → Scan ws a n g (i + 1) ≡ r
scan_next ws a n g i x r h e ex k =
    let q : eqb g (get_or ws (2380 + (a + i)) 0) ≡ false = ne_eqb g _ (λ z. k (z ∙ sym ex)) in
    sym (ap (λ (b : Bool). b || Scan ws a n g (i + 1)) q) ∙ sym (scan_one ws a n g i h) ∙ e

pub scan_last : (ws : List ℕ) (a n g i : ℕ) (r : Bool) → n ≤ i → Scan ws a n g i ≡ r → false ≡ r
unfolding from among
scan_last ws a n g i r h e = let p : n - i ≡ 0 = omega arith in rw p at e

-- whether a gate has sent
pub sent_is :
    (bs : List ℕ) (h n g : ℕ) (r : Bool) → Outbox bs h → Held bs h n → r ≡ among g (map (λ k. get_or (words bs) (2380 + k) 0) (from (h * 64) n)) →
    (c : Circuit) → r ≡ among g (map (λ m. m.gate) (units c bs).outbox)
sent_is bs h n g r o e q c =
    q ∙ ap (among g) (sym (half_senders bs h n o.1 e)) ∙ ap (λ (l : List Send). among g (map (λ m. m.gate) l)) (sym (outbox_is c bs h o))

-- how many events there are
pub events_counted : (bs : List ℕ) (h n : ℕ) → Outbox bs h → Held bs (1 - h) n → ((c : Circuit) → n ≡ length (units c bs).events) × (n ≤ 64)
events_counted bs h n o e =
    (λ c. sym (ap length (events_are c bs h o) ∙ half_length bs (1 - h) n (omega (arith, o.1)) e), e.1)

-- the gate that sent one
pub sender_past :
    (bs : List ℕ) (h n k : ℕ) → Outbox bs h → Held bs (1 - h) n → n ≤ k → (c : Circuit) → 0 ≡ get_or (map (λ m. m.gate) (units c bs).events) k 0
sender_past bs h n k o e l c =
    sym (ap (λ (x : List Send). get_or (map (λ m. m.gate) x) k 0) (events_are c bs h o)
    ∙ ap (λ (x : List ℕ). get_or x k 0) (half_senders bs (1 - h) n (omega (arith, o.1)) e)
    ∙ from_past (λ j. get_or (words bs) (2380 + j) 0) ((1 - h) * 64) n k 0 l)

pub sender_is :
    (bs : List ℕ) (h n k x : ℕ) → Outbox bs h → Held bs (1 - h) n → k < n → x ≡ get_or (words bs) (2380 + ((1 - h) * 64 + k)) 0 →
    (c : Circuit) → x ≡ get_or (map (λ m. m.gate) (units c bs).events) k 0
sender_is bs h n k x o e l q c =
    q ∙ sym (ap (λ (y : List Send). get_or (map (λ m. m.gate) y) k 0) (events_are c bs h o)
    ∙ ap (λ (y : List ℕ). get_or y k 0) (half_senders bs (1 - h) n (omega (arith, o.1)) e)
    ∙ from_at (λ j. get_or (words bs) (2380 + j) 0) ((1 - h) * 64) n k 0 l)

-- ---- a value of a row

both_length : {A B C : Type 0} (f : A → B → C) (xs : List A) (ys : List B) → length (both f xs ys) ≤ length xs
unfolding both
both_length f [] [] = omega arith
both_length f [] (y ∷ ys) = omega arith
both_length f (x ∷ xs) [] = omega arith
both_length f (x ∷ xs) (y ∷ ys) = let q = both_length f xs ys in omega arith

both_get :
    {A B C : Type 0} (f : A → B → C) (xs : List A) (ys : List B) (i : ℕ) (x : A) (y : B) (z : C) → i < length xs → i < length ys →
    get_or (both f xs ys) i z ≡ f (get_or xs i x) (get_or ys i y)
unfolding both
both_get f [] ys i x y z h k = absurd (omega arith)
both_get f (a ∷ xs) [] i x y z h k = absurd (omega arith)
both_get f (a ∷ xs) (b ∷ ys) zero x y z h k = refl
both_get f (a ∷ xs) (b ∷ ys) (suc i) x y z h k = both_get f xs ys i x y z (omega arith) (omega arith)

-- a word of a part
part_get : (ws : List ℕ) (p j : ℕ) → j < 8 → get_or (part ws p 8) j 0 ≡ get_or ws (p + j) 0
unfolding part
part_get ws p j h = get_or-take 8 (drop p ws) j 0 h ∙ get_or-drop p ws j 0

part_length : (ws : List ℕ) (p : ℕ) → p + 8 ≤ length ws → length (part ws p 8) ≡ 8
unfolding part
part_length ws p h = let k = length-drop p ws in length-take-le 8 (drop p ws) (omega arith)

part_few : (ws : List ℕ) (p : ℕ) → length (part ws p 8) ≤ 8
unfolding part
part_few ws p = omega (arith, length-take 8 (drop p ws))

row_at : (senders rows : List ℕ) (k j : ℕ) → 16 * k + 16 ≤ length rows → j < 8 → get_or (event_at senders rows k).row j Nothing ≡ value_of (get_or rows (16 * k + j) 0) (get_or rows (16 * k + 8 + j) 0)
unfolding event_at
row_at senders rows k j l h =
    let a = part_length rows (16 * k) (omega arith) in
    let b = part_length rows (16 * k + 8) (omega arith) in
    both_get value_of (part rows (16 * k) 8) (part rows (16 * k + 8) 8) j 0 0 Nothing (omega arith) (omega arith)
    ∙ ap₂ value_of (part_get rows (16 * k) j h) (part_get rows (16 * k + 8) j h)

row_past : (senders rows : List ℕ) (k j : ℕ) → 8 ≤ j → get_or (event_at senders rows k).row j Nothing ≡ Nothing
unfolding event_at
row_past senders rows k j h =
    get_or-eq_default (both value_of (part rows (16 * k) 8) (part rows (16 * k + 8) 8)) Nothing
    (omega (arith, both_length value_of (part rows (16 * k) 8) (part rows (16 * k + 8) 8), part_few rows (16 * k)))

module _ (bs : List ℕ) (h n k : ℕ) (o : Outbox bs h) (e : Held bs (1 - h) n) where
  -- the rows of the events
  rows_are :
      (c : Circuit) →
      map (λ m. m.row) (units c bs).events ≡ map (λ i. (event_at (cut (words bs)).senders (cut (words bs)).rows i).row) (from ((1 - h) * 64) n)
  rows_are c =
      ap (map (λ m. m.row)) (events_are c bs h o ∙ half_held bs (1 - h) n (omega (arith, o.1)) e)
      ∙ from_part (λ m. m.row) (event_at (cut (words bs)).senders (cut (words bs)).rows) (from ((1 - h) * 64) n)

  pub value_past : (j : ℕ) → n ≤ k → (c : Circuit) → Nothing ≡ get_or (get_or (map (λ m. m.row) (units c bs).events) k []) j Nothing
  value_past j l c =
      sym (ap (λ (y : List (List Value)). get_or (get_or y k []) j Nothing) (rows_are c)
      ∙ ap (λ (y : List Value). get_or y j Nothing) (from_past (λ i. (event_at (cut (words bs)).senders (cut (words bs)).rows i).row) ((1 - h) * 64) n k [] l))

  row_is : (c : Circuit) → k < n → get_or (map (λ m. m.row) (units c bs).events) k [] ≡ (event_at (cut (words bs)).senders (cut (words bs)).rows ((1 - h) * 64 + k)).row
  row_is c l =
      ap (λ (y : List (List Value)). get_or y k []) (rows_are c)
      ∙ from_at (λ i. (event_at (cut (words bs)).senders (cut (words bs)).rows i).row) ((1 - h) * 64) n k [] l

  pub value_beside : (j : ℕ) → k < n → 8 ≤ j → (c : Circuit) → Nothing ≡ get_or (get_or (map (λ m. m.row) (units c bs).events) k []) j Nothing
  value_beside j l m c =
      sym (ap (λ (y : List Value). get_or y j Nothing) (row_is c l) ∙ row_past (cut (words bs)).senders (cut (words bs)).rows ((1 - h) * 64 + k) j m)

  pub value_is :
      (j x y : ℕ) (r : Value) → 65536 ≤ length bs → k < n → j < 8 → x ≡ get_or (words bs) (2508 + (16 * ((1 - h) * 64 + k) + j)) 0 →
      y ≡ get_or (words bs) (2508 + (16 * ((1 - h) * 64 + k) + 8 + j)) 0 → r ≡ value_of x y →
      (c : Circuit) → r ≡ get_or (get_or (map (λ m. m.row) (units c bs).events) k []) j Nothing
  value_is j x y r b l m ex ey er c =
      let i : ℕ = (1 - h) * 64 + k in
      let w : length (cut (words bs)).rows ≡ 2048 = sized bs 10 b (omega arith) (omega arith) in
      let z : i < 128 = omega (arith, o.1, e.1) in
      er
      ∙ ap₂ value_of (ex ∙ cut_peek (words bs) 10 (16 * i + j) (omega arith)) (ey ∙ cut_peek (words bs) 10 (16 * i + 8 + j) (omega arith))
      ∙ sym (ap (λ (v : List Value). get_or v j Nothing) (row_is c l) ∙ row_at (cut (words bs)).senders (cut (words bs)).rows i j (omega arith) m)

-- ---- eight words in a row

-- eight words from p on became vs
module _ (w vs : List ℕ) (p : ℕ) (l : p + 8 ≤ length w) (k : length vs ≡ 8) where
  -- they are vs
  row_here : part (paste w p vs 8) p 8 ≡ vs
  unfolding part
  row_here = put_here 8 w vs p l k

  -- eight words apart from them
  row_apart : (q : ℕ) → (leb (q + 8) p ≡ false → p + 8 ≤ q) → part (paste w p vs 8) q 8 ≡ part w q 8
  unfolding part
  row_apart = put_apart 8 w vs p l k 8

-- Words put into the rows change that table, and no other.
cut_paste :
    (ws vs : List ℕ) (i m : ℕ) → length (cut ws).rows ≡ 2048 → 2508 + 2048 ≤ length ws → i + m ≤ 2048 → m ≤ length vs →
    cut (paste ws (2508 + i) vs m) ≡ with_table 10 (paste (cut ws).rows i vs m) (cut ws)
cut_paste ws vs i zero l b h k =
    ap cut (sym (paste-zero ws (2508 + i) vs)) ∙ ap (λ (r : List ℕ). with_table 10 r (cut ws)) (paste-zero (cut ws).rows i vs)
cut_paste ws vs i (suc m) l b h k =
    let e : 2508 + i + m ≡ 2508 + (i + m) = omega arith in
    ap cut (sym (paste-suc ws (2508 + i) vs m 0 (omega arith) k) ∙ ap (λ (x : ℕ). set (paste ws (2508 + i) vs m) x (get_or vs m 0)) e)
    ∙ cut_poke (paste ws (2508 + i) vs m) 10 (i + m) (get_or vs m 0) (omega arith)
    ∙ ap (λ (t : Tables). with_table 10 (set t.rows (i + m) (get_or vs m 0)) t) (cut_paste ws vs i m l b (omega arith) (omega arith))
    ∙ ap (λ (r : List ℕ). with_table 10 r (cut ws)) (paste-suc (cut ws).rows i vs m 0 (omega arith) k)

-- ---- an event goes to place k

module _ (senders rows ks cs : List ℕ) (k g : ℕ) (ls : length senders ≡ 128) (lr : length rows ≡ 2048) (h : k < 128) (lk : length ks ≡ 8) (lc : length cs ≡ 8) where
  -- the rows with its own
  abbrev new_rows : List ℕ
  new_rows = paste (paste rows (16 * k) ks 8) (16 * k + 8) cs 8

  event_here : event_at (set senders k g) new_rows k ≡ record { gate = g; row = both value_of ks cs }
  unfolding event_at
  event_here =
      let n = length-paste rows (16 * k) ks 8 (omega arith) (omega arith) in
      rw (
        get_or-set_same senders k g 0 (omega arith),
        row_apart (paste rows (16 * k) ks 8) cs (16 * k + 8) (omega arith) lc (16 * k) (λ z. omega (arith, leb-false (16 * k + 8) (16 * k + 8) z)),
        row_here rows ks (16 * k) (omega arith) lk,
        row_here (paste rows (16 * k) ks 8) cs (16 * k + 8) (omega arith) lc,
      )

  event_other : (j : ℕ) → (j ≡ k → ⊥) → event_at (set senders k g) new_rows j ≡ event_at senders rows j
  unfolding event_at
  event_other j d =
      let n = length-paste rows (16 * k) ks 8 (omega arith) (omega arith) in
      rw (
        get_or-set_other senders k j g 0 d,
        row_apart (paste rows (16 * k) ks 8) cs (16 * k + 8) (omega arith) lc (16 * j) (λ z. omega (arith, leb-false (16 * j + 8) (16 * k + 8) z)),
        row_apart rows ks (16 * k) (omega arith) lk (16 * j) (λ z. omega (arith, leb-false (16 * j + 8) (16 * k) z)),
        row_apart (paste rows (16 * k) ks 8) cs (16 * k + 8) (omega arith) lc (16 * j + 8) (λ z. omega (arith, leb-false (16 * j + 8 + 8) (16 * k + 8) z)),
        row_apart rows ks (16 * k) (omega arith) lk (16 * j + 8) (λ z. omega (arith, leb-false (16 * j + 8 + 8) (16 * k) z)),
      )

-- ---- an event is sent

-- the tables with one event more, in half h, which held n
abbrev posted : Tables → ℕ → ℕ → ℕ → List ℕ → List ℕ → Tables
posted t h n g ks cs =
    let k : ℕ = h * 64 + n in
    with_table 8 (set t.counts h (n + 1))
    (with_table 10 (paste (paste t.rows (16 * k) ks 8) (16 * k + 8) cs 8)
    (with_table 9 (set t.senders k g) t))

module _ (bs : List ℕ) (h n g : ℕ) (ks cs : List ℕ) (l : 65536 ≤ length bs) (o : h < 2) (e : Held bs h n) (m : n < 64) (lk : length ks ≡ 8) (lc : length cs ≡ 8) where
  senders_128 : length (cut (words bs)).senders ≡ 128
  senders_128 = sized bs 9 l (omega arith) (omega arith)

  rows_2048 : length (cut (words bs)).rows ≡ 2048
  rows_2048 = sized bs 10 l (omega arith) (omega arith)

  counts_2 : length (cut (words bs)).counts ≡ 2
  counts_2 = sized bs 8 l (omega arith) (omega arith)

  -- the stores
  stored_event :
      (bs₁ bs₂ bs₃ bs₄ : List ℕ) → Stored bs bs₁ (2380 + (h * 64 + n)) g →
      words bs₂ ≡ paste (words bs₁) (2508 + 16 * (h * 64 + n)) ks 8 → words bs₃ ≡ paste (words bs₂) (2508 + (16 * (h * 64 + n) + 8)) cs 8 →
      Stored bs₃ bs₄ (2378 + h) (n + 1) → cut (words bs₄) ≡ posted (cut (words bs)) h n g ks cs
  stored_event bs₁ bs₂ bs₃ bs₄ e₁ e₂ e₃ e₄ =
      let k : ℕ = h * 64 + n in
      let w : 8192 ≤ length (words bs) = words_long 8192 bs (omega arith) in
      let w₁ : length (words bs₁) ≡ length (words bs) = ap length e₁.words ∙ length-set (words bs) (2380 + k) g in
      let w₂ : length (words bs₂) ≡ length (words bs₁) = ap length e₂ ∙ length-paste (words bs₁) (2508 + 16 * k) ks 8 (omega arith) (omega arith) in
      let c₁ : cut (words bs₁) ≡ with_table 9 (set (cut (words bs)).senders k g) (cut (words bs)) =
      ap cut e₁.words ∙ cut_poke (words bs) 9 k g (omega arith) in
      let r₁ : length (cut (words bs₁)).rows ≡ 2048 = ap (λ (t : Tables). length t.rows) c₁ ∙ rows_2048 in
      let c₂ : cut (words bs₂) ≡ with_table 10 (paste (cut (words bs₁)).rows (16 * k) ks 8) (cut (words bs₁)) =
      ap cut e₂ ∙ cut_paste (words bs₁) ks (16 * k) 8 r₁ (omega arith) (omega arith) (omega arith) in
      let r₂ : length (cut (words bs₂)).rows ≡ 2048 =
      ap (λ (t : Tables). length t.rows) c₂ ∙ length-paste (cut (words bs₁)).rows (16 * k) ks 8 (omega arith) (omega arith) ∙ r₁ in
      let c₃ : cut (words bs₃) ≡ with_table 10 (paste (cut (words bs₂)).rows (16 * k + 8) cs 8) (cut (words bs₂)) =
      ap cut e₃ ∙ cut_paste (words bs₂) cs (16 * k + 8) 8 r₂ (omega arith) (omega arith) (omega arith) in
      let c₄ : cut (words bs₄) ≡ with_table 8 (set (cut (words bs₃)).counts h (n + 1)) (cut (words bs₃)) =
      ap cut e₄.words ∙ cut_poke (words bs₃) 8 h (n + 1) (omega arith) in
      c₄
      ∙ ap (λ (t : Tables). with_table 8 (set t.counts h (n + 1)) t) c₃
      ∙ ap (λ (t : Tables). with_table 8 (set t.counts h (n + 1)) (with_table 10 (paste t.rows (16 * k + 8) cs 8) t)) c₂
      ∙ ap (λ (t : Tables). with_table 8 (set t.counts h (n + 1)) (with_table 10 (paste (paste t.rows (16 * k) ks 8) (16 * k + 8) cs 8) t)) c₁

  -- its half has it at the end
  half_more :
      half_events h (posted (cut (words bs)) h n g ks cs) ≡ snoc (half_events h (cut (words bs))) (record { gate = g; row = both value_of ks cs })
  unfolding snoc
  half_more =
      let t : Tables = cut (words bs) in
      let k : ℕ = h * 64 + n in
      let E : ℕ → Send = event_at (set t.senders k g) (paste (paste t.rows (16 * k) ks 8) (16 * k + 8) cs 8) in
      let a : get_or (set t.counts h (n + 1)) h 0 ≡ n + 1 = get_or-set_same t.counts h (n + 1) 0 (omega (arith, counts_2)) in
      let b : min (n + 1) 64 ≡ suc n = omega arith in
      let here : E k ≡ record { gate = g; row = both value_of ks cs } = event_here t.senders t.rows ks cs k g senders_128 rows_2048 (omega arith) lk lc in
      let same : map E (from (h * 64) n) ≡ half_events h t =
      from_same E (event_at t.senders t.rows) (h * 64) n (λ j p q. event_other t.senders t.rows ks cs k g senders_128 rows_2048 (omega arith) lk lc j (λ z. omega arith))
      ∙ sym (half_held bs h n o e) in
      ap (λ (x : ℕ). map E (from (h * 64) (min x 64))) a ∙ ap (λ (x : ℕ). map E (from (h * 64) x)) b
      ∙ from_more E (h * 64) n ∙ (λ j. same j ++ (here j ∷ []))

  -- the other half stays
  half_stays : half_events (1 - h) (posted (cut (words bs)) h n g ks cs) ≡ half_events (1 - h) (cut (words bs))
  half_stays =
      let t : Tables = cut (words bs) in
      let k : ℕ = h * 64 + n in
      let E : ℕ → Send = event_at (set t.senders k g) (paste (paste t.rows (16 * k) ks 8) (16 * k + 8) cs 8) in
      let a : get_or (set t.counts h (n + 1)) (1 - h) 0 ≡ get_or t.counts (1 - h) 0 = get_or-set_other t.counts h (1 - h) (n + 1) 0 (λ z. omega arith) in
      ap (λ (x : ℕ). map E (from ((1 - h) * 64) (min x 64))) a
      ∙ from_same E (event_at t.senders t.rows) ((1 - h) * 64) (min (get_or t.counts (1 - h) 0) 64)
      (λ j p q. event_other t.senders t.rows ks cs k g senders_128 rows_2048 (omega arith) lk lc j (λ z. omega arith))

-- What the area holds, by its tables, the events of both halves and the bytes behind the words.
abbrev pub seen : Circuit → Tables → List Send → List Send → List ℕ → Units
seen c t out es b =
    record {
      calls = (units_of c t).calls;
      lists =
          record {
            late = (units_of c t).lists.late;
            delivered = map (event_of es) (queued 64 t.delivered);
            pending = (units_of c t).lists.pending;
            carried = (units_of c t).lists.carried;
          };
      begun = (units_of c t).begun;
      outbox = out;
      events = es;
      rest = t.rest ++ b;
    }

pub seen_is :
    (c : Circuit) (bs : List ℕ) (t : Tables) (b : List ℕ) → cut (words bs) ≡ t → tail bs ≡ b →
    units c bs ≡ seen c t (events_of (second_half t) t) (events_of (not (second_half t)) t) b
unfolding units
seen_is c bs t b p q = λ j. seen c (p j) (events_of (second_half (p j)) (p j)) (events_of (not (second_half (p j))) (p j)) (q j)

-- the answers to one more event
sent_new : (m : Send) (o : List Send) → among m.gate (map (λ x. x.gate) o) ≡ false → length o < 64 → sent m o ≡ snoc o m
unfolding sent if◌then◌otherwise◌
sent_new m o a h = let b : leb 64 (length o) ≡ false = lt-leb 64 (length o) h in rw (a, b)

sent_again : (m : Send) (o : List Send) → among m.gate (map (λ x. x.gate) o) ≡ true → sent m o ≡ o
unfolding sent if◌then◌otherwise◌
sent_again m o a = rw a

sent_full : (m : Send) (o : List Send) → 64 ≤ length o → sent m o ≡ o
unfolding sent if◌then◌otherwise◌
sent_full m o h = let b : leb 64 (length o) ≡ true = le-leb 64 (length o) h in rw (b, or-true (among m.gate (map (λ x. x.gate) o)))

module _ (bs : List ℕ) (h n g : ℕ) (vs : List Value) (o : Outbox bs h) (e : Held bs h n) where
  -- there is no room
  pub send_full : 64 ≤ n → (c : Circuit) → units c bs ≡ with_outbox (units c bs) (sent (record { gate = g; row = vs }) (units c bs).outbox)
  send_full m c =
      ap (with_outbox (units c bs)) (sym (sent_full (record { gate = g; row = vs }) (units c bs).outbox (omega (arith, ap length (outbox_is c bs h o), half_length bs h n o.1 e))))

  module _ (r : Bool) (q : r ≡ among g (map (λ k. get_or (words bs) (2380 + k) 0) (from (h * 64) n))) where
    -- the gate has sent
    pub send_again : r ≡ true → (c : Circuit) → units c bs ≡ with_outbox (units c bs) (sent (record { gate = g; row = vs }) (units c bs).outbox)
    send_again f c =
        ap (with_outbox (units c bs)) (sym (sent_again (record { gate = g; row = vs }) (units c bs).outbox (sym (sent_is bs h n g r o e q c) ∙ f)))

    -- it has not
    pub send_new :
        (ks cs bs₁ bs₂ bs₃ bs₄ : List ℕ) → both value_of ks cs ≡ vs → 65536 ≤ length bs → n < 64 → r ≡ false → length ks ≡ 8 → length cs ≡ 8 → Stored bs bs₁ (2380 + (h * 64 + n)) g →
        (words bs₂ ≡ paste (words bs₁) (2508 + 16 * (h * 64 + n)) ks (length ks)) × (tail bs₂ ≡ tail bs₁) →
        (words bs₃ ≡ paste (words bs₂) (2508 + (16 * (h * 64 + n) + 8)) cs (length cs)) × (tail bs₃ ≡ tail bs₂) →
        Stored bs₃ bs₄ (2378 + h) (n + 1) →
        (c : Circuit) → units c bs₄ ≡ with_outbox (units c bs) (sent (record { gate = g; row = vs }) (units c bs).outbox)
    unfolding units second_half
    send_new ks cs bs₁ bs₂ bs₃ bs₄ er l m f lk lc e₁ e₂ e₃ e₄ c =
        let t : Tables = cut (words bs) in
        let t' : Tables = posted t h n g ks cs in
        let s : Send = record { gate = g; row = vs } in
        let a : events_of (second_half t') t' ≡ snoc (units c bs).outbox s =
        half_is (second_half t) t' ∙ ap (λ (x : ℕ). half_events x t') (sym o.0) ∙ half_more bs h n g ks cs l o.1 e m lk lc ∙ ap (λ (x : List Value). snoc (half_events h t) (record { gate = g; row = x })) er
        ∙ ap (λ (x : List Send). snoc x s) (sym (outbox_is c bs h o)) in
        let b : events_of (not (second_half t')) t' ≡ (units c bs).events =
        other_half (second_half t) t' ∙ ap (λ (x : ℕ). half_events (1 - x) t') (sym o.0) ∙ half_stays bs h n g ks cs l o.1 e m lk lc
        ∙ sym (events_are c bs h o) in
        seen_is c bs₄ t' (tail bs) (stored_event bs h n g ks cs l o.1 e m lk lc bs₁ bs₂ bs₃ bs₄ e₁ (e₂.0 ∙ ap (paste (words bs₁) (2508 + 16 * (h * 64 + n)) ks) lk) (e₃.0 ∙ ap (paste (words bs₂) (2508 + (16 * (h * 64 + n) + 8)) cs) lc) e₄) (e₄.tail ∙ e₃.1 ∙ e₂.1 ∙ e₁.tail)
        ∙ (λ j. seen c t' (a j) (b j) (tail bs))
        ∙ ap (with_outbox (units c bs))
        (sym (sent_new s (units c bs).outbox (sym (sent_is bs h n g r o e q c) ∙ f) (omega (arith, ap length (outbox_is c bs h o), half_length bs h n o.1 e))))
