-- Parts of a list of words, and lists that are made by numbers.
use Prim.Native.Nat.{ℕ, zero, suc, ◌+◌, ◌-◌, ◌≤◌, ◌<◌}
use mathlib.Core.Path.{◌≡◌, refl, sym, ap, ap₂, ◌∙◌}
use mathlib.Core.List.{List, [], ◌∷◌, map}
use native.Mathlib.Omega.{arith}
use lib.ListN.{length, set, take, drop, length-drop}
use lib.Seq.{take-nil, drop-nil, take-take, drop-drop, length-take-le}
use borrow.Rule.Slice.PartMut.{put_mid, take_put, drop_put}
use Rattle.model.specs.Base.{from}
use Rattle.model.specs.Circuit.{part}
use Rattle.words.proofs.Laws.{mid_put}

-- a part of a part before it
take_drop : (k n : ℕ) (ws : List ℕ) → take n (drop k ws) ≡ drop k (take (k + n) ws)
take_drop zero n ws = let e : 0 + n ≡ n = omega arith in rw e
take_drop (suc k) n [] = rw (drop-nil {A = ℕ} (suc k), take-nil {A = ℕ} n, take-nil {A = ℕ} (suc k + n), drop-nil {A = ℕ} (suc k))
take_drop (suc k) n (w ∷ ws) = let e : suc k + n ≡ suc (k + n) = omega arith in rw e (take_drop k n ws)

-- what two lists share up to m they share up to each place before it
pub part_front : (m n : ℕ) (ws vs : List ℕ) → n ≤ m → take m vs ≡ take m ws → take n vs ≡ take n ws
part_front m n ws vs h e = sym (take-take n m vs h) ∙ ap (take n) e ∙ take-take n m ws h

-- what two lists share up to m they share in each part before it
pub part_before : (m k n : ℕ) (ws vs : List ℕ) → k + n ≤ m → take m vs ≡ take m ws → part vs k n ≡ part ws k n
unfolding part
part_before m k n ws vs h e =
    take_drop k n vs ∙ ap (drop k) (sym (take-take (k + n) m vs h) ∙ ap (take (k + n)) e ∙ take-take (k + n) m ws h) ∙ sym (take_drop k n ws)

-- and what they share from m on they share in each part behind it
pub drop_behind : (m k : ℕ) (ws vs : List ℕ) → m ≤ k → drop m vs ≡ drop m ws → drop k vs ≡ drop k ws
drop_behind m k ws vs h e =
    let q : k ≡ m + (k - m) = omega arith in
    rw q (sym (drop-drop (k - m) m vs) ∙ ap (drop (k - m)) e ∙ drop-drop (k - m) m ws)

pub part_behind : (m k n : ℕ) (ws vs : List ℕ) → m ≤ k → drop m vs ≡ drop m ws → part vs k n ≡ part ws k n
unfolding part
part_behind m k n ws vs h e = ap (take n) (drop_behind m k ws vs h e)

pub part_length : (k n : ℕ) (ws : List ℕ) → k + n ≤ length ws → length (part ws k n) ≡ n
unfolding part
part_length k n ws h = length-take-le n (drop k ws) (omega (arith, length-drop k ws))

-- lists by their numbers that give the same
pub from_same : {A : Type 0} (f h : ℕ → A) (a n : ℕ) → ((j : ℕ) → a ≤ j → j < a + n → h j ≡ f j) → map h (from a n) ≡ map f (from a n)
unfolding from
from_same f h a zero k = refl
from_same {A} f h a (suc n) k =
    ap₂ (λ (y : A) (r : List A). y ∷ r) (k a (omega arith) (omega arith)) (from_same f h (suc a) n (λ j p q. k j (omega arith) (omega arith)))

-- a list by its numbers, one of which gives something else
pub from_set : {A : Type 0} (f h : ℕ → A) (a n i : ℕ) (x : A) → h (a + i) ≡ x → ((j : ℕ) → a ≤ j → j < a + n → (j ≡ a + i → ⊥) → h j ≡ f j)
    → map h (from a n) ≡ set (map f (from a n)) i x
unfolding from
from_set f h a zero i x e k = refl
from_set {A} f h a (suc n) zero x e k =
    let z : a + 0 ≡ a = omega arith in
    ap₂ (λ (y : A) (r : List A). y ∷ r) (ap h (sym z) ∙ e) (from_same f h (suc a) n (λ j p q. k j (omega arith) (omega arith) (λ u. omega arith)))
from_set {A} f h a (suc n) (suc i) x e k =
    let z : suc a + i ≡ a + suc i = omega arith in
    ap₂ (λ (y : A) (r : List A). y ∷ r) (k a (omega arith) (omega arith) (λ u. omega arith))
    (from_set f h (suc a) n i x (ap h z ∙ e) (λ j p q d. k j (omega arith) (omega arith) (λ u. d (u ∙ sym z))))

-- What becomes of words of which n from place b on are replaced by p: the part is p, and what lies before it and behind it is the same.
pub record Replaced (ws vs p : List ℕ) (b n : ℕ) : Type 0 where
  pub before : take b vs ≡ take b ws
  pub here : part vs b n ≡ p
  pub behind : drop (b + n) vs ≡ drop (b + n) ws

pub replaced : (ws p : List ℕ) (b n : ℕ) → b + n ≤ length ws → length p ≡ n → Replaced ws (put_mid b n ws p) p b n
unfolding part
replaced ws p b n h e =
    let q : b + n - b ≡ n = omega arith in
    let d : drop (b + n) (put_mid b (b + n - b) ws p) ≡ drop (b + n) ws = drop_put b (b + n) ws p (omega arith) h (omega arith) in
    record { before = take_put b n ws p (omega arith); here = mid_put b n ws p (omega arith) e; behind = rw q at d }
