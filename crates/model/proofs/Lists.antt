-- Laws of choices and lists that the other proofs cite.
use mathlib.Core.Path.{◌≡◌, refl, sym, ap, subst, ◌∙◌}
use mathlib.Core.Logic.{◌≢◌, ◌⊎◌, inl, inr}
use mathlib.Core.Bool.{Bool, true, false, not, ◌&&◌, ◌||◌, true≢false, or-true}
use mathlib.Core.List.{List, [], ◌∷◌, ◌++◌, map}
use Prim.Native.Nat.{ℕ, zero, suc, ◌+◌, ◌-◌, ◌≤◌, ◌<◌}
use native.Mathlib.Nat.{zero-add, add-zero, add-suc, suc-add}
use native.Mathlib.Omega.{arith}
use lib.Dec.{eqb}
use lib.ListN.{length, get_or, set, replicate, length-append}
use borrow.Author.Tests.{eqb-true, eqb-false, eq-eqb}
use Rattle.schedule.specs.Promise.{All, [·], ◌∷·◌}
use Rattle.model.specs.Base.{if◌then◌otherwise◌, keep, all, each, snoc, among, both, from}
use Rattle.model.specs.Value.{bit}

-- ---- choices

pub if_both : {A : Type 0} (P : A → Type 0) (b : Bool) {x y : A} → P x → P y → P (if b then x otherwise y)
unfolding if◌then◌otherwise◌
if_both P true p q = p
if_both P false p q = q

pub if_by : {A : Type 0} (P : A → Type 0) (b : Bool) {x y : A} → (b ≡ true → P x) → (b ≡ false → P y) → P (if b then x otherwise y)
unfolding if◌then◌otherwise◌
if_by P true p q = p refl
if_by P false p q = q refl

-- two choices by tests that come out the same
pub if_alike :
    {A : Type 0} (P : A → A → Type 0) (a b : Bool) {x y x' y' : A} → a ≡ b → (a ≡ true → P x x') → (a ≡ false → P y y') →
    P (if a then x otherwise y) (if b then x' otherwise y')
unfolding if◌then◌otherwise◌
if_alike P true true e p q = p refl
if_alike P true false e p q = absurd (true≢false e)
if_alike P false true e p q = absurd (true≢false (sym e))
if_alike P false false e p q = q refl

pub both_true : (a b : Bool) → (a && b) ≡ true → (a ≡ true) × (b ≡ true)
both_true true b e = (refl, e)
both_true false b e = absurd (true≢false (sym e))

pub either_false : (a b : Bool) → (a || b) ≡ false → (a ≡ false) × (b ≡ false)
either_false true b e = absurd (true≢false e)
either_false false b e = (refl, e)

pub either_true : (a b : Bool) → (a || b) ≡ true → (a ≡ true) ⊎ (b ≡ true)
either_true true b e = inl refl
either_true false b e = inr e

or_right : (a b : Bool) → b ≡ true → (a || b) ≡ true
or_right true b e = refl
or_right false b e = e

-- ---- tests that do not come out so

-- a test that does not come out true comes out false
pub not_so : (b : Bool) → (b ≡ true → ⊥) → b ≡ false
not_so true k = absurd (k refl)
not_so false k = refl

pub clash : {A : Type 0} {b : Bool} → b ≡ true → b ≡ false → A
clash e f = absurd (true≢false (sym e ∙ f))

-- ---- one after the other

pub each_keeps :
    {A B : Type 0} (P : B → Type 0) (f : B → A → B) → ((b : B) (a : A) → P b → P (f b a)) → (b : B) (xs : List A) → P b → P (each f b xs)
unfolding each
each_keeps P f k b [] p = p
each_keeps P f k b (x ∷ xs) p = each_keeps P f k (f b x) xs (k b x p)

-- by how many are still to come, and m more
pub each_spends :
    {A B : Type 0} (P : ℕ → B → Type 0) (f : B → A → B) → ((n : ℕ) (b : B) (a : A) → P (suc n) b → P n (f b a)) →
    (m : ℕ) (xs : List A) (b : B) → P (length xs + m) b → P m (each f b xs)
unfolding each
each_spends P f k m [] b p = subst (λ n. P n b) (zero-add m) p
each_spends P f k m (x ∷ xs) b p = each_spends P f k m xs (f b x) (k (length xs + m) b x (subst (λ n. P n b) (suc-add (length xs) m) p))

-- where each member passes a test
pub each_keeps_all :
    {A B : Type 0} (P : B → Type 0) (q : A → Bool) (f : B → A → B) → ((b : B) (a : A) → q a ≡ true → P b → P (f b a)) →
    (b : B) (xs : List A) → all q xs ≡ true → P b → P (each f b xs)
unfolding each all
each_keeps_all P q f k b [] h p = p
each_keeps_all P q f k b (x ∷ xs) h p =
    let t = both_true (q x) (all q xs) h in
    each_keeps_all P q f k (f b x) xs t.1 (k b x t.0 p)

-- what relates two, through the same steps of both
pub each_alike :
    {A B : Type 0} (R : B → B → Type 0) (q : A → Bool) (f : B → A → B) → ((b d : B) (a : A) → q a ≡ true → R b d → R (f b a) (f d a)) →
    (b d : B) (xs : List A) → all q xs ≡ true → R b d → R (each f b xs) (each f d xs)
unfolding each all
each_alike R q f k b d [] h r = r
each_alike R q f k b d (x ∷ xs) h r =
    let t = both_true (q x) (all q xs) h in
    each_alike R q f k (f b x) (f d x) xs t.1 (k b d x t.0 r)

-- two steps that agree wherever P holds, and P is kept
pub each_same :
    {A B : Type 0} (P : B → Type 0) (f g : B → A → B) (q : A → Bool) → ((b : B) (a : A) → q a ≡ true → P b → f b a ≡ g b a) →
    ((b : B) (a : A) → P b → P (g b a)) → (b : B) (xs : List A) → all q xs ≡ true → P b → each f b xs ≡ each g b xs
unfolding each all
each_same P f g q e k b [] h p = refl
each_same P f g q e k b (x ∷ xs) h p =
    let t = both_true (q x) (all q xs) h in
    ap (λ b'. each f b' xs) (e b x t.0 p) ∙ each_same P f g q e k (g b x) xs t.1 (k b x p)

-- each of those that pass a test
pub each_such :
    {A B : Type 0} (p : A → Bool) (f : B → A → B) (b : B) (xs : List A) → each (λ b a. if p a then f b a otherwise b) b xs ≡ each f b (keep p xs)
unfolding each keep if◌then◌otherwise◌
each_such p f b [] = refl
each_such {A} {B} p f b (x ∷ xs) = go (p x) (λ d. each_such p f d xs)
  where
    go : (t : Bool) → ((d : B) → each (λ b a. if p a then f b a otherwise b) d xs ≡ each f d (keep p xs)) →
        each (λ b a. if p a then f b a otherwise b) (if t then f b x otherwise b) xs ≡ each f b (if t then x ∷ keep p xs otherwise keep p xs)
    go true rec = rec (f b x)
    go false rec = rec b

-- ---- tests of every member

pub all_keep : {A : Type 0} (p : A → Bool) (xs : List A) → all p (keep p xs) ≡ true
unfolding all keep if◌then◌otherwise◌
all_keep p [] = refl
all_keep p (x ∷ xs) = go (p x) refl (all_keep p xs)
  where
    go : (b : Bool) → p x ≡ b → all p (keep p xs) ≡ true → all p (if b then x ∷ keep p xs otherwise keep p xs) ≡ true
    go true e h = rw (e, h)
    go false e h = h

pub keep_most : {A : Type 0} (p : A → Bool) (xs : List A) → length (keep p xs) ≤ length xs
unfolding keep if◌then◌otherwise◌
keep_most p [] = omega arith
keep_most p (x ∷ xs) = go (p x) (keep_most p xs)
  where
    go : (b : Bool) → length (keep p xs) ≤ length xs → length (if b then x ∷ keep p xs otherwise keep p xs) ≤ suc (length xs)
    go true h = omega (arith, h)
    go false h = omega (arith, h)

-- every member passes the test that lets all pass
pub all_pass : {A : Type 0} (xs : List A) → all (λ _. true) xs ≡ true
unfolding all
all_pass [] = refl
all_pass (x ∷ xs) = all_pass xs

-- a test of what is worked out of each member
pub all_map : {A B : Type 0} (p : B → Bool) (f : A → B) (xs : List A) → all p (map f xs) ≡ all (λ x. p (f x)) xs
unfolding all
all_map p f [] = refl
all_map p f (x ∷ xs) = ap (λ (b : Bool). p (f x) && b) (all_map p f xs)

pub all_among : (p : ℕ → Bool) (xs : List ℕ) → all p xs ≡ true → (i : ℕ) → among i xs ≡ true → p i ≡ true
unfolding all among
all_among p [] h i m = absurd (true≢false (sym m))
all_among p (x ∷ xs) h i m = go (eqb i x) refl m (all_among p xs (both_true (p x) (all p xs) h).1 i)
  where
    go : (b : Bool) → eqb i x ≡ b → (b || among i xs) ≡ true → (among i xs ≡ true → p i ≡ true) → p i ≡ true
    go true e m rec = ap p (eqb-true i x e) ∙ (both_true (p x) (all p xs) h).0
    go false e m rec = rec m

pub among_all : (p : ℕ → Bool) (xs : List ℕ) → ((i : ℕ) → among i xs ≡ true → p i ≡ true) → all p xs ≡ true
unfolding all among
among_all p [] k = refl
among_all p (x ∷ xs) k = rw (k x (rw (eq-eqb x x refl)), among_all p xs (λ i m. k i (or_right (eqb i x) (among i xs) m)))

-- all are true where each place is, those past the end too
pub all_places : (bs : List Bool) → all (λ b. b) bs ≡ true → (i : ℕ) → get_or bs i true ≡ true
unfolding all
all_places [] h i = refl
all_places (b ∷ bs) h zero = (both_true b (all (λ b. b) bs) h).0
all_places (b ∷ bs) h (suc i) = all_places bs (both_true b (all (λ b. b) bs) h).1 i

pub places_all : (bs : List Bool) → ((i : ℕ) → get_or bs i true ≡ true) → all (λ b. b) bs ≡ true
unfolding all
places_all [] k = refl
places_all (b ∷ bs) k = rw (k 0, places_all bs (λ i. k (suc i)))

-- ---- counting

-- the places, counted from n on, at which a list passes a test
unfoldable pub count : {A : Type 0} → (ℕ → A → Bool) → ℕ → List A → ℕ
count p n [] = 0
count p n (x ∷ xs) = bit (p n x) + count p (suc n) xs

pub bit_most : (b : Bool) → bit b ≤ 1
unfolding bit
bit_most true = omega arith
bit_most false = omega arith

pub count_most : {A : Type 0} (p : ℕ → A → Bool) (n : ℕ) (xs : List A) → count p n xs ≤ length xs
unfolding count
count_most p n [] = omega arith
count_most p n (x ∷ xs) = omega (arith, bit_most (p n x), count_most p (suc n) xs)

pub count_set :
    {A : Type 0} (p : ℕ → A → Bool) (n : ℕ) (xs : List A) (i : ℕ) (v d : A) → i < length xs →
    count p n (set xs i v) + bit (p (n + i) (get_or xs i d)) ≡ count p n xs + bit (p (n + i) v)
unfolding count
count_set p n [] i v d h = absurd (omega arith)
count_set p n (x ∷ xs) zero v d h = rw (add-zero n) (omega arith)
count_set p n (x ∷ xs) (suc i) v d h =
    let e : n + suc i ≡ suc n + i = omega arith in
    rw e (omega (arith, count_set p (suc n) xs i v d (omega arith)))

-- ---- places

-- what is not the default stands in the list
pub in_range : (b : Bool) (xs : List Bool) (i : ℕ) → get_or xs i b ≡ not b → i < length xs
in_range true [] i e = absurd (true≢false e)
in_range false [] i e = absurd (true≢false (sym e))
in_range b (x ∷ xs) zero e = omega arith
in_range b (x ∷ xs) (suc i) e = omega (arith, in_range b xs i e)

-- within a list the default does not matter
pub default_same : {A : Type 0} (xs : List A) (i : ℕ) (d e : A) → i < length xs → get_or xs i d ≡ get_or xs i e
default_same [] i d e h = absurd (omega arith)
default_same (x ∷ xs) zero d e h = refl
default_same (x ∷ xs) (suc i) d e h = default_same xs i d e (omega arith)

-- what holds at each place, after one is set
pub places_set :
    {A : Type 0} (P : ℕ → A → Type 0) (xs : List A) (i : ℕ) (v d : A) → P i v → ((j : ℕ) → P j (get_or xs j d)) → (j : ℕ) → P j (get_or (set xs i v) j d)
places_set P [] i v d r k j = k j
places_set P (x ∷ xs) zero v d r k zero = r
places_set P (x ∷ xs) zero v d r k (suc j) = k (suc j)
places_set P (x ∷ xs) (suc i) v d r k zero = k zero
places_set P (x ∷ xs) (suc i) v d r k (suc j) = places_set (λ n. P (suc n)) xs i v d r (λ n. k (suc n)) j

-- what holds of all marked places
pub set_marked :
    (P : ℕ → Type 0) (xs : List Bool) (i : ℕ) (b : Bool) → (b ≡ true → P i) → ((j : ℕ) → get_or xs j false ≡ true → P j) →
    (j : ℕ) → get_or (set xs i b) j false ≡ true → P j
set_marked P xs i b q k = places_set (λ j x. x ≡ true → P j) xs i b false q k

pub snoc_length : {A : Type 0} (xs : List A) (x : A) → length (snoc xs x) ≡ suc (length xs)
unfolding snoc
snoc_length xs x = omega (arith, length-append xs (x ∷ []))

-- what a row of numbers is mapped to, place by place
pub map_from : {A : Type 0} (f : ℕ → A) (n k i : ℕ) (d : A) → i < k → get_or (map f (from n k)) i d ≡ f (n + i)
unfolding from
map_from f n zero i d h = absurd (omega arith)
map_from f n (suc k) zero d h = ap f (sym (add-zero n))
map_from f n (suc k) (suc i) d h = map_from f (suc n) k i d (omega arith) ∙ ap f (suc-add n i ∙ sym (add-suc n i))

-- two lists that are given place by place
pub from_same : {A : Type 0} (f g : ℕ → A) (a n : ℕ) → ((i : ℕ) → a ≤ i → i < a + n → f i ≡ g i) → map f (from a n) ≡ map g (from a n)
unfolding from
from_same f g a zero h = refl
from_same f g a (suc n) h = λ j. h a (omega arith) (omega arith) j ∷ from_same f g (suc a) n (λ i l m. h i (omega arith) (omega arith)) j

pub among_from : (a n p : ℕ) → p < n → among (a + p) (from a n) ≡ true
unfolding among from
among_from a zero p l = absurd (omega arith)
among_from a (suc n) zero l = rw (eq-eqb (a + 0) a (add-zero a))
among_from a (suc n) (suc p) l =
    let e : a + suc p ≡ suc a + p = omega arith in
    let h : among (a + suc p) (from (suc a) n) ≡ true = rw e (among_from (suc a) n p (omega arith)) in
    rw (h, or-true)

pub from_length : (n k : ℕ) → length (from n k) ≡ k
unfolding from
from_length n zero = refl
from_length n (suc k) = ap suc (from_length (suc n) k)

pub from_append : (a m n : ℕ) → from a (m + n) ≡ from a m ++ from (a + m) n
unfolding from
from_append a zero n = let e : 0 + n ≡ n = omega arith in let d : a + 0 ≡ a = omega arith in rw (e, d)
from_append a (suc m) n =
    let e : suc m + n ≡ suc (m + n) = omega arith in
    let d : a + suc m ≡ suc a + m = omega arith in
    rw (e, d) (ap (λ (r : List ℕ). a ∷ r) (from_append (suc a) m n))

-- the numbers from k on, below n: the first of them, and where there is none
pub from_first : (k n : ℕ) → k < n → from k (n - k) ≡ k ∷ from (k + 1) (n - (k + 1))
unfolding from
from_first k n h =
    let e : n - k ≡ suc (n - (k + 1)) = omega arith in
    let s : k + 1 ≡ suc k = omega arith in
    rw (e, s)

pub from_none : (k n : ℕ) → n ≤ k → from k (n - k) ≡ []
unfolding from
from_none k n h = let e : n - k ≡ 0 = omega arith in rw e

-- each place of a list of one element, and each past its end
pub all_same : {A : Type 0} (n i : ℕ) (r : A) → get_or (replicate n r) i r ≡ r
all_same zero i r = refl
all_same (suc n) zero r = refl
all_same (suc n) (suc i) r = all_same n i r

-- two lists of the same length, element by element
pub both_length : {A B C : Type 0} (f : A → B → C) (xs : List A) (ys : List B) → length xs ≡ length ys → length (both f xs ys) ≡ length xs
unfolding both
both_length f [] [] h = refl
both_length f [] (y ∷ ys) h = refl
both_length f (x ∷ xs) [] h = absurd (omega arith)
both_length f (x ∷ xs) (y ∷ ys) h = ap suc (both_length f xs ys (omega arith))

-- two lists of the same length that have the same at each place
pub places_same : {A : Type 0} (xs ys : List A) (d : A) → length xs ≡ length ys → ((i : ℕ) → get_or xs i d ≡ get_or ys i d) → xs ≡ ys
places_same [] [] d l k = refl
places_same [] (y ∷ ys) d l k = absurd (omega arith)
places_same (x ∷ xs) [] d l k = absurd (omega arith)
places_same (x ∷ xs) (y ∷ ys) d l k = λ j. k 0 j ∷ places_same xs ys d (omega arith) (λ i. k (suc i)) j

-- one place of both set to the same
pub set_same : {A : Type 0} (xs ys : List A) (i j : ℕ) (x d : A) → length xs ≡ length ys → get_or xs j d ≡ get_or ys j d → get_or (set xs i x) j d ≡ get_or (set ys i x) j d
set_same [] [] i j x d l e = e
set_same [] (b ∷ ys) i j x d l e = absurd (omega arith)
set_same (a ∷ xs) [] i j x d l e = absurd (omega arith)
set_same (a ∷ xs) (b ∷ ys) zero zero x d l e = refl
set_same (a ∷ xs) (b ∷ ys) zero (suc j) x d l e = e
set_same (a ∷ xs) (b ∷ ys) (suc i) zero x d l e = e
set_same (a ∷ xs) (b ∷ ys) (suc i) (suc j) x d l e = set_same xs ys i j x d (omega arith) e

-- ---- what holds of each member

pub map_all : {A B : Type 0} (P : B → Type 0) (f : A → B) {xs : List A} → All (λ a. P (f a)) xs → All P (map f xs)
map_all P f [·] = [·]
map_all P f (◌∷·◌ p a) = ◌∷·◌ p (map_all P f a)

pub all_rest : {A : Type 0} {P : A → Type 0} {x : A} {xs : List A} → All P (x ∷ xs) → All P xs
all_rest (◌∷·◌ p ps) = ps

pub all_of : {A : Type 0} {P : A → Type 0} → ((a : A) → P a) → (xs : List A) → All P xs
all_of k [] = [·]
all_of k (x ∷ xs) = ◌∷·◌ (k x) (all_of k xs)

-- ---- bounds that suffice

-- what one more does not change, no number more does
pub steady : {A : Type 0} (f : ℕ → A) (n : ℕ) → ((m : ℕ) → n ≤ m → f (suc m) ≡ f m) → (k : ℕ) → f (n + k) ≡ f n
steady f n h zero = ap f (add-zero n)
steady f n h (suc k) = ap f (add-suc n k) ∙ h (n + k) (omega arith) ∙ steady f n h k

-- ---- members of a list of numbers

pub among_first : (o : ℕ) (os : List ℕ) → among o (o ∷ os) ≡ true
unfolding among
among_first o os = rw (eq-eqb o o refl)

pub among_later : (o x : ℕ) (os : List ℕ) → among o os ≡ true → among o (x ∷ os) ≡ true
unfolding among
among_later o x os e = rw (e, or-true)

pub among_either : (o x : ℕ) (os : List ℕ) → among o (x ∷ os) ≡ true → (o ≡ x) ⊎ (among o os ≡ true)
unfolding among
among_either o x os e = go (eqb o x) refl e
  where
    go : (b : Bool) → eqb o x ≡ b → (b || among o os) ≡ true → (o ≡ x) ⊎ (among o os ≡ true)
    go true q e = inl (eqb-true o x q)
    go false q e = inr e

pub among_none : (o : ℕ) → among o [] ≡ false
unfolding among
among_none o = refl

pub among_neither : (o x : ℕ) (os : List ℕ) → among o (x ∷ os) ≡ false → (o ≢ x) × (among o os ≡ false)
unfolding among
among_neither o x os e = let a = either_false (eqb o x) (among o os) e in (eqb-false o x a.0, a.1)

pub neither_among : (o x : ℕ) (os : List ℕ) → o ≢ x → among o os ≡ false → among o (x ∷ os) ≡ false
neither_among o x os n e = not_so _ λ q. go (among_either o x os q)
  where
    go : (o ≡ x) ⊎ (among o os ≡ true) → ⊥
    go (inl p) = n p
    go (inr p) = clash p e

pub keep_append : {A : Type 0} (p : A → Bool) (xs ys : List A) → keep p (xs ++ ys) ≡ keep p xs ++ keep p ys
unfolding keep if◌then◌otherwise◌
keep_append p [] ys = refl
keep_append {A} p (x ∷ xs) ys = go (p x) (keep_append p xs ys)
  where
    go : (b : Bool) → keep p (xs ++ ys) ≡ keep p xs ++ keep p ys → (if b then x ∷ keep p (xs ++ ys) otherwise keep p (xs ++ ys)) ≡ (if b then x ∷ keep p xs otherwise keep p xs) ++ keep p ys
    go true h = ap (λ (l : List A). x ∷ l) h
    go false h = h

pub among_keep : (p : ℕ → Bool) (x : ℕ) (xs : List ℕ) → among x xs ≡ true → p x ≡ true → among x (keep p xs) ≡ true
unfolding keep if◌then◌otherwise◌
among_keep p x [] e q = e
among_keep p x (y ∷ xs) e q = go (p y) refl (among_either x y xs e) (λ h. among_keep p x xs h q)
  where
    go : (b : Bool) → p y ≡ b → (x ≡ y) ⊎ (among x xs ≡ true) → (among x xs ≡ true → among x (keep p xs) ≡ true) → among x (if b then y ∷ keep p xs otherwise keep p xs) ≡ true
    go true h (inl s) rec = subst (λ z. among x (z ∷ keep p xs) ≡ true) s (among_first x (keep p xs))
    go true h (inr s) rec = among_later x y (keep p xs) (rec s)
    go false h (inl s) rec = clash (ap p (sym s) ∙ q) h
    go false h (inr s) rec = rec s

-- what a step brings about of its own member, and other steps keep, holds of each member when all steps are made
pub each_brings :
    {B : Type 0} (K : B → Type 0) (P : ℕ → B → Type 0) (q : ℕ → Bool) (f : B → ℕ → B) → ((b : B) (x : ℕ) → q x ≡ true → K b → K (f b x)) →
    ((b : B) (x : ℕ) → q x ≡ true → K b → P x (f b x)) → ((i : ℕ) (b : B) (x : ℕ) → P i b → P i (f b x)) →
    (b : B) (xs : List ℕ) → all q xs ≡ true → K b → (i : ℕ) → among i xs ≡ true → P i (each f b xs)
unfolding each all
each_brings K P q f keeps now still b [] h k i e = clash e (among_none i)
each_brings K P q f keeps now still b (x ∷ xs) h k i e =
    let t = both_true (q x) (all q xs) h in
    go (among_either i x xs e) (each_brings K P q f keeps now still (f b x) xs t.1 (keeps b x t.0 k) i) (now b x t.0 k)
  where
    go : (i ≡ x) ⊎ (among i xs ≡ true) → (among i xs ≡ true → P i (each f (f b x) xs)) → P x (f b x) → P i (each f (f b x) xs)
    go (inl p) rec here = each_keeps (P i) f (still i) (f b x) xs (subst (λ y. P y (f b x)) (sym p) here)
    go (inr p) rec here = rec p

pub from_among : (a n i : ℕ) → among i (from a n) ≡ true → (p : ℕ) × (p < n) × (i ≡ a + p)
unfolding from
from_among a zero i e = clash e (among_none i)
from_among a (suc n) i e = go (among_either i a (from (suc a) n) e) (λ q. from_among (suc a) n i q)
  where
    go : (i ≡ a) ⊎ (among i (from (suc a) n) ≡ true) → (among i (from (suc a) n) ≡ true → (p : ℕ) × (p < n) × (i ≡ suc a + p)) → (p : ℕ) × (p < suc n) × (i ≡ a + p)
    go (inl q) rec = (0, omega arith, omega arith)
    go (inr q) rec = let r = rec q in (suc r.0, omega (arith, r.1), omega (arith, r.2))

-- ---- marks

-- one more, whatever stands past the end
pub mark_kept : (d : Bool) (bs : List Bool) (i j : ℕ) → get_or bs j d ≡ true → get_or (set bs i true) j d ≡ true
mark_kept d [] i j e = e
mark_kept d (b ∷ bs) zero zero e = refl
mark_kept d (b ∷ bs) zero (suc j) e = e
mark_kept d (b ∷ bs) (suc i) zero e = e
mark_kept d (b ∷ bs) (suc i) (suc j) e = mark_kept d bs i j e

pub marked_here : (bs : List Bool) (i : ℕ) → get_or (set bs i true) i true ≡ true
marked_here [] i = refl
marked_here (b ∷ bs) zero = refl
marked_here (b ∷ bs) (suc i) = marked_here bs i

pub mark_was : (bs : List Bool) (i j : ℕ) → get_or (set bs i true) j false ≡ true → (j ≡ i) ⊎ (get_or bs j false ≡ true)
mark_was [] i j e = inr e
mark_was (b ∷ bs) zero zero e = inl refl
mark_was (b ∷ bs) zero (suc j) e = inr e
mark_was (b ∷ bs) (suc i) zero e = inr e
mark_was (b ∷ bs) (suc i) (suc j) e = go (mark_was bs i j e)
  where
    go : (j ≡ i) ⊎ (get_or bs j false ≡ true) → (suc j ≡ suc i) ⊎ (get_or bs j false ≡ true)
    go (inl p) = inl (ap suc p)
    go (inr p) = inr p

-- a mark in the list, whatever would be read past its end
pub marked_in : (bs : List Bool) (j : ℕ) → j < length bs → get_or bs j true ≡ true → get_or bs j false ≡ true
marked_in bs j l e = default_same bs j false true l ∙ e
