-- Laws of lists that are given by their elements.
use Prim.Native.Nat.{ℕ, zero, suc, ◌+◌, ◌≤◌, ◌<◌}
use mathlib.Core.Path.{◌≡◌, refl, sym, ap, ◌∙◌}
use mathlib.Core.Bool.{Bool, true, false}
use mathlib.Core.List.{List, [], ◌∷◌, ◌++◌, map, map-map}
use native.Mathlib.Omega.{arith}
use lib.ListN.{length, get_or, replicate, length-append}
use Rattle.schedule.proofs.Erase.{map_append}
use Rattle.model.specs.Base.{if◌then◌otherwise◌, keep, joined, both, from, starts, owners}
use Rattle.model.specs.Circuit.{part}
use Rattle.model.proofs.Lists.{from_same}
use Rattle.model.proofs.Laid.{part_is}
use Rattle.links.specs.Links.{listed}
use Rattle.linking.specs.Building.{below}

-- ---- each element for itself

pub map_same : {A B : Type 0} (f g : A → B) → ((x : A) → f x ≡ g x) → (xs : List A) → map f xs ≡ map g xs
map_same f g h [] = refl
map_same f g h (x ∷ xs) = λ j. h x j ∷ map_same f g h xs j

both_maps : {X A B C : Type 0} (h : A → B → C) (f : X → A) (g : X → B) (xs : List X) → both h (map f xs) (map g xs) ≡ map (λ x. h (f x) (g x)) xs
unfolding both
both_maps h f g [] = refl
both_maps h f g (x ∷ xs) = λ j. h (f x) (g x) ∷ both_maps h f g xs j

-- what `listed` is, where it is not opened
pub open_listed : {A : Type 0} (f : ℕ → A) (n : ℕ) → listed n f ≡ map f (from 0 n)
unfolding listed
open_listed f n = refl

pub listed_same : {A : Type 0} (n : ℕ) (f g : ℕ → A) → ((k : ℕ) → k < n → f k ≡ g k) → listed n f ≡ listed n g
unfolding listed
listed_same n f g h = from_same f g 0 n (λ k l m. h k (omega arith))

pub map_listed : {A B : Type 0} (f : A → B) (n : ℕ) (g : ℕ → A) → map f (listed n g) ≡ listed n (λ k. f (g k))
unfolding listed
map_listed f n g = map-map f g (from 0 n)

pub both_listed : {A B C : Type 0} (h : A → B → C) (n : ℕ) (f : ℕ → A) (g : ℕ → B) → both h (listed n f) (listed n g) ≡ listed n (λ k. h (f k) (g k))
unfolding listed
both_listed h n f g = both_maps h f g (from 0 n)

const_from : {A : Type 0} (v : A) (a n : ℕ) → map (λ k. v) (from a n) ≡ replicate n v
unfolding from
const_from v a zero = refl
const_from {A} v a (suc n) = ap (λ (r : List A). v ∷ r) (const_from v (suc a) n)

pub listed_replicate : {A : Type 0} (n : ℕ) (v : A) → listed n (λ k. v) ≡ replicate n v
unfolding listed
listed_replicate n v = const_from v 0 n

-- a part of the words, by its elements
pub part_listed : (ws : List ℕ) (a n : ℕ) → a + n ≤ length ws → part ws a n ≡ listed n (λ k. get_or ws (a + k) 0)
unfolding listed
part_listed ws a n h = part_is ws a n h

-- ---- sums

starts_from : (f : ℕ → ℕ) (a n : ℕ) → starts (below f a) (map f (from a n)) ≡ map (below f) (from a n)
unfolding starts from below
starts_from f a zero = refl
starts_from f a (suc n) = ap (λ (r : List ℕ). below f a ∷ r) (starts_from f (suc a) n)

pub starts_listed : (n : ℕ) (f : ℕ → ℕ) → starts 0 (listed n f) ≡ listed n (below f)
unfolding listed below
starts_listed n f = starts_from f 0 n

-- ---- part after part

owners_from : (f : ℕ → ℕ) (a n : ℕ) → owners a (map f (from a n)) ≡ joined (map (λ g. listed (f g) (λ k. g)) (from a n))
unfolding owners from joined
owners_from f a zero = refl
owners_from f a (suc n) = λ j. sym (listed_replicate (f a) a) j ++ owners_from f (suc a) n j

pub owners_listed : (n : ℕ) (f : ℕ → ℕ) → owners 0 (listed n f) ≡ joined (listed n (λ g. listed (f g) (λ k. g)))
owners_listed n f = ap (λ (xs : List ℕ). owners 0 xs) (open_listed f n) ∙ owners_from f 0 n ∙ ap (λ (xs : List (List ℕ)). joined xs) (sym (open_listed (λ g. listed (f g) (λ k. g)) n))

joined_from : {A : Type 0} (p : ℕ → List A) (a n : ℕ) → below (λ k. length (p k)) a + length (joined (map p (from a n))) ≡ below (λ k. length (p k)) (a + n)
unfolding joined from below
joined_from p a zero = let e : a + 0 ≡ a = omega arith in rw e (omega arith)
joined_from p a (suc n) =
    let e : a + suc n ≡ suc a + n = omega arith in
    rw e (omega (arith, joined_from p (suc a) n, length-append (p a) (joined (map p (from (suc a) n)))))

pub joined_length : {A : Type 0} (n : ℕ) (p : ℕ → List A) → length (joined (listed n p)) ≡ below (λ k. length (p k)) n
unfolding listed below
joined_length n p = let e : 0 + n ≡ n = omega arith in omega (arith, joined_from p 0 n, ap (below (λ k. length (p k))) e)

map_joins : {A B : Type 0} (f : A → B) (xs : List (List A)) → map f (joined xs) ≡ joined (map (λ x. map f x) xs)
unfolding joined
map_joins f [] = refl
map_joins f (x ∷ xs) = map_append f x (joined xs) ∙ (λ j. map f x ++ map_joins f xs j)

pub map_joined : {A B : Type 0} (f : A → B) (n : ℕ) (p : ℕ → List A) → map f (joined (listed n p)) ≡ joined (listed n (λ k. map f (p k)))
map_joined {A} {B} f n p = map_joins f (listed n p) ∙ ap (λ (xs : List (List B)). joined xs) (map_listed (λ x. map f x) n p)

-- ---- those that pass a test

pub keep_map : {A B : Type 0} (p : B → Bool) (f : A → B) (xs : List A) → keep p (map f xs) ≡ map f (keep (λ x. p (f x)) xs)
unfolding keep if◌then◌otherwise◌
keep_map p f [] = refl
keep_map {A} {B} p f (x ∷ xs) = go (p (f x)) (keep_map p f xs)
  where
    go :
        (b : Bool) → keep p (map f xs) ≡ map f (keep (λ x. p (f x)) xs) →
        (if b then f x ∷ keep p (map f xs) otherwise keep p (map f xs)) ≡ map f (if b then x ∷ keep (λ x. p (f x)) xs otherwise keep (λ x. p (f x)) xs)
    go true h = ap (λ (r : List B). f x ∷ r) h
    go false h = h

pub keep_from : (p q : ℕ → Bool) (a n : ℕ) → ((k : ℕ) → k < a + n → p k ≡ q k) → keep p (from a n) ≡ keep q (from a n)
unfolding keep from
keep_from p q a zero h = refl
keep_from p q a (suc n) h =
    λ j. if h a (omega arith) j then a ∷ keep_from p q (suc a) n (λ k l. h k (omega arith)) j otherwise keep_from p q (suc a) n (λ k l. h k (omega arith)) j
