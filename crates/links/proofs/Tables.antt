-- Reading back what was written down: a list by its elements, a table among tables, the digits of cells, the rows of a list of lists, a word of gates.
use Prim.Native.Nat.{ℕ, zero, suc, ◌+◌, ◌-◌, ◌*◌, ◌/◌, ◌%◌, ◌^◌, ◌≤◌, ◌<◌}
use mathlib.Core.Path.{◌≡◌, refl, sym, ap, ap₂, subst, ◌∙◌}
use mathlib.Core.Bool.{Bool, true, false}
use mathlib.Core.List.{List, [], ◌∷◌, ◌++◌, map, map-map}
use native.Mathlib.Nat.{zero-add, add-zero, mul-zero, pow-suc, pow-succ', one-mul, mul-add, mul_assoc, div-div-eq-div-mul, zero-div}
use native.Mathlib.Omega.{arith}
use lib.Dec.{eqb, ltb}
use lib.ListN.{length, get_or, replicate, length-append, length-replicate, length-map, get_or-append}
use lib.Seq.{get_or-append-add, ext_get_or}
use borrow.Author.Tests.{ltb-true, ltb-false}
use Rattle.model.specs.Base.{if◌then◌otherwise◌, keep, joined, both, from, sum, starts}
use Rattle.model.specs.Value.{bit}
use Rattle.model.proofs.Lists.{bit_most, all_same, both_length}
use Rattle.model.proofs.Laid.{sum_lengths}
use Rattle.links.specs.Links.{packed, digit, paired, word_of_gates, gates_of_word, table_of, gate_cells, listed}
use Rattle.links.proofs.Reading.{listed_length, listed_in}

-- ---- lists by their elements

pub listed_is :
    {A : Type 0} (d : A) (f : ℕ → A) (n : ℕ) (xs : List A) → n ≡ length xs → ((i : ℕ) → i < length xs → f i ≡ get_or xs i d) → listed n f ≡ xs
listed_is d f n xs e h =
    ext_get_or d (listed n f) xs (listed_length n f ∙ e)
    (λ i k. let q : i < n = omega (arith, listed_length n f) in listed_in n f i d q ∙ h i (omega arith))

pub both_at :
    {A B C : Type 0} (f : A → B → C) (xs : List A) (ys : List B) (i : ℕ) (a : A) (b : B) (c : C) → i < length xs → i < length ys →
    get_or (both f xs ys) i c ≡ f (get_or xs i a) (get_or ys i b)
unfolding both
both_at f [] ys i a b c h k = absurd (omega arith)
both_at f (x ∷ xs) [] i a b c h k = absurd (omega arith)
both_at f (x ∷ xs) (y ∷ ys) zero a b c h k = refl
both_at f (x ∷ xs) (y ∷ ys) (suc i) a b c h k = both_at f xs ys i a b c (omega arith) (omega arith)

pub both_most : {A B C : Type 0} (f : A → B → C) (xs : List A) (ys : List B) → length (both f xs ys) ≤ length xs
unfolding both
both_most f [] [] = omega arith
both_most f [] (y ∷ ys) = omega arith
both_most f (x ∷ xs) [] = omega arith
both_most f (x ∷ xs) (y ∷ ys) = omega (arith, both_most f xs ys)

pub map_at : {A B : Type 0} (f : A → B) (xs : List A) (i : ℕ) (a : A) (b : B) → i < length xs → get_or (map f xs) i b ≡ f (get_or xs i a)
map_at f [] i a b h = absurd (omega arith)
map_at f (x ∷ xs) zero a b h = refl
map_at f (x ∷ xs) (suc i) a b h = map_at f xs i a b (omega arith)

-- ---- a table among tables

-- where table t begins
abbrev pub base : List ℕ → ℕ → ℕ
base [] t = 0
base (n ∷ ns) zero = 0
base (n ∷ ns) (suc t) = n + base ns t

-- how many cells each table has
unfoldable pub table_sizes : List ℕ
table_sizes = 16 ∷ 64 ∷ 640 ∷ 640 ∷ 640 ∷ 640 ∷ 576 ∷ 576 ∷ 640 ∷ 256 ∷ 64 ∷ 64 ∷ []

infixr 5 ◌∷·◌
-- each list has room in its table
pub data Room : List ℕ → List (List ℕ) → Type 0 where
  [·] : Room [] []
  ◌∷·◌ : {n : ℕ} {x : List ℕ} {ns : List ℕ} {xs : List (List ℕ)} → length x ≤ n → Room ns xs → Room (n ∷ ns) (x ∷ xs)

pub table_length : (n : ℕ) (x : List ℕ) → length x ≤ n → length (table_of n x) ≡ n
unfolding table_of
table_length n x h = omega (arith, length-append x (replicate (n - length x) 0), length-replicate {A = ℕ} (n - length x) 0)

padded : (x : List ℕ) (k i : ℕ) → get_or (x ++ replicate k 0) i 0 ≡ get_or x i 0
padded [] k i = all_same k i 0
padded (a ∷ x) k zero = refl
padded (a ∷ x) k (suc i) = padded x k i

pub table_read :
    {ns : List ℕ} {xs : List (List ℕ)} → Room ns xs → (t i : ℕ) → i < get_or ns t 0 →
    get_or (joined (both table_of ns xs)) (base ns t + i) 0 ≡ get_or (get_or xs t []) i 0
unfolding joined both table_of
table_read [·] t i h = absurd (omega arith)
table_read (◌∷·◌ {n = n} {x = x} {ns = ns} {xs = xs} l r) zero i h =
    let k : i < length (table_of n x) = omega (arith, table_length n x l) in
    ap (λ j. get_or (table_of n x ++ joined (both table_of ns xs)) j 0) (zero-add i)
    ∙ get_or-append (table_of n x) (joined (both table_of ns xs)) 0 i k
    ∙ padded x (n - length x) i
table_read (◌∷·◌ {n = n} {x = x} {ns = ns} {xs = xs} l r) (suc t) i h =
    let e : n + base ns t + i ≡ length (table_of n x) + (base ns t + i) = omega (arith, table_length n x l) in
    ap (λ j. get_or (table_of n x ++ joined (both table_of ns xs)) j 0) e
    ∙ get_or-append-add (table_of n x) (joined (both table_of ns xs)) (base ns t + i) 0
    ∙ table_read r t i h

-- ---- four numbers in a cell

module _ (a b c d : ℕ) (ha : a < 65536) (hb : b < 65536) (hc : c < 65536) (hd : d < 65536) where
  pub digit_0 : digit 0 (packed a b c d) ≡ a
  unfolding digit packed
  digit_0 = omega arith

  pub digit_1 : digit 1 (packed a b c d) ≡ b
  unfolding digit packed
  digit_1 = omega arith

  pub digit_2 : digit 2 (packed a b c d) ≡ c
  unfolding digit packed
  digit_2 = omega arith

  pub digit_3 : digit 3 (packed a b c d) ≡ d
  unfolding digit packed
  digit_3 = omega arith

-- each number of the list is below n
abbrev pub Under : ℕ → List ℕ → Type 0
Under n xs = (i : ℕ) → get_or xs i 0 < n

-- and below 65,536
abbrev pub Small : List ℕ → Type 0
Small xs = Under 65536 xs

-- two lists of one length in one list
pub paired_at : (n : ℕ) (xs ys : List ℕ) (i : ℕ) → length ys ≡ length xs → get_or (both (paired n) xs ys) i 0 ≡ paired n (get_or xs i 0) (get_or ys i 0)
unfolding both paired
paired_at n [] [] i e = omega (arith, mul-zero n)
paired_at n [] (y ∷ ys) i e = absurd (omega arith)
paired_at n (x ∷ xs) [] i e = absurd (omega arith)
paired_at n (x ∷ xs) (y ∷ ys) zero e = refl
paired_at n (x ∷ xs) (y ∷ ys) (suc i) e = paired_at n xs ys i (omega arith)

-- the digits of the cells f g are four lists
pub record Four (f : ℕ → ℕ) (ks rs is os : List ℕ) : Type 0 where
  pub first : (g : ℕ) → g < length ks → digit 0 (f g) ≡ get_or ks g 0
  pub second : (g : ℕ) → g < length ks → digit 1 (f g) ≡ get_or rs g 0
  pub third : (g : ℕ) → g < length ks → digit 2 (f g) ≡ get_or is g 0
  pub fourth : (g : ℕ) → g < length ks → digit 3 (f g) ≡ get_or os g 0

module _ (ks rs is os : List ℕ) (er : length rs ≡ length ks) (ei : length is ≡ length ks) (eo : length os ≡ length ks) where
  pub gate_cells_length : length (gate_cells ks rs is os) ≡ length ks
  unfolding gate_cells
  gate_cells_length =
      let y : length (both packed ks rs) ≡ length ks = both_length packed ks rs (sym er) in
      let x : length (both (λ f i. f i) (both packed ks rs) is) ≡ length (both packed ks rs) = both_length (λ f i. f i) (both packed ks rs) is (y ∙ sym ei) in
      both_length (λ f p. f p) (both (λ f i. f i) (both packed ks rs) is) os (x ∙ y ∙ sym eo) ∙ x ∙ y

  gate_cell_at : (g : ℕ) → g < length ks → get_or (gate_cells ks rs is os) g 0 ≡ packed (get_or ks g 0) (get_or rs g 0) (get_or is g 0) (get_or os g 0)
  unfolding gate_cells
  gate_cell_at g h =
      let y : length (both packed ks rs) ≡ length ks = both_length packed ks rs (sym er) in
      let x : length (both (λ f i. f i) (both packed ks rs) is) ≡ length (both packed ks rs) = both_length (λ f i. f i) (both packed ks rs) is (y ∙ sym ei) in
      both_at (λ f p. f p) (both (λ f i. f i) (both packed ks rs) is) os g (λ p. 0) 0 0 (omega arith) (omega arith)
      ∙ ap (λ (f : ℕ → ℕ). f (get_or os g 0))
      (both_at (λ f i. f i) (both packed ks rs) is g (λ i p. 0) 0 (λ p. 0) (omega arith) (omega arith)
      ∙ ap (λ (f : ℕ → ℕ → ℕ). f (get_or is g 0)) (both_at packed ks rs g 0 0 (λ i p. 0) h (omega arith)))

  -- the cells f g hold the four lists
  pub four :
      (f : ℕ → ℕ) → ((g : ℕ) → g < length ks → f g ≡ get_or (gate_cells ks rs is os) g 0) → Small ks → Small rs → Small is → Small os →
      Four f ks rs is os
  four f known bk br bi bo =
      record {
        first = λ g h. ap (digit 0) (known g h ∙ gate_cell_at g h) ∙ digit_0 _ _ _ _ (bk g) (br g) (bi g) (bo g);
        second = λ g h. ap (digit 1) (known g h ∙ gate_cell_at g h) ∙ digit_1 _ _ _ _ (bk g) (br g) (bi g) (bo g);
        third = λ g h. ap (digit 2) (known g h ∙ gate_cell_at g h) ∙ digit_2 _ _ _ _ (bk g) (br g) (bi g) (bo g);
        fourth = λ g h. ap (digit 3) (known g h ∙ gate_cell_at g h) ∙ digit_3 _ _ _ _ (bk g) (br g) (bi g) (bo g);
      }

-- ---- the rows of a list of lists

module _ {A : Type 0} where
  -- where row o begins
  abbrev pub row_start : List (List A) → ℕ → ℕ
  row_start [] o = 0
  row_start (x ∷ xs) zero = 0
  row_start (x ∷ xs) (suc o) = length x + row_start xs o

  pub starts_at : (n : ℕ) (xs : List (List A)) (o : ℕ) → o < length xs → get_or (starts n (map (λ x. length x) xs)) o 0 ≡ n + row_start xs o
  unfolding starts
  starts_at n [] o h = absurd (omega arith)
  starts_at n (x ∷ xs) zero h = omega arith
  starts_at n (x ∷ xs) (suc o) h = omega (arith, starts_at (n + length x) xs o (omega arith))

  pub row_at : (xs : List (List A)) (o k : ℕ) (d : A) → k < length (get_or xs o []) → get_or (joined xs) (row_start xs o + k) d ≡ get_or (get_or xs o []) k d
  unfolding joined
  row_at [] o k d h = absurd (omega arith)
  row_at (x ∷ xs) zero k d h = ap (λ j. get_or (x ++ joined xs) j d) (zero-add k) ∙ get_or-append x (joined xs) d k h
  row_at (x ∷ xs) (suc o) k d h =
      let e : length x + row_start xs o + k ≡ length x + (row_start xs o + k) = omega arith in
      ap (λ j. get_or (x ++ joined xs) j d) e ∙ get_or-append-add x (joined xs) (row_start xs o + k) d ∙ row_at xs o k d h

  pub row_in : (xs : List (List A)) (o k : ℕ) → k < length (get_or xs o []) → row_start xs o + k < length (joined xs)
  unfolding joined
  row_in [] o k h = absurd (omega arith)
  row_in (x ∷ xs) zero k h = omega (arith, length-append x (joined xs))
  row_in (x ∷ xs) (suc o) k h = omega (arith, length-append x (joined xs), row_in xs o k h)

  -- place i of all rows is place `at` of row `row`
  pub record Place (xs : List (List A)) (i : ℕ) : Type 0 where
    pub row : ℕ
    pub at : ℕ
    pub is : i ≡ row_start xs row + at
    pub inside : at < length (get_or xs row [])

  pub placed : (xs : List (List A)) (i : ℕ) → i < length (joined xs) → Place xs i
  unfolding joined
  placed [] i h = absurd (omega arith)
  placed (x ∷ xs) i h = go (placed xs (i - length x)) (ltb i (length x)) refl
    where
      go : (i - length x < length (joined xs) → Place xs (i - length x)) → (b : Bool) → ltb i (length x) ≡ b → Place (x ∷ xs) i
      go rec true e = record { row = 0; at = i; is = omega arith; inside = ltb-true i (length x) e }
      go rec false e =
          let m : length x ≤ i = ltb-false i (length x) e in
          let p = rec (omega (arith, length-append x (joined xs))) in
          record { row = suc p.row; at = p.at; is = omega (arith, p.is); inside = p.inside }

  -- the lists by where each begins and how long it is
  pub rows_read :
      (d : A) (xs : List (List A)) (f : ℕ → A) (first count : ℕ → ℕ) (n : ℕ) → n ≡ length xs →
      ((o : ℕ) → o < length xs → first o ≡ get_or (starts 0 (map (λ x. length x) xs)) o 0) →
      ((o : ℕ) → o < length xs → count o ≡ get_or (map (λ x. length x) xs) o 0) →
      ((j : ℕ) → j < length (joined xs) → f j ≡ get_or (joined xs) j d) → listed n (λ o. listed (count o) (λ k. f (first o + k))) ≡ xs
  rows_read d xs f first count n e hf hc known =
      listed_is [] (λ o. listed (count o) (λ k. f (first o + k))) n xs e
      (λ o h.
      listed_is d (λ k. f (first o + k)) (count o) (get_or xs o []) (hc o h ∙ map_at (λ x. length x) xs o [] 0 h)
      (λ k q.
      let s : first o + k ≡ row_start xs o + k = omega (arith, hf o h, starts_at 0 xs o h) in
      ap f s ∙ known (row_start xs o + k) (row_in xs o k q) ∙ row_at xs o k d q))

pub starts_most : (n : ℕ) (ks : List ℕ) (i : ℕ) → get_or (starts n ks) i 0 ≤ n + sum ks
unfolding starts sum
starts_most n [] i = omega arith
starts_most n (k ∷ ks) zero = omega arith
starts_most n (k ∷ ks) (suc i) = omega (arith, starts_most (n + k) ks i)

pub member_most : (ks : List ℕ) (i : ℕ) → get_or ks i 0 ≤ sum ks
unfolding sum
member_most [] i = omega arith
member_most (k ∷ ks) zero = omega arith
member_most (k ∷ ks) (suc i) = omega (arith, member_most ks i)

module _ {A : Type 0} (n : ℕ) (xs : List (List A)) (h : length (joined xs) < n) where
  pub starts_under : Under n (starts 0 (map (λ x. length x) xs))
  starts_under i = omega (arith, starts_most 0 (map (λ x. length x) xs) i, sum_lengths xs)

  pub counts_under : Under n (map (λ x. length x) xs)
  counts_under i = omega (arith, member_most (map (λ x. length x) xs) i, sum_lengths xs)

-- ---- rows that go by their kinds

module _ {A : Type 0} (f : ℕ → List A) where
  pub firsts_under : (n : ℕ) (ks : List ℕ) → length (joined (map f ks)) < n → Under n (starts 0 (map (λ k. length (f k)) ks))
  firsts_under n ks h i = subst (λ (ns : List ℕ). get_or (starts 0 ns) i 0 < n) (map-map (λ x. length x) f ks) (starts_under n (map f ks) h i)

  row_exists : (xs : List (List A)) (o k : ℕ) → k < length (get_or xs o []) → o < length xs
  row_exists [] o k h = absurd (omega arith)
  row_exists (x ∷ xs) zero k h = omega arith
  row_exists (x ∷ xs) (suc o) k h = omega (arith, row_exists xs o k h)

  -- the element at place i, by the row that place i belongs to
  pub by_owner :
      (d : A) (ks owners firsts : List ℕ) → firsts ≡ starts 0 (map (λ k. length (f k)) ks) →
      ((g p : ℕ) → p < length (f (get_or ks g 0)) → get_or owners (get_or firsts g 0 + p) 0 ≡ g) → (i : ℕ) → i < length (joined (map f ks)) →
      (get_or owners i 0 < length ks) × (get_or (f (get_or ks (get_or owners i 0) 0)) (i - get_or firsts (get_or owners i 0) 0) d ≡ get_or (joined (map f ks)) i d)
  by_owner d ks owners firsts s own i h =
      let pl = placed (map f ks) i h in
      let g = pl.row in
      let p = pl.at in
      let gm : g < length (map f ks) = row_exists (map f ks) g p pl.inside in
      let gl : g < length ks = omega (arith, length-map ks f) in
      let fg : get_or (map f ks) g [] ≡ f (get_or ks g 0) = map_at f ks g 0 [] gl in
      let pf : p < length (f (get_or ks g 0)) = omega (arith, ap (λ (x : List A). length x) fg, pl.inside) in
      let st : get_or firsts g 0 ≡ row_start (map f ks) g =
      ap (λ ns. get_or ns g 0) (s ∙ ap (starts 0) (sym (map-map (λ x. length x) f ks))) ∙ starts_at 0 (map f ks) g gm ∙ zero-add (row_start (map f ks) g)
      in
      let ie : i ≡ get_or firsts g 0 + p = omega (arith, pl.is) in
      let og : get_or owners i 0 ≡ g = ap (λ j. get_or owners j 0) ie ∙ own g p pf in
      let ip : i - get_or firsts g 0 ≡ p = omega arith in (
        omega arith,
        ap (λ b. get_or (f (get_or ks b 0)) (i - get_or firsts b 0) d) og
            ∙ ap₂ (λ x n. get_or x n d) (sym fg) ip
            ∙ sym (ap (λ j. get_or (joined (map f ks)) j d) pl.is ∙ row_at (map f ks) g p d pl.inside),
      )

-- ---- a word of gates

pub next_place : (a i : ℕ) → suc a + i ≡ a + suc i
next_place a i = omega arith

-- the word of those of n gates from the a-th on that pass, without the a gates before them
mark : (ℕ → Bool) → ℕ → ℕ → ℕ
mark p a zero = 0
mark p a (suc n) = bit (p a) + 2 * mark p (suc a) n

pub double : (a m : ℕ) → 2 ^ suc a * m ≡ 2 ^ a * (2 * m)
double a m = ap (λ x. x * m) (pow-suc 2 a) ∙ mul_assoc (2 ^ a) 2 m

marked : (p : ℕ → Bool) (a n : ℕ) → word_of_gates (keep p (from a n)) ≡ 2 ^ a * mark p a n
unfolding word_of_gates keep from mark if◌then◌otherwise◌ bit
marked p a zero = omega arith
marked p a (suc n) = go (p a) refl (marked p (suc a) n)
  where
    go : (b : Bool) → p a ≡ b → word_of_gates (keep p (from (suc a) n)) ≡ 2 ^ suc a * mark p (suc a) n →
        word_of_gates (if b then a ∷ keep p (from (suc a) n) otherwise keep p (from (suc a) n)) ≡ 2 ^ a * (bit b + 2 * mark p (suc a) n)
    go true e h = omega (arith, h, double a (mark p (suc a) n), mul-add (2 ^ a) 1 (2 * mark p (suc a) n))
    go false e h = omega (arith, h, double a (mark p (suc a) n), mul-add (2 ^ a) 0 (2 * mark p (suc a) n))

half : (b m k : ℕ) → b ≤ 1 → (b + 2 * m) / 2 ^ suc k ≡ m / 2 ^ k
half b m k h =
    let q : (b + 2 * m) / 2 ≡ m = omega arith in
    ap (λ x. (b + 2 * m) / x) (pow-succ' 2 k) ∙ sym (div-div-eq-div-mul (b + 2 * m) 2 (2 ^ k)) ∙ ap (λ x. x / 2 ^ k) q

-- bit k of it
mark_in : (p : ℕ → Bool) (k a n : ℕ) → k < n → mark p a n / 2 ^ k % 2 ≡ bit (p (a + k))
unfolding mark
mark_in p k a zero h = absurd (omega arith)
mark_in p zero a (suc n) h = let e : a + 0 ≡ a = omega arith in rw e (omega (arith, bit_most (p a)))
mark_in p (suc k) a (suc n) h =
    let e : suc a + k ≡ a + suc k = omega arith in
    ap (λ x. x % 2) (half (bit (p a)) (mark p (suc a) n) k (bit_most (p a))) ∙ mark_in p k (suc a) n (omega arith) ∙ ap (λ x. bit (p x)) e

mark_out : (p : ℕ → Bool) (k a n : ℕ) → n ≤ k → mark p a n / 2 ^ k % 2 ≡ 0
unfolding mark
mark_out p k a zero h = ap (λ x. x % 2) (zero-div (2 ^ k))
mark_out p zero a (suc n) h = absurd (omega arith)
mark_out p (suc k) a (suc n) h =
    ap (λ x. x % 2) (half (bit (p a)) (mark p (suc a) n) k (bit_most (p a))) ∙ mark_out p k (suc a) n (omega arith)

-- two tests that agree on the first n numbers from a on, of which the first lets none of the rest pass
keep_same :
    (q p : ℕ → Bool) (m n a : ℕ) → n ≤ m → ((i : ℕ) → i < n → q (a + i) ≡ p (a + i)) → ((i : ℕ) → n ≤ i → q (a + i) ≡ false) →
    keep q (from a m) ≡ keep p (from a n)
unfolding keep from if◌then◌otherwise◌
keep_same q p zero zero a h f g = refl
keep_same q p zero (suc n) a h f g = absurd (omega arith)
keep_same q p (suc m) zero a h f g =
    let e : q a ≡ false = sym (ap q (add-zero a)) ∙ g 0 (omega arith) in
    rw e (keep_same q p m zero (suc a) (omega arith) (λ i k. absurd (omega arith)) (λ i k. ap q (next_place a i) ∙ g (suc i) (omega arith)))
keep_same q p (suc m) (suc n) a h f g =
    let e : q a ≡ p a = sym (ap q (add-zero a)) ∙ f 0 (omega arith) ∙ ap p (add-zero a) in
    let r : keep q (from (suc a) m) ≡ keep p (from (suc a) n) =
    keep_same q p m n (suc a) (omega arith) (λ i k. ap q (next_place a i) ∙ f (suc i) (omega arith) ∙ sym (ap p (next_place a i)))
    (λ i k. ap q (next_place a i) ∙ g (suc i) (omega arith))
    in
    λ j. if e j then a ∷ r j otherwise r j

pub bit_read : (b : Bool) → eqb (bit b) 1 ≡ b
unfolding bit
bit_read true = refl
bit_read false = refl

pub word_read : (p : ℕ → Bool) (n : ℕ) → n ≤ 64 → gates_of_word (word_of_gates (keep p (from 0 n))) ≡ keep p (from 0 n)
unfolding gates_of_word
word_read p n h =
    let w : word_of_gates (keep p (from 0 n)) ≡ mark p 0 n = marked p 0 n ∙ one-mul (mark p 0 n) in
    rw w
    (keep_same (λ g. eqb (mark p 0 n / 2 ^ g % 2) 1) p 64 n 0 h
    (λ i k. rw (zero-add i) (ap (λ x. eqb x 1) (mark_in p i 0 n k) ∙ bit_read (p (0 + i)) ∙ ap p (zero-add i)))
    (λ i k. rw (zero-add i) (ap (λ x. eqb x 1) (mark_out p i 0 n k))))

-- ---- lists that share out another one

-- how many of them pass
hits : (ℕ → Bool) → List ℕ → ℕ
hits q [] = 0
hits q (o ∷ os) = bit (q o) + hits q os

not_true : (b : Bool) → (b ≡ true → ⊥) → b ≡ false
not_true true h = absurd (h refl)
not_true false h = refl

hits_none : (q : ℕ → Bool) (a n : ℕ) → ((o : ℕ) → a ≤ o → q o ≡ false) → hits q (from a n) ≡ 0
unfolding hits from bit
hits_none q a zero h = refl
hits_none q a (suc n) h = rw (h a (omega arith)) (omega (arith, hits_none q (suc a) n (λ o k. h o (omega arith))))

hits_one : (q : ℕ → Bool) → ((o p : ℕ) → q o ≡ true → q p ≡ true → o ≡ p) → (a n : ℕ) → hits q (from a n) ≤ 1
unfolding hits from bit
hits_one q u a zero = omega arith
hits_one q u a (suc n) = go (q a) refl (hits_one q u (suc a) n)
  where
    go : (b : Bool) → q a ≡ b → hits q (from (suc a) n) ≤ 1 → bit b + hits q (from (suc a) n) ≤ 1
    go false e h = omega arith
    go true e h =
        let z : hits q (from (suc a) n) ≡ 0 =
        hits_none q (suc a) n (λ o k. not_true (q o) (λ t. let s : o ≡ a = u o a t e in absurd (omega arith)))
        in
        omega arith

module _ {A : Type 0} (t : ℕ → A → Bool) where
  shares_none : (os : List ℕ) → length (joined (map (λ o. keep (t o) []) os)) ≡ 0
  unfolding joined keep
  shares_none [] = refl
  shares_none (o ∷ os) = shares_none os

  keep_length : (p : A → Bool) (x : A) (xs : List A) → length (keep p (x ∷ xs)) ≡ bit (p x) + length (keep p xs)
  unfolding keep if◌then◌otherwise◌ bit
  keep_length p x xs = go (p x)
    where
      go : (b : Bool) → length (if b then x ∷ keep p xs otherwise keep p xs) ≡ bit b + length (keep p xs)
      go true = omega arith
      go false = omega arith

  shares_more :
      (x : A) (xs : List A) (os : List ℕ) →
      length (joined (map (λ o. keep (t o) (x ∷ xs)) os)) ≡ hits (λ o. t o x) os + length (joined (map (λ o. keep (t o) xs) os))
  unfolding joined hits
  shares_more x xs [] = refl
  shares_more x xs (o ∷ os) =
      omega (
        arith,
        length-append (keep (t o) (x ∷ xs)) (joined (map (λ o. keep (t o) (x ∷ xs)) os)),
        length-append (keep (t o) xs) (joined (map (λ o. keep (t o) xs) os)),
        keep_length (t o) x xs,
        shares_more x xs os,
      )

  -- where no element passes two of the tests, the lists of those that pass are together not longer
  pub shares :
      ((x : A) (o p : ℕ) → t o x ≡ true → t p x ≡ true → o ≡ p) → (a n : ℕ) (xs : List A) →
      length (joined (map (λ o. keep (t o) xs) (from a n))) ≤ length xs
  shares u a n [] = omega (arith, shares_none (from a n))
  shares u a n (x ∷ xs) = omega (arith, shares_more x xs (from a n), hits_one (λ o. t o x) (u x) a n, shares u a n xs)

-- what is worked out of each element does not change how many there are
pub joined_map : {A B : Type 0} (h : A → B) (f : ℕ → List A) (os : List ℕ) → length (joined (map (λ o. map h (f o)) os)) ≡ length (joined (map f os))
unfolding joined
joined_map h f [] = refl
joined_map h f (o ∷ os) =
    omega (
      arith,
      length-append (map h (f o)) (joined (map (λ o. map h (f o)) os)),
      length-append (f o) (joined (map f os)),
      length-map (f o) h,
      joined_map h f os,
    )
