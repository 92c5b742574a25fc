-- What the tables hold after all ticks are counted: the drivers in order of appearance, and how many ticks each has.
use mathlib.Core.Path.{◌≡◌, refl, sym, ap, ◌∙◌}
use mathlib.Core.Logic.{◌⊎◌, inl, inr}
use mathlib.Core.Bool.{Bool, true, false, ◌&&◌, ◌||◌, true≢false}
use mathlib.Core.List.{List, [], ◌∷◌, ◌++◌, map}
use Prim.Native.Nat.{ℕ, zero, suc, ◌+◌, ◌*◌, ◌≤◌, ◌<◌}
use native.Mathlib.Omega.{arith}
use lib.Dec.{leb, eqb}
use lib.ListN.{length, get_or, set, drop, length-drop, get_or-append, replicate, length-set, length-append}
use lib.Seq.{get_or-set_same, get_or-set_other, drop-cons, get_or-append-add}
use borrow.Author.Tests.{leb-true, leb-false, eqb-true, eqb-false, eq-eqb}
use Rattle.model.specs.Base.{if◌then◌otherwise◌, each, keep, joined, snoc, among}
use Rattle.model.specs.Value.{bit}
use Rattle.hours.specs.Hours.{Share, unassigned, assigned, last_activity, most_drivers, drivers_after, drivers, is_share, is_nobodys, line_words, line_of, last_line, lines_of, report, report_words}
use Rattle.hours.specs.Tally.{most_counts, place, Tally, more, with_driver, tallied, line_row, driver_rows, rows_from, at_start}
use Rattle.hours.proofs.Counts.{Each, counted, GoodShare}

-- ---- places

pub place_most : (d : ℕ) (ds : List ℕ) → place d ds ≤ length ds
unfolding place if◌then◌otherwise◌
place_most d [] = omega arith
place_most d (x ∷ xs) = go (place_most d xs) (eqb d x)
  where
    go : place d xs ≤ length xs → (b : Bool) → (if b then 0 otherwise suc (place d xs)) ≤ suc (length xs)
    go r true = omega arith
    go r false = omega (arith, r)

-- among them, and otherwise behind all
pub place_in : (d : ℕ) (ds : List ℕ) → among d ds ≡ true → place d ds < length ds
unfolding place among if◌then◌otherwise◌
place_in d [] h = absurd (true≢false (sym h))
place_in d (x ∷ xs) h = go (place_in d xs) (eqb d x) h
  where
    go : (among d xs ≡ true → place d xs < length xs) → (b : Bool) → (b || among d xs) ≡ true → (if b then 0 otherwise suc (place d xs)) < suc (length xs)
    go rec true k = omega arith
    go rec false k = let r = rec k in omega (arith, r)

pub place_out : (d : ℕ) (ds : List ℕ) → among d ds ≡ false → place d ds ≡ length ds
unfolding place among if◌then◌otherwise◌
place_out d [] h = refl
place_out d (x ∷ xs) h = go (place_out d xs) (eqb d x) h
  where
    go : (among d xs ≡ false → place d xs ≡ length xs) → (b : Bool) → (b || among d xs) ≡ false → (if b then 0 otherwise suc (place d xs)) ≡ suc (length xs)
    go rec true k = absurd (true≢false k)
    go rec false k = ap suc (rec k)

pub place_found : (d : ℕ) (ds : List ℕ) → place d ds < length ds → get_or ds (place d ds) 0 ≡ d
unfolding place if◌then◌otherwise◌
place_found d [] h = absurd (omega (arith, h))
place_found d (x ∷ xs) h = go (place_found d xs) (eqb d x) refl h
  where
    go : (place d xs < length xs → get_or xs (place d xs) 0 ≡ d) → (b : Bool) → eqb d x ≡ b → (if b then 0 otherwise suc (place d xs)) < suc (length xs) → get_or (x ∷ xs) (if b then 0 otherwise suc (place d xs)) 0 ≡ d
    go rec true e k = sym (eqb-true d x e)
    go rec false e k = rec (omega (arith, k))

-- one more at the end: its place
place_last : (d : ℕ) (ds : List ℕ) → place d (ds ++ (d ∷ [])) ≡ place d ds
unfolding place if◌then◌otherwise◌
place_last d [] = rw (eq-eqb d d refl)
place_last d (x ∷ xs) = ap (λ (n : ℕ). if eqb d x then 0 otherwise suc n) (place_last d xs)

-- and that of another, which is where it was, or behind all both times
place_other : (e d : ℕ) (ds : List ℕ) → eqb e d ≡ false → (place e (ds ++ (d ∷ [])) ≡ place e ds) ⊎ ((length ds ≤ place e ds) × (length ds < place e (ds ++ (d ∷ []))))
unfolding place if◌then◌otherwise◌
place_other e d [] h = inr (omega arith, rw h (omega arith))
place_other e d (x ∷ xs) h = go (place_other e d xs h) (eqb e x)
  where
    go :
        (place e (xs ++ (d ∷ [])) ≡ place e xs) ⊎ ((length xs ≤ place e xs) × (length xs < place e (xs ++ (d ∷ [])))) → (b : Bool) →
        ((if b then 0 otherwise suc (place e (xs ++ (d ∷ [])))) ≡ (if b then 0 otherwise suc (place e xs))) ⊎ ((suc (length xs) ≤ (if b then 0 otherwise suc (place e xs))) × (suc (length xs) < (if b then 0 otherwise suc (place e (xs ++ (d ∷ []))))))
    go r true = inl refl
    go (inl q) false = inl (ap suc q)
    go (inr q) false = inr (omega (arith, q.0), omega (arith, q.1))

-- ---- with one more driver

pub with_place : (d : ℕ) (ds : List ℕ) → (place d (with_driver ds d) ≡ place d ds) × (place d ds < length (with_driver ds d))
unfolding with_driver if◌then◌otherwise◌ snoc
with_place d ds = go (among d ds) refl
  where
    go : (b : Bool) → among d ds ≡ b → (place d (if b then ds otherwise ds ++ (d ∷ [])) ≡ place d ds) × (place d ds < length (if b then ds otherwise ds ++ (d ∷ [])))
    go true q = (refl, place_in d ds q)
    go false q = (place_last d ds, omega (arith, place_most d ds, length-append ds (d ∷ [])))

pub with_length : (d : ℕ) (ds : List ℕ) → (length ds ≤ length (with_driver ds d)) × (length (with_driver ds d) ≤ suc (length ds))
unfolding with_driver if◌then◌otherwise◌ snoc
with_length d ds = go (among d ds)
  where
    go : (b : Bool) → (length ds ≤ length (if b then ds otherwise ds ++ (d ∷ []))) × (length (if b then ds otherwise ds ++ (d ∷ [])) ≤ suc (length ds))
    go true = (omega arith, omega arith)
    go false = (omega (arith, length-append ds (d ∷ [])), omega (arith, length-append ds (d ∷ [])))

with_other : (e d : ℕ) (ds : List ℕ) → eqb e d ≡ false → (place e (with_driver ds d) ≡ place e ds) ⊎ ((length ds ≤ place e ds) × (length ds ≤ place e (with_driver ds d)))
unfolding with_driver if◌then◌otherwise◌ snoc
with_other e d ds h = go (among d ds)
  where
    go : (b : Bool) → (place e (if b then ds otherwise ds ++ (d ∷ [])) ≡ place e ds) ⊎ ((length ds ≤ place e ds) × (length ds ≤ place e (if b then ds otherwise ds ++ (d ∷ []))))
    go true = inl refl
    go false = next (place_other e d ds h)
      where
        next : (place e (ds ++ (d ∷ [])) ≡ place e ds) ⊎ ((length ds ≤ place e ds) × (length ds < place e (ds ++ (d ∷ [])))) → (place e (ds ++ (d ∷ [])) ≡ place e ds) ⊎ ((length ds ≤ place e ds) × (length ds ≤ place e (ds ++ (d ∷ []))))
        next (inl q) = inl q
        next (inr q) = inr (q.0, omega (arith, q.1))

-- two drivers have two places
apart : (e d : ℕ) (ds : List ℕ) → eqb e d ≡ false → place d ds < length ds → place e ds ≡ place d ds → ⊥
apart e d ds h l q = eqb-false e d h (sym (place_found e ds (omega (arith, q, l))) ∙ ap (λ (i : ℕ). get_or ds i 0) q ∙ place_found d ds l)

-- ---- one tick more

pub more_same : (cs : List ℕ) (i j : ℕ) → i < length cs → j ≡ i → get_or (more cs i) j 0 ≡ get_or cs j 0 + 1
unfolding more
more_same cs i j h e = ap (λ (k : ℕ). get_or (set cs i (get_or cs i 0 + 1)) k 0) e ∙ get_or-set_same cs i (get_or cs i 0 + 1) 0 h ∙ ap (λ (k : ℕ). get_or cs k 0 + 1) (sym e)

pub more_other : (cs : List ℕ) (i j : ℕ) → (j ≡ i → ⊥) → get_or (more cs i) j 0 ≡ get_or cs j 0
unfolding more
more_other cs i j n = get_or-set_other cs i j (get_or cs i 0 + 1) 0 n

pub more_length : (cs : List ℕ) (i : ℕ) → length (more cs i) ≡ length cs
unfolding more
more_length cs i = length-set cs i (get_or cs i 0 + 1)

-- most-counts counts, and those of drivers still to come are 0
pub record Sound (t : Tally) : Type 0 where
  pub long : length t.counts ≡ most_counts
  pub free : (j : ℕ) → 4 * length t.drivers < j → get_or t.counts j 0 ≡ 0

sound_kept : (t : Tally) (s : Share) → Sound t → GoodShare s → Sound (tallied t s)
unfolding tallied
sound_kept t unassigned h g =
    record {
      long = more_length t.counts 0 ∙ h.long;
      free = λ j l. more_other t.counts 0 j (λ e. omega (arith, e, l)) ∙ h.free j l;
    }
sound_kept t (assigned d a) h g =
    record {
      long = more_length t.counts (1 + 4 * place d t.drivers + a) ∙ h.long;
      free = λ j l. let p = (with_place d t.drivers).1 in let n = (with_length d t.drivers).0 in more_other t.counts (1 + 4 * place d t.drivers + a) j (λ e. omega (arith, e, l, p, g)) ∙ h.free j (omega (arith, l, n));
    }

-- the count of a driver in an activity
unfoldable pub cell : Tally → ℕ → ℕ → ℕ
cell t d a = get_or t.counts (1 + 4 * place d t.drivers + a) 0

cell_step : (t : Tally) (s : Share) → Sound t → GoodShare s → length (tallied t s).drivers ≤ most_drivers → (e b : ℕ) → b ≤ last_activity → cell (tallied t s) e b ≡ cell t e b + bit (is_share e b s)
unfolding tallied cell is_share bit
cell_step t unassigned h g few e b l =
    let q = more_other t.counts 0 (1 + 4 * place e t.drivers + b) (λ z. omega (arith, z)) in
    omega (arith, q)
cell_step t (assigned d a) h g few e b l = go (eqb e d) refl (eqb b a) refl
  where
    ds : List ℕ
    ds = t.drivers

    i : ℕ
    i = 1 + 4 * place d t.drivers + a

    go : (x : Bool) → eqb e d ≡ x → (y : Bool) → eqb b a ≡ y → get_or (more t.counts (1 + 4 * place d t.drivers + a)) (1 + 4 * place e (with_driver t.drivers d) + b) 0 ≡ get_or t.counts (1 + 4 * place e t.drivers + b) 0 + bit (x && y)
    go true q true r =
        let w = with_place d t.drivers in
        let z : place e (with_driver t.drivers d) ≡ place e t.drivers = ap (λ (n : ℕ). place n (with_driver t.drivers d)) (eqb-true e d q) ∙ w.0 ∙ ap (λ (n : ℕ). place n t.drivers) (sym (eqb-true e d q)) in
        let y : place e t.drivers ≡ place d t.drivers = ap (λ (n : ℕ). place n t.drivers) (eqb-true e d q) in
        let ba = eqb-true b a r in
        let lw = w.1 in
        let long = h.long in
        ap (λ (n : ℕ). get_or (more t.counts (1 + 4 * place d t.drivers + a)) (1 + 4 * n + b) 0) z
        ∙ more_same t.counts (1 + 4 * place d t.drivers + a) (1 + 4 * place e t.drivers + b) (omega (arith, lw, few, g, long)) (omega (arith, y, ba))
    go true q false r =
        let w = with_place d t.drivers in
        let z : place e (with_driver t.drivers d) ≡ place e t.drivers = ap (λ (n : ℕ). place n (with_driver t.drivers d)) (eqb-true e d q) ∙ w.0 ∙ ap (λ (n : ℕ). place n t.drivers) (sym (eqb-true e d q)) in
        let y : place e t.drivers ≡ place d t.drivers = ap (λ (n : ℕ). place n t.drivers) (eqb-true e d q) in
        let ba = eqb-false b a r in
        let v = more_other t.counts (1 + 4 * place d t.drivers + a) (1 + 4 * place e t.drivers + b) (λ k. ba (omega (arith, k, y))) in
        ap (λ (n : ℕ). get_or (more t.counts (1 + 4 * place d t.drivers + a)) (1 + 4 * n + b) 0) z ∙ omega (arith, v)
    go false q y r = next y (with_other e d t.drivers q)
      where
        w : (place d (with_driver t.drivers d) ≡ place d t.drivers) × (place d t.drivers < length (with_driver t.drivers d))
        w = with_place d t.drivers

        differ : (1 + 4 * place e (with_driver t.drivers d) + b ≡ 1 + 4 * place d t.drivers + a) → ⊥
        differ k =
            let w0 = w.0 in
            let w1 = w.1 in
            apart e d (with_driver t.drivers d) q (omega (arith, w0, w1)) (omega (arith, k, w0, l, g))

        next : (y : Bool) → (place e (with_driver t.drivers d) ≡ place e t.drivers) ⊎ ((length t.drivers ≤ place e t.drivers) × (length t.drivers ≤ place e (with_driver t.drivers d))) → get_or (more t.counts (1 + 4 * place d t.drivers + a)) (1 + 4 * place e (with_driver t.drivers d) + b) 0 ≡ get_or t.counts (1 + 4 * place e t.drivers + b) 0 + 0
        next y (inl z) =
            let v = more_other t.counts (1 + 4 * place d t.drivers + a) (1 + 4 * place e (with_driver t.drivers d) + b) differ in
            v ∙ ap (λ (n : ℕ). get_or t.counts (1 + 4 * n + b) 0) z ∙ omega arith
        next y (inr z) =
            let v = more_other t.counts (1 + 4 * place d t.drivers + a) (1 + 4 * place e (with_driver t.drivers d) + b) differ in
            let f = h.free (1 + 4 * place e (with_driver t.drivers d) + b) (omega (arith, z.1)) in
            let f₀ = h.free (1 + 4 * place e t.drivers + b) (omega (arith, z.0)) in
            omega (arith, v, f, f₀)

nobody_step : (t : Tally) (s : Share) → Sound t → get_or (tallied t s).counts 0 0 ≡ get_or t.counts 0 0 + bit (is_nobodys s)
unfolding tallied is_nobodys bit
nobody_step t unassigned h = let l = h.long in more_same t.counts 0 0 (omega (arith, l)) refl
nobody_step t (assigned d a) h = more_other t.counts (1 + 4 * place d t.drivers + a) 0 (λ z. omega (arith, z)) ∙ omega arith

-- ---- all ticks

pub drivers_are : (ss : List Share) (t : Tally) → (each tallied t ss).drivers ≡ drivers_after t.drivers ss
unfolding each tallied drivers_after with_driver
drivers_are [] t = refl
drivers_are (unassigned ∷ ss) t = drivers_are ss (tallied t unassigned)
drivers_are (assigned d a ∷ ss) t = drivers_are ss (tallied t (assigned d a))

step_grows : (t : Tally) (s : Share) → length t.drivers ≤ length (tallied t s).drivers
unfolding tallied
step_grows t unassigned = omega arith
step_grows t (assigned d a) = (with_length d t.drivers).0

pub all_grows : (ss : List Share) (t : Tally) → length t.drivers ≤ length (each tallied t ss).drivers
unfolding each
all_grows [] t = omega arith
all_grows (s ∷ ss) t = let a = step_grows t s in let b = all_grows ss (tallied t s) in omega (arith, a, b)

pub cells_are :
    (ss : List Share) (t : Tally) → Sound t → Each GoodShare ss → length (each tallied t ss).drivers ≤ most_drivers → (e b : ℕ) → b ≤ last_activity →
    cell (each tallied t ss) e b ≡ cell t e b + length (keep (is_share e b) ss)
unfolding each keep
cells_are [] t h g few e b l = omega arith
cells_are (s ∷ ss) t h g few e b l =
    let r = cells_are ss (tallied t s) (sound_kept t s h g.0) g.1 few e b l in
    let u = all_grows ss (tallied t s) in
    let v = cell_step t s h g.0 (omega (arith, u, few)) e b l in
    let w = counted (is_share e b) s ss in
    omega (arith, r, v, w)

pub nobodys_are : (ss : List Share) (t : Tally) → Sound t → Each GoodShare ss → get_or (each tallied t ss).counts 0 0 ≡ get_or t.counts 0 0 + length (keep is_nobodys ss)
unfolding each keep
nobodys_are [] t h g = omega arith
nobodys_are (s ∷ ss) t h g =
    let r = nobodys_are ss (tallied t s) (sound_kept t s h g.0) g.1 in
    let v = nobody_step t s h in
    let w = counted is_nobodys s ss in
    omega (arith, r, v, w)

-- ---- each driver stands in its own place

abbrev Own : List ℕ → Type 0
Own ds = (i : ℕ) → i < length ds → place (get_or ds i 0) ds ≡ i

place_before : (e d : ℕ) (ds : List ℕ) → place e ds < length ds → place e (ds ++ (d ∷ [])) ≡ place e ds
unfolding place if◌then◌otherwise◌
place_before e d [] h = absurd (omega (arith, h))
place_before e d (x ∷ xs) h = go (place_before e d xs) (eqb e x) h
  where
    go : (place e xs < length xs → place e (xs ++ (d ∷ [])) ≡ place e xs) → (b : Bool) → (if b then 0 otherwise suc (place e xs)) < suc (length xs) → (if b then 0 otherwise suc (place e (xs ++ (d ∷ [])))) ≡ (if b then 0 otherwise suc (place e xs))
    go rec true k = refl
    go rec false k = ap suc (rec (omega (arith, k)))

own_with : (d : ℕ) (ds : List ℕ) → Own ds → Own (with_driver ds d)
unfolding with_driver if◌then◌otherwise◌ snoc
own_with d ds h = go (among d ds) refl
  where
    go : (b : Bool) → among d ds ≡ b → Own (if b then ds otherwise ds ++ (d ∷ []))
    go true q i l = h i l
    go false q i l = next (leb (suc i) (length ds)) refl
      where
        at_end : i ≡ length ds + 0 → place (get_or (ds ++ (d ∷ [])) i 0) (ds ++ (d ∷ [])) ≡ i
        at_end z =
            let y : get_or (ds ++ (d ∷ [])) i 0 ≡ d = ap (λ (k : ℕ). get_or (ds ++ (d ∷ [])) k 0) z ∙ get_or-append-add ds (d ∷ []) 0 0 in
            let u = place_out d ds q in
            ap (λ (x : ℕ). place x (ds ++ (d ∷ []))) y ∙ place_last d ds ∙ omega (arith, u, z)

        next : (b : Bool) → leb (suc i) (length ds) ≡ b → place (get_or (ds ++ (d ∷ [])) i 0) (ds ++ (d ∷ [])) ≡ i
        next true k =
            let l = leb-true (suc i) (length ds) k in
            let o = h i l in
            ap (λ (x : ℕ). place x (ds ++ (d ∷ []))) (get_or-append ds (d ∷ []) 0 i l) ∙ place_before (get_or ds i 0) d ds (omega (arith, o, l)) ∙ o
        next false k = let m = leb-false (suc i) (length ds) k in let n = length-append ds (d ∷ []) in at_end (omega (arith, m, n, l))

own_after : (ss : List Share) (ds : List ℕ) → Own ds → Own (drivers_after ds ss)
unfolding drivers_after with_driver
own_after [] ds h = h
own_after (unassigned ∷ ss) ds h = own_after ss ds h
own_after (assigned d a ∷ ss) ds h = own_after ss (with_driver ds d) (own_with d ds h)

-- ---- the lines

-- the counts of some ticks by a list of drivers
pub record Rightly (ss : List Share) (ds cs : List ℕ) : Type 0 where
  pub own : (i : ℕ) → i < length ds → place (get_or ds i 0) ds ≡ i
  pub counts : (d a : ℕ) → a ≤ last_activity → get_or cs (1 + 4 * place d ds + a) 0 ≡ length (keep (is_share d a) ss)
  pub nobody : get_or cs 0 0 ≡ length (keep is_nobodys ss)

-- what a driver's count is
count_at : (ss : List Share) (ds cs : List ℕ) → Rightly ss ds cs → (i x a k : ℕ) → i < length ds → get_or ds i 0 ≡ x → a ≤ last_activity → k ≡ 1 + 4 * i + a → get_or cs k 0 ≡ length (keep (is_share x a) ss)
count_at ss ds cs r i x a k l e b q =
    let o = r.own i l in
    let p : place x ds ≡ i = ap (λ (n : ℕ). place n ds) (sym e) ∙ o in
    let z : k ≡ 1 + 4 * place x ds + a = omega (arith, p, q) in
    ap (λ (n : ℕ). get_or cs n 0) z ∙ r.counts x a b

driver_lines : (len : ℕ) (ss : List Share) (ds cs : List ℕ) → Rightly ss ds cs → (i x : ℕ) → i < length ds → get_or ds i 0 ≡ x → (rest : List ℕ) →
    driver_rows len x cs i ++ rest ≡ line_words (line_of len ss x 0) ++ (line_words (line_of len ss x 1) ++ (line_words (line_of len ss x 2) ++ (line_words (line_of len ss x 3) ++ rest)))
unfolding driver_rows line_row line_words line_of
driver_lines len ss ds cs r i x l e rest =
    let c0 = count_at ss ds cs r i x 0 (1 + 4 * i) l e (omega arith) (omega arith) in
    let c1 = count_at ss ds cs r i x 1 (1 + 4 * i + 1) l e (omega arith) (omega arith) in
    let c2 = count_at ss ds cs r i x 2 (1 + 4 * i + 2) l e (omega arith) (omega arith) in
    let c3 = count_at ss ds cs r i x 3 (1 + 4 * i + 3) l e (omega arith) (omega arith) in
    rw (c0, c1, c2, c3)

inside : (ds : List ℕ) (i x : ℕ) (xs : List ℕ) → drop i ds ≡ x ∷ xs → (i < length ds) × (get_or ds i 0 ≡ x) × (drop (suc i) ds ≡ xs)
inside ds i x xs e =
    let k = ap (λ (l : List ℕ). length l) e in
    let m = length-drop i ds in
    let l : i < length ds = omega (arith, k, m) in
    let f : get_or ds i 0 ∷ drop (suc i) ds ≡ x ∷ xs = sym (drop-cons ds i 0 l) ∙ e in
    (l, ap (λ (l : List ℕ). get_or l 0 0) f, ap (λ (l : List ℕ). drop 1 l) f)

last_row : (len : ℕ) (ss : List Share) (cs : List ℕ) → get_or cs 0 0 ≡ length (keep is_nobodys ss) → line_row 0 0 0 (get_or cs 0 0 * len) ≡ line_words (last_line len ss) ++ []
unfolding line_row line_words last_line
last_row len ss cs e = rw e

rows_are :
    (len : ℕ) (ss : List Share) (ds cs : List ℕ) → Rightly ss ds cs → (xs : List ℕ) (i : ℕ) → drop i ds ≡ xs →
    rows_from len cs i xs ≡ joined (map line_words (lines_of len ss xs))
unfolding rows_from lines_of joined
rows_are len ss ds cs r [] i e = last_row len ss cs r.nobody
rows_are len ss ds cs r (x ∷ xs) i e =
    let f = inside ds i x xs e in
    ap (λ (l : List ℕ). driver_rows len x cs i ++ l) (rows_are len ss ds cs r xs (suc i) f.2) ∙ driver_lines len ss ds cs r i x f.0 f.1 (joined (map line_words (lines_of len ss xs)))

pub all_zero : (n j : ℕ) → ◌≡◌ {A = ℕ} (get_or (replicate n 0) j 0) 0
all_zero zero j = refl
all_zero (suc n) zero = refl
all_zero (suc n) (suc j) = all_zero n j

sound_start : Sound at_start
sound_start = record { long = refl; free = λ j l. all_zero most_counts j }

none_own : Own []
none_own i l = absurd (omega (arith, l))

rightly : (ss : List Share) → Each GoodShare ss → length (each tallied at_start ss).drivers ≤ most_drivers → Rightly ss (each tallied at_start ss).drivers (each tallied at_start ss).counts
unfolding cell
rightly ss g few =
    record {
      own = λ i l. let e = drivers_are ss at_start in let o = own_after ss [] none_own i (let z = ap (λ (l : List ℕ). length l) e in omega (arith, z, l)) in ap (λ (l : List ℕ). place (get_or l i 0) l) e ∙ o;
      counts = λ d a b. cells_are ss at_start sound_start g few d a b ∙ zero_more (cell at_start d a) (length (keep (is_share d a) ss)) (all_zero most_counts (1 + 4 * place d [] + a));
      nobody = nobodys_are ss at_start sound_start g ∙ zero_more 0 (length (keep is_nobodys ss)) refl;
    }
  where
    zero_more : (x y : ℕ) → x ≡ 0 → x + y ≡ y
    zero_more x y e = omega (arith, e)

-- the report of the tables after all ticks
pub report_is :
    (len : ℕ) (ss : List Share) (t : Tally) → Each GoodShare ss → t ≡ each tallied at_start ss → length t.drivers ≤ most_drivers →
    (rows_from len t.counts 0 t.drivers ≡ report_words (report len ss)) × (t.drivers ≡ drivers ss)
unfolding report_words report drivers
report_is len ss t g e few =
    let few₀ : length (each tallied at_start ss).drivers ≤ most_drivers = let z = ap (λ (u : Tally). length u.drivers) e in omega (arith, z, few) in
    let ds : t.drivers ≡ drivers_after [] ss = ap (λ (u : Tally). u.drivers) e ∙ drivers_are ss at_start in
    let a : rows_from len t.counts 0 t.drivers ≡ rows_from len (each tallied at_start ss).counts 0 (each tallied at_start ss).drivers = ap (λ (u : Tally). rows_from len u.counts 0 u.drivers) e in
    (a ∙ rows_are len ss (each tallied at_start ss).drivers (each tallied at_start ss).counts (rightly ss g few₀) (each tallied at_start ss).drivers 0 refl ∙ ap (λ (l : List ℕ). joined (map line_words (lines_of len ss l))) (drivers_are ss at_start), ds)
