-- One law for each way out of the functions that count.
use mathlib.Core.Path.{◌≡◌, refl, sym, ap, ◌∙◌, subst}
use mathlib.Core.Bool.{Bool, true, false, true≢false}
use mathlib.Core.List.{List, [], ◌∷◌, ◌++◌, map}
use Rattle.std.specs.Prelude.{Option, Some, None}
use Prim.Native.Nat.{ℕ, zero, suc, ◌+◌, ◌-◌, ◌*◌, ◌/◌, ◌≤◌, ◌<◌, min}
use native.Mathlib.Nat.{mul-le-mul_right}
use native.Mathlib.Omega.{arith}
use lib.Dec.{leb, eqb}
use lib.ListN.{length, get_or, set, replicate, take, drop, length-append}
use lib.Seq.{drop-cons, length-take-le, take-suc-set, set_out}
use borrow.Author.Tests.{eqb-true, eqb-false, eq-eqb, ne_eqb, leb-true, leb-false}
use Rattle.words.specs.Words.{words}
use Rattle.model.specs.declared.Value.{Value}
use Rattle.model.specs.Base.{if◌then◌otherwise◌, each, keep, snoc, among}
use Rattle.model.specs.Value.{value_of}
use Rattle.model.specs.Script.{most_ticks}
use Rattle.model.specs.Record.{LogRecord, stop_in, shown_at, record_size, record_at}
use Rattle.records.specs.Records.{records_in, ticks_read, shown_in}
use Rattle.walk.specs.Walk.{Fits, WholeLog, shown_there}
use Rattle.walk.proofs.Walk.{Left, records_left, records_next, records_over, walk_begins, walk_next, tick_left}
use Rattle.walk.proofs.Shown.{value_there}
use Rattle.hours.specs.Hours.{Share, unassigned, assigned, last_activity, active, share, shares, most_drivers, longest}
use Rattle.hours.specs.Tally.{place, most_counts, Tally, more, with_driver, tallied, tally, at_start, UpTo, above_all, Counts, is_assigned, share_there}
use Rattle.hours.specs.Counted.{CountedAll}
use Rattle.hours.specs.declared.tally.Tally.{Tally as Kept}
use Rattle.hours.proofs.Tallies.{place_in, place_out, more_same, more_other, all_grows, all_zero}

-- ---- the place of a driver

-- what is left of the search at turn i
unfoldable pub place_left : List ℕ → ℕ → ℕ → ℕ → ℕ
place_left ds n d i = i + place d (take (n - i) (drop i ds))

pub place_first : (ds : List ℕ) (n d : ℕ) → place_left ds n d 0 ≡ place d (take n ds)
unfolding place_left
place_first ds n d = let e : n - 0 ≡ n = omega arith in ap (λ (k : ℕ). 0 + place d (take k ds)) e ∙ omega arith

module _ (ds : List ℕ) (n d i r : ℕ) (l : n ≤ length ds) (h : place_left ds n d i ≡ r) where
  split : i < n → take (n - i) (drop i ds) ≡ get_or ds i 0 ∷ take (n - (i + 1)) (drop (i + 1) ds)
  split k =
      let a : n - i ≡ suc (n - (i + 1)) = omega (arith, k) in
      let b : suc i ≡ i + 1 = omega arith in
      (λ j. take (a j) (drop-cons ds i 0 (omega (arith, k, l)) j)) ∙ ap (λ (x : ℕ). get_or ds i 0 ∷ take (n - (i + 1)) (drop x ds)) b

  pub place_here : i < n → get_or ds i 0 ≡ d → i ≡ r
  unfolding place_left place if◌then◌otherwise◌
  place_here k e =
      let q : eqb d (get_or ds i 0) ≡ true = eq-eqb d (get_or ds i 0) (sym e) in
      let z : place d (take (n - i) (drop i ds)) ≡ 0 = ap (place d) (split k) ∙ rw q in
      omega (arith, z, h)

  pub place_next : i < n → (get_or ds i 0 ≡ d → ⊥) → place_left ds n d (i + 1) ≡ r
  unfolding place_left place if◌then◌otherwise◌
  place_next k e =
      let q : eqb d (get_or ds i 0) ≡ false = ne_eqb d (get_or ds i 0) (λ z. e (sym z)) in
      let z : place d (take (n - i) (drop i ds)) ≡ suc (place d (take (n - (i + 1)) (drop (i + 1) ds))) = ap (place d) (split k) ∙ rw q in
      omega (arith, z, h)

  pub place_over : i ≤ n → n ≤ i → n ≡ r
  unfolding place_left place
  place_over a b =
      let e : n - i ≡ 0 = omega (arith, b) in
      let z : place d (take (n - i) (drop i ds)) ≡ 0 = ap (λ (k : ℕ). place d (take k (drop i ds))) e in
      omega (arith, z, h, a, b)

-- ---- counts

pub up_at : (b : ℕ) (cs : List ℕ) → UpTo b cs → (i : ℕ) → get_or cs i 0 ≤ b
unfolding UpTo
up_at b cs h i = h i

pub up_more : (a b : ℕ) (cs : List ℕ) → a ≤ b → UpTo a cs → UpTo b cs
unfolding UpTo
up_more a b cs l h i = let k = h i in omega (arith, k, l)

pub product_fits : (x len : ℕ) → x ≤ above_all → len ≤ longest → x * len ≤ above_all * longest
product_fits x len a b = let p : x * len ≤ above_all * len = mul-le-mul_right len a in omega (arith, p, b)

-- a place that is not there
out : (cs : List ℕ) (i j : ℕ) → length cs ≤ i → get_or (more cs i) j 0 ≡ get_or cs j 0
unfolding more
out cs i j l = ap (λ (x : List ℕ). get_or x j 0) (set_out cs i (get_or cs i 0 + 1) l)

up_one : (b : ℕ) (cs : List ℕ) (i : ℕ) → UpTo b cs → UpTo (b + 1) (more cs i)
unfolding UpTo
up_one b cs i h j = go (eqb j i) refl (leb (suc i) (length cs)) refl
  where
    go : (x : Bool) → eqb j i ≡ x → (y : Bool) → leb (suc i) (length cs) ≡ y → get_or (more cs i) j 0 ≤ b + 1
    go false e y f = let z = more_other cs i j (eqb-false j i e) in let k = h j in omega (arith, z, k)
    go true e true f = let z = more_same cs i j (leb-true (suc i) (length cs) f) (eqb-true j i e) in let k = h j in omega (arith, z, k)
    go true e false f = let z = same in let k = h j in omega (arith, z, k)
      where
        same : get_or (more cs i) j 0 ≡ get_or cs j 0
        same = out cs i j (let l = leb-false (suc i) (length cs) f in omega (arith, l))

-- ---- one tick

-- none
pub counts_none : (ds cs : List ℕ) (n : ℕ) → Counts [] ds cs n ds cs n (Some tt)
unfolding each
counts_none ds cs n = record { few = λ k. refl; many = λ k. cc; low = λ b h. up_more b (b + 0) cs (omega arith) h }

-- nobody's
pub counts_nobody : (ds cs ds₁ cs₁ : List ℕ) (n n₁ : ℕ) (s : Share) → s ≡ unassigned → (cs₁ ≡ more cs 0) × (ds₁ ≡ ds) × (n₁ ≡ n) → Counts (s ∷ []) ds cs n ds₁ cs₁ n₁ (Some tt)
unfolding each tallied tally
counts_nobody ds cs ds₁ cs₁ n n₁ s e q =
    record {
      few = λ k. (λ j. record { drivers = take (q.2 j) (q.1 j); counts = q.0 j }) ∙ ap (λ (x : Share). tallied (record { drivers = take n ds; counts = cs }) x) (sym e);
      many = λ k. cc;
      low = λ b h. subst (UpTo (b + 1)) (sym q.0) (up_one b cs 0 h);
    }

module _ (ds cs : List ℕ) (n d a p : ℕ) (few_n : n ≤ most_drivers) (long : length ds ≡ most_drivers) (ep : p ≡ place d (take n ds)) where
  taken : length (take n ds) ≡ n
  taken = length-take-le n ds (omega (arith, few_n, long))

  with_old : p < n → with_driver (take n ds) d ≡ take n ds
  unfolding with_driver if◌then◌otherwise◌
  with_old l = go (among d (take n ds)) refl
    where
      go : (b : Bool) → among d (take n ds) ≡ b → (if b then take n ds otherwise snoc (take n ds) d) ≡ take n ds
      go true e = refl
      go false e = absurd (let z = place_out d (take n ds) e in let t = taken in omega (arith, z, t, ep, l))

  with_new : n ≤ p → with_driver (take n ds) d ≡ take n ds ++ (d ∷ [])
  unfolding with_driver if◌then◌otherwise◌ snoc
  with_new l = go (among d (take n ds)) refl
    where
      go : (b : Bool) → among d (take n ds) ≡ b → (if b then take n ds otherwise take n ds ++ (d ∷ [])) ≡ take n ds ++ (d ∷ [])
      go true e = absurd (let z = place_in d (take n ds) e in let t = taken in omega (arith, z, t, ep, l))
      go false e = refl

  pub assign_old : (p ≡ n → ⊥) → p ≤ n → (ds₁ cs₁ : List ℕ) (n₁ : ℕ) → (cs₁ ≡ more cs (1 + 4 * p + a)) × (ds₁ ≡ ds) × (n₁ ≡ n) → Counts (assigned d a ∷ []) ds cs n ds₁ cs₁ n₁ (Some tt)
  unfolding each tallied tally
  assign_old u l ds₁ cs₁ n₁ q =
      let w = with_old (omega (arith, u, l)) in
      let z : cs₁ ≡ more cs (1 + 4 * place d (take n ds) + a) = q.0 ∙ ap (λ (k : ℕ). more cs (1 + 4 * k + a)) ep in
      let y : take n₁ ds₁ ≡ with_driver (take n ds) d = (λ j. take (q.2 j) (q.1 j)) ∙ sym w in
      record {
        few = λ k. λ j. record { drivers = y j; counts = z j };
        many = λ k. cc;
        low = λ b h. subst (UpTo (b + 1)) (sym q.0) (up_one b cs (1 + 4 * p + a) h);
      }

  pub assign_full : p ≡ n → n ≡ most_drivers → Counts (assigned d a ∷ []) ds cs n ds cs n None
  unfolding each tallied tally
  assign_full l e =
      let w = ap (λ (x : List ℕ). length x) (with_new (omega (arith, l))) in
      let t = taken in
      record {
        few = λ k. cc;
        many = λ k. let u = length-append (take n ds) (d ∷ []) in omega (arith, w, t, e, u);
        low = λ b h. up_more b (b + 1) cs (omega arith) h;
      }

  pub assign_new :
      p ≡ n → (n ≡ most_drivers → ⊥) → (ds₁ cs₁ : List ℕ) (n₁ : ℕ) → (cs₁ ≡ more cs (1 + 4 * p + a)) × (ds₁ ≡ set ds p d) × (n₁ ≡ n + 1) →
      Counts (assigned d a ∷ []) ds cs n ds₁ cs₁ n₁ (Some tt)
  unfolding each tallied tally
  assign_new l e ds₁ cs₁ n₁ q =
      let w = with_new (omega (arith, l)) in
      let k : n₁ ≡ suc n = omega (arith, q.2) in
      let f : ds₁ ≡ set ds n d = q.1 ∙ ap (λ (x : ℕ). set ds x d) l in
      let t : take n₁ ds₁ ≡ take n ds ++ (d ∷ []) = (λ j. take (k j) (f j)) ∙ take-suc-set ds n d (omega (arith, e, few_n, long)) in
      let z : cs₁ ≡ more cs (1 + 4 * place d (take n ds) + a) = q.0 ∙ ap (λ (k : ℕ). more cs (1 + 4 * k + a)) ep in
      let y : take n₁ ds₁ ≡ with_driver (take n ds) d = t ∙ sym w in
      record {
        few = λ k. λ j. record { drivers = y j; counts = z j };
        many = λ k. cc;
        low = λ b h. subst (UpTo (b + 1)) (sym q.0) (up_one b cs (1 + 4 * p + a) h);
      }

-- ---- whom a tick is assigned to

no_driver : (k b : ℕ) (v : Value) → (k ≡ 1 → ⊥) → share (value_of k b) v ≡ unassigned
unfolding share value_of
no_driver zero b v n = refl
no_driver (suc zero) b v n = absurd (n refl)
no_driver (suc (suc zero)) b v n = refl
no_driver (suc (suc (suc k))) b v n = refl

no_activity : (d k b : ℕ) → (k ≡ 1 → ⊥) → share (value_of 1 d) (value_of k b) ≡ unassigned
unfolding share active value_of
no_activity d zero b n = refl
no_activity d (suc zero) b n = absurd (n refl)
no_activity d (suc (suc zero)) b n = refl
no_activity d (suc (suc (suc k))) b n = refl

both_ints : (d a : ℕ) → share (value_of 1 d) (value_of 1 a) ≡ (if leb a last_activity then assigned d a otherwise unassigned)
unfolding share active value_of
both_ints d a = refl

choice_assigned : (b : Bool) (d a : ℕ) → b ≡ is_assigned (if b then assigned d a otherwise unassigned)
unfolding is_assigned if◌then◌otherwise◌
choice_assigned true d a = refl
choice_assigned false d a = refl

module _ (s : List ℕ) (outs k driver activity x : ℕ) (ex : x ≡ get_or (words s) (k + driver) 0) where
  pub driver_none : (x ≡ 1 → ⊥) → false ≡ is_assigned (share_there s outs k driver activity)
  unfolding share_there shown_there is_assigned
  driver_none n = sym (ap is_assigned (no_driver (get_or (words s) (k + driver) 0) (get_or (words s) (k + outs + driver) 0) (shown_there s outs k activity) (λ z. n (ex ∙ z))))

  module _ (hx : x ≡ 1) (y : ℕ) (ey : y ≡ get_or (words s) (k + activity) 0) where
    with_int : share_there s outs k driver activity ≡ share (value_of 1 (get_or (words s) (k + outs + driver) 0)) (value_of y (get_or (words s) (k + outs + activity) 0))
    unfolding share_there shown_there
    with_int = λ j. share (value_of ((sym ex ∙ hx) j) (get_or (words s) (k + outs + driver) 0)) (value_of (sym ey j) (get_or (words s) (k + outs + activity) 0))

    pub activity_none : (y ≡ 1 → ⊥) → false ≡ is_assigned (share_there s outs k driver activity)
    unfolding is_assigned
    activity_none n = sym (ap is_assigned (with_int ∙ no_activity (get_or (words s) (k + outs + driver) 0) y (get_or (words s) (k + outs + activity) 0) n))

    pub activity_some : (y ≡ 1) → (a : ℕ) → a ≡ get_or (words s) (k + outs + activity) 0 → leb a last_activity ≡ is_assigned (share_there s outs k driver activity)
    activity_some hy a ea =
        choice_assigned (leb a last_activity) (get_or (words s) (k + outs + driver) 0) a
        ∙ sym (ap is_assigned (with_int ∙ (λ j. share (value_of 1 (get_or (words s) (k + outs + driver) 0)) (value_of (hy j) (sym ea j))) ∙ both_ints (get_or (words s) (k + outs + driver) 0) a))

-- an assigned tick is so by these contents
share_cases : (x d y a : ℕ) → is_assigned (share (value_of x d) (value_of y a)) ≡ true → (share (value_of x d) (value_of y a) ≡ assigned d a) × (a ≤ last_activity)
unfolding is_assigned share active value_of if◌then◌otherwise◌
share_cases zero d y a h = absurd (true≢false (sym h))
share_cases (suc zero) d zero a h = absurd (true≢false (sym h))
share_cases (suc zero) d (suc zero) a h = go (leb a last_activity) refl h
  where
    go : (b : Bool) → leb a last_activity ≡ b → is_assigned (if b then assigned d a otherwise unassigned) ≡ true → ((if b then assigned d a otherwise unassigned) ≡ assigned d a) × (a ≤ last_activity)
    go true e k = (refl, leb-true a last_activity e)
    go false e k = absurd (true≢false (sym k))
share_cases (suc zero) d (suc (suc zero)) a h = absurd (true≢false (sym h))
share_cases (suc zero) d (suc (suc (suc y))) a h = absurd (true≢false (sym h))
share_cases (suc (suc zero)) d y a h = absurd (true≢false (sym h))
share_cases (suc (suc (suc x))) d y a h = absurd (true≢false (sym h))

pub assigned_there :
    (s : List ℕ) (outs k driver activity : ℕ) (t : Bool) → t ≡ is_assigned (share_there s outs k driver activity) → t ≡ true →
    (d a : ℕ) → d ≡ get_or (words s) (k + outs + driver) 0 → a ≡ get_or (words s) (k + outs + activity) 0 → (share_there s outs k driver activity ≡ assigned d a) × (a ≤ last_activity)
unfolding share_there shown_there
assigned_there s outs k driver activity t e h d a ed ea =
    let r = share_cases (get_or (words s) (k + driver) 0) (get_or (words s) (k + outs + driver) 0) (get_or (words s) (k + activity) 0) (get_or (words s) (k + outs + activity) 0) (sym e ∙ h) in
    let l = r.1 in
    (r.0 ∙ (λ j. assigned (sym ed j) (sym ea j)), omega (arith, l, ea))

none_left : (x : Share) → is_assigned x ≡ false → x ≡ unassigned
unfolding is_assigned
none_left unassigned q = refl
none_left (assigned d a) q = absurd (true≢false q)

pub unassigned_there : (s : List ℕ) (outs k driver activity : ℕ) (t : Bool) → t ≡ is_assigned (share_there s outs k driver activity) → t ≡ false → share_there s outs k driver activity ≡ unassigned
unassigned_there s outs k driver activity t e h = none_left (share_there s outs k driver activity) (sym e ∙ h)

pub counts_as : (s s₁ : Share) (ds cs : List ℕ) (n : ℕ) (ds₁ cs₁ : List ℕ) (n₁ : ℕ) (r : Option (Unit {0})) → s ≡ s₁ → Counts (s₁ ∷ []) ds cs n ds₁ cs₁ n₁ r → Counts (s ∷ []) ds cs n ds₁ cs₁ n₁ r
counts_as s s₁ ds cs n ds₁ cs₁ n₁ r e h = subst (λ (x : Share). Counts (x ∷ []) ds cs n ds₁ cs₁ n₁ r) (sym e) h

-- ---- one record

shares_one : (driver activity : ℕ) (r : LogRecord) → eqb r.stop 0 ≡ true → shares driver activity (r ∷ []) ≡ share (shown_in driver r) (shown_in activity r) ∷ []
unfolding shares ticks_read keep if◌then◌otherwise◌
shares_one driver activity r e = rw e

shares_stopped : (driver activity : ℕ) (r : LogRecord) → eqb r.stop 0 ≡ false → shares driver activity (r ∷ []) ≡ []
unfolding shares ticks_read keep if◌then◌otherwise◌
shares_stopped driver activity r e = rw e

stop_shown : (outs : ℕ) (s : List ℕ) (at : ℕ) (b x : Bool) → b ≡ eqb (stop_in (drop at (words s))) 0 → b ≡ x → eqb (record_at outs (drop at (words s))).stop 0 ≡ x
unfolding record_at
stop_shown outs s at b x e h = sym e ∙ h

module _ (outs : ℕ) (s : List ℕ) (at : ℕ) (f : Fits outs s at) (b : Bool) (e : b ≡ eqb (stop_in (drop at (words s))) 0) (driver activity : ℕ) (ds cs : List ℕ) (n : ℕ) where
  pub record_shown :
      b ≡ true → (k : ℕ) → k ≡ at + shown_at (drop at (words s)) → driver < outs → activity < outs → (ds₁ cs₁ : List ℕ) (n₁ : ℕ) (r : Option (Unit {0})) →
      Counts (share_there s outs k driver activity ∷ []) ds cs n ds₁ cs₁ n₁ r → Counts (shares driver activity (record_at outs (drop at (words s)) ∷ [])) ds cs n ds₁ cs₁ n₁ r
  unfolding share_there
  record_shown h k ek ld la ds₁ cs₁ n₁ r q =
      let w : shares driver activity (record_at outs (drop at (words s)) ∷ []) ≡ share (shown_there s outs k driver) (shown_there s outs k activity) ∷ [] =
      shares_one driver activity (record_at outs (drop at (words s))) (stop_shown outs s at b true e h)
      ∙ (λ j. share (value_there outs s at e h ek f driver ld j) (value_there outs s at e h ek f activity la j) ∷ []) in
      subst (λ (ss : List Share). Counts ss ds cs n ds₁ cs₁ n₁ r) (sym w) q

  pub record_stopped : b ≡ false → Counts (shares driver activity (record_at outs (drop at (words s)) ∷ [])) ds cs n ds cs n (Some tt)
  record_stopped h = subst (λ (ss : List Share). Counts ss ds cs n ds cs n (Some tt)) (sym (shares_stopped driver activity (record_at outs (drop at (words s))) (stop_shown outs s at b false e h))) (counts_none ds cs n)

-- ---- all records

shares_split : (driver activity : ℕ) (r : LogRecord) (rs : List LogRecord) → shares driver activity (r ∷ rs) ≡ shares driver activity (r ∷ []) ++ shares driver activity rs
unfolding shares ticks_read keep if◌then◌otherwise◌
shares_split driver activity r rs = go (eqb r.stop 0)
  where
    go :
        (b : Bool) →
        map (λ r. share (shown_in driver r) (shown_in activity r)) (if b then r ∷ keep (λ r. eqb r.stop 0) rs otherwise keep (λ r. eqb r.stop 0) rs)
        ≡ map (λ r. share (shown_in driver r) (shown_in activity r)) (if b then r ∷ [] otherwise []) ++ map (λ r. share (shown_in driver r) (shown_in activity r)) (keep (λ r. eqb r.stop 0) rs)
    go true = refl
    go false = refl

shares_few : (driver activity : ℕ) (r : LogRecord) → length (shares driver activity (r ∷ [])) ≤ 1
unfolding shares ticks_read keep if◌then◌otherwise◌
shares_few driver activity r = go (eqb r.stop 0)
  where
    go : (b : Bool) → length (map (λ r. share (shown_in driver r) (shown_in activity r)) (if b then r ∷ [] otherwise [])) ≤ 1
    go true = omega arith
    go false = omega arith

each_more : (t : Tally) (xs ys : List Share) → each tallied t (xs ++ ys) ≡ each tallied (each tallied t xs) ys
unfolding each
each_more t [] ys = refl
each_more t (x ∷ xs) ys = each_more (tallied t x) xs ys

no_shares : (driver activity : ℕ) → shares driver activity [] ≡ []
unfolding shares ticks_read keep
no_shares driver activity = refl

-- what is left of the count: the tables so far, and the records from word `at` on
unfoldable pub count_left : ℕ → List ℕ → ℕ → ℕ → ℕ → ℕ → List ℕ → List ℕ → ℕ → Tally
count_left outs s driver activity at t ds cs n = each tallied (tally ds cs n) (shares driver activity (records_left outs s at t))

-- the count of all of them
unfoldable pub count_whole : ℕ → List ℕ → ℕ → ℕ → Tally
count_whole outs s driver activity = each tallied at_start (shares driver activity (records_in outs most_ticks (words s)))

module _ (outs : ℕ) (s : List ℕ) (driver activity at t : ℕ) (ds cs : List ℕ) (n : ℕ) (target : Tally) (h : at < length s / 8) (w : Left outs s at t)
    (inv : count_left outs s driver activity at t ds cs n ≡ target) (ds₁ cs₁ : List ℕ) (n₁ : ℕ) (r : Option (Unit {0})) (q : Counts (shares driver activity (record_at outs (drop at (words s)) ∷ [])) ds cs n ds₁ cs₁ n₁ r) where
  abbrev this : List Share
  this = shares driver activity (record_at outs (drop at (words s)) ∷ [])

  -- how many words this record has
  abbrev size : ℕ
  size = min (record_size outs (drop at (words s))) (length s / 8 - at)

  -- this record, and then the rest
  parted : {m x : ℕ} → m ≡ size → x ≡ at + m → each tallied (each tallied (tally ds cs n) this) (shares driver activity (records_left outs s x (t + 1))) ≡ target
  unfolding count_left
  parted {x = x} em ex =
      sym (ap (λ (rs : List LogRecord). each tallied (tally ds cs n) (shares driver activity rs)) (records_next outs s at t h w em ex)
      ∙ ap (each tallied (tally ds cs n)) (shares_split driver activity (record_at outs (drop at (words s))) (records_left outs s x (t + 1)))
      ∙ each_more (tally ds cs n) this (shares driver activity (records_left outs s x (t + 1))))
      ∙ inv

  pub count_next : r ≡ Some tt → {m x : ℕ} → m ≡ size → x ≡ at + m → count_left outs s driver activity x (t + 1) ds₁ cs₁ n₁ ≡ target
  unfolding count_left
  count_next l {x = x} em ex = ap (λ (u : Tally). each tallied u (shares driver activity (records_left outs s x (t + 1)))) (q.few l) ∙ parted em ex

  pub count_over : r ≡ None → most_drivers < length target.drivers
  count_over l =
      let a = q.many l in
      let b = all_grows (shares driver activity (records_left outs s (at + size) (t + 1))) (each tallied (tally ds cs n) this) in
      let z = ap (λ (u : Tally). length u.drivers) (parted refl refl) in
      omega (arith, a, b, z)

  pub count_low : UpTo t cs → UpTo (t + 1) cs₁
  count_low u = let k = shares_few driver activity (record_at outs (drop at (words s))) in up_more (t + length (shares driver activity (record_at outs (drop at (words s)) ∷ []))) (t + 1) cs₁ (omega (arith, k)) (q.low t u)

-- Up to word `at` all ticks are counted: so many, and no count is above that.
pub record Counting (outs : ℕ) (s : List ℕ) (driver activity at : ℕ) (ds cs : List ℕ) (n : ℕ) : Type 0 where
  pub tick : ℕ
  pub few : tick ≤ above_all
  pub low : UpTo tick cs
  pub left : Left outs s at tick
  pub counted : count_left outs s driver activity at tick ds cs n ≡ count_whole outs s driver activity

module _ (outs : ℕ) (s : List ℕ) (driver activity : ℕ) where
  pub count_first : WholeLog outs s → (ds cs : List ℕ) (n : ℕ) → (cs ≡ replicate most_counts 0) × (n ≡ 0) → Counting outs s driver activity 0 ds cs n
  unfolding count_left count_whole records_left tally UpTo
  count_first w ds cs n e =
      record {
        tick = 1;
        few = omega arith;
        low = λ i. let z = all_zero most_counts i in let x : get_or cs i 0 ≡ get_or (replicate most_counts 0) i 0 = ap (λ (l : List ℕ). get_or l i 0) e.0 in omega (arith, z, x);
        left = walk_begins outs s w;
        counted = λ j. each tallied (record { drivers = take (e.1 j) ds; counts = e.0 j }) (shares driver activity (records_left outs s 0 1));
      }

  module _ (at : ℕ) (ds cs : List ℕ) (n : ℕ) (c : Counting outs s driver activity at ds cs n) where
    pub counts_few : UpTo above_all cs
    counts_few = up_more c.tick above_all cs c.few c.low

    module _ (h : at < length s / 8) (ds₁ cs₁ : List ℕ) (n₁ : ℕ) (r : Option (Unit {0})) (q : Counts (shares driver activity (record_at outs (drop at (words s)) ∷ [])) ds cs n ds₁ cs₁ n₁ r) where
      pub count_more : r ≡ Some tt → {m x : ℕ} → m ≡ min (record_size outs (drop at (words s))) (length s / 8 - at) → x ≡ at + m → Counting outs s driver activity x ds₁ cs₁ n₁
      count_more e {x = x} em ex =
          record {
            tick = c.tick + 1;
            few = let w = tick_left outs s at c.tick h c.left in omega (arith, w);
            low = count_low outs s driver activity at c.tick ds cs n _ h c.left c.counted ds₁ cs₁ n₁ r q c.low;
            left = walk_next outs s at c.tick h c.left em ex;
            counted = count_next outs s driver activity at c.tick ds cs n _ h c.left c.counted ds₁ cs₁ n₁ r q e em ex;
          }

      pub count_stopped : r ≡ None → (u : Option Kept) → u ≡ None → CountedAll (shares driver activity (records_in outs most_ticks (words s))) u
      unfolding count_whole
      count_stopped e u k = record { few = λ t z. cc; many = λ z. count_over outs s driver activity at c.tick ds cs n _ h c.left c.counted ds₁ cs₁ n₁ r q e; low = λ t z. cc }

pub count_done :
    (outs : ℕ) (s : List ℕ) (driver activity at : ℕ) (t : Kept) → Counting outs s driver activity at t.drivers t.counts t.n → length s / 8 ≤ at →
    CountedAll (shares driver activity (records_in outs most_ticks (words s))) (Some t)
unfolding count_left count_whole each
count_done outs s driver activity at t c h =
    let done : tally t.drivers t.counts t.n ≡ each tallied at_start (shares driver activity (records_in outs most_ticks (words s))) =
    sym (ap (λ (rs : List LogRecord). each tallied (tally t.drivers t.counts t.n) (shares driver activity rs)) (records_over outs s at c.tick h) ∙ ap (each tallied (tally t.drivers t.counts t.n)) (no_shares driver activity)) ∙ c.counted in
    record {
      few = λ u z. let x : t ≡ u = cc in subst (λ (y : Kept). tally y.drivers y.counts y.n ≡ each tallied at_start (shares driver activity (records_in outs most_ticks (words s)))) x done;
      many = λ z. cc;
      low = λ u z. let x : t ≡ u = cc in subst (λ (y : Kept). UpTo above_all y.counts) x (up_more c.tick above_all t.counts c.few c.low);
    }
