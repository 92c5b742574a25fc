-- The head of a record: one law for each way out.
use mathlib.Core.Path.{◌≡◌, refl, sym, ◌∙◌}
use mathlib.Core.Bool.{Bool, true, false, not, ◌&&◌, ◌||◌}
use mathlib.Core.List.{List}
use Prim.Native.Nat.{ℕ, suc, ◌+◌, ◌-◌, ◌^◌, ◌≤◌, ◌<◌}
use native.Mathlib.Omega.{arith}
use lib.Dec.{leb, ltb, eqb}
use lib.ListN.{get_or, drop}
use lib.Seq.{get_or-drop}
use borrow.Author.Tests.{eq-eqb, ne_eqb, le-leb, lt-leb, lt-ltb, le-ltb, leb-true, leb-false, eqb-true, eqb-false}
use Rattle.schedule.specs.Schedule.{most_units, most_waiting, list_full}
use Rattle.model.specs.Base.{if◌then◌otherwise◌}
use Rattle.model.specs.Circuit.{word_at}
use Rattle.model.specs.Record.{begun_count, carried_count, stop_in, shown_count}
use Rattle.model.specs.Chain.{runaway}
use Rattle.model.specs.Run.{most_steps}
use Rattle.model.proofs.Lists.{both_true}
use Rattle.links.specs.Links.{most_outputs}
use Rattle.circuit.proofs.Asking.{no, yes}
use Rattle.records.specs.Whole.{good_steps, good_stop, good_head}

-- ---- its words

pub word_behind : (ws : List ℕ) (k i x : ℕ) → x ≡ get_or ws (k + i) 0 → x ≡ word_at (drop k ws) i
unfolding word_at
word_behind ws k i x e = e ∙ sym (get_or-drop k ws i 0)

module _ (ws : List ℕ) (n p : ℕ) (e : p ≡ stop_in ws) where
  pub all_shown : p ≡ 0 → (r : ℕ) → (r ≡ n) × (r ≤ most_outputs) → (r ≡ shown_count n ws) × (r ≤ n) × (r ≤ most_outputs)
  unfolding shown_count if◌then◌otherwise◌
  all_shown h r q = (rw (← e, eq-eqb p 0 h) q.0, omega (arith, q.0), q.1)

  pub none_shown : (p ≡ 0 → ⊥) → (0 ≡ shown_count n ws) × (0 ≤ n) × (0 ≤ most_outputs)
  unfolding shown_count if◌then◌otherwise◌
  none_shown h = (rw (← e, ne_eqb p 0 h), omega arith, omega arith)

-- ---- steps and stops

pub steps_to_runaway : (n s : ℕ) → s ≡ runaway → leb n (suc most_steps) ≡ good_steps n s
unfolding good_steps
steps_to_runaway n s h = rw (eq-eqb s runaway h) (go (leb n most_steps) refl (eqb n (suc most_steps)) refl)
  where
    go : (a : Bool) → leb n most_steps ≡ a → (b : Bool) → eqb n (suc most_steps) ≡ b → leb n (suc most_steps) ≡ (a || (b && true))
    go true e b f = le-leb n (suc most_steps) (let z = leb-true n most_steps e in omega (arith, z))
    go false e true f = le-leb n (suc most_steps) (let z = eqb-true n (suc most_steps) f in omega (arith, z))
    go false e false f = lt-leb n (suc most_steps) (let z = leb-false n most_steps e in past n z (eqb-false n (suc most_steps) f))
      where
        past : (n : ℕ) → most_steps < n → (n ≡ suc most_steps → ⊥) → suc most_steps < n
        past n h k = omega (arith, h, k)

pub steps_else : (n s : ℕ) → (s ≡ runaway → ⊥) → leb n most_steps ≡ good_steps n s
unfolding good_steps
steps_else n s h = rw (ne_eqb s runaway h) (go (leb n most_steps) (eqb n (suc most_steps)))
  where
    go : (a b : Bool) → a ≡ (a || (b && false))
    go true b = refl
    go false true = refl
    go false false = refl

pub no_stop : (s : ℕ) (last : Bool) → s ≡ 0 → true ≡ good_stop s last
unfolding good_stop
no_stop s last h = rw (eq-eqb s 0 h)

module _ (s : ℕ) (last : Bool) (h : s ≡ 0 → ⊥) where
  pub stop_before : not last ≡ true → false ≡ good_stop s last
  unfolding good_stop
  stop_before l = rw (ne_eqb s 0 h, no last last refl l) (none (eqb s runaway || eqb s list_full))
    where
      none : (a : Bool) → false ≡ (a && false)
      none true = refl
      none false = refl

  module _ (l : not last ≡ false) where
    -- in the last record its number decides
    by_number : good_stop s last ≡ (eqb s runaway || eqb s list_full)
    unfolding good_stop
    by_number = rw (ne_eqb s 0 h, yes last last refl l) (same (eqb s runaway || eqb s list_full))
      where
        same : (a : Bool) → (a && true) ≡ a
        same true = refl
        same false = refl

    pub stop_runaway : s ≡ runaway → eqb s runaway ≡ good_stop s last
    stop_runaway k = sym (by_number ∙ rw (eq-eqb s runaway k))

    pub stop_full : (s ≡ runaway → ⊥) → eqb s list_full ≡ good_stop s last
    stop_full k = sym (by_number ∙ rw (ne_eqb s runaway k))

-- ---- units begun in both passes

-- two tests that agree
same_test : (a b c d : ℕ) → (a ≤ b → c ≤ d) → (c ≤ d → a ≤ b) → leb a b ≡ leb c d
same_test a b c d f g = go (leb a b) (leb c d) refl refl
  where
    go : (x y : Bool) → leb a b ≡ x → leb c d ≡ y → x ≡ y
    go true true p q = refl
    go true false p q = absurd (let z = f (leb-true a b p) in let w = leb-false c d q in omega (arith, z, w))
    go false true p q = absurd (let z = g (leb-true c d q) in let w = leb-false a b p in omega (arith, z, w))
    go false false p q = refl

pub begun_few : (l m : ℕ) → l ≤ most_units → leb m (most_units - l) ≡ leb (l + m) most_units
begun_few l m h = same_test m (most_units - l) (l + m) most_units (λ z. omega (arith, h, z)) (λ z. omega (arith, h, z))

pub late_many : (l m : ℕ) → most_units < l → leb l most_units ≡ leb (l + m) most_units
late_many l m h = lt-leb l most_units h ∙ sym (lt-leb (l + m) most_units (omega (arith, h)))

-- ---- a head

-- the last count of narrowings that is no negative number
abbrev most_changed : ℕ
most_changed = 2 ^ 63 - 1

module _ (t : ℕ) (ws : List ℕ) (w : ℕ) (e : w ≡ word_at ws 0) where
  pub other_tick : (w ≡ t → ⊥) → false ≡ good_head t ws
  unfolding good_head
  other_tick n = rw (← e, ne_eqb w t n)

  module _ (h : w ≡ t) (s p : ℕ) (es : s ≡ word_at ws 1) (ep : p ≡ stop_in ws) (b : Bool) (eb : b ≡ good_steps s p) where
    pub bad_steps : not b ≡ true → false ≡ good_head t ws
    unfolding good_head
    bad_steps hb = rw (← e, eq-eqb w t h, ← es, ← ep, ← eb, no b b refl hb)

    module _ (hb : not b ≡ false) (l m : ℕ) (el : l ≡ word_at ws 2) (em : m ≡ word_at ws 3) (d : Bool) (ed : d ≡ leb (l + m) most_units) where
      pub many_begun : not d ≡ true → false ≡ good_head t ws
      unfolding good_head begun_count
      many_begun hd = rw (← e, eq-eqb w t h, ← es, ← ep, ← eb, yes b b refl hb, ← el, ← em, ← ed, no d d refl hd)

      module _ (hd : not d ≡ false) (k : ℕ) (ek : k ≡ word_at ws 4) where
        pub many_carried : most_waiting < k → false ≡ good_head t ws
        unfolding good_head begun_count carried_count
        many_carried hk = rw (← e, eq-eqb w t h, ← es, ← ep, ← eb, yes b b refl hb, ← el, ← em, ← ed, yes d d refl hd, ← ek, lt-leb k most_waiting hk)

        pub head_is : k ≤ most_waiting → (x : ℕ) → x ≡ word_at ws 6 → leb x most_changed ≡ good_head t ws
        unfolding good_head begun_count carried_count
        head_is hk x ex = rw (← e, eq-eqb w t h, ← es, ← ep, ← eb, yes b b refl hb, ← el, ← em, ← ed, yes d d refl hd, ← ek, le-leb k most_waiting hk, ← ex) (below x)
          where
            below : (x : ℕ) → leb x most_changed ≡ ltb x (2 ^ 63)
            below x = go (leb x most_changed) refl
              where
                go : (y : Bool) → leb x most_changed ≡ y → y ≡ ltb x (2 ^ 63)
                go true q = sym (lt-ltb x (2 ^ 63) (let z = leb-true x most_changed q in omega (arith, z)))
                go false q = sym (le-ltb x (2 ^ 63) (let z = leb-false x most_changed q in omega (arith, z)))

-- the counts of a good head are within their limits
pub head_counts : (t : ℕ) (ws : List ℕ) → good_head t ws ≡ true → (begun_count ws ≤ most_units) × (carried_count ws ≤ most_waiting)
unfolding good_head
head_counts t ws h =
    let a = both_true (eqb (word_at ws 0) t) _ h in
    let b = both_true (good_steps (word_at ws 1) (stop_in ws)) _ a.1 in
    let d = both_true _ _ b.1 in
    let e = both_true _ (ltb (word_at ws 6) (2 ^ 63)) d.1 in
    (leb-true _ _ d.0, leb-true _ _ e.0)
