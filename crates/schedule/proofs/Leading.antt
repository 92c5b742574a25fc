-- What was carried into a tick is first in its late list: in the late pass it begins by rank, first raised first, and before all else of its rank.
use mathlib.Core.Path.{◌≡◌, refl, sym, ap}
use mathlib.Core.List.{List, [], ◌∷◌, ◌++◌, append_assoc}
use mathlib.Core.Bool.{Bool, true, false, cond}
use mathlib.Core.Logic.{◌⊎◌, inl, inr}
use Prim.Native.Nat.{ℕ, suc, ◌≤◌}
use native.Mathlib.Omega.{arith}
use lib.Dec.{leb, eqb}
use lib.ListN.{length, length-append}
use borrow.Author.Tests.{eq-eqb}
use Rattle.schedule.specs.Schedule.{numbered, Machine, Raise, When, took, filed, most_waiting, most_delivered, LateQ, MainQ, OpenQ, Place, to_late, to_delivered, to_pending, push, push_all, activate_late, activate_main, activate_open, next_late, next_late', next_main, Turn}
use Rattle.schedule.specs.Promise.{All, Raised, Played, Before, Sorted, times, units, is_carried, carried_of, raised_to_carry}
use Rattle.schedule.proofs.Members.{all_map}
use Rattle.schedule.proofs.Steps.{room_is, Raises, none, one, Passes, broke, done, turn}
use Rattle.schedule.proofs.Weigh.{total_append}
use Rattle.schedule.proofs.Ticks.{Ticked}
use Rattle.schedule.proofs.Ranked.{Good, good_le, good_push, good_tail, good_head}
use Rattle.schedule.proofs.Carry.{tick_carry}

module _ (M : Machine) where
  open M use {W, Act, rank}

  -- ---- what is carried was raised in its order

  -- the activations of a list have rising numbers, from t on and below n
  pub data Rising : ℕ → List (Raised M) → ℕ → Type 0 where
    no_more : {t n : ℕ} → t ≤ n → Rising t [] n
    rise : {t n : ℕ} {e : Raised M} {l : List (Raised M)} → t ≤ e.tag → Rising (suc e.tag) l n → Rising t (e ∷ l) n

  pub none_rises : (t : ℕ) → Rising t [] t
  none_rises t = let z : t ≤ t = omega arith in no_more z

  rising_from : {t t₁ n : ℕ} {l : List (Raised M)} → t ≤ t₁ → Rising t₁ l n → Rising t l n
  rising_from {t} {n = n} h (no_more k) = let z : t ≤ n = omega arith in no_more z
  rising_from {t} h (rise {e = e} k r) = let z : t ≤ e.tag = omega arith in rise z r

  rising_append : {t t₁ n : ℕ} {k l : List (Raised M)} → Rising t k t₁ → Rising t₁ l n → Rising t (k ++ l) n
  rising_append (no_more h) s = rising_from h s
  rising_append (rise h r) s = rise h (rising_append r s)

  raises_rising :
      (u : Raised M) {rs : List (Raise W Act When)} {t t₁ : ℕ} {q q₁ : MainQ (Raised M)} {es : List (Raised M)} → Raises (numbered M) (activate_main (numbered M) u) rs t q es t₁ q₁ →
      Rising t (carried_of (numbered M) u es rs) t₁
  raises_rising u none = none_rises _
  raises_rising u (one {rs = rs} {t₂ = n} {e = e} {es = es} p x h r) = go (is_carried (numbered M) u p.place e) (raises_rising u r)
    where
      go :
          (b : Bool) → Rising (suc e.tag) (carried_of (numbered M) u es rs) n →
          Rising e.tag (cond b (e ∷ carried_of (numbered M) u es rs) (carried_of (numbered M) u es rs)) n
      go true r = let z : e.tag ≤ e.tag = omega arith in rise z r
      go false r = rising_from (omega arith) r

  main_rising :
      {t t₁ s s₁ : ℕ} {q q₁ : _} {us : List (Turn (numbered M))} → Passes (numbered M) (next_main (numbered M)) (activate_main (numbered M)) t q s us t₁ q₁ s₁ →
      Rising t (raised_to_carry (numbered M) us) t₁
  main_rising broke = none_rises _
  main_rising (done h) = none_rises _
  main_rising (turn {u = u} h k b j r) = rising_append (raises_rising u k) (main_rising r)

  -- of a tick
  pub tick_rising : {c : List (Raised M)} {t₀ : ℕ} {k : Played M} → Ticked (numbered M) c t₀ k → Rising 0 k.carried k.next
  tick_rising T = rw (tick_carry (numbered M) T) (rising_from (omega arith) (main_rising T.main))

  -- ---- the late list

  -- filed one after the other, they are in order
  filed_good : {t n : ℕ} {c l : List (Raised M)} → Rising t c n → Good M t l → Good M n (push_all (numbered M) c l)
  unfolding push_all
  filed_good (no_more h) g = good_le M h g
  filed_good (rise {e = e} h r) g = filed_good r (good_push M e (good_le M h g))

  -- what begins next in the late pass was the first of the late list, or that is empty
  next_late_is :
      (q : LateQ (Raised M)) (u : Raised M) (q₁ : LateQ (Raised M)) → next_late (numbered M) q ≡ took u q₁ → (q.late ≡ u ∷ q₁.late) ⊎ ((q.late ≡ []) × (q₁.late ≡ []))
  unfolding next_late
  next_late_is q u q₁ h = go q.late q.delivered h
    where
      go : (l d : List (Raised M)) → next_late' (numbered M) l d ≡ took u q₁ → (l ≡ u ∷ q₁.late) ⊎ ((l ≡ []) × (q₁.late ≡ []))
      go [] [] h = inl cc
      go [] (e ∷ d) h =
          let hq : record { late = []; delivered = d } ≡ q₁ = cc in
          let hl : [] ≡ q₁.late = ap (λ (q : LateQ (Raised M)). q.late) hq in
          inr (refl, cc)
      go (e ∷ l) d h =
          let hu : e ≡ u = cc in
          let hq : record { late = l; delivered = d } ≡ q₁ = cc in
          let hl : l ≡ q₁.late = ap (λ (q : LateQ (Raised M)). q.late) hq in
          inl cc

  -- what holds of all that wait, holds of what was filed, and of the others
  unpush : {P : Raised M → Type 0} (e : Raised M) (l : List (Raised M)) → All P (push (numbered M) e l) → P e × All P l
  unfolding push
  unpush e [] (All.◌∷·◌ p ps) = (p, All.[·])
  unpush {P} e (x ∷ l) a = go (leb (rank x.act) (rank e.act)) (λ z. unpush e l z) a
    where
      go : (b : Bool) → (All P (push (numbered M) e l) → P e × All P l) → All P (cond b (x ∷ push (numbered M) e l) (e ∷ x ∷ l)) → P e × All P (x ∷ l)
      go true rec (All.◌∷·◌ p ps) = let r = rec ps in (r.0, All.◌∷·◌ p r.1)
      go false rec (All.◌∷·◌ p ps) = (p, ps)

  unpush_all : {P : Raised M → Type 0} (es l : List (Raised M)) → All P (push_all (numbered M) es l) → All P es × All P l
  unfolding push_all
  unpush_all [] l a = (All.[·], a)
  unpush_all (e ∷ es) l a = let r = unpush_all es (push (numbered M) e l) a in let z = unpush e l r.1 in (All.◌∷·◌ z.0 r.0, z.1)

  -- ---- c was carried into the tick, and b has begun

  module _ (c : List (Raised M)) where
    -- each of c that has not begun waits in l: what holds of all that wait holds of it
    abbrev WaitIn : List (Raised M) → List (Raised M) → Type 1
    WaitIn b l = (P : Raised M → Type 0) → All P l → All (λ f. times M f.tag b ≡ 0 → P f) c

    not_begun : (b : List (Raised M)) (u f : Raised M) → times M f.tag (b ++ (u ∷ [])) ≡ 0 → (times M f.tag b ≡ 0) × (u.tag ≡ f.tag → ⊥)
    not_begun b u f h =
        let a = total_append (λ (e : Raised M). cond (eqb e.tag f.tag) 1 0) b (u ∷ []) in
        (omega (arith, a), λ e. let n : ◌≡◌ {A = ℕ} (cond (eqb u.tag f.tag) 1 0) 1 = rw (eq-eqb u.tag f.tag e) refl in absurd (omega (arith, a, n)))

    -- one of those that wait begins,
    wait_taken : (b l : List (Raised M)) (u : Raised M) → WaitIn b (u ∷ l) → WaitIn (b ++ (u ∷ [])) l
    wait_taken b l u w P a =
        all_map (λ f k h. let n = not_begun b u f h in k n.0 n.1)
        (w (λ g. (u.tag ≡ g.tag → ⊥) → P g) (All.◌∷·◌ (λ n. absurd (n refl)) (all_map (λ g p n. p) a)))

    -- or another
    wait_other : (b l : List (Raised M)) (u : Raised M) → WaitIn b l → WaitIn (b ++ (u ∷ [])) l
    wait_other b l u w P a = all_map (λ f k h. k (not_begun b u f h).0) (w P a)

    -- the late list is in order, and has what is left of c
    record Waits (b : List (Raised M)) (t : ℕ) (l : List (Raised M)) : Type 1 where
      sorted : Good M t l
      left : WaitIn b l

    waits_later : {b l : List (Raised M)} {t t₁ : ℕ} → t ≤ t₁ → Waits b t l → Waits b t₁ l
    waits_later h a = record { sorted = good_le M h a.sorted; left = a.left }

    waits_pushed : {b l : List (Raised M)} (e : Raised M) → Waits b e.tag l → Waits b (suc e.tag) (push (numbered M) e l)
    waits_pushed {l = l} e a = record { sorted = good_push M e a.sorted; left = λ P k. a.left P (unpush e l k).1 }

    -- what the opening raises keeps this
    open_waits : (b : List (Raised M)) (p : Place) (e : Raised M) (q q₁ : OpenQ (Raised M)) → activate_open (numbered M) p e q ≡ filed q₁ → Waits b e.tag q.lateq.late → Waits b (suc e.tag) q₁.lateq.late
    unfolding activate_open
    open_waits b to_late e q q₁ h a = rw (room_is q.lateq.late most_waiting h).0 (waits_pushed e a)
    open_waits b to_delivered e q q₁ h a = rw (room_is q.lateq.delivered most_delivered h).0 (waits_later (omega arith) a)
    open_waits b to_pending e q q₁ h a = rw (room_is q.pending most_waiting h).0 (waits_later (omega arith) a)

    opened_waits :
        {b : List (Raised M)} {rs : List (Raise W Act Place)} {t t₁ : ℕ} {q q₁ : OpenQ (Raised M)} {es : List (Raised M)} → Raises (numbered M) (activate_open (numbered M)) rs t q es t₁ q₁ →
        Waits b t q.lateq.late → Waits b t₁ q₁.lateq.late
    opened_waits none a = a
    opened_waits {b} (one {q = q} {q₁ = q₁} {e = e} p x h r) a = opened_waits r (open_waits b p.place e q q₁ h a)

    -- so does what a unit of the late pass raises
    raised_waits :
        (u : Raised M) {b : List (Raised M)} {rs : List (Raise W Act When)} {t t₁ : ℕ} {q q₁ : LateQ (Raised M)} {es : List (Raised M)} → Raises (numbered M) (activate_late (numbered M) u) rs t q es t₁ q₁ →
        Waits b t q.late → Waits b t₁ q₁.late
    unfolding activate_late
    raised_waits u none a = a
    raised_waits u {b} (one {q = q} {q₁ = q₁} {e = e} p x h r) a =
        let k : q₁.late ≡ push (numbered M) e q.late = ap (λ (q : LateQ (Raised M)). q.late) (room_is q.late most_waiting h).0 in
        let z : Waits b (suc e.tag) q₁.late = rw k (waits_pushed e a) in
        raised_waits u r z

    -- the next one begins, before all that wait
    taken_waits :
        (q : LateQ (Raised M)) (u : Raised M) (q₁ : LateQ (Raised M)) {b : List (Raised M)} {t : ℕ} → next_late (numbered M) q ≡ took u q₁ → Waits b t q.late →
        Waits (b ++ (u ∷ [])) t q₁.late × All (Before M u) q₁.late
    taken_waits q u q₁ {b} {t} h a = go (next_late_is q u q₁ h)
      where
        go : (q.late ≡ u ∷ q₁.late) ⊎ ((q.late ≡ []) × (q₁.late ≡ [])) → Waits (b ++ (u ∷ [])) t q₁.late × All (Before M u) q₁.late
        go (inl e) =
            let z : Waits b t (u ∷ q₁.late) = rw e at a in
            (record { sorted = good_tail M z.sorted; left = wait_taken b q₁.late u z.left }, good_head M z.sorted)
        go (inr e) =
            let z : Waits b t [] = rw e.0 at a in
            (rw e.1 (record { sorted = z.sorted; left = wait_other b [] u z.left }), rw e.1 All.[·])

    none_split : (pre : List (Raised M)) (e : Raised M) (post : List (Raised M)) → [] ≡ pre ++ (e ∷ post) → ⊥
    none_split pre e post h = omega (arith, ap length h, length-append pre (e ∷ post))

    -- the whole pass
    passes_led :
        {t t₁ s s₁ : ℕ} {q q₁ : LateQ (Raised M)} {us : List (Turn (numbered M))} → Passes (numbered M) (next_late (numbered M)) (activate_late (numbered M)) t q s us t₁ q₁ s₁ →
        (b : List (Raised M)) → Waits b t q.late → (pre : List (Raised M)) (e : Raised M) (post : List (Raised M)) → units (numbered M) us ≡ pre ++ (e ∷ post) →
        All (λ f. times M f.tag (b ++ (pre ++ (e ∷ []))) ≡ 0 → Before M e f) c
    passes_led broke b a pre e post h = absurd (none_split pre e post h)
    passes_led (done k) b a pre e post h = absurd (none_split pre e post h)
    passes_led (turn {q = q} {q₁ = q₁} {u = u} {us = us} h k n j r) b a [] e post i =
        let hu : u ≡ e = cc in
        let x = taken_waits q u q₁ h a in
        rw (sym hu) (x.0.left (Before M u) x.1)
    passes_led (turn {q = q} {q₁ = q₁} {u = u} {us = us} h k n j r) b a (p ∷ pre) e post i =
        let hu : u ≡ p = cc in
        let hs : units (numbered M) us ≡ pre ++ (e ∷ post) = cc in
        let x = taken_waits q u q₁ h a in
        let z = passes_led r (b ++ (u ∷ [])) (raised_waits u k x.0) pre e post hs in
        rw (sym hu, sym (append_assoc b (u ∷ []) (pre ++ (e ∷ [])))) z

  -- ---- a tick

  pub tick_led :
      {c : List (Raised M)} {t₀ : ℕ} {k : Played M} → Ticked (numbered M) c t₀ k → Rising 0 c t₀ →
      (pre : List (Raised M)) (e : Raised M) (post : List (Raised M)) → units (numbered M) k.late ≡ pre ++ (e ∷ post) →
      All (λ f. times M f.tag (pre ++ (e ∷ [])) ≡ 0 → Before M e f) c
  tick_led {c} T r =
      let g = filed_good r (record { sorted = Sorted.[·]; older = All.[·] }) in
      let w : Waits c [] _ _ = record { sorted = g; left = λ P a. all_map (λ f p h. p) (unpush_all c [] a).0 } in
      passes_led c T.late [] (opened_waits c T.opened w)
