-- Two ticks whose openings do the same, but for the worlds in which they raise: a list that is full is full in both, and where none is, those worlds do not matter.
use mathlib.Core.Path.{◌≡◌, refl, sym, ap, subst}
use mathlib.Core.List.{List, [], ◌∷◌}
use Prim.Native.Nat.{ℕ}
use Rattle.schedule.specs.Schedule.{list_full, most_units, Raise, Setup, Filed, full, filed, OpenQ, Activation, push_all, activate_open, Raising, raising, raise_on, raise_all, pass, late_pass, main_pass, outcome, Tick, tick_of, tick}
use Rattle.schedule.specs.Keeping.{RaisesAlike, alike_none, alike_next, DidAlike, CutAt, TicksAlike, same, cut}

module _ (S : Setup) where
  open S use {Tag, after}
  open S.machine use {W, In, Act, opening, closing}

  -- ---- raising

  -- a raising that a full list stopped, in the world x
  abbrev full_at : {Q : Type 0} → List (Activation S) → Q → Tag → W → Raising S Q
  full_at es q n x = record { raised = es; queue = q; next = n; world = x; stop = list_full }

  -- a is raised in the world x, then rs
  raise_next : {P Q : Type 0} → (P → Activation S → Q → Filed Q) → P → Act → W → List (Raise W Act P) → Tag → Q → W → ℕ → Raising S Q
  raise_next activate p a x rs t q w s =
      raise_on S (activate p (record { act = a; tag = t }) q) (record { act = a; tag = t }) (full_at [] q t x) (λ q₁. raise_all S activate rs (after t) q₁ w s)

  module _ (R : W → W → Type 0) where
    -- two raisings that are the same, or were both stopped by a full list, in worlds that R relates
    data Both {Q : Type 0} (o o' : Raising S Q) : Type 0 where
      equal : o ≡ o' → Both o o'
      stuck : (es : List (Activation S)) (q : Q) (n : Tag) (x y : W) → R x y → o ≡ full_at es q n x → o' ≡ full_at es q n y → Both o o'

    both_raising : {Q : Type 0} (e : Activation S) {o o' : Raising S Q} → Both o o' → Both (raising S e o) (raising S e o')
    both_raising e (equal h) = equal (ap (raising S e) h)
    both_raising e (stuck es q n x y r h h') = stuck (e ∷ es) q n x y r (ap (raising S e) h) (ap (raising S e) h')

    module _ {P Q : Type 0} (activate : P → Activation S → Q → Filed Q) (w : W) (s : ℕ) where
      raise_both :
          {rs rs' : List (Raise W Act P)} → RaisesAlike R rs rs' → (t : Tag) (q : Q) →
          Both (raise_all S activate rs t q w s) (raise_all S activate rs' t q w s)
      unfolding raise_all raise_next
      raise_both alike_none t q = equal refl
      raise_both (alike_next {r} {r'} {rs} {rs'} x a p k) t q =
          subst
          (Both (raise_all S activate (r ∷ rs) t q w s))
          (λ j. raise_next activate (p j) (a j) r'.at rs' t q w s)
          (go (activate r.place (record { act = r.act; tag = t }) q) (λ q₁. raise_both k (after t) q₁))
        where
          go :
              (f : Filed Q) → ((q₁ : Q) → Both (raise_all S activate rs (after t) q₁ w s) (raise_all S activate rs' (after t) q₁ w s)) →
              Both
              (raise_on S f (record { act = r.act; tag = t }) (full_at [] q t r.at) (λ q₁. raise_all S activate rs (after t) q₁ w s))
              (raise_on S f (record { act = r.act; tag = t }) (full_at [] q t r'.at) (λ q₁. raise_all S activate rs' (after t) q₁ w s))
          go full rec = stuck [] q t r.at r'.at x refl refl
          go (filed q₁) rec = both_raising (record { act = r.act; tag = t }) (rec q₁)

  -- ---- a tick

  -- what waits before the opening
  abbrev waiting₀ : List (Activation S) → OpenQ (Activation S)
  waiting₀ came = record { lateq = record { late = push_all S came []; delivered = [] }; pending = [] }

  -- the rest of a tick, of what its opening raised
  rest : In → List (Activation S) → Tag → Raising S (OpenQ (Activation S)) → Tick S
  rest i came t o =
      let l = late_pass S most_units o.next o.queue.lateq o.world o.stop in
      let m = main_pass S l.left l.next (record { pending = o.queue.pending; carried = [] }) l.world l.stop in
      tick_of S i came t o.raised l.turns m (outcome S l.turns m.turns m.queue.carried m.stop)

  -- after a full list nothing begins
  rest_cut : (i : In) (came es : List (Activation S)) (t n : Tag) (q : OpenQ (Activation S)) (x : W) → CutAt S i x (rest i came t (full_at es q n x))
  unfolding rest late_pass main_pass pass
  rest_cut i came es t n q x = record { world = refl; stop = refl }

  rest_alike :
      (R : W → W → Type 0) (i : In) (came : List (Activation S)) (t : Tag) {o o' : Raising S (OpenQ (Activation S))} → Both R o o' →
      TicksAlike S R i (rest i came t o) (rest i came t o')
  rest_alike R i came t (equal h) = same (ap (rest i came t) h)
  rest_alike R i came t (stuck es q n x y r h h') =
      cut x y r
      (subst (λ o. CutAt S i x (rest i came t o)) (sym h) (rest_cut i came es t n q x))
      (subst (λ o. CutAt S i y (rest i came t o)) (sym h') (rest_cut i came es t n q y))

  pub tick_alike :
      (R : W → W → Type 0) (w v : W) (i : In) (came : List (Activation S)) (t : Tag) →
      DidAlike R (opening w i) (opening v i) → TicksAlike S R i (tick S w i came t) (tick S v i came t)
  unfolding tick rest
  tick_alike R w v i came t h =
      let d = opening w i in
      let d' = opening v i in
      rest_alike R i came t
      (subst (Both R (raise_all S (activate_open S) d.raises t (waiting₀ came) d.world d.stop))
      (λ j. raise_all S (activate_open S) d'.raises t (waiting₀ came) (h.world j) (h.stop j))
      (raise_both R (activate_open S) d.world d.stop h.raises t (waiting₀ came)))
