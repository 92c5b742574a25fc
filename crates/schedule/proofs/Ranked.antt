-- The main pass begins its units by rank, first raised first within a rank.
use mathlib.Core.Path.{◌≡◌, refl}
use mathlib.Core.List.{List, [], ◌∷◌, ◌++◌}
use mathlib.Core.Bool.{Bool, true, false, cond}
use mathlib.Core.Logic.{◌⊎◌, inl, inr}
use Prim.Native.Nat.{ℕ, suc, ◌≤◌, ◌<◌}
use native.Mathlib.Omega.{arith}
use lib.ListN.{length}
use lib.Dec.{leb}
use borrow.Author.Tests.{leb-true, leb-false}
use Rattle.schedule.specs.Schedule.{numbered, Machine, Raise, Took, Filed, most_waiting, MainQ, OpenQ, Place, When, push, activate_late, activate_main, activate_open, next_late, next_main, Turn}
use Rattle.schedule.specs.Promise.{All, Raised, Played, Before, Sorted, units}
use Rattle.schedule.proofs.Members.{all_map}
use Rattle.schedule.proofs.Steps.{next_main_is, ToMain, at_carried, at_pending, above, activate_main_is, activate_open_is, Raises, none, one, Passes, broke, done, turn}
use Rattle.schedule.proofs.Ticks.{Ticked}

module _ (M : Machine) where
  open M use {W, Act, rank}

  before_trans : (d e f : Raised M) → Before M d e → Before M e f → Before M d f
  before_trans d e f (inl h) (inl k) = inl (omega arith)
  before_trans d e f (inl h) (inr k) = inl (omega arith)
  before_trans d e f (inr h) (inl k) = inl (omega arith)
  before_trans d e f (inr h) (inr k) = inr (omega arith)

  not_above_before : {e f : Raised M} → rank e.act ≤ rank f.act → e.tag < f.tag → Before M e f
  not_above_before {e} {f} h k = go (leb (rank f.act) (rank e.act)) refl
    where
      go : (b : Bool) → leb (rank f.act) (rank e.act) ≡ b → Before M e f
      go true i = inr (omega (arith, leb-true))
      go false i = inl (leb-false _ _ i)

  push_all_of : {P : Raised M → Type 0} (e : Raised M) (l : List (Raised M)) → P e → All P l → All P (push (numbered M) e l)
  unfolding push
  push_all_of e [] h k = All.◌∷·◌ h All.[·]
  push_all_of {P} e (x ∷ l) h (All.◌∷·◌ p ps) = go (leb (rank x.act) (rank e.act)) (push_all_of e l h ps)
    where
      go : (b : Bool) → All P (push (numbered M) e l) → All P (cond b (x ∷ push (numbered M) e l) (e ∷ x ∷ l))
      go true r = All.◌∷·◌ p r
      go false r = All.◌∷·◌ h (All.◌∷·◌ p ps)

  push_sorted : (e : Raised M) (l : List (Raised M)) → Sorted M l → All (λ f. f.tag < e.tag) l → Sorted M (push (numbered M) e l)
  unfolding push
  push_sorted e [] Sorted.[·] k = Sorted.◌∷·◌ All.[·] Sorted.[·]
  push_sorted e (x ∷ l) (Sorted.◌∷·◌ p s) (All.◌∷·◌ k ks) = go (leb (rank x.act) (rank e.act)) refl (push_sorted e l s ks)
    where
      go : (b : Bool) → leb (rank x.act) (rank e.act) ≡ b → Sorted M (push (numbered M) e l) → Sorted M (cond b (x ∷ push (numbered M) e l) (e ∷ x ∷ l))
      go true h r = Sorted.◌∷·◌ (push_all_of e l (not_above_before (leb-true _ _ h) k) p) r
      go false h r =
          let hx : Before M e x = inl (leb-false _ _ h) in
          Sorted.◌∷·◌ (All.◌∷·◌ hx (all_map (λ f b. before_trans e x f hx b) p)) (Sorted.◌∷·◌ p s)

  -- sorted, and each was raised before the number t was given
  pub record Good (t : ℕ) (l : List (Raised M)) : Type 0 where
    pub sorted : Sorted M l
    pub older : All (λ e. e.tag < t) l

  pub good_le : {t t₁ : ℕ} {l : List (Raised M)} → t ≤ t₁ → Good t l → Good t₁ l
  good_le h g = record { sorted = g.sorted; older = all_map (λ e k. omega arith) g.older }

  pub good_push : (e : Raised M) {l : List (Raised M)} → Good e.tag l → Good (suc e.tag) (push (numbered M) e l)
  good_push e {l} g = record { sorted = push_sorted e l g.sorted g.older; older = push_all_of e l (omega arith) (all_map (λ e h. omega arith) g.older) }

  pub good_tail : {t : ℕ} {u : Raised M} {l : List (Raised M)} → Good t (u ∷ l) → Good t l
  good_tail {t} {u} {l} g = go g.sorted g.older
    where
      go : Sorted M (u ∷ l) → All (λ e. e.tag < t) (u ∷ l) → Good t l
      go (Sorted.◌∷·◌ a s) (All.◌∷·◌ p ps) = record { sorted = s; older = ps }

  pub good_head : {t : ℕ} {u : Raised M} {l : List (Raised M)} → Good t (u ∷ l) → All (Before M u) l
  good_head {t} {u} {l} g = go g.sorted
    where
      go : Sorted M (u ∷ l) → All (Before M u) l
      go (Sorted.◌∷·◌ a s) = a

  -- the opening keeps the pending list in order
  raises_good :
      {rs : List (Raise W Act Place)} {t t₁ : ℕ} {q q₁ : OpenQ (Raised M)} {es : List (Raised M)} → Raises (numbered M) (activate_open (numbered M)) rs t q es t₁ q₁ →
      Good t q.pending → Good t₁ q₁.pending
  raises_good none g = g
  raises_good (one {q = q} {q₁ = q₁} {e = e} p x h r) g = raises_good r (step (activate_open_is (numbered M) p.place e q q₁ h))
    where
      step : (q₁.pending ≡ q.pending) ⊎ ((q₁.pending ≡ push (numbered M) e q.pending) × (length q.pending < most_waiting)) → Good (suc e.tag) q₁.pending
      step (inl i) = rw i (good_le (omega arith) g)
      step (inr i) = rw i.0 (good_push e g)

  -- so does what a unit of the main pass raises, and all that is pending comes after the unit
  raises_main_good :
      (u : Raised M) {rs : List (Raise W Act When)} {t t₁ : ℕ} {q q₁ : MainQ (Raised M)} {es : List (Raised M)} → Raises (numbered M) (activate_main (numbered M) u) rs t q es t₁ q₁ →
      Good t q.pending → All (Before M u) q.pending → Good t₁ q₁.pending × All (Before M u) q₁.pending
  raises_main_good u none g a = (g, a)
  raises_main_good u (one {q = q} {q₁ = q₁} {e = e} p x h r) g a = let s = step (activate_main_is (numbered M) u p.place e q q₁ h) in raises_main_good u r s.0 s.1
    where
      step : ToMain (numbered M) u p.place e q q₁ → Good (suc e.tag) q₁.pending × All (Before M u) q₁.pending
      step (at_carried b n hp hc) = (rw hp (good_le (omega arith) g), rw hp a)
      step (at_pending b n hp hc) = (rw hp (good_push e g), rw hp (push_all_of e q.pending (inl (leb-false _ _ (above (numbered M) u p.place e b))) a))

  -- the whole pass
  passes_sorted :
      {t t₁ s s₁ : ℕ} {q q₁ : MainQ (Raised M)} {us : List (Turn (numbered M))} → Passes (numbered M) (next_main (numbered M)) (activate_main (numbered M)) t q s us t₁ q₁ s₁ →
      Good t q.pending →
      Sorted M (units (numbered M) us ++ q₁.pending) × ((b : Raised M) → All (Before M b) q.pending → All (Before M b) (units (numbered M) us ++ q₁.pending))
  passes_sorted broke g = (g.sorted, λ b a. a)
  passes_sorted (done h) g = (g.sorted, λ b a. a)
  passes_sorted (turn {t = t} {q = q} {q₁ = q₁} {q₃ = q₃} {u = u} {us = us} h k n j r) g =
      let first = (next_main_is (numbered M) q u q₁ h).0 in
      let g₁ : Good t (u ∷ q₁.pending) = rw first at g in
      let f = raises_main_good u k (good_tail g₁) (good_head g₁) in
      let i = passes_sorted r f.0 in
      let a : All (Before M u) (units (numbered M) us ++ q₃.pending) = i.1 u f.1 in
      (Sorted.◌∷·◌ a i.0, λ b p. bound b a (rw first at p))
    where
      bound : (b : Raised M) → All (Before M u) (units (numbered M) us ++ q₃.pending) → All (Before M b) (u ∷ q₁.pending) → All (Before M b) (u ∷ (units (numbered M) us ++ q₃.pending))
      bound b a (All.◌∷·◌ p ps) = All.◌∷·◌ p (all_map (λ f i. before_trans b u f p i) a)

  -- numbers only rise
  module _ {P Q : Type 0} (activate : P → Raised M → Q → Filed Q) where
    raises_le : {rs : List (Raise W Act P)} {t t₁ : ℕ} {q q₁ : Q} {es : List (Raised M)} → Raises (numbered M) activate rs t q es t₁ q₁ → t ≤ t₁
    raises_le none = omega arith
    raises_le (one p x h r) = omega (arith, raises_le r)

  module _ {Q : Type 0} (next : Q → Took (Raised M) Q) (activate : Raised M → When → Raised M → Q → Filed Q) where
    passes_le : {t t₁ s s₁ : ℕ} {q q₁ : Q} {us : List (Turn (numbered M))} → Passes (numbered M) next activate t q s us t₁ q₁ s₁ → t ≤ t₁
    passes_le broke = omega arith
    passes_le (done h) = omega arith
    passes_le (turn {u = u} h k b j r) = omega (arith, raises_le (activate u) k, passes_le r)

  pub tick_sorted : {c : List (Raised M)} {t₀ : ℕ} {k : Played M} → Ticked (numbered M) c t₀ k → Sorted M (units (numbered M) k.main ++ k.waiting)
  tick_sorted T =
      let g : Good T.t₁ T.o.pending = raises_good T.opened (record { sorted = Sorted.[·]; older = All.[·] }) in
      rw T.waiting (passes_sorted T.main (good_le (passes_le (next_late (numbered M)) (activate_late (numbered M)) T.late) g)).0
