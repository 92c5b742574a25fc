-- The scheduler's equations, as a proof of code uses them: the definitions stay shut there.
use mathlib.Core.Path.{◌≡◌, refl, ap}
use mathlib.Core.List.{List, [], ◌∷◌, ◌++◌}
use mathlib.Core.Bool.{Bool, true, false, cond}
use Prim.Native.Nat.{ℕ, zero, suc, ◌≤◌, ◌<◌}
use native.Mathlib.Omega.{arith}
use lib.ListN.{length, take, drop, get_or}
use lib.Dec.{leb, eqb}
use borrow.Author.Tests.{leb-true, leb-false}
use Rattle.schedule.specs.Schedule.{Setup, Raise, When, list_full, Took, empty, took, Filed, full, filed, Activation, push, raising, raise_all, turning, no_turn, pass}

module _ (S : Setup) where
  open S use {Tag, after}
  open S.machine use {W, Act, rank, body}

  -- ---- raising
  module _ {P Q : Type 0} (activate : P → Activation S → Q → Filed Q) (r : Raise W Act P) (rs : List (Raise W Act P)) (t : Tag) (q : Q) (w : W) (s : ℕ) where
    pub raise_filed :
        {q' : Q} → activate r.place (record { act = r.act; tag = t }) q ≡ filed q' →
        raise_all S activate (r ∷ rs) t q w s ≡ raising S (record { act = r.act; tag = t }) (raise_all S activate rs (after t) q' w s)
    unfolding raise_all
    raise_filed h = rw h

    pub raise_full :
        activate r.place (record { act = r.act; tag = t }) q ≡ full →
        raise_all S activate (r ∷ rs) t q w s ≡ record { raised = []; queue = q; next = t; world = r.at; stop = list_full }
    unfolding raise_all
    raise_full h = rw h

  -- ---- a pass
  module _ {Q : Type 0} (next : Q → Took (Activation S) Q) (activate : Activation S → When → Activation S → Q → Filed Q) (t : Tag) (q : Q) (w : W) where
    pub pass_stopped : (n s : ℕ) → pass S next activate n t q w (suc s) ≡ no_turn S n t q w (suc s)
    unfolding pass
    pass_stopped zero s = refl
    pass_stopped (suc n) s = refl

    pub pass_done : (n : ℕ) → next q ≡ empty → pass S next activate n t q w 0 ≡ no_turn S n t q w 0
    unfolding pass
    pass_done zero h = rw h
    pass_done (suc n) h = rw h

    pub pass_over : {u : Activation S} {q' : Q} → next q ≡ took u q' → pass S next activate 0 t q w 0 ≡ no_turn S 0 t q w list_full
    unfolding pass
    pass_over h = rw h

    pub pass_turn :
        (n : ℕ) {u : Activation S} {q' : Q} → next q ≡ took u q' →
        pass S next activate (suc n) t q w 0
        ≡ (let d = body w u.act in
        let k = raise_all S (activate u) d.raises t q' d.world d.stop in
        turning S u w k.raised (eqb d.stop 0) (pass S next activate n k.next k.queue k.world k.stop))
    unfolding pass
    pass_turn n h = rw h

  -- ---- where `push` puts: behind the leading ones whose rank is not above e's
  unfoldable pub spot : Activation S → List (Activation S) → ℕ
  spot e [] = 0
  spot e (x ∷ l) = cond (leb (rank x.act) (rank e.act)) (suc (spot e l)) 0

  pub push_at : (e : Activation S) (l : List (Activation S)) → push S e l ≡ take (spot e l) l ++ (e ∷ drop (spot e l) l)
  unfolding push spot
  push_at e [] = refl
  push_at e (x ∷ l) = go (leb (rank x.act) (rank e.act)) (push_at e l)
    where
      go :
          (b : Bool) → push S e l ≡ take (spot e l) l ++ (e ∷ drop (spot e l) l) →
          cond b (x ∷ push S e l) (e ∷ x ∷ l) ≡ take (cond b (suc (spot e l)) 0) (x ∷ l) ++ (e ∷ drop (cond b (suc (spot e l)) 0) (x ∷ l))
      go true h = ap (λ (r : List (Activation S)). x ∷ r) h
      go false h = refl

  -- a place is the spot if none before it is above, and it is the end or above
  pub spot_is :
      (e d : Activation S) (l : List (Activation S)) (k : ℕ) → k ≤ length l → ((i : ℕ) → i < k → rank (get_or l i d).act ≤ rank e.act) →
      (k < length l → rank e.act < rank (get_or l k d).act) → spot e l ≡ k
  unfolding spot
  spot_is e d [] k h before at = omega arith
  spot_is e d (x ∷ l) zero h before at = go (leb (rank x.act) (rank e.act)) refl
    where
      go : (b : Bool) → leb (rank x.act) (rank e.act) ≡ b → cond b (suc (spot e l)) 0 ≡ 0
      go true i = let z : rank e.act < rank x.act = at (omega arith) in let y : ⊥ = omega (arith, leb-true) in absurd y
      go false i = refl
  spot_is e d (x ∷ l) (suc k) h before at =
      go (leb (rank x.act) (rank e.act)) refl (spot_is e d l k (omega arith) (λ i j. before (suc i) (omega arith)) (λ j. at (omega arith)))
    where
      go : (b : Bool) → leb (rank x.act) (rank e.act) ≡ b → spot e l ≡ k → cond b (suc (spot e l)) 0 ≡ suc k
      go true i j = ap suc j
      go false i j = let z : rank x.act ≤ rank e.act = before 0 (omega arith) in let y : ⊥ = omega (arith, leb-false) in absurd y
