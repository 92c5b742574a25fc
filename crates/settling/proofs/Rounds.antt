-- Raising one after the other, and the rounds of settling: what is raised so far is filed before what is raised later.
use Prim.Native.Nat.{ℕ, zero, suc}
use mathlib.Core.Path.{◌≡◌, refl, sym}
use mathlib.Core.List.{List, [], ◌∷◌, ◌++◌, append-nil, append_assoc}
use native.Mathlib.Omega.{arith}
use Rattle.schedule.specs.Schedule.{Raise, When, Filed, full, filed}
use Rattle.lists.specs.Lists.{Filed as Answer, NoRoom, Done}
use Rattle.model.specs.Circuit.{Circuit}
use Rattle.model.specs.State.{Act, State, wires≔}
use Rattle.model.specs.Settle.{Settled, calm, taken, when_checked, check, check_on}
use Rattle.units.specs.View.{Lists}
use Rattle.units.specs.Raising.{answer, lists_after, Went, raise_into}

-- ---- raising, of an append

-- one raise, and what follows where there was room
abbrev went_on : Lists → State → Filed Lists → (Lists → Went) → Went
went_on l at x f = elim x [ full ↦ record { state = at; lists = l; answer = NoRoom } | filed k ↦ f k ]

-- the two answers differ
full_not_done : {A : Type 0} → ◌≡◌ {A = Answer} NoRoom Done → A
full_not_done h = let z : ◌≡◌ {A = ℕ} 0 1 = cc in absurd (omega (arith, z))

module _ {P : Type 0} (file : P → Act → Lists → Filed Lists) where
  -- where all were filed, the lists are what later ones are filed into, and the state is the last one
  pub raised_on :
      (rs more : List (Raise State Act P)) (l : Lists) (s t : State) → (raise_into file rs l s).answer ≡ Done →
      ((raise_into file rs l s).state ≡ s) × (raise_into file (rs ++ more) l t ≡ raise_into file more (raise_into file rs l s).lists t)
  unfolding raise_into
  raised_on [] more l s t h = (refl, refl)
  raised_on (r ∷ rs) more l s t h = go (λ k g. raised_on rs more k s t g) (file r.place r.act l) h
    where
      go :
          ((k : Lists) → (raise_into file rs k s).answer ≡ Done → ((raise_into file rs k s).state ≡ s) × (raise_into file (rs ++ more) k t ≡ raise_into file more (raise_into file rs k s).lists t)) →
          (x : Filed Lists) → (went_on l r.at x (λ k. raise_into file rs k s)).answer ≡ Done →
          ((went_on l r.at x (λ k. raise_into file rs k s)).state ≡ s)
          × (went_on l r.at x (λ k. raise_into file (rs ++ more) k t) ≡ raise_into file more (went_on l r.at x (λ k. raise_into file rs k s)).lists t)
      go rec full h = full_not_done h
      go rec (filed k) h = rec k h

  -- where one found its list full, later ones are not filed
  pub raised_full :
      (rs more : List (Raise State Act P)) (l : Lists) (s t : State) → (raise_into file rs l s).answer ≡ NoRoom → raise_into file (rs ++ more) l t ≡ raise_into file rs l s
  unfolding raise_into
  raised_full [] more l s t h = full_not_done (sym h)
  raised_full (r ∷ rs) more l s t h = go (λ k g. raised_full rs more k s t g) (file r.place r.act l) h
    where
      go :
          ((k : Lists) → (raise_into file rs k s).answer ≡ NoRoom → raise_into file (rs ++ more) k t ≡ raise_into file rs k s) →
          (x : Filed Lists) → (went_on l r.at x (λ k. raise_into file rs k s)).answer ≡ NoRoom →
          went_on l r.at x (λ k. raise_into file (rs ++ more) k t) ≡ went_on l r.at x (λ k. raise_into file rs k s)
      go rec full h = refl
      go rec (filed k) h = rec k h

-- one that is raised at the state after it
pub raised_one : {P : Type 0} (file : P → Act → Lists → Filed Lists) (p : P) (a : Act) (l : Lists) (s : State) →
    raise_into file (record { at = s; act = a; place = p } ∷ []) l s ≡ record { state = s; lists = lists_after l (file p a l); answer = answer (file p a l) }
unfolding raise_into lists_after answer
raised_one file p a l s = go (file p a l)
  where
    go : (x : Filed Lists) → went_on l s x (λ k. record { state = s; lists = k; answer = Done }) ≡ record { state = s; lists = lists_after l x; answer = answer x }
    go full = refl
    go (filed k) = refl

-- ---- rounds

-- the first of a list, if there is one, and what follows
abbrev pub first_on : {A : Type 0} → List ℕ → A → (ℕ → List ℕ → A) → A
first_on x z f = elim x [ [] ↦ z | (i ∷ is) ↦ f i is ]

module _ (c : Circuit) where
  -- the state in which an input that was taken is checked
  abbrev pub to_be_checked : State → ℕ → List ℕ → State
  to_be_checked s i is = wires≔ s (taken s.wires i is)

  -- its check
  abbrev pub checked_now : State → ℕ → List ℕ → Settled
  checked_now s i is = check c (when_checked s.wires i) (to_be_checked s i is) i

  -- what was raised before comes first
  pub raised_before :
      (n : ℕ) (s : State) (rs : List (Raise State Act When)) →
      check_on c n (record { state = s; raises = rs }) ≡ record { state = (check_on c n (calm s)).state; raises = rs ++ (check_on c n (calm s)).raises }
  unfolding check_on calm
  raised_before zero s rs = rw (append-nil rs)
  raised_before (suc n) s rs = go (λ t qs. raised_before n t qs) s.wires.to_check
    where
      go :
          ((t : State) (qs : List (Raise State Act When)) → check_on c n (record { state = t; raises = qs }) ≡ record { state = (check_on c n (calm t)).state; raises = qs ++ (check_on c n (calm t)).raises }) →
          (x : List ℕ) →
          first_on x (record { state = s; raises = rs }) (λ i is. check_on c n (record { state = (checked_now s i is).state; raises = rs ++ (checked_now s i is).raises }))
          ≡ record {
            state = (first_on x (calm s) (λ i is. check_on c n (record { state = (checked_now s i is).state; raises = [] ++ (checked_now s i is).raises }))).state;
            raises = rs ++ (first_on x (calm s) (λ i is. check_on c n (record { state = (checked_now s i is).state; raises = [] ++ (checked_now s i is).raises }))).raises;
          }
      go rec [] = rw (append-nil rs)
      go rec (i ∷ is) =
          let r = checked_now s i is in
          rw (rec r.state (rs ++ r.raises), rec r.state ([] ++ r.raises), append_assoc rs r.raises (check_on c n (calm r.state)).raises)
