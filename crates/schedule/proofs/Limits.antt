-- Every tick keeps to the limits that `FewUnits` names.
use mathlib.Core.Path.{◌≡◌, ap}
use mathlib.Core.List.{List, [], ◌∷◌}
use mathlib.Core.Logic.{◌⊎◌, inl, inr}
use Prim.Native.Nat.{ℕ, suc, ◌≤◌, ◌<◌}
use native.Mathlib.Omega.{arith}
use lib.ListN.{length, length-append}
use Rattle.schedule.specs.Schedule.{Setup, Raise, Took, took, Filed, filed, most_waiting, MainQ, OpenQ, Place, When, Activation, push, activate_main, activate_open, next_main, Turn, Tick, run}
use Rattle.schedule.specs.Promise.{All}
use Rattle.schedule.specs.Limits.{FewUnits}
use Rattle.schedule.proofs.Steps.{next_main_is, ToMain, at_carried, at_pending, activate_main_is, activate_open_is, Raises, none, one, Passes, broke, done, turn}
use Rattle.schedule.proofs.Weigh.{total_one, push_weigh}
use Rattle.schedule.proofs.Ticks.{Ticked, ticked}
use Rattle.schedule.proofs.Every.{every}

module _ (S : Setup) where
  open S use {Tag}
  open S.machine use {W, In, Act}

  -- ---- what holds of a queue through raising, and through a pass
  module _ {P Q : Type 0} (activate : P → Activation S → Q → Filed Q) (I : Q → Type 0) (ha : (p : P) (e : Activation S) (q q₁ : Q) → activate p e q ≡ filed q₁ → I q → I q₁) where
    raises_keep : {rs : List (Raise W Act P)} {t t₁ : Tag} {q q₁ : Q} {es : List (Activation S)} → Raises S activate rs t q es t₁ q₁ → I q → I q₁
    raises_keep none i = i
    raises_keep (one {q = q} {q₁ = q₁} {e = e} p x h r) i = raises_keep r (ha p.place e q q₁ h i)

  module _ {Q : Type 0} (next : Q → Took (Activation S) Q) (activate : Activation S → When → Activation S → Q → Filed Q) (I : Q → Type 0)
      (hn : (q : Q) (u : Activation S) (q₁ : Q) → next q ≡ took u q₁ → I q → I q₁) (ha : (u : Activation S) (p : When) (e : Activation S) (q q₁ : Q) → activate u p e q ≡ filed q₁ → I q → I q₁) where
    passes_keep : {t t₁ : Tag} {q q₁ : Q} {s s₁ : ℕ} {us : List (Turn S)} → Passes S next activate t q s us t₁ q₁ s₁ → I q → I q₁
    passes_keep broke i = i
    passes_keep (done h) i = i
    passes_keep (turn {q = q} {q₁ = q₁} {u = u} h k b j r) i = passes_keep r (raises_keep (activate u) I (ha u) k (hn q u q₁ h i))

  push_length : (e : Activation S) (l : List (Activation S)) → length (push S e l) ≡ suc (length l)
  push_length e l = omega (arith, push_weigh S (λ _. 1) e l, total_one l, total_one (push S e l))

  -- ---- the main pass's lists
  abbrev Fits : MainQ (Activation S) → Type 0
  Fits q = (length q.pending ≤ 256) × (length q.carried ≤ 256)

  next_fits : (q : MainQ (Activation S)) (u : Activation S) (q₁ : MainQ (Activation S)) → next_main S q ≡ took u q₁ → Fits q → Fits q₁
  next_fits q u q₁ h i = let n = next_main_is S q u q₁ h in omega (arith, ap length n.0, ap length n.1)

  activate_fits : (u : Activation S) (p : When) (e : Activation S) (q q₁ : MainQ (Activation S)) → activate_main S u p e q ≡ filed q₁ → Fits q → Fits q₁
  activate_fits u p e q q₁ h i = go (activate_main_is S u p e q q₁ h)
    where
      go : ToMain S u p e q q₁ → Fits q₁
      go (at_carried b n hp hc) = omega (arith, ap length hp, ap length hc, length-append q.carried (e ∷ []))
      go (at_pending b n hp hc) = omega (arith, ap length hp, ap length hc, push_length e q.pending)

  open_fits : (p : Place) (e : Activation S) (q q₁ : OpenQ (Activation S)) → activate_open S p e q ≡ filed q₁ → length q.pending ≤ 256 → length q₁.pending ≤ 256
  open_fits p e q q₁ h i = go (activate_open_is S p e q q₁ h)
    where
      go : (q₁.pending ≡ q.pending) ⊎ ((q₁.pending ≡ push S e q.pending) × (length q.pending < most_waiting)) → length q₁.pending ≤ 256
      go (inl h) = omega (arith, ap length h)
      go (inr h) = omega (arith, ap length h.0, push_length e q.pending)

  -- ---- a tick, and a run
  pub tick_limited : {c : List (Activation S)} {t : Tag} {k : Tick S} → Ticked S c t k → FewUnits S k
  tick_limited {k = k} T =
      let f : Fits T.m =
      passes_keep (next_main S) (activate_main S) Fits next_fits activate_fits T.main
      (raises_keep (activate_open S) (λ q. length q.pending ≤ 256) open_fits T.opened (omega arith), omega arith) in
      record { units = T.units; carried = omega (arith, ap length T.carried); waiting = omega (arith, ap length T.waiting) }

  pub limited : (is : List In) (w : W) → All (FewUnits S) (run S is w)
  limited is w = every S (FewUnits S) (λ w i c t. tick_limited (ticked S w i c t)) is w
