-- What the main pass carries: exactly what its units raised at or below their own rank or put off, in order.
use mathlib.Core.Path.{◌≡◌, ◌∙◌}
use mathlib.Core.List.{List, ◌∷◌, ◌++◌, append_assoc, append-nil}
use Prim.Native.Nat.{ℕ}
use Rattle.schedule.specs.Schedule.{Setup, Raise, When, MainQ, Activation, activate_main, next_main, Turn, Tick}
use Rattle.schedule.specs.Promise.{carried_of, raised_to_carry}
use Rattle.schedule.proofs.Steps.{next_main_is, ToMain, at_carried, at_pending, activate_main_is, Raises, none, one, Passes, broke, done, turn}
use Rattle.schedule.proofs.Ticks.{Ticked}

module _ (S : Setup) where
  open S use {Tag}
  open S.machine use {W, Act}

  raises_carry :
      (u : Activation S) {rs : List (Raise W Act When)} {t t₁ : Tag} {q q₁ : MainQ (Activation S)} {es : List (Activation S)} → Raises S (activate_main S u) rs t q es t₁ q₁ →
      q₁.carried ≡ q.carried ++ carried_of S u es rs
  raises_carry u none = rw append-nil
  raises_carry u (one {rs = rs} {q = q} {q₁ = q₁} {q₂ = q₂} {e = e} {es = es} p x h r) = go (activate_main_is S u p.place e q q₁ h) (raises_carry u r)
    where
      go : ToMain S u p.place e q q₁ → q₂.carried ≡ q₁.carried ++ carried_of S u es rs → q₂.carried ≡ q.carried ++ carried_of S u (e ∷ es) (p ∷ rs)
      go (at_carried b n hp hc) i = rw (i, hc, b, append_assoc)
      go (at_pending b n hp hc) i = rw (i, hc, b)

  passes_carry :
      {t t₁ : Tag} {s s₁ : ℕ} {q q₁ : MainQ (Activation S)} {us : List (Turn S)} → Passes S (next_main S) (activate_main S) t q s us t₁ q₁ s₁ →
      q₁.carried ≡ q.carried ++ raised_to_carry S us
  passes_carry broke = rw append-nil
  passes_carry (done h) = rw append-nil
  passes_carry (turn {q = q} {q₁ = q₁} {u = u} h k b j r) = rw (passes_carry r, raises_carry u k, (next_main_is S q u q₁ h).1, append_assoc)

  pub tick_carry : {c : List (Activation S)} {t₀ : Tag} {k : Tick S} → Ticked S c t₀ k → k.carried ≡ raised_to_carry S k.main
  tick_carry T = T.carried ∙ passes_carry T.main
