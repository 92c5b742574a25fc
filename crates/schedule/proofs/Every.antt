-- What holds of every tick and of what it gets holds of all ticks of a run; and so of each unit begun: it has run exactly when its body came to no stop.
use mathlib.Core.List.{List, [], ◌∷◌}
use Prim.Native.Nat.{ℕ, zero, suc}
use Rattle.schedule.specs.Schedule.{Setup, When, Took, Filed, Activation, activate_late, activate_main, next_late, next_main, Turn, Tick, tick, go_on, run_on, run}
use Rattle.schedule.specs.Promise.{All, Along, RanAsTold}
use Rattle.schedule.proofs.Steps.{Passes, broke, done, turn}
use Rattle.schedule.proofs.Ticks.{ticked}

module _ (S : Setup) where
  open S use {Tag}
  open S.machine use {W, In}

  module _ (P : In → Tick S → Type 0) (h : (w : W) (i : In) (c : List (Activation S)) (t : Tag) → P i (tick S w i c t)) where
    each_on : (is : List In) (w : W) (c : List (Activation S)) (t : Tag) → Along P is (run_on S is w c t)
    unfolding run_on
    each_on [] w c t = Along.[·]
    each_on (i ∷ is) w c t = let k = tick S w i c t in Along.◌∷·◌ (h w i c t) (go k.stop (each_on is k.world k.carried k.next))
      where
        go : (s : ℕ) {ts : List (Tick S)} → Along P is ts → Along P is (go_on S s ts)
        go zero a = a
        go (suc s) a = Along.[·]

    pub each_given : (is : List In) (w : W) → Along P is (run S is w)
    unfolding run
    each_given is w = each_on is w [] S.first

  each_of : {P : Tick S → Type 0} {is : List In} {ts : List (Tick S)} → Along (λ i. P) is ts → All P ts
  each_of Along.[·] = All.[·]
  each_of (Along.◌∷·◌ p a) = All.◌∷·◌ p (each_of a)

  pub every : (P : Tick S → Type 0) → ((w : W) (i : In) (c : List (Activation S)) (t : Tag) → P (tick S w i c t)) → (is : List In) (w : W) → All P (run S is w)
  every P h is w = each_of (each_given (λ i. P) h is w)

  passes_told :
      {Q : Type 0} (next : Q → Took (Activation S) Q) (activate : Activation S → When → Activation S → Q → Filed Q) {t t₁ : Tag} {q q₁ : Q} {s s₁ : ℕ} {us : List (Turn S)} →
      Passes S next activate t q s us t₁ q₁ s₁ → All (RanAsTold S) us
  passes_told next activate broke = All.[·]
  passes_told next activate (done h) = All.[·]
  passes_told next activate (turn h k b j r) = All.◌∷·◌ j.0 (passes_told next activate r)

  pub ran_as_told : (is : List In) (w : W) → All (λ (t : Tick S). All (RanAsTold S) t.late × All (RanAsTold S) t.main) (run S is w)
  ran_as_told is w =
      every (λ t. All (RanAsTold S) t.late × All (RanAsTold S) t.main)
      (λ w i c t. let T = ticked S w i c t in (passes_told (next_late S) (activate_late S) T.late, passes_told (next_main S) (activate_main S) T.main)) is w
