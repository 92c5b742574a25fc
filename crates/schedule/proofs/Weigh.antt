-- Nothing is lost and nothing is made: whatever number each activation counts for, what a pass began and left is what it found and raised.
use mathlib.Core.Path.{◌≡◌, refl, ap}
use mathlib.Core.List.{List, [], ◌∷◌, ◌++◌}
use mathlib.Core.Bool.{Bool, true, false, cond}
use Prim.Native.Nat.{ℕ, ◌+◌}
use native.Mathlib.Omega.{arith}
use lib.ListN.{length}
use lib.Dec.{leb}
use Rattle.schedule.specs.Schedule.{Setup, Raise, Took, took, Filed, filed, LateQ, MainQ, OpenQ, Place, to_late, to_delivered, to_pending, When, Activation, push, push_all, activate_late, activate_main, activate_open, next_late, next_late', next_main, Turn}
use Rattle.schedule.specs.Promise.{total, units, raised_by}
use Rattle.schedule.proofs.Steps.{room_is, next_main_is, ToMain, at_carried, at_pending, activate_main_is, Raises, none, one, Passes, broke, done, turn}

pub total_append : {A : Type 0} (m : A → ℕ) (k l : List A) → total m (k ++ l) ≡ total m k + total m l
total_append m [] l = omega arith
total_append m (a ∷ k) l = omega (arith, total_append m k l)

pub total_one : {A : Type 0} (l : List A) → total (λ _. 1) l ≡ length l
total_one [] = refl
total_one (a ∷ l) = omega (arith, total_one l)

module _ (S : Setup) (m : Activation S → ℕ) where
  open S use {Tag}
  open S.machine use {W, Act, rank}

  module _ {P Q : Type 0} (activate : P → Activation S → Q → Filed Q) (weigh : Q → ℕ)
      (ha : (p : P) (e : Activation S) (q q₁ : Q) → activate p e q ≡ filed q₁ → weigh q₁ ≡ weigh q + m e) where
    pub raises_weigh : {rs : List (Raise W Act P)} {t t₁ : Tag} {q q₁ : Q} {es : List (Activation S)} → Raises S activate rs t q es t₁ q₁ → weigh q₁ ≡ weigh q + total m es
    raises_weigh none = omega arith
    raises_weigh (one {q = q} {q₁ = q₁} {e = e} p x h r) = omega (arith, ha p.place e q q₁ h, raises_weigh r)

  module _ {Q : Type 0} (next : Q → Took (Activation S) Q) (activate : Activation S → When → Activation S → Q → Filed Q) (weigh : Q → ℕ)
      (hn : (q : Q) (u : Activation S) (q₁ : Q) → next q ≡ took u q₁ → weigh q ≡ m u + weigh q₁)
      (ha : (u : Activation S) (p : When) (e : Activation S) (q q₁ : Q) → activate u p e q ≡ filed q₁ → weigh q₁ ≡ weigh q + m e) where
    passes_weigh :
        {t t₁ : Tag} {q q₁ : Q} {s s₁ : ℕ} {us : List (Turn S)} → Passes S next activate t q s us t₁ q₁ s₁ →
        total m (units S us) + weigh q₁ ≡ weigh q + total m (raised_by S us)
    passes_weigh broke = omega arith
    passes_weigh (done h) = omega arith
    passes_weigh (turn {q = q} {q₁ = q₁} {u = u} {es = es} {us = us} h k b j r) =
        omega (arith, hn q u q₁ h, raises_weigh (activate u) weigh (ha u) k, passes_weigh r, total_append m es (raised_by S us))

  -- ---- the lists
  pub push_weigh : (e : Activation S) (l : List (Activation S)) → total m (push S e l) ≡ m e + total m l
  unfolding push
  push_weigh e [] = omega arith
  push_weigh e (x ∷ l) = go (push_weigh e l) (leb (rank x.act) (rank e.act))
    where
      go : total m (push S e l) ≡ m e + total m l → (b : Bool) → total m (cond b (x ∷ push S e l) (e ∷ x ∷ l)) ≡ m e + (m x + total m l)
      go h true = omega arith
      go h false = refl

  pub push_all_weigh : (es l : List (Activation S)) → total m (push_all S es l) ≡ total m es + total m l
  unfolding push_all
  push_all_weigh [] l = omega arith
  push_all_weigh (e ∷ es) l = omega (arith, push_all_weigh es (push S e l), push_weigh e l)

  -- ---- the queues
  abbrev pub late_weigh : LateQ (Activation S) → ℕ
  late_weigh q = total m q.late + total m q.delivered

  abbrev pub main_weigh : MainQ (Activation S) → ℕ
  main_weigh q = total m q.pending + total m q.carried

  abbrev pub open_weigh : OpenQ (Activation S) → ℕ
  open_weigh q = late_weigh q.lateq + total m q.pending

  next_late_weigh : (q : LateQ (Activation S)) (u : Activation S) (q₁ : LateQ (Activation S)) → next_late S q ≡ took u q₁ → late_weigh q ≡ m u + late_weigh q₁
  unfolding next_late
  next_late_weigh q u q₁ h = go q.late q.delivered h
    where
      go : (l d : List (Activation S)) → next_late' S l d ≡ took u q₁ → total m l + total m d ≡ m u + late_weigh q₁
      go [] [] h = let z : ◌≡◌ {A = ℕ} 0 1 = cc in omega arith
      go [] (e ∷ d) h =
          let hu : e ≡ u = cc in
          let hq : record { late = []; delivered = d } ≡ q₁ = cc in
          omega (arith, ap m hu, ap late_weigh hq)
      go (e ∷ l) d h =
          let hu : e ≡ u = cc in
          let hq : record { late = l; delivered = d } ≡ q₁ = cc in
          omega (arith, ap m hu, ap late_weigh hq)

  activate_late_weigh : (u : Activation S) (p : When) (e : Activation S) (q q₁ : LateQ (Activation S)) → activate_late S u p e q ≡ filed q₁ → late_weigh q₁ ≡ late_weigh q + m e
  unfolding activate_late
  activate_late_weigh u p e q q₁ h = omega (arith, ap late_weigh (room_is q.late _ h).0, push_weigh e q.late)

  next_main_weigh : (q : MainQ (Activation S)) (u : Activation S) (q₁ : MainQ (Activation S)) → next_main S q ≡ took u q₁ → main_weigh q ≡ m u + main_weigh q₁
  next_main_weigh q u q₁ h = let i = next_main_is S q u q₁ h in omega (arith, ap (total m) i.0, ap (total m) i.1)

  activate_main_weigh : (u : Activation S) (p : When) (e : Activation S) (q q₁ : MainQ (Activation S)) → activate_main S u p e q ≡ filed q₁ → main_weigh q₁ ≡ main_weigh q + m e
  activate_main_weigh u p e q q₁ h = go (activate_main_is S u p e q q₁ h)
    where
      go : ToMain S u p e q q₁ → main_weigh q₁ ≡ main_weigh q + m e
      go (at_carried b r hp hc) = omega (arith, ap (total m) hp, ap (total m) hc, total_append m q.carried (e ∷ []))
      go (at_pending b r hp hc) = omega (arith, ap (total m) hp, ap (total m) hc, push_weigh e q.pending)

  pub activate_open_weigh : (p : Place) (e : Activation S) (q q₁ : OpenQ (Activation S)) → activate_open S p e q ≡ filed q₁ → open_weigh q₁ ≡ open_weigh q + m e
  unfolding activate_open
  activate_open_weigh to_late e q q₁ h = omega (arith, ap open_weigh (room_is q.lateq.late _ h).0, push_weigh e q.lateq.late)
  activate_open_weigh to_delivered e q q₁ h = omega (arith, ap open_weigh (room_is q.lateq.delivered _ h).0, total_append m q.lateq.delivered (e ∷ []))
  activate_open_weigh to_pending e q q₁ h = omega (arith, ap open_weigh (room_is q.pending _ h).0, push_weigh e q.pending)

  -- ---- the two passes
  pub late_passes_weigh :
      {t t₁ : Tag} {q q₁ : LateQ (Activation S)} {s s₁ : ℕ} {us : List (Turn S)} → Passes S (next_late S) (activate_late S) t q s us t₁ q₁ s₁ →
      total m (units S us) + late_weigh q₁ ≡ late_weigh q + total m (raised_by S us)
  late_passes_weigh = passes_weigh (next_late S) (activate_late S) late_weigh next_late_weigh activate_late_weigh

  pub main_passes_weigh :
      {t t₁ : Tag} {q q₁ : MainQ (Activation S)} {s s₁ : ℕ} {us : List (Turn S)} → Passes S (next_main S) (activate_main S) t q s us t₁ q₁ s₁ →
      total m (units S us) + main_weigh q₁ ≡ main_weigh q + total m (raised_by S us)
  main_passes_weigh = passes_weigh (next_main S) (activate_main S) main_weigh next_main_weigh activate_main_weigh
