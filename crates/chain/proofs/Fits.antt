-- Whether calls fit, and one more call: one law for each way out of a function.
use Prim.Native.Nat.{ℕ, ◌+◌, ◌-◌, ◌≤◌, ◌<◌}
use mathlib.Core.Path.{◌≡◌, refl, sym, ap, ◌∙◌}
use mathlib.Core.Bool.{Bool, true, false, cond, and-false, true≢false}
use mathlib.Core.List.{List, [], ◌∷◌, ◌++◌, append-nil}
use native.Mathlib.Omega.{arith}
use borrow.Author.Tests.{le-leb, lt-leb, leb-true, ltb-true, ltb-false}
use lib.Dec.{leb, ltb}
use lib.ListN.{length, length-append}
use Rattle.lists.specs.Lists.{Filed, NoRoom, Done}
use Rattle.lists.proofs.Stacks.{stacked_length}
use Rattle.lists.proofs.Rings.{queued_length}
use Rattle.words.specs.Words.{words}
use Rattle.model.specs.Base.{if◌then◌otherwise◌, keep, snoc}
use Rattle.model.specs.Circuit.{Circuit, Call}
use Rattle.model.specs.Chain.{Calls, no_calls, fit}
use Rattle.model.proofs.Lists.{both_true}
use Rattle.units.specs.View.{Units, cut, units}
use Rattle.units.specs.Calls.{with_calls, stack≔, forks≔, fits_one, called, forked}
use Rattle.chain.specs.Chain.{Pushes, forks_behind, stack_before}

-- ---- whether calls fit

pub fit_is : (q : Calls) → length q.stack ≤ 256 → length q.forks ≤ 256 → fit q ≡ true
unfolding fit
fit_is q a b = rw (le-leb (length q.stack) 256 a, le-leb (length q.forks) 256 b)

pub long_stack : (q : Calls) → 256 < length q.stack → fit q ≡ false
unfolding fit
long_stack q h = rw (lt-leb (length q.stack) 256 h)

pub long_forks : (q : Calls) → 256 < length q.forks → fit q ≡ false
unfolding fit
long_forks q h = rw (lt-leb (length q.forks) 256 h) (and-false (leb (length q.stack) 256))

pub fits : (q : Calls) → fit q ≡ true → (length q.stack ≤ 256) × (length q.forks ≤ 256)
unfolding fit
fits q h =
    let t = both_true (leb (length q.stack) 256) (leb (length q.forks) 256) h in
    (leb-true (length q.stack) 256 t.0, leb-true (length q.forks) 256 t.1)

-- what the area holds fits
pub held_fit : (c : Circuit) (bs : List ℕ) → fit (units c bs).calls ≡ true
unfolding units
held_fit c bs =
    fit_is
    (units c bs).calls
    (omega (arith, stacked_length 256 (cut (words bs)).stack))
    (omega (arith, queued_length 256 (cut (words bs)).forks))

-- ---- answers

pub was_done : (b : Bool) → Done ≡ cond b Done NoRoom → b ≡ true
was_done true e = refl
was_done false e = cc

pub was_full : (b : Bool) → NoRoom ≡ cond b Done NoRoom → b ≡ false
was_full true e = cc
was_full false e = refl

-- they fit, and were added
pub pushes_done : (u v : Units) (q : Calls) → fit q ≡ true → v.calls ≡ q → with_calls v no_calls ≡ with_calls u no_calls → Pushes u v Done q
pushes_done u v q f e s = record { answer = rw f; calls = λ _. e; others = s }

-- they do not fit
pub pushes_full : (u v : Units) (q : Calls) → fit q ≡ false → with_calls v no_calls ≡ with_calls u no_calls → Pushes u v NoRoom q
pushes_full u v q f s = record { answer = rw f; calls = λ t. absurd (true≢false (sym t ∙ f)); others = s }

-- ---- one call

module _ (u v : Units) (r : Filed) (k : Call) (f : fit u.calls ≡ true) where
  -- a call on top of the stack
  pub stack_added : (r ≡ fits_one u.calls.stack) × (v ≡ with_calls u (called k.to u.calls)) → Pushes u v r (stack≔ u.calls (k.to ∷ u.calls.stack))
  unfolding fits_one called
  stack_added e = go (ltb (length u.calls.stack) 256) refl e.0 e.1
    where
      go : (b : Bool) → ltb (length u.calls.stack) 256 ≡ b → r ≡ cond b Done NoRoom → v ≡ with_calls u (cond b (stack≔ u.calls (k.to ∷ u.calls.stack)) u.calls) →
          Pushes u v r (stack≔ u.calls (k.to ∷ u.calls.stack))
      go true h er ev =
          rw (er, ev) (pushes_done u _ _ (fit_is (stack≔ u.calls (k.to ∷ u.calls.stack)) (omega (arith, ltb-true (length u.calls.stack) 256 h)) (fits u.calls f).1) refl refl)
      go false h er ev =
          rw (er, ev) (pushes_full u _ _ (long_stack (stack≔ u.calls (k.to ∷ u.calls.stack)) (omega (arith, ltb-false (length u.calls.stack) 256 h))) refl)

  -- a call behind the forks
  pub fork_added : (r ≡ fits_one u.calls.forks) × (v ≡ with_calls u (forked k.to u.calls)) → Pushes u v r (forks≔ u.calls (u.calls.forks ++ (k.to ∷ [])))
  unfolding fits_one forked snoc
  fork_added e = go (ltb (length u.calls.forks) 256) refl e.0 e.1
    where
      n : length (u.calls.forks ++ (k.to ∷ [])) ≡ length u.calls.forks + 1
      n = length-append u.calls.forks (k.to ∷ [])

      go : (b : Bool) → ltb (length u.calls.forks) 256 ≡ b → r ≡ cond b Done NoRoom → v ≡ with_calls u (cond b (forks≔ u.calls (u.calls.forks ++ (k.to ∷ []))) u.calls) →
          Pushes u v r (forks≔ u.calls (u.calls.forks ++ (k.to ∷ [])))
      go true h er ev =
          rw (er, ev) (pushes_done u _ _ (fit_is (forks≔ u.calls (u.calls.forks ++ (k.to ∷ []))) (fits u.calls f).0 (omega (arith, n, ltb-true (length u.calls.forks) 256 h))) refl refl)
      go false h er ev =
          rw (er, ev) (pushes_full u _ _ (long_forks (forks≔ u.calls (u.calls.forks ++ (k.to ∷ []))) (omega (arith, n, ltb-false (length u.calls.forks) 256 h))) refl)

-- ---- one call, by whether it is remote

module _ (c : Circuit) (bs : List ℕ) (k : Call) (b : Bool) (eb : b ≡ k.remote) where
  remote_kept : b ≡ true → stack_before (k ∷ []) (units c bs).calls ≡ (units c bs).calls
  unfolding stack_before keep if◌then◌otherwise◌
  remote_kept t = rw (sym eb ∙ t)

  other_kept : b ≡ false → forks_behind (k ∷ []) (units c bs).calls ≡ (units c bs).calls
  unfolding forks_behind keep if◌then◌otherwise◌
  other_kept t = rw (sym eb ∙ t) (ap (forks≔ (units c bs).calls) (append-nil (units c bs).calls.forks))

  fork_is : b ≡ true → forks_behind (k ∷ []) (units c bs).calls ≡ forks≔ (units c bs).calls ((units c bs).calls.forks ++ (k.to ∷ []))
  unfolding forks_behind keep if◌then◌otherwise◌
  fork_is t = rw (sym eb ∙ t)

  stack_is : b ≡ false → stack_before (k ∷ []) (units c bs).calls ≡ stack≔ (units c bs).calls (k.to ∷ (units c bs).calls.stack)
  unfolding stack_before keep if◌then◌otherwise◌
  stack_is t = rw (sym eb ∙ t)

  both_fork : b ≡ true → stack_before (k ∷ []) (forks_behind (k ∷ []) (units c bs).calls) ≡ forks_behind (k ∷ []) (units c bs).calls
  unfolding stack_before keep if◌then◌otherwise◌
  both_fork t = rw (sym eb ∙ t)

  pub fork_none : b ≡ false → Pushes (units c bs) (units c bs) Done (forks_behind (k ∷ []) (units c bs).calls)
  fork_none t = rw (other_kept t) (pushes_done (units c bs) (units c bs) (units c bs).calls (held_fit c bs) refl refl)

  pub stack_none : b ≡ true → Pushes (units c bs) (units c bs) Done (stack_before (k ∷ []) (units c bs).calls)
  stack_none t = rw (remote_kept t) (pushes_done (units c bs) (units c bs) (units c bs).calls (held_fit c bs) refl refl)

  module _ (bs₁ : List ℕ) (r : Filed) (i : ℕ) where
    pub fork_one :
        b ≡ true → i ≡ k.to → (r ≡ fits_one (units c bs).calls.forks) × (units c bs₁ ≡ with_calls (units c bs) (forked i (units c bs).calls)) →
        Pushes (units c bs) (units c bs₁) r (forks_behind (k ∷ []) (units c bs).calls)
    fork_one t ei e =
        rw (fork_is t) (fork_added (units c bs) (units c bs₁) r k (held_fit c bs) (e.0, e.1 ∙ ap (λ (j : ℕ). with_calls (units c bs) (forked j (units c bs).calls)) ei))

    pub stack_one :
        b ≡ false → i ≡ k.to → (r ≡ fits_one (units c bs).calls.stack) × (units c bs₁ ≡ with_calls (units c bs) (called i (units c bs).calls)) →
        Pushes (units c bs) (units c bs₁) r (stack_before (k ∷ []) (units c bs).calls)
    stack_one t ei e =
        rw (stack_is t) (stack_added (units c bs) (units c bs₁) r k (held_fit c bs) (e.0, e.1 ∙ ap (λ (j : ℕ). with_calls (units c bs) (called j (units c bs).calls)) ei))

    pub one_fork :
        b ≡ true → i ≡ k.to → (r ≡ fits_one (units c bs).calls.forks) × (units c bs₁ ≡ with_calls (units c bs) (forked i (units c bs).calls)) →
        Pushes (units c bs) (units c bs₁) r (stack_before (k ∷ []) (forks_behind (k ∷ []) (units c bs).calls))
    one_fork t ei e = rw (both_fork t) (fork_one t ei e)

    pub one_call :
        b ≡ false → i ≡ k.to → (r ≡ fits_one (units c bs).calls.stack) × (units c bs₁ ≡ with_calls (units c bs) (called i (units c bs).calls)) →
        Pushes (units c bs) (units c bs₁) r (stack_before (k ∷ []) (forks_behind (k ∷ []) (units c bs).calls))
    one_call t ei e = rw (other_kept t) (stack_one t ei e)
