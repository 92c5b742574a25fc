-- Each raising takes the next number: a tick raises none that was raised before, and numbers them in the order of raising.
use mathlib.Core.Path.{◌≡◌, refl}
use mathlib.Core.List.{List, ◌++◌}
use mathlib.Core.Bool.{Bool, true, false, cond}
use Prim.Native.Nat.{ℕ, suc, ◌+◌, ◌<◌}
use native.Mathlib.Omega.{arith}
use lib.Dec.{leb, eqb}
use borrow.Author.Tests.{leb-true, leb-false, eqb-true, eqb-false, le-leb, lt-leb}
use Rattle.schedule.specs.Schedule.{numbered, Machine, Raise, When, Took, Filed, activate_late, activate_main, activate_open, next_late, next_main, Turn}
use Rattle.schedule.specs.Promise.{Raised, Played, Numbered, times, raised_by, raised}
use Rattle.schedule.proofs.Steps.{Raises, Passes, broke, done, turn}
use Rattle.schedule.proofs.Ticks.{Ticked}

-- 1 where x has yet to be given, from t on
abbrev pub coming : ℕ → ℕ → ℕ
coming x t = cond (leb t x) 1 0

coming_suc : (x t : ℕ) → cond (eqb t x) 1 0 + coming x (suc t) ≡ coming x t
coming_suc x t = go (eqb t x) refl (leb (suc t) x) refl
  where
    go : (b : Bool) → eqb t x ≡ b → (d : Bool) → leb (suc t) x ≡ d → cond b 1 0 + cond d 1 0 ≡ coming x t
    go true h true k = let z : ⊥ = omega (arith, eqb-true, leb-true) in absurd z
    go true h false k = rw (le-leb t x (omega (arith, eqb-true)))
    go false h true k = rw (le-leb t x (omega (arith, leb-true)))
    go false h false k = rw (lt-leb t x (lower (leb-false _ _ k)))
      where
        lower : x < suc t → x < t
        lower i = let n : t ≡ x → ⊥ = eqb-false t x h in omega arith

module _ (M : Machine) where
  pub numbered_append : {t t₁ t₂ : ℕ} {k l : List (Raised M)} → Numbered M t k t₁ → Numbered M t₁ l t₂ → Numbered M t (k ++ l) t₂
  numbered_append Numbered.none h = h
  numbered_append (Numbered.one r) h = Numbered.one (numbered_append r h)

  -- of a numbered list, x stands in it or has yet to be given, if it had before
  numbered_fresh : (x : ℕ) {t t₁ : ℕ} {l : List (Raised M)} → Numbered M t l t₁ → times M x l + coming x t₁ ≡ coming x t
  numbered_fresh x Numbered.none = omega arith
  numbered_fresh x (Numbered.one {e = e} r) = omega (arith, numbered_fresh x r, coming_suc x e.tag)

  module _ {P Q : Type 0} (activate : P → Raised M → Q → Filed Q) where
    raises_numbered : {rs : List (Raise M.W M.Act P)} {t t₁ : ℕ} {q q₁ : Q} {es : List (Raised M)} → Raises (numbered M) activate rs t q es t₁ q₁ → Numbered M t es t₁
    raises_numbered Raises.none = Numbered.none
    raises_numbered (Raises.one p x h r) = Numbered.one (raises_numbered r)

  module _ {Q : Type 0} (next : Q → Took (Raised M) Q) (activate : Raised M → When → Raised M → Q → Filed Q) where
    passes_numbered : {t t₁ s s₁ : ℕ} {q q₁ : Q} {us : List (Turn (numbered M))} → Passes (numbered M) next activate t q s us t₁ q₁ s₁ → Numbered M t (raised_by (numbered M) us) t₁
    passes_numbered broke = Numbered.none
    passes_numbered (done h) = Numbered.none
    passes_numbered (turn {u = u} h k b j r) = numbered_append (raises_numbered (activate u) k) (passes_numbered r)

  pub tick_numbered : {c : List (Raised M)} {t₀ : ℕ} {k : Played M} → Ticked (numbered M) c t₀ k → Numbered M t₀ (raised (numbered M) k) k.next
  tick_numbered T =
      numbered_append
      (raises_numbered (activate_open (numbered M)) T.opened)
      (numbered_append (passes_numbered (next_late (numbered M)) (activate_late (numbered M)) T.late) (passes_numbered (next_main (numbered M)) (activate_main (numbered M)) T.main))

  pub tick_fresh : (x : ℕ) {c : List (Raised M)} {t₀ : ℕ} {k : Played M} → Ticked (numbered M) c t₀ k → times M x (raised (numbered M) k) + coming x k.next ≡ coming x t₀
  tick_fresh x T = numbered_fresh x (tick_numbered T)
