-- The step of a gate by its kind: one law for each arm of the match.
use Prim.Native.Nat.{ℕ, suc, ◌-◌, ◌<◌, ◌≤◌}
use mathlib.Core.Path.{◌≡◌, refl, ap, ◌∙◌}
use mathlib.Core.Bool.{Bool, true, false}
use mathlib.Core.List.{List, [], ◌∷◌}
use mathlib.Core.Logic.{◌⊎◌, inl, inr, ⊎_elim}
use native.Mathlib.Omega.{arith}
use borrow.Author.Tests.{leb-true, leb-false, ne_eqb}
use lib.Dec.{leb, eqb}
use lib.ListN.{length, get_or}
use types.Run.{OneOf}
use Rattle.model.specs.Base.{if◌then◌otherwise◌}
use Rattle.model.specs.Circuit.{Circuit, kind_of_gate, input, output}
use Rattle.model.specs.Questions.{within}
use Rattle.model.specs.State.{State}
use Rattle.model.specs.Exec.{Stepped, exec-Buffer, exec-Stopwatch, exec-Queue, exec-VarGet, exec-VarSet, exec-Branch, exec-Union, exec-Toggle, exec-Cycle, exec-SendEvent, exec-Break, exec_kind, exec_gate}
use Rattle.states.specs.View.{is_queue, queue_countdown, Lent}
use Rattle.areas.specs.Areas.{Contents, areas, with_state}
use Rattle.steps.specs.Steps.{Entered, Makes, Step}
use Rattle.steps.proofs.Making.{Fires, Ends, makes_as, makes_passes, makes_ends}

-- ---- kinds in a row

-- none of the kinds that have an arm of their own
abbrev pub Others : ℕ → Type 0
Others k =
    (((((((((Unit {0} × (OneOf (2 ∷ []) k → ⊥)) × (OneOf (11 ∷ 13 ∷ []) k → ⊥)) × (OneOf (15 ∷ []) k → ⊥)) × (OneOf (18 ∷ []) k → ⊥)) × (OneOf (19 ∷ []) k → ⊥)) × (OneOf (20 ∷ []) k → ⊥))
    × (OneOf (21 ∷ []) k → ⊥)) × (OneOf (22 ∷ []) k → ⊥)) × (OneOf (23 ∷ []) k → ⊥)) × (OneOf (31 ∷ []) k → ⊥)

above : (n k : ℕ) → n ≤ k → (k ≡ n → ⊥) → suc n ≤ k
above n k h f = go (leb k n) refl
  where
    go : (b : Bool) → leb k n ≡ b → suc n ≤ k
    go true e = let l : k ≤ n = leb-true k n e in absurd (f (omega arith))
    go false e = let l : n < k = leb-false k n e in l

either : (n k : ℕ) → n ≤ k → k ≤ suc n → (k ≡ n) ⊎ (k ≡ suc n)
either n k h t = go (leb k n) refl
  where
    go : (b : Bool) → leb k n ≡ b → (k ≡ n) ⊎ (k ≡ suc n)
    go true e = let l : k ≤ n = leb-true k n e in inl (omega arith)
    go false e = let l : n < k = leb-false k n e in inr (omega arith)

-- 16 or 17
pub queue_kinds : (k : ℕ) → Others k → 15 ≤ k → k < 18 → OneOf (16 ∷ 17 ∷ []) k
queue_kinds k n h l = either 16 k (above 15 k h n.0.0.0.0.0.0.0.1) (omega arith)

-- 24 or 25
pub send_kinds : (k : ℕ) → Others k → 18 ≤ k → k < 26 → OneOf (24 ∷ 25 ∷ []) k
send_kinds k n h l =
    either 24 k
    (above 23 k (above 22 k (above 21 k (above 20 k (above 19 k (above 18 k h n.0.0.0.0.0.0.1) n.0.0.0.0.0.1) n.0.0.0.0.1) n.0.0.0.1) n.0.0.1) n.0.1)
    (omega arith)

-- an area of small states stays one
pub lent_kept : (c : Circuit) (vs us ds vs₁ us₁ ds₁ : List ℕ) (s : State) → Lent c ds → length ds₁ ≡ length ds → areas c vs₁ us₁ ds₁ ≡ with_state (areas c vs us ds) s → Lent c ds₁
lent_kept c vs us ds vs₁ us₁ ds₁ s h l e =
    record {
      room = omega (arith, h.room, l);
      parted = λ g q. ap (λ (a : Contents). get_or a.kept.parts g 0) e ∙ h.parted g q;
    }

-- kinds 16 and 17 are Queues
pub queue_kind : (c : Circuit) (g k : ℕ) → k ≡ kind_of_gate c g → OneOf (16 ∷ 17 ∷ []) k → is_queue c g ≡ true
unfolding is_queue within
queue_kind c g k e h = rw (← e) (⊎_elim (λ (z : k ≡ 16). rw z) (λ (z : k ≡ 17). rw z) h)

module _ (c : Circuit) (inside : Bool) (i g k : ℕ) (a b : Contents) (r : Step) (e : Entered c i g k) where
  by_kind : (d : Stepped) → exec_kind c inside k a.state g (i - input c g 0) ≡ d → Makes a b r d → Makes a b r (exec_gate c inside a.state i)
  unfolding exec_gate
  by_kind d h m = makes_as a b r d _ (rw (← e.gate, ← e.kind) h) m

  pub on_buffer : OneOf (11 ∷ 13 ∷ []) k → Makes a b r (exec-Buffer c a.state g) → Makes a b r (exec_gate c inside a.state i)
  unfolding exec_kind if◌then◌otherwise◌
  on_buffer h m = by_kind _ (⊎_elim (λ (z : k ≡ 11). rw z) (λ (z : k ≡ 13). rw z) h) m

  pub on_stopwatch : (p : ℕ) → k ≡ 15 → p ≡ i - input c g 0 → Makes a b r (exec-Stopwatch c a.state g p) → Makes a b r (exec_gate c inside a.state i)
  unfolding exec_kind if◌then◌otherwise◌
  on_stopwatch p h ep m = by_kind _ (rw (h, ← ep)) m

  pub on_queue : OneOf (16 ∷ 17 ∷ []) k → Makes a b r (exec-Queue c a.state g (queue_countdown (eqb (kind_of_gate c g) 17))) → Makes a b r (exec_gate c inside a.state i)
  unfolding exec_kind if◌then◌otherwise◌ queue_countdown
  on_queue h m = by_kind _ (rw (← e.kind) (⊎_elim (λ (z : k ≡ 16). rw z) (λ (z : k ≡ 17). rw z) h)) m

  pub on_var_get : k ≡ 18 → Makes a b r (exec-VarGet c a.state g) → Makes a b r (exec_gate c inside a.state i)
  unfolding exec_kind if◌then◌otherwise◌
  on_var_get h m = by_kind _ (rw h) m

  pub on_var_set : k ≡ 19 → Makes a b r (exec-VarSet c inside a.state g) → Makes a b r (exec_gate c inside a.state i)
  unfolding exec_kind if◌then◌otherwise◌
  on_var_set h m = by_kind _ (rw h) m

  pub on_branch : k ≡ 20 → Makes a b r (exec-Branch c a.state g) → Makes a b r (exec_gate c inside a.state i)
  unfolding exec_kind if◌then◌otherwise◌
  on_branch h m = by_kind _ (rw h) m

  pub on_union : k ≡ 21 → Makes a b r (exec-Union c a.state g) → Makes a b r (exec_gate c inside a.state i)
  unfolding exec_kind if◌then◌otherwise◌
  on_union h m = by_kind _ (rw h) m

  pub on_toggle : k ≡ 22 → Makes a b r (exec-Toggle c a.state g) → Makes a b r (exec_gate c inside a.state i)
  unfolding exec_kind if◌then◌otherwise◌
  on_toggle h m = by_kind _ (rw h) m

  pub on_cycle : (p : ℕ) → k ≡ 23 → p ≡ i - input c g 0 → Makes a b r (exec-Cycle c a.state g p) → Makes a b r (exec_gate c inside a.state i)
  unfolding exec_kind if◌then◌otherwise◌
  on_cycle p h ep m = by_kind _ (rw (h, ← ep)) m

  pub on_break : k ≡ 31 → Makes a b r (exec-Break c a.state g) → Makes a b r (exec_gate c inside a.state i)
  unfolding exec_kind if◌then◌otherwise◌
  on_break h m = by_kind _ (rw h) m

  pub on_send : OneOf (24 ∷ 25 ∷ []) k → Makes a b r (exec-SendEvent c a.state g) → Makes a b r (exec_gate c inside a.state i)
  unfolding exec_kind if◌then◌otherwise◌
  on_send h m = by_kind _ (⊎_elim (λ (z : k ≡ 24). rw z) (λ (z : k ≡ 25). rw z) h) m

module _ (c : Circuit) (inside : Bool) (i g k : ℕ) (a : Contents) (e : Entered c i g k) where
  pub on_reroute : (o : ℕ) → k ≡ 2 → (o ≡ output c g 0) × (o < 131072) → Makes a a (Fires o) (exec_gate c inside a.state i)
  unfolding exec_kind if◌then◌otherwise◌
  on_reroute o h f = by_kind c inside i g k a a (Fires o) e _ (rw h) (makes_passes a o (output c g 0) f.0)

  on_others :
      (k ≡ 2 → ⊥) → (k ≡ 11 → ⊥) → (k ≡ 13 → ⊥) → (k ≡ 15 → ⊥) → (k ≡ 16 → ⊥) → (k ≡ 17 → ⊥) → (k ≡ 18 → ⊥) → (k ≡ 19 → ⊥) → (k ≡ 20 → ⊥) → (k ≡ 21 → ⊥) → (k ≡ 22 → ⊥) → (k ≡ 23 → ⊥) → (k ≡ 24 → ⊥) → (k ≡ 25 → ⊥) → (k ≡ 31 → ⊥) →
      Makes a a Ends (exec_gate c inside a.state i)
  unfolding exec_kind if◌then◌otherwise◌
  on_others h₂ h₁₁ h₁₃ h₁₅ h₁₆ h₁₇ h₁₈ h₁₉ h₂₀ h₂₁ h₂₂ h₂₃ h₂₄ h₂₅ h₃₁ =
      by_kind c inside i g k a a Ends e _
      (rw (
        ne_eqb k 2 h₂,
        ne_eqb k 11 h₁₁,
        ne_eqb k 13 h₁₃,
        ne_eqb k 15 h₁₅,
        ne_eqb k 16 h₁₆,
        ne_eqb k 17 h₁₇,
        ne_eqb k 18 h₁₈,
        ne_eqb k 19 h₁₉,
        ne_eqb k 20 h₂₀,
        ne_eqb k 21 h₂₁,
        ne_eqb k 22 h₂₂,
        ne_eqb k 23 h₂₃,
        ne_eqb k 24 h₂₄,
        ne_eqb k 25 h₂₅,
        ne_eqb k 31 h₃₁,
      ))
      (makes_ends a)

  pub on_low : Others k → k < 15 → Makes a a Ends (exec_gate c inside a.state i)
  on_low n h =
      on_others
      n.0.0.0.0.0.0.0.0.0.1 (λ z. n.0.0.0.0.0.0.0.0.1 (inl z)) (λ z. n.0.0.0.0.0.0.0.0.1 (inr z)) (λ z. omega arith) (λ z. omega arith) (λ z. omega arith) (λ z. omega arith)
      (λ z. omega arith) (λ z. omega arith) (λ z. omega arith) (λ z. omega arith) (λ z. omega arith) (λ z. omega arith) (λ z. omega arith) (λ z. omega arith)

  pub on_high : Others k → 26 ≤ k → Makes a a Ends (exec_gate c inside a.state i)
  on_high n h =
      on_others
      (λ z. omega arith) (λ z. omega arith) (λ z. omega arith) (λ z. omega arith) (λ z. omega arith) (λ z. omega arith) (λ z. omega arith)
      (λ z. omega arith) (λ z. omega arith) (λ z. omega arith) (λ z. omega arith) (λ z. omega arith) (λ z. omega arith) (λ z. omega arith) n.1
