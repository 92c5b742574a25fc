-- The call: its questions, what is told, and one law for each way out.
use Prim.Native.Nat.{ℕ, zero, suc, ◌≤◌, ◌<◌}
use mathlib.Core.Path.{◌≡◌, refl, sym, ap, ◌∙◌}
use mathlib.Core.Bool.{Bool, true, false, not, ◌&&◌}
use mathlib.Core.List.{List, [], ◌∷◌}
use mathlib.Core.Option.{none}
use native.Mathlib.Omega.{arith}
use lib.ListN.{set}
use lib.Seq.{take-length}
use borrow.Author.Tests.{not-true, not-false, le-leb, lt-leb}
use Rattle.words.specs.Words.{words}
use Rattle.model.specs.Base.{if◌then◌otherwise◌, among}
use Rattle.model.specs.Circuit.{Circuit, circuit}
use Rattle.model.specs.Script.{most_ticks}
use Rattle.model.specs.Questions.{circuit_refusal, or_else, within}
use Rattle.model.specs.Several.{over}
use Rattle.model.proofs.Lists.{if_both}
use Rattle.links.specs.Links.{net}
use Rattle.circuit.specs.Refusals.{links_after}
use Rattle.circuit.proofs.Order.{first_number, later_number}
use Rattle.circuit.proofs.Theorems.{links_are_circuit}
use Rattle.figures.specs.Figures.{no_ring, no_loop, most_unit_steps, most_log_bytes, ring_or_loop, wrong_ticks, size_refusal, Size, refused, figures, size_by, size, size_number, size_told}
use Rattle.figures.proofs.Gates.{adds_up}
use Rattle.figures.proofs.Theorems.{no_run_exceeds}
use Rattle.size.specs.Call.{numbers, Right}

-- ---- which numbers there are

numbered : (s : List ℕ) (T : ℕ) → among (size_number (size s T)) numbers ≡ true
unfolding size size_by size_refusal circuit_refusal or_else size_number among
numbered s T =
    let c = circuit (words s) in
    let P : ℕ → Type 0 = λ n. among (size_number (size_by n s T)) numbers ≡ true in
    let Q : ℕ → Type 0 = λ n. P (or_else n (if not (no_ring c && no_loop c) then ring_or_loop otherwise if not (within 0 most_ticks T) then wrong_ticks otherwise 0)) in
    let last : Q 0 = if_both P _ refl (if_both P _ refl refl) in
    if_both Q _ refl (if_both Q _ refl (if_both Q _ refl (if_both Q _ refl (if_both Q _ refl (if_both Q _ refl (if_both Q _ refl (if_both Q _ refl last)))))))

-- ---- what is told

-- two words over those that were there
two_told : (told : List ℕ) (x y : ℕ) → set (set told 0 x) 1 y ≡ over (x ∷ y ∷ []) told
unfolding over
two_told [] x y = refl
two_told (a ∷ []) x y = refl
two_told (a ∷ b ∷ told) x y = ap (λ (l : List ℕ). x ∷ y ∷ l) (sym (take-length told))

module _ (s : List ℕ) (T : ℕ) (told : List ℕ) where
  abbrev c : Circuit
  c = circuit (words s)

  -- what holds of every call
  right : {left : List ℕ} {r : ℕ} → r ≡ size_number (size s T) → left ≡ size_told (size s T) told → Right s T told left r
  right n w = record { number = n; told_words = w; numbers = numbered s T; adds_up = adds_up c; within = no_run_exceeds s T }

  -- a call that is refused leaves all as it was
  right_refused : (n : ℕ) → n ≡ size_refusal s T → (n ≡ 0 → ⊥) → Right s T told told n
  unfolding size size_by size_number size_told
  right_refused n e h =
      let a : size s T ≡ refused n = ap (λ (m : ℕ). size_by m s T) (sym e) ∙ go n h in
      right (ap size_number (sym a)) (ap (λ (x : Size). size_told x told) (sym a))
    where
      go : (m : ℕ) → (m ≡ 0 → ⊥) → size_by m s T ≡ refused m
      go zero h = absurd (h refl)
      go (suc m) h = refl

  -- by the circuit's own questions
  pub refused_first : (n : ℕ) (l made : List ℕ) → (n ≡ circuit_refusal none s) × (made ≡ links_after s l) → (n ≡ 0 → ⊥) → Right s T told told n
  unfolding size_refusal
  refused_first n l made a h = right_refused n (first_number n _ _ a.0 h) h

  module _ (n : ℕ) (l made : List ℕ) (a : (n ≡ circuit_refusal none s) × (made ≡ links_after s l)) (z : n ≡ 0) where
    shows : net made ≡ c
    shows = links_are_circuit none s l made (sym a.0 ∙ z) a.1

    -- the number, once those questions are passed
    later : (m : ℕ) (r p : Bool) → r ≡ no_ring (net made) → p ≡ no_loop (net made) → (b : Bool) → within 0 most_ticks T ≡ b →
        m ≡ (if not (r && p) then ring_or_loop otherwise if not b then wrong_ticks otherwise 0) → m ≡ size_refusal s T
    unfolding size_refusal
    later m r p er ep b eb e =
        let x : r ≡ no_ring c = er ∙ ap no_ring shows in
        let y : p ≡ no_loop c = ep ∙ ap no_loop shows in
        later_number n m _ _ a.0 z (rw (← x, ← y, eb) e)

    -- by 23: a ring, or a Loop
    pub refused_ring : (r : Bool) → r ≡ no_ring (net made) → not r ≡ true → Right s T told told ring_or_loop
    unfolding if◌then◌otherwise◌
    refused_ring r er h = right_refused ring_or_loop (later ring_or_loop r (no_loop (net made)) er refl (within 0 most_ticks T) refl (rw (not-true r h))) (λ e. omega (arith, e))

    module _ (r : Bool) (er : r ≡ no_ring (net made)) (h : not r ≡ false) (p : Bool) (ep : p ≡ no_loop (net made)) where
      pub refused_loop : not p ≡ true → Right s T told told ring_or_loop
      unfolding if◌then◌otherwise◌
      refused_loop k = right_refused ring_or_loop (later ring_or_loop r p er ep (within 0 most_ticks T) refl (rw (not-false r h, not-true p k))) (λ e. omega (arith, e))

      module _ (k : not p ≡ false) where
        -- by 24
        pub refused_ticks : most_ticks < T → Right s T told told wrong_ticks
        unfolding if◌then◌otherwise◌ within
        refused_ticks q =
            right_refused wrong_ticks (later wrong_ticks r p er ep false (rw (le-leb 0 T (omega arith), lt-leb T most_ticks q)) (rw (not-false r h, not-false p k))) (λ e. omega (arith, e))

        -- both figures are told
        pub figures_told :
            T ≤ most_ticks → (x y : ℕ) (t₁ t₂ : List ℕ) → x ≡ most_unit_steps (net made) → t₁ ≡ set told 0 x → y ≡ most_log_bytes (net made) T → t₂ ≡ set t₁ 1 y → Right s T told t₂ 0
        unfolding if◌then◌otherwise◌ within size size_by size_number size_told
        figures_told q x y t₁ t₂ ex e₁ ey e₂ =
            let e : 0 ≡ size_refusal s T = later 0 r p er ep true (rw (le-leb 0 T (omega arith), le-leb T most_ticks q)) (rw (not-false r h, not-false p k)) in
            let o : size s T ≡ figures x y =
            ap (λ (m : ℕ). size_by m s T) (sym e) ∙ (λ j. figures ((ap most_unit_steps (sym shows) ∙ sym ex) j) ((ap (λ (d : Circuit). most_log_bytes d T) (sym shows) ∙ sym ey) j))
            in
            right (ap size_number (sym o)) (e₂ ∙ (λ j. set (e₁ j) 1 y) ∙ two_told told x y ∙ ap (λ (v : Size). size_told v told) (sym o))
