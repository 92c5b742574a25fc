-- Laws of `ring`: its length, its first and its last, and what a change of one slot does.
use Prim.Native.Nat.{ℕ, zero, suc, ◌+◌, ◌%◌, ◌<◌}
use mathlib.Core.Path.{◌≡◌, refl, ap, ◌∙◌}
use mathlib.Core.List.{List, [], ◌∷◌, ◌++◌}
use native.Mathlib.Omega.{arith}
use lib.ListN.{length}
use Rattle.model.specs.Base.{snoc}
use Rattle.queue.specs.Queue.{ring}

module _ {A : Type 0} where
  -- n slots
  pub ring_length : (f : ℕ → A) (h n : ℕ) → length (ring f h n) ≡ n
  unfolding ring
  ring_length f h zero = refl
  ring_length f h (suc n) = ap suc (ring_length f (suc h) n)

  -- the first counts by its remainder alone
  pub ring_first : (f : ℕ → A) (h k n : ℕ) → h % 256 ≡ k % 256 → ring f h n ≡ ring f k n
  unfolding ring
  ring_first f h k zero e = refl
  ring_first f h k (suc n) e =
      let d : suc h % 256 ≡ suc k % 256 = omega arith in
      λ j. f (e j) ∷ ring_first f (suc h) (suc k) n d j

  -- the last of them
  pub ring_last : (f : ℕ → A) (h n : ℕ) → ring f h (suc n) ≡ snoc (ring f h n) (f ((h + n) % 256))
  unfolding ring snoc
  ring_last f h zero = let e : h % 256 ≡ (h + 0) % 256 = omega arith in ap (λ (s : ℕ). f s ∷ []) e
  ring_last f h (suc n) =
      let e : (suc h + n) % 256 ≡ (h + suc n) % 256 = omega arith in
      ap (λ (r : List A). f (h % 256) ∷ r) (ring_last f (suc h) n ∙ ap (λ (s : ℕ). ring f (suc h) n ++ (f s ∷ [])) e)

  -- two rings that differ in slot p alone
  module _ (f g : ℕ → A) (p : ℕ) (others : (s : ℕ) → s < 256 → (s ≡ p → ⊥) → g s ≡ f s) where
    -- where p is none of the slots
    pub ring_apart : (h n : ℕ) → ((j : ℕ) → j < n → (h + j) % 256 ≡ p → ⊥) → ring g h n ≡ ring f h n
    unfolding ring
    ring_apart h zero d = refl
    ring_apart h (suc n) d =
        let e : (h + 0) % 256 ≡ h % 256 = omega arith in
        let a : g (h % 256) ≡ f (h % 256) = others (h % 256) (omega arith) (λ q. d 0 (omega arith) (e ∙ q)) in
        let r : ring g (suc h) n ≡ ring f (suc h) n =
        ring_apart (suc h) n (λ j l q. d (suc j) (omega arith) (let s : (h + suc j) % 256 ≡ (suc h + j) % 256 = omega arith in s ∙ q)) in
        λ j. a j ∷ r j

  -- two rings with the same slots
  pub ring_same : (f g : ℕ → A) (h n : ℕ) → ((s : ℕ) → g s ≡ f s) → ring g h n ≡ ring f h n
  ring_same f g h n e = ring_apart f g 256 (λ s u d. e s) h n (λ j u q. omega arith)

  -- one more slot, behind the last
  pub ring_put : (f g : ℕ → A) (h n : ℕ) (x : A) → n < 256 → ((s : ℕ) → s < 256 → (s ≡ (h + n) % 256 → ⊥) → g s ≡ f s) → g ((h + n) % 256) ≡ x
      → ring g h (suc n) ≡ snoc (ring f h n) x
  unfolding snoc
  ring_put f g h n x l others e =
      ring_last g h n ∙ (λ j. ring_apart f g ((h + n) % 256) others h n (λ i m q. omega arith) j ++ (e j ∷ []))

  -- the slot before the first is none of fewer than 256
  pub ring_behind : (f g : ℕ → A) (h n : ℕ) → n < 256 → ((s : ℕ) → s < 256 → (s ≡ h % 256 → ⊥) → g s ≡ f s) → ring g (suc h) n ≡ ring f (suc h) n
  ring_behind f g h n l others = ring_apart f g (h % 256) others (suc h) n (λ i m q. omega arith)
