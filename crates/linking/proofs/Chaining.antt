-- What the functions over chains cite.
use Prim.Native.Nat.{ℕ, zero, suc, ◌+◌, ◌-◌, ◌≤◌, ◌<◌}
use mathlib.Core.Path.{◌≡◌, refl, ap, ◌∙◌}
use mathlib.Core.Bool.{Bool, true, false}
use mathlib.Core.List.{List, [], ◌∷◌, map}
use native.Mathlib.Nat.{add-zero, zero-add}
use native.Mathlib.Omega.{arith}
use borrow.Author.Tests.{lt-ltb, le-ltb, eq-eqb, ne_eqb}
use lib.Dec.{ltb}
use lib.ListN.{length, get_or, set, replicate, length-map}
use lib.Seq.{sets}
use Rattle.std.proofs.lemmas.List.{length-replicate}
use Rattle.model.specs.Base.{if◌then◌otherwise◌}
use Rattle.links.specs.Links.{packed}
use Rattle.linking.specs.Building.{below, chains, chained, all_chained, chain, chain_at, size_at, target, row_of}
use Rattle.linking.specs.declared.chains.Chains.{Chains}
use Rattle.linking.proofs.Loops.{below_mono}

-- ---- making chains

pub one_chained : (hs ns hs₁ ns₁ : List ℕ) (i k h : ℕ) → h ≡ get_or hs k 0 → ns₁ ≡ set ns i h → hs₁ ≡ set hs k i → chains hs₁ ns₁ ≡ chained (chains hs ns) i k
unfolding chained
one_chained hs ns hs₁ ns₁ i k h e e₁ e₂ = rw (e₁, e, e₂)

-- n places are filled anew
pub refilled : (n a b : ℕ) (xs ys : List ℕ) → xs ≡ replicate n a → ys ≡ replicate (length xs) b → ys ≡ replicate n b
refilled n a b xs ys e f = f ∙ ap (λ m. replicate m b) (ap length e ∙ length-replicate n a)

pub chain_next : (key : ℕ → ℕ) (s s₁ r : Chains) (i k : ℕ) → 0 < i → k ≡ key (i - 1) → s₁ ≡ chained s (i - 1) k → all_chained key i s ≡ r → all_chained key (i - 1) s₁ ≡ r
unfolding all_chained
chain_next key s s₁ r zero k h e e₁ q = absurd (omega arith)
chain_next key s s₁ r (suc i) k h e e₁ q =
    let d : suc i - 1 ≡ i = omega arith in
    rw (e₁, e, d) q

pub chain_last : (key : ℕ → ℕ) (s r : Chains) (i : ℕ) → i ≤ 0 → all_chained key i s ≡ r → s ≡ r
unfolding all_chained
chain_last key s r zero h q = q
chain_last key s r (suc i) h q = absurd (omega arith)

-- ---- along a chain

module _ (next : List ℕ) where
  walk_in : (n k p : ℕ) → k < n → p < length next → chain next (n - k) p ≡ p ∷ chain next (n - (k + 1)) (get_or next p 0)
  unfolding chain
  walk_in n k p h l =
      let e : n - k ≡ suc (n - (k + 1)) = omega arith in
      rw e (rw (lt-ltb p (length next) l, chain))

  walk_end : (n p : ℕ) → length next ≤ p → chain next n p ≡ []
  unfolding chain
  walk_end zero p l = refl
  walk_end (suc n) p l = rw (le-ltb p (length next) l, chain)

  walk_out : (n k p : ℕ) → n ≤ k → chain next (n - k) p ≡ []
  unfolding chain
  walk_out n k p h =
      let e : n - k ≡ 0 = omega arith in
      rw e

  pub chain_most : (n p : ℕ) → length (chain next n p) ≤ n
  unfolding chain
  chain_most zero p = omega arith
  chain_most (suc n) p = go (ltb p (length next)) (chain_most n (get_or next p 0))
    where
      go : (b : Bool) → length (chain next n (get_or next p 0)) ≤ n → length {A = ℕ} (elim b as (λ _. List ℕ) [ true ↦ p ∷ chain next n (get_or next p 0) | false ↦ [] ]) ≤ suc n
      go true h = omega arith
      go false h = omega arith

  -- counting
  pub size_next : (r k p : ℕ) → k < 640 → p < length next → k + length (chain next (640 - k) p) ≡ r → k + 1 + length (chain next (640 - (k + 1)) (get_or next p 0)) ≡ r
  size_next r k p h l q = omega (arith, q, ap length (walk_in 640 k p h l))

  pub size_end : (r k p : ℕ) → length next ≤ p → k + length (chain next (640 - k) p) ≡ r → k ≡ r
  size_end r k p l q = omega (arith, q, ap length (walk_end (640 - k) p l))

  pub size_out : (r k p : ℕ) → 640 ≤ k → k + length (chain next (640 - k) p) ≡ r → k ≡ r
  size_out r k p h q = omega (arith, q, ap length (walk_out 640 k p h))

  -- writing
  module _ (f : ℕ → ℕ) (base : ℕ) where
    pub write_next :
        (l l₁ r : List ℕ) (k p v : ℕ) → k < 640 → p < length next → v ≡ f p → l₁ ≡ set l (base + k) v → sets l (base + k) (map f (chain next (640 - k) p)) ≡ r →
        sets l₁ (base + (k + 1)) (map f (chain next (640 - (k + 1)) (get_or next p 0))) ≡ r
    write_next l l₁ r k p v h m e e₁ q =
        let s : base + (k + 1) ≡ suc (base + k) = omega arith in
        rw (e₁, e, s) (rw (walk_in 640 k p h m) at q)

    pub write_end : (l r : List ℕ) (k p : ℕ) → length next ≤ p → sets l (base + k) (map f (chain next (640 - k) p)) ≡ r → l ≡ r
    write_end l r k p h q = rw (walk_end (640 - k) p h) at q

    pub write_out : (l r : List ℕ) (k p : ℕ) → 640 ≤ k → sets l (base + k) (map f (chain next (640 - k) p)) ≡ r → l ≡ r
    write_out l r k p h q = rw (walk_out 640 k p h) at q

-- where a walk of chain o begins
pub size_first : (hs ns : List ℕ) (o p : ℕ) → p ≡ get_or hs o 0 → 0 + length (chain ns (640 - 0) p) ≡ size_at (chains hs ns) o
unfolding size_at chain_at
size_first hs ns o p e = rw (zero-add (length (chain ns (640 - 0) p)), e)

pub write_first : (f : ℕ → ℕ) (base : ℕ) (l hs ns : List ℕ) (o p : ℕ) → p ≡ get_or hs o 0 → sets l (base + 0) (map f (chain ns (640 - 0) p)) ≡ sets l base (map f (chain_at (chains hs ns) o))
unfolding chain_at
write_first f base l hs ns o p e = rw (add-zero base, e)

pub size_most : (c : Chains) (o : ℕ) → size_at c o ≤ 640
unfolding size_at chain_at
size_most c o = chain_most c.next 640 (get_or c.heads o 0)

-- ---- a member's target

pub target_itself : (ws : List ℕ) (t i : ℕ) → t ≡ 0 → i ≡ target ws t i
unfolding target if◌then◌otherwise◌
target_itself ws t i e = rw (eq-eqb t 0 e)

pub target_word : (ws : List ℕ) (t i v : ℕ) → (t ≡ 0 → ⊥) → v ≡ get_or ws (t + i) 0 → v ≡ target ws t i
unfolding target if◌then◌otherwise◌
target_word ws t i v h e = rw (ne_eqb t 0 h) e

-- ---- rows

pub written_size : (ws : List ℕ) (t : ℕ) (c : Chains) (o : ℕ) → length (map (target ws t) (chain_at c o)) ≡ size_at c o
unfolding size_at
written_size ws t c o = length-map (chain_at c o) (target ws t)

pub row_is : (f g : ℕ → ℕ) (o i a k b v : ℕ) → i ≡ below f o → a ≡ f o → k ≡ below g o → b ≡ g o → v ≡ packed i a k b → v ≡ row_of f g o
unfolding row_of
row_is f g o i a k b v ei ea ek eb e = rw (e, ei, ea, ek, eb)

pub size_small : (c : Chains) (o a : ℕ) → a ≡ size_at c o → a < 65536
size_small c o a e = omega (arith, size_most c o)

pub start_small : (f : ℕ → ℕ) (o n x : ℕ) → o ≤ n → below f n < 65536 → x ≡ below f o → x < 65536
start_small f o n x h l e = omega (arith, below_mono f o n h)
