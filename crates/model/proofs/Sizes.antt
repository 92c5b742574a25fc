-- What question 1 says of the sizes of a circuit.
use mathlib.Core.Path.{◌≡◌}
use mathlib.Core.Bool.{true, ◌&&◌}
use mathlib.Core.List.{List, [], ◌∷◌}
use Prim.Native.Nat.{ℕ, zero, suc, ◌+◌, ◌*◌, ◌%◌, ◌≤◌}
use native.Mathlib.Omega.{arith}
use lib.Dec.{leb, eqb}
use lib.ListN.{length, get_or}
use borrow.Author.Tests.{leb-true, eqb-true}
use Rattle.model.specs.Base.{all}
use Rattle.model.specs.Circuit.{word_at}
use Rattle.model.specs.Questions.{within, question_1}
use Rattle.model.proofs.Lists.{both_true}

-- ---- ranges

pub within_true : (low high w : ℕ) → within low high w ≡ true → (low ≤ w) × (w ≤ high)
unfolding within
within_true low high w e = let t = both_true (leb low w) (leb w high) e in (leb-true low w t.0, leb-true w high t.1)

-- each number of a list whose members are within a range
pub all_within : (low high : ℕ) (xs : List ℕ) → all (within low high) xs ≡ true → (i : ℕ) → get_or xs i 0 ≤ high
unfolding all
all_within low high [] h i = omega arith
all_within low high (x ∷ xs) h zero = (within_true low high x (both_true (within low high x) (all (within low high) xs) h).0).1
all_within low high (x ∷ xs) h (suc i) = all_within low high xs (both_true (within low high x) (all (within low high) xs) h).1 i

-- ---- question 1

-- The sizes of a circuit that question 1 lets through.
pub record Sizes (bytes ws : List ℕ) : Type 0 where
  pub whole : length bytes % 8 ≡ 0
  pub some_gate : 1 ≤ get_or ws 0 0
  pub gates : get_or ws 0 0 ≤ 64
  pub constants : get_or ws 1 0 ≤ 64
  pub inputs : get_or ws 2 0 ≤ 640
  pub calls : get_or ws 3 0 ≤ 256
  pub counted : length ws ≡ 4 + 2 * (get_or ws 0 0 + get_or ws 1 0 + get_or ws 2 0 + get_or ws 3 0)

pub sizes : (bytes ws : List ℕ) → question_1 bytes ws ≡ true → Sizes bytes ws
unfolding question_1 word_at
sizes bytes ws q =
    let w = eqb (length bytes % 8) 0 in
    let l = leb 4 (length ws) in
    let g = within 1 64 (get_or ws 0 0) in
    let k = within 0 64 (get_or ws 1 0) in
    let i = within 0 640 (get_or ws 2 0) in
    let c = within 0 256 (get_or ws 3 0) in
    let m = 4 + 2 * (get_or ws 0 0 + get_or ws 1 0 + get_or ws 2 0 + get_or ws 3 0) in
    let h₁ = both_true (w && l && g && k && i && c) (eqb (length ws) m) q in
    let h₂ = both_true (w && l && g && k && i) c h₁.0 in
    let h₃ = both_true (w && l && g && k) i h₂.0 in
    let h₄ = both_true (w && l && g) k h₃.0 in
    let h₅ = both_true (w && l) g h₄.0 in
    record {
      whole = eqb-true (length bytes % 8) 0 (both_true w l h₅.0).0;
      some_gate = (within_true 1 64 (get_or ws 0 0) h₅.1).0;
      gates = (within_true 1 64 (get_or ws 0 0) h₅.1).1;
      constants = (within_true 0 64 (get_or ws 1 0) h₄.1).1;
      inputs = (within_true 0 640 (get_or ws 2 0) h₃.1).1;
      calls = (within_true 0 256 (get_or ws 3 0) h₂.1).1;
      counted = eqb-true (length ws) m h₁.1;
    }
