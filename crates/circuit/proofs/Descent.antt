-- Laws of a loop that makes a word of gates, from the last gate down to the first.
use Prim.Native.Nat.{ℕ, zero, suc, ◌+◌, ◌-◌, ◌*◌, ◌^◌, ◌≤◌, ◌<◌}
use mathlib.Core.Path.{◌≡◌}
use mathlib.Core.Bool.{Bool}
use mathlib.Core.List.{map}
use native.Mathlib.Nat.{pow-suc}
use native.Mathlib.Omega.{arith}
use lib.Pow.{pow_mono}
use Rattle.model.specs.Base.{from}
use Rattle.model.specs.Value.{bit}
use Rattle.model.proofs.Lists.{bit_most}
use Rattle.circuit.specs.Gates.{word_of_bits, gates_where}

-- a word of as many digits as there are gates from g on
pub down_none : (n : ℕ) → 0 < 2 ^ (n - n)
down_none n = let e : n - n ≡ 0 = omega arith in rw e (omega arith)

pub down_room : (n g w : ℕ) → n ≤ 64 → 0 < g → w < 2 ^ (n - g) → w < 2 ^ 63
down_room n g w h l e = let m : n - g ≤ 63 = omega arith in omega (arith, pow_mono m)

pub down_more : (n g w v : ℕ) (t : Bool) → g ≤ n → 0 < g → w < 2 ^ (n - g) → v ≡ w * 2 + bit t → v < 2 ^ (n - (g - 1))
down_more n g w v t h l e f =
    let m : n - (g - 1) ≡ suc (n - g) = omega arith in
    rw m (omega (arith, pow-suc 2 (n - g), bit_most t))

module _ (p : ℕ → Bool) (n : ℕ) where
  -- the word of the gates from g on
  unfoldable pub gates_from : ℕ → ℕ
  gates_from g = word_of_bits (map p (from g (n - g)))

  pub down_first : 0 ≡ gates_from n
  unfolding gates_from word_of_bits from
  down_first = let e : n - n ≡ 0 = omega arith in rw e

  pub down_next : (g w v : ℕ) → g ≤ n → 0 < g → w ≡ gates_from g → v ≡ w * 2 + bit (p (g - 1)) → v ≡ gates_from (g - 1)
  unfolding gates_from word_of_bits from
  down_next zero w v h l e f = absurd (omega arith)
  down_next (suc g) w v h l e f =
      let a : suc g - 1 ≡ g = omega arith in
      let b : n - g ≡ suc (n - suc g) = omega arith in
      rw (f, a, b, e)

  pub down_last : (g w : ℕ) → g ≤ 0 → w ≡ gates_from g → w ≡ gates_where p n
  unfolding gates_from gates_where
  down_last zero w h e = let a : n - 0 ≡ n = omega arith in rw a at e
  down_last (suc g) w h e = absurd (omega arith)
