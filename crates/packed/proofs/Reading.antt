-- Laws of words that were read.
use Prim.Native.Nat.{ℕ, ◌≤◌}
use mathlib.Core.Path.{◌≡◌, refl}
use mathlib.Core.Bool.{Bool, true, false, not}
use native.Mathlib.Omega.{arith}

-- nothing is said where they were not there
pub not_there : (m n : ℕ) → false ≡ true → m ≤ n
not_there m n e = let z : ◌≡◌ {A = ℕ} 0 1 = cc in omega arith

-- where they were, they have room
pub were_there : (r : Bool) (m n : ℕ) → not r ≡ false → (r ≡ true → m ≤ n) → m ≤ n
were_there true m n h k = k refl
were_there false m n h k = let z : ◌≡◌ {A = ℕ} 0 1 = cc in omega arith
