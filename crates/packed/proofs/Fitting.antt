-- The front of a buffer.
use Prim.Native.Nat.{ℕ, ◌≤◌}
use mathlib.Core.Path.{◌≡◌, sym}
use mathlib.Core.Bool.{false}
use mathlib.Core.List.{List}
use native.Mathlib.Omega.{arith}
use lib.Dec.{ltb}
use borrow.Author.Tests.{ltb-false}
use lib.ListN.{length, take}
use lib.Seq.{length-take-le}

-- what is not above the room of a buffer lies in it
pub fitting : (l : List ℕ) (m n : ℕ) → m ≡ length l → ltb m n ≡ false → n ≤ length l
fitting l m n e h = let k : n ≤ m = ltb-false m n h in omega arith

-- and has that length
pub front : (l : List ℕ) (n : ℕ) → n ≤ length l → n ≡ length (take n l)
front l n h = sym (length-take-le n l h)
