-- What is known of bytes and of words that were read.
use Rattle.std.specs.Prelude.{ℕ, ◌≤◌, ◌≡◌, Bool, true, List, length, take, Option, None}

-- `&xs[..n]` is in bounds and has n bytes
abbrev pub IsPrefixLen : ℕ → List ℕ → Type 0
IsPrefixLen n xs = (n ≤ length xs) × (n ≡ length (take n xs))

-- one that was not there whole counts as 0
abbrev pub MissingIs0 : Option ℕ → ℕ → Type 0
MissingIs0 w n = w ≡ None → n ≡ 0

-- so many that were there have room in a buffer
abbrev pub HasRoom : Bool → ℕ → List ℕ → Type 0
HasRoom there n buffer = there ≡ true → n ≤ length buffer
