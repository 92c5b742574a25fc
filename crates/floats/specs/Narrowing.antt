-- What a step of narrowing works out.
use Rattle.std.specs.Prelude.{◌≡◌, ℕ, ◌+◌, Bool, cond, to_bits}
use Rattle.std.specs.Float.{binary32, binary64}
use Rattle.std.specs.Float.Ieee.{of_fields}
use Rattle.model.specs.Value.{nearest32}

-- r is the f32 bits, but for the sign, that the f64 with the exponent's field x and the digits t narrows to: whatever its sign is.
abbrev pub NarrowsTo : ℕ → ℕ → ℕ → Type 0
NarrowsTo x t r = (s : Bool) → cond s 2147483648 0 + r ≡ to_bits binary32 (nearest32 (of_fields binary64 s x t))
