-- What contracts say of places.
use Rattle.std.specs.Prelude.{ℕ, ◌≤◌}

-- a place that others can be added to
abbrev pub Near : ℕ → Type 0
Near n = n ≤ 65536
