-- One step among the numbers below n.
use Rattle.std.specs.Prelude.{ℕ, ◌+◌, ◌-◌, Bool, true, false, eqb}
use Rattle.model.specs.Base.{if◌then◌otherwise◌}

-- one back or one further, wrapping at the ends
unfoldable pub step : Bool → ℕ → ℕ → ℕ
step true n r = if eqb r 0 then n - 1 otherwise r - 1
step false n r = if eqb (r + 1) n then 0 otherwise r + 1
