-- Taking from the check queue.
use Rattle.std.specs.Prelude.{ℕ, false, [], ◌∷◌, slice_index_or}
use Rattle.std.proofs.Math.Option.{Option, none, some}
use Rattle.model.specs.State.{Wires}
use Rattle.model.specs.Settle.{taken}
use Rattle.wires.specs.declared.checks.Check.{Check}

-- the input that waits longest
unfoldable pub oldest : Wires → Option ℕ
oldest w = elim w.to_check [ [] ↦ none | (i ∷ is) ↦ some i ]

-- with whether it is marked for a late check
unfoldable pub oldest_check : Wires → Option Check
oldest_check w = elim (oldest w) [ none ↦ none | some i ↦ some (record { input = i; late = slice_index_or w.late_checks i false }) ]

-- it is taken
unfoldable pub oldest_taken : Wires → Wires
oldest_taken w = elim w.to_check [ [] ↦ w | (i ∷ is) ↦ taken w i is ]
