use mathlib.Core.Bool.{true, false}
use mathlib.Core.List.{[], ◌∷◌}
use mathlib.Core.Path.{refl}
use Rattle.model.specs.Base.{all}
use Rattle.kinds.specs.Pins.{out_of}
use Rattle.circuit.proofs.Asking.{output_shows, shows_value}
use Rattle.circuit.proofs.Cases.{out_arm, agrees}
use borrow.Enum.Refused.{opened}
use Rattle.circuit.proofs.inputs.value_output.Goals as goal

pub returns-in-Shows : goal.returns-in-Shows
unfolding shows_value out_of all agrees
returns-in-Shows c = output_shows _ _ _ _ c.out_at.ensures (out_arm (λ o. shows_value (out_of o)) true (1 ∷ 2 ∷ []) refl c.out_at.result (opened c.in-Shows.in-Shows-own.keys1))

pub returns-in_default : goal.returns-in_default
unfolding shows_value out_of all agrees
returns-in_default c = output_shows _ _ _ _ c.out_at.ensures (out_arm (λ o. shows_value (out_of o)) false (0 ∷ []) refl c.out_at.result c.in_default.in_default-own.keys2)
