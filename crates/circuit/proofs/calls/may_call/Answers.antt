use mathlib.Core.Bool.{true, false}
use mathlib.Core.List.{[], ◌∷◌}
use mathlib.Core.Path.{refl, ◌∙◌}
use borrow.Author.Tests.{le-ltb}
use Rattle.model.specs.Base.{all}
use Rattle.kinds.specs.Pins.{out_of}
use Rattle.circuit.proofs.Asking.{no_output_calls, output_calls, makes_calls}
use Rattle.circuit.proofs.Cases.{out_arm, agrees}
use borrow.Enum.Refused.{opened}
use Rattle.circuit.proofs.calls.may_call.Goals as goal

pub returns-else-o-outputs : goal.returns-else-o-outputs
returns-else-o-outputs c = le-ltb _ _ c.if-o-outputs.false ∙ no_output_calls _ _ _ c.outputs.ensures.0 c.if-o-outputs.false

pub returns-in-Fires : goal.returns-in-Fires
unfolding makes_calls out_of all agrees
returns-in-Fires c = output_calls _ _ _ c.outputs.ensures.0 _ _ c.if-o-outputs.true c.out_at.ensures (out_arm (λ o. makes_calls (out_of o)) true (0 ∷ 2 ∷ []) refl c.out_at.result (opened c.in-Fires.in-Fires-own.keys1))

pub returns-in_default : goal.returns-in_default
unfolding makes_calls out_of all agrees
returns-in_default c = output_calls _ _ _ c.outputs.ensures.0 _ _ c.if-o-outputs.true c.out_at.ensures (out_arm (λ o. makes_calls (out_of o)) false (1 ∷ []) refl c.out_at.result c.in_default.in_default-own.keys2)
