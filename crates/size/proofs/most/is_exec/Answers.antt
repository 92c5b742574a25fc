use mathlib.Core.Path.{refl}
use mathlib.Core.List.{[], ◌∷◌}
use mathlib.Core.Bool.{true, false}
use Rattle.model.specs.Base.{all}
use Rattle.kinds.specs.Pins.{out_of}
use Rattle.circuit.proofs.Cases.{out_arm, agrees}
use Rattle.figures.specs.Figures.{is_exec}
use borrow.Enum.Refused.{opened}
use Rattle.size.proofs.most.is_exec.Goals as goal

pub returns-in-Fires : goal.returns-in-Fires
unfolding out_of all agrees is_exec
returns-in-Fires c = out_arm (λ o. is_exec (out_of o)) true (0 ∷ []) refl c.args.out c.in-Fires.in-Fires-own.keys1

pub returns-in_default : goal.returns-in_default
unfolding out_of all agrees is_exec
returns-in_default c = out_arm (λ o. is_exec (out_of o)) false (1 ∷ 2 ∷ []) refl c.args.out (opened c.in_default.in_default-own.keys2)
