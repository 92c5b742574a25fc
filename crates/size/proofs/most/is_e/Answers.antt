use mathlib.Core.Path.{refl}
use mathlib.Core.List.{[], ◌∷◌}
use mathlib.Core.Bool.{true, false}
use Rattle.model.specs.Base.{all}
use Rattle.model.specs.Kinds.{exec, exec_only, value, watched, route, set_to}
use Rattle.kinds.specs.Pins.{in_of}
use Rattle.circuit.proofs.Cases.{pin_arm, agrees}
use Rattle.figures.specs.Figures.{is-E}
use borrow.Enum.Refused.{opened}
use Rattle.size.proofs.most.is_e.Goals as goal

pub returns-in-Exec : goal.returns-in-Exec
unfolding in_of exec exec_only value watched route set_to all agrees is-E
returns-in-Exec c = pin_arm (λ p. is-E (in_of p)) true (0 ∷ 1 ∷ []) refl c.args.pin c.in-Exec.in-Exec-own.keys1

pub returns-in_default : goal.returns-in_default
unfolding in_of exec exec_only value watched route set_to all agrees is-E
returns-in_default c = pin_arm (λ p. is-E (in_of p)) false (2 ∷ 3 ∷ 4 ∷ 5 ∷ 6 ∷ 7 ∷ 8 ∷ 9 ∷ 10 ∷ []) refl c.args.pin (opened c.in_default.in_default-own.keys2)
