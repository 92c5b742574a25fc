use mathlib.Core.Bool.{true, false}
use mathlib.Core.List.{[], ◌∷◌}
use mathlib.Core.Path.{refl}
use Rattle.model.specs.Base.{all}
use Rattle.model.specs.Kinds.{exec, exec_only, value, watched, route, set_to}
use Rattle.kinds.specs.Pins.{in_of}
use Rattle.circuit.proofs.Cases.{pin_arm, agrees}
use borrow.Enum.Refused.{opened}
use Rattle.circuit.proofs.calls.takes_calls.Goals as goal

pub returns-in-Exec : goal.returns-in-Exec
unfolding in_of exec exec_only value watched route set_to all agrees
returns-in-Exec c = pin_arm (λ p. (in_of p).called) true (0 ∷ 1 ∷ 4 ∷ []) refl c.args.pin c.in-Exec.in-Exec-own.keys1

pub returns-in_default : goal.returns-in_default
unfolding in_of exec exec_only value watched route set_to all agrees
returns-in_default c = pin_arm (λ p. (in_of p).called) false (2 ∷ 3 ∷ 5 ∷ 6 ∷ 7 ∷ 8 ∷ 9 ∷ 10 ∷ []) refl c.args.pin (opened c.in_default.in_default-own.keys2)
