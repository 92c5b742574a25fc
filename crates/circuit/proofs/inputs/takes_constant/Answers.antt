use mathlib.Core.Bool.{true, false, not}
use mathlib.Core.List.{[], ◌∷◌}
use mathlib.Core.Path.{refl, ap, ◌∙◌}
use Rattle.model.specs.Base.{all}
use Rattle.model.specs.Kinds.{exec, exec_only, value, watched, route, set_to}
use Rattle.kinds.specs.Pins.{in_of}
use Rattle.circuit.proofs.Cases.{pin_arm, agrees}
use borrow.Enum.Refused.{opened}
use Rattle.circuit.proofs.inputs.takes_constant.Goals.{in-Exec, in_default}
use Rattle.circuit.proofs.inputs.takes_constant.Goals as goal

pub returns : goal.returns
unfolding in_of exec exec_only value watched route set_to all agrees
returns c =
    elim c.match-matches.branch [
      | in-Exec w ↦ ap not w.matches-is ∙ pin_arm (λ p. (in_of p).constant) false (0 ∷ 1 ∷ []) refl c.args.pin w.in-Exec.in-Exec-own.keys1
      | in_default w ↦ ap not w.matches-is ∙ pin_arm (λ p. (in_of p).constant) true (2 ∷ 3 ∷ 4 ∷ 5 ∷ 6 ∷ 7 ∷ 8 ∷ 9 ∷ 10 ∷ []) refl c.args.pin (opened w.in_default.in_default-own.keys2)
    ]
