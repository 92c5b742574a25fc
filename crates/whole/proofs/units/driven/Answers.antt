use mathlib.Core.Bool.{true, false}
use mathlib.Core.List.{[], ◌∷◌}
use mathlib.Core.Path.{refl}
use Rattle.model.specs.Kinds.{exec, exec_only, value, watched, route, set_to}
use Rattle.model.specs.Base.{all}
use Rattle.kinds.specs.Pins.{in_of}
use Rattle.circuit.proofs.Cases.{pin_arm, agrees}
use Rattle.whole.proofs.Forms.{is_e, pin_driven, pin_other}
use borrow.Enum.Refused.{opened}
use Rattle.whole.proofs.units.driven.Goals as goal

pub returns-in-Exec : goal.returns-in-Exec
unfolding in_of exec exec_only value watched route set_to all agrees is_e
returns-in-Exec c = pin_driven _ _ _ _ c.pin_at.result _ c.kind_of_gate.ensures c.pin_at.ensures (pin_arm (λ p. is_e (in_of p)) true (0 ∷ []) refl c.pin_at.result c.in-Exec.in-Exec-own.keys1) refl _ _ c.input.ensures.0 c.has_source.ensures

pub returns-in_default : goal.returns-in_default
unfolding in_of exec exec_only value watched route set_to all agrees is_e
returns-in_default c = pin_other _ _ _ _ c.pin_at.result _ c.kind_of_gate.ensures c.pin_at.ensures (pin_arm (λ p. is_e (in_of p)) false (1 ∷ 2 ∷ 3 ∷ 4 ∷ 5 ∷ 6 ∷ 7 ∷ 8 ∷ 9 ∷ 10 ∷ []) refl c.pin_at.result (opened c.in_default.in_default-own.keys2)) refl
