use mathlib.Core.Bool.{true}
use mathlib.Core.List.{[], ◌∷◌}
use mathlib.Core.Path.{refl}
use Rattle.model.specs.Base.{all}
use Rattle.model.specs.Kinds.{exec, exec_only, value, watched, route, set_to}
use Rattle.model.specs.Questions.{good_setting}
use Rattle.kinds.specs.Pins.{in_of}
use Rattle.links.specs.Links.{net}
use Rattle.circuit.proofs.Cases.{pin_is, pin_arm, agrees}
use borrow.Enum.Refused.{opened}
use Rattle.circuit.proofs.inputs.good_setting.Goals as goal

pub returns-in-Ticks : goal.returns-in-Ticks
unfolding in_of set_to good_setting
returns-in-Ticks c = rw (pin_is 6 c.args.pin c.in-Ticks.in-Ticks-own.keys1) c.int_or_nothing.ensures

pub returns-in-Seconds : goal.returns-in-Seconds
unfolding in_of set_to good_setting
returns-in-Seconds c = rw (pin_is 7 c.args.pin c.in-Seconds.in-Seconds-own.keys2) c.float_or_nothing.ensures

pub returns-in-Variable : goal.returns-in-Variable
unfolding in_of set_to good_setting
returns-in-Variable c = rw (pin_is 8 c.args.pin c.in-Variable.in-Variable-own.keys3) c.names_gate.ensures

pub returns-in-Channel : goal.returns-in-Channel
unfolding in_of set_to good_setting
returns-in-Channel c = rw (pin_is 9 c.args.pin c.in-Channel.in-Channel-own.keys4) c.names_channel.ensures

pub returns-in-Loop : goal.returns-in-Loop
unfolding in_of set_to good_setting
returns-in-Loop c = rw (pin_is 10 c.args.pin c.in-Loop.in-Loop-own.keys5) c.names_gate-in-Loop.ensures

pub returns-in_default : goal.returns-in_default
unfolding in_of exec exec_only value watched route set_to good_setting all agrees
returns-in_default c = pin_arm (λ p. good_setting (net c.args.links.now) (in_of p).setting c.args.v) true (0 ∷ 1 ∷ 2 ∷ 3 ∷ 4 ∷ 5 ∷ []) refl c.args.pin (opened c.in_default.in_default-own.keys6)
