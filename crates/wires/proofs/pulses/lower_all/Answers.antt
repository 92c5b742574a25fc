use Rattle.std.proofs.Common.{refl, rules}
use Rattle.wires.proofs.Lists.{turn_zero, turn_last}
use Rattle.wires.proofs.Pulsing.{all_first}
use Rattle.wires.proofs.pulses.lower_all.Goals as goal

pub loop-j-init : goal.loop-j-init
loop-j-init c = (search rules, all_first _ _ _ c.outputs.ensures)

pub loop-j-preserved : goal.loop-j-preserved
loop-j-preserved c = (search rules, turn_zero _ _ 0 _ _ _ _ refl c.loop-j-test.true c.lower_word.ensures c.loop-j.invariant.1)

pub returns : goal.returns
returns c = turn_last _ _ _ _ _ _ c.loop-j-test.false c.loop-j.invariant.1
