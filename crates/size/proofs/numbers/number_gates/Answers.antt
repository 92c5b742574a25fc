use borrow.Author.Rules.{rules}
use mathlib.Core.Path.{refl}
use Rattle.links.proofs.Walking.{gates_fewer}
use Rattle.size.proofs.Walked.{walk_next, walk_last}
use Rattle.size.proofs.numbers.number_gates.Goals as goal

pub loop-g-init : goal.loop-g-init
loop-g-init c = (search rules, c.first_gate-g.ensures, refl)

pub loop-g-smaller : goal.loop-g-smaller
loop-g-smaller c = gates_fewer _ _ _ c.loop-g.invariant.1 c.loop-g-test.true c.later_gates-word.ensures

pub loop-g-preserved : goal.loop-g-preserved
loop-g-preserved c = (search rules, c.first_gate-g-in-loop-g.ensures, walk_next _ _ _ _ _ c.loop-g.invariant.1 _ _ c.loop-g-test.true c.gate_steps.ensures c.later_gates-word.ensures c.loop-g.invariant.2)

pub returns : goal.returns
returns c = walk_last _ _ _ _ _ c.loop-g.invariant.1 c.loop-g-test.false c.loop-g.invariant.2
