use borrow.Author.Rules.{rules}
use Rattle.links.specs.Links.{net}
use Rattle.whole.proofs.Showing.{outputs_first, outputs_next, outputs_stop, outputs_last}
use mathlib.Core.Path.{ap}
use mathlib.Core.Bool.{not}
use Rattle.whole.proofs.outputs.good_outputs.Goals as goal

pub loop-i-init : goal.loop-i-init
loop-i-init c = outputs_first _ _ _ _

pub returns-then-not-good_output : goal.returns-then-not-good_output
returns-then-not-good_output c = let a = c.args in outputs_stop (net a.links.now) a.log.now a.k a.n _ _ _ _ _ (search rules) (search rules) c.loop-i.invariant c.loop-i-test.true c.get.ensures c.get-in-loop-i.ensures c.good_output.ensures (ap not c.if-not-good_output.true)

pub loop-i-preserved : goal.loop-i-preserved
loop-i-preserved c = let a = c.args in outputs_next (net a.links.now) a.log.now a.k a.n _ _ _ _ _ (search rules) (search rules) c.loop-i.invariant c.loop-i-test.true c.get.ensures c.get-in-loop-i.ensures c.good_output.ensures (ap not c.if-not-good_output.false)

pub returns : goal.returns
returns c = outputs_last _ _ _ _ _ _ c.loop-i.invariant c.loop-i-test.false
