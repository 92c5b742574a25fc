use Prim.Native.Nat.{◌+◌}
use mathlib.Core.Path.{◌∙◌}
use borrow.Author.Tests.{not-true, not-false}
use borrow.Author.Rules.{rules}
use Rattle.circuit.proofs.Loops.{pairs_first, pairs_next, pairs_stop, pairs_last}
use Rattle.whole.proofs.Forms.{units_are}
use mathlib.Core.Path.{ap}
use mathlib.Core.Bool.{not}
use Rattle.whole.proofs.units.good_units.Goals as goal

pub loop-i-init : goal.loop-i-init
loop-i-init c = pairs_first _ _ _ _ _ ∙ units_are _ _ _ _

pub returns-then-not-good_unit : goal.returns-then-not-good_unit
returns-then-not-good_unit c = let a = c.args in pairs_stop _ a.log.now a.k (a.k + a.n) a.n _ _ _ _ _ (search rules) (search rules) c.loop-i.invariant c.loop-i-test.true c.get.ensures c.get-in-loop-i.ensures c.good_unit.ensures (not-true _ (ap not c.if-not-good_unit.true))

pub loop-i-preserved : goal.loop-i-preserved
loop-i-preserved c = let a = c.args in pairs_next _ a.log.now a.k (a.k + a.n) a.n _ _ _ _ _ (search rules) (search rules) c.loop-i.invariant c.loop-i-test.true c.get.ensures c.get-in-loop-i.ensures c.good_unit.ensures (not-false _ (ap not c.if-not-good_unit.false))

pub returns : goal.returns
returns c = pairs_last _ _ _ _ _ _ _ c.loop-i.invariant c.loop-i-test.false
