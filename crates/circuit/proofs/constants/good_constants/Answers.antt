use Prim.Native.Nat.{◌+◌}
use borrow.Author.Rules.{rules}
use Rattle.circuit.proofs.Loops.{pairs_first, pairs_next, pairs_stop, pairs_last}
use Rattle.circuit.proofs.constants.good_constants.Goals as goal

-- `circuit::constants::good_constants` meets its contract. The test of the constants left gives the same as that of all.

pub loop-i-init : goal.loop-i-init
loop-i-init c = pairs_first _ _ _ _ _

pub loop-i-preserved : goal.loop-i-preserved
loop-i-preserved c = let a = c.args in pairs_next _ a.circuit.now 4 (4 + a.count) a.count _ _ _ _ _ (search rules) (search rules) c.loop-i.invariant c.loop-i-test.true c.get.ensures c.get-in-loop-i.ensures c.good_constant.ensures c.if-not-good_constant.false

pub returns-then-not-good_constant : goal.returns-then-not-good_constant
returns-then-not-good_constant c = let a = c.args in pairs_stop _ a.circuit.now 4 (4 + a.count) a.count _ _ _ _ _ (search rules) (search rules) c.loop-i.invariant c.loop-i-test.true c.get.ensures c.get-in-loop-i.ensures c.good_constant.ensures c.if-not-good_constant.true

pub returns : goal.returns
returns c = pairs_last _ _ _ _ _ _ _ c.loop-i.invariant c.loop-i-test.false
