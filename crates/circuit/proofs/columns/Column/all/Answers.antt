use Rattle.circuit.proofs.Loops.{all_first, all_next, all_stop, all_last}
use Rattle.circuit.proofs.columns.Column.all.Goals as goal

-- `circuit::columns::Column::all` meets its contract. The test of the words left gives the same as that of all.

pub loop-i-init : goal.loop-i-init
loop-i-init g c = λ p h. all_first p _ _ _

pub returns-then-not-passes : goal.returns-then-not-passes
returns-then-not-passes g c = λ p h. all_stop p _ _ _ _ _ _ _ c.args.self.now.there (c.loop-i.invariant p h) c.loop-i-test.true c.get.ensures (h _ _ c.passes.ensures) c.if-not-passes.true

pub loop-i-preserved : goal.loop-i-preserved
loop-i-preserved g c = λ p h. all_next p _ _ _ _ _ _ _ c.args.self.now.there (c.loop-i.invariant p h) c.loop-i-test.true c.get.ensures (h _ _ c.passes.ensures) c.if-not-passes.false

pub returns : goal.returns
returns g c = λ p h. all_last p _ _ _ _ _ (c.loop-i.invariant p h) c.loop-i-test.false
