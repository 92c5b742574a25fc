use native.Mathlib.Omega.{arith}
use Rattle.circuit.proofs.Loops.{count_first, count_yes, count_no, count_last}
use Rattle.circuit.proofs.columns.Column.passing.Goals.{then-passes, else-passes}
use Rattle.circuit.proofs.columns.Column.passing.Goals as goal

-- `circuit::columns::Column::passing` meets its contract. With those counted so far, those left come to the same.

pub loop-i-init : goal.loop-i-init
loop-i-init g c = (omega arith, λ p h. omega (arith, count_first p c.args.self.now.area.now c.args.self.now.first c.args.self.now.count))

pub loop-i-preserved : goal.loop-i-preserved
loop-i-preserved g c =
    elim c.if-passes.branch [
      | then-passes w ↦ (
        omega (arith, w.passed-is, c.loop-i.invariant.0),
        λ p h. count_yes p _ _ _ _ _ _ _ _ _ c.args.self.now.there (c.loop-i.invariant.1 p h) c.loop-i-test.true c.get.ensures (h _ _ c.passes.ensures) w.if-passes.true w.passed-is,
      )
      | else-passes w ↦ (
        omega (arith, w.passed-is, c.loop-i.invariant.0),
        λ p h. count_no p _ _ _ _ _ _ _ _ _ c.args.self.now.there (c.loop-i.invariant.1 p h) c.loop-i-test.true c.get.ensures (h _ _ c.passes.ensures) w.if-passes.false w.passed-is,
      )
    ]

pub returns : goal.returns
returns g c = λ p h. count_last p _ _ _ _ _ _ (c.loop-i.invariant.1 p h) c.loop-i-test.false
