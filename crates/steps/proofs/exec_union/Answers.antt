use Rattle.steps.proofs.Wiring.{union_ends, union_passes}
use Rattle.steps.proofs.exec_union.Goals as goal

pub returns-then-passed : goal.returns-then-passed
returns-then-passed c = union_ends _ _ _ _ c.passed.ensures c.if-passed.true

pub returns : goal.returns
returns c = union_passes _ _ _ _ c.passed.ensures _ _ c.if-passed.false c.pass.ensures c.output.ensures
