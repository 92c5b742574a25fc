use Rattle.steps.proofs.Wiring.{branches_first, branches_second}
use Rattle.steps.proofs.exec_branch.Goals as goal

pub returns-then-truthy : goal.returns-then-truthy
returns-then-truthy c = branches_first _ _ _ _ _ _ _ _ c.input-i.ensures c.ready.ensures c.look-v.ensures c.truthy.ensures c.if-truthy.true c.output.ensures

pub returns : goal.returns
returns c = branches_second _ _ _ _ _ _ _ _ c.input-i.ensures c.ready.ensures c.look-v.ensures c.truthy.ensures c.if-truthy.false c.output-2.ensures
