use Rattle.steps.proofs.Timing.{ignores, sends}
use Rattle.steps.proofs.exec_send.Goals as goal

pub returns-then-has_sent : goal.returns-then-has_sent
returns-then-has_sent c = ignores _ _ _ _ _ _ _ _ c.input-i.ensures c.readied.ensures (c.has_sent.ensures _) c.if-has_sent.true c.output.ensures

pub returns : goal.returns
returns c = sends _ _ _ _ _ _ _ _ c.input-i.ensures c.readied.ensures (c.has_sent.ensures _) _ _ c.look_row-row.ensures (c.send.ensures _) c.output-2.ensures
