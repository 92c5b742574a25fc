use Rattle.steps.proofs.Timing.{queues}
use Rattle.steps.proofs.exec_queue.Goals as goal

pub returns : goal.returns
returns c = queues _ _ _ _ _ _ _ _ _ c.input-i.ensures c.readied.ensures c.look_row-row.ensures c.look-wait.ensures c.queue_record.ensures
