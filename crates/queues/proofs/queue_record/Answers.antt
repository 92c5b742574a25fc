use Rattle.value.proofs.Mapped.{row_again}
use Rattle.queue.specs.Queue.{queued}
use Rattle.queues.proofs.Numbers.{gates_few}
use Rattle.queues.proofs.Lending.{record_queue}
use borrow.Author.Rules.{rules}
use mathlib.Core.Path.{refl}
use Rattle.queues.proofs.queue_record.Goals as goal

pub returns : goal.returns
unfolding queued
returns c =
    let a = c.args in
    let again = row_again 8 a.row c.kinds_of.result c.contents_of.result (search rules) (search rules) (search rules) c.kinds_of.ensures c.contents_of.ensures in
    record_queue _ _ _ _ _ _ _ c.requires.0 (gates_few _) c.requires.1 refl c.part_at-a.ensures.0 refl (search rules) _ _ a.row _ _ c.kind_of_gate.ensures c.countdown-k.ensures (rw again at c.push.ensures) c.count_changed.ensures
