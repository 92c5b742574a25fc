use Rattle.queues.proofs.Starting.{given_below, given_above, given_part}
use Rattle.queues.proofs.give_part.Goals as goal

pub returns-then-kind-lt-QUEUE_IN_TICKS : goal.returns-then-kind-lt-QUEUE_IN_TICKS
returns-then-kind-lt-QUEUE_IN_TICKS c = given_below _ _ _ _ _ c.kind_of_gate-kind.ensures c.if-kind-lt-QUEUE_IN_TICKS.true

pub returns-then-kind-gt-QUEUE_IN_SECONDS : goal.returns-then-kind-gt-QUEUE_IN_SECONDS
returns-then-kind-gt-QUEUE_IN_SECONDS c = given_above _ _ _ _ _ c.kind_of_gate-kind.ensures c.if-kind-gt-QUEUE_IN_SECONDS.true

pub returns : goal.returns
returns c = given_part _ _ _ _ _ _ _ c.kind_of_gate-kind.ensures c.if-kind-lt-QUEUE_IN_TICKS.false c.if-kind-gt-QUEUE_IN_SECONDS.false c.write.ensures c.write-2.ensures
