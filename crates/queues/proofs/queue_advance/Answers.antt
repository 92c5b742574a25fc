use Rattle.queues.proofs.Numbers.{gates_few}
use Rattle.queues.proofs.Lending.{advance_queue}
use borrow.Author.Rules.{rules}
use mathlib.Core.Path.{refl}
use Rattle.queues.proofs.queue_advance.Goals as goal

pub returns : goal.returns
returns c = advance_queue _ _ _ _ _ _ _ c.requires.0 (gates_few _) c.requires.1 refl c.part_at-a.ensures.0 refl (search rules) _ _ _ c.kind_of_gate-seconds.ensures c.advance.ensures.queue_value
