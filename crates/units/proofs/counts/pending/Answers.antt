use Rattle.units.proofs.Counting.{pending_count}
use Rattle.units.proofs.counts.pending.Goals as goal

pub returns : goal.returns
returns c = λ k. pending_count k c.args.units.now _ c.count.ensures.value
