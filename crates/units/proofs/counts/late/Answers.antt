use Rattle.units.proofs.Counting.{late_count}
use Rattle.units.proofs.counts.late.Goals as goal

pub returns : goal.returns
returns c = λ k. late_count k c.args.units.now _ c.count.ensures.value
