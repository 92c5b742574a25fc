use Rattle.units.proofs.Counting.{delivered_count}
use Rattle.units.proofs.counts.delivered.Goals as goal

pub returns : goal.returns
returns c = λ k. delivered_count k c.args.units.now _ c.count.ensures.value_2
