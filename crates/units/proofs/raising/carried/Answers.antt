use Rattle.units.proofs.Filing.{carried_count}
use Rattle.units.proofs.raising.carried.Goals as goal

pub returns-clause-reads : goal.returns-clause-reads
returns-clause-reads c = (λ k. carried_count k c.args.units.now _ c.count.ensures.value)

pub returns-clause-upper_bound : goal.returns-clause-upper_bound
returns-clause-upper_bound c = c.count.ensures.upper_bound
