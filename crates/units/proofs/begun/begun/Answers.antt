use Rattle.units.proofs.Beginning.{begun_counted}
use Rattle.units.proofs.begun.begun.Goals as goal

pub returns-clause-reads : goal.returns-clause-reads
returns-clause-reads c = begun_counted _ _ c.count.ensures.value

pub returns-clause-upper_bound : goal.returns-clause-upper_bound
returns-clause-upper_bound c = c.count.ensures.upper_bound
