use Rattle.unit.proofs.Finishing.{unit_ran}
use borrow.Author.Rules.{rules}
use Rattle.unit.proofs.unit.Goals as goal

pub finish-stop-requires : goal.finish-stop-requires
finish-stop-requires c = (search rules, search rules, c.run_chain-chain.ensures.slots_stay)

pub returns-clause-over_all : goal.returns-clause-over_all
returns-clause-over_all c = unit_ran _ _ _ _ _ _ _ _ _ _ _ _ _ _ _ _ _ c.enter.ensures c.begin_act.ensures c.run_chain-chain.ensures.over_all c.finish-stop.ensures.over_all
