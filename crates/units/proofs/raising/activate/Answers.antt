use Rattle.units.proofs.Filing.{by_place, to_carried, to_pending, rank_is}
use borrow.Author.Rules.{rules}
use Rattle.units.proofs.raising.activate.Goals as goal

pub file_late-requires : goal.file_late-requires
file_late-requires c = (search rules, rank_is _ _ _ _ c.gate_of.ensures.0 c.rank_of_gate-rank.ensures)

pub file_pending-requires : goal.file_pending-requires
file_pending-requires c = (search rules, rank_is _ _ _ _ c.gate_of.ensures.0 c.rank_of_gate-rank.ensures)

pub file_pending-requires-else-rank-reached : goal.file_pending-requires-else-rank-reached
file_pending-requires-else-rank-reached c = (search rules, rank_is _ _ _ _ c.gate_of.ensures.0 c.rank_of_gate-rank.ensures)

pub returns-in-Late : goal.returns-in-Late
returns-in-Late c = by_place _ _ _ _ _ _ _ c.in-Late.is c.file_late.ensures

pub returns-in-Pending : goal.returns-in-Pending
returns-in-Pending c = by_place _ _ _ _ _ _ _ c.in-Pending.is c.file_pending.ensures

pub returns-then-rank-reached : goal.returns-then-rank-reached
returns-then-rank-reached c = to_carried _ _ _ _ _ _ _ _ _ c.gate_of.ensures.0 c.rank_of_gate-rank.ensures c.in-After.is c.if-rank-reached.true (c.carry.ensures _)

pub returns-else-rank-reached : goal.returns-else-rank-reached
returns-else-rank-reached c = to_pending _ _ _ _ _ _ _ _ _ c.gate_of.ensures.0 c.rank_of_gate-rank.ensures c.in-After.is c.if-rank-reached.false c.file_pending-else-rank-reached.ensures
