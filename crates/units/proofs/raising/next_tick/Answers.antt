use Rattle.units.proofs.Ticks.{late_none, ticked}
use borrow.Author.Rules.{rules}
use Rattle.units.proofs.raising.next_tick.Goals as goal

pub file_carried-requires : goal.file_carried-requires
file_carried-requires c = (search rules, late_none _ _ _ c.put.ensures)

pub returns : goal.returns
returns c = ticked _ _ _ _ _ _ c.put.ensures c.file_carried.ensures (c.clear_rest.ensures _) (c.switch_half.ensures _)
