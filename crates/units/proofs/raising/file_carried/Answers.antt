use borrow.Author.Rules.{rules}
use Rattle.units.proofs.Filing.{rank_is}
use Rattle.units.proofs.Ticks.{moved_first, moved_next, moved_last}
use Rattle.units.proofs.raising.file_carried.Goals as goal

pub loop-k-init : goal.loop-k-init
loop-k-init c = (search rules, moved_first _ _ c.requires.1)

pub file_late-requires : goal.file_late-requires
file_late-requires c = (search rules, rank_is _ _ _ _ c.gate_of.ensures.0 c.rank_of_gate.ensures)

pub loop-k-preserved : goal.loop-k-preserved
loop-k-preserved c = (search rules, moved_next _ _ _ _ _ _ _ _ (c.carried-n.ensures.reads _) c.loop-k.invariant.1 c.loop-k-test.true c.get-x.ensures c.file_late.ensures)

pub returns : goal.returns
returns c = moved_last _ _ _ _ _ (c.carried-n.ensures.reads _) c.loop-k.invariant.1 c.loop-k-test.false
