use Rattle.loops.proofs.Runs.{loop_begun}
use Rattle.loops.proofs.counting.begin_loop.Goals as goal

pub returns : goal.returns
returns c = loop_begun _ _ _ _ _ _ _ _ c.input.ensures.0 c.readied.ensures c.breaking.ensures c.read_counts-counts.ensures c.set_breaking.ensures
