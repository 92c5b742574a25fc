use Rattle.player.proofs.hazhirun_size.Goals as goal

pub returns : goal.returns
returns c = rw c.refused.ensures c.size.ensures
