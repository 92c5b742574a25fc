use Rattle.player.proofs.hazhirun_class.Goals as goal

pub returns : goal.returns
returns c = rw c.refused.ensures c.class.ensures
