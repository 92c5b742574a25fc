use Rattle.player.proofs.hazhirun_hours.Goals as goal

pub returns : goal.returns
returns c = rw c.refused.ensures c.hours.ensures
