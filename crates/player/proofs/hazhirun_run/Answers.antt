use Rattle.std.proofs.Common.{◌∙◌}
use Rattle.player.proofs.Numbers.{tells_host}
use Rattle.player.proofs.hazhirun_run.Goals as goal

pub returns : goal.returns
returns c = let e = c.run.ensures in record { answer = tells_host _ _ _ _ _ (c.numbered-answer.ensures ∙ e.answer) c.number_of.ensures c.tell_end.ensures; log = e.log; values = e.values; units = e.units; delays = e.delays; promised = e.promised }
