use Rattle.whole.proofs.Heads.{all_shown, none_shown}
use Rattle.whole.proofs.head.shown_count.Goals as goal

pub returns-then-stop_in-eq0 : goal.returns-then-stop_in-eq0
returns-then-stop_in-eq0 c = all_shown _ _ _ c.stop_in.ensures c.if-stop_in-eq0.true _ c.outputs.ensures

pub returns-else-stop_in-eq0 : goal.returns-else-stop_in-eq0
returns-else-stop_in-eq0 c = none_shown _ _ _ c.stop_in.ensures c.if-stop_in-eq0.false
