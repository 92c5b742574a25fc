use Rattle.model.specs.Record.{stop_in}
use Rattle.whole.proofs.head.stop_in.Goals as goal

pub returns : goal.returns
unfolding stop_in
returns c = c.word.ensures
