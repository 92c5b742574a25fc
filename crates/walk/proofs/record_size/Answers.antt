use Rattle.walk.proofs.Sizes.{size_shown, size_hidden}
use Rattle.words.specs.Words.{words}
use Rattle.walk.proofs.record_size.Goals as goal

pub returns-then-stop-eq0-clause-value : goal.returns-then-stop-eq0-clause-value
returns-then-stop-eq0-clause-value c = size_shown (words c.args.log.now) c.args.at _ _ _ _ _ _ c.read.ensures c.least-late.ensures.value c.read-2.ensures c.least-main.ensures.value c.read-3.ensures c.least-carried.ensures.value c.read-stop.ensures _ c.if-stop-eq0.true c.min.ensures

pub returns-else-stop-eq0-clause-value : goal.returns-else-stop-eq0-clause-value
returns-else-stop-eq0-clause-value c = size_hidden (words c.args.log.now) c.args.at _ _ _ _ _ _ c.read.ensures c.least-late.ensures.value c.read-2.ensures c.least-main.ensures.value c.read-3.ensures c.least-carried.ensures.value c.read-stop.ensures _ c.if-stop-eq0.false c.min-else-stop-eq0.ensures
