use Rattle.states.proofs.Counts.{counts_none, counts_one, counts_most}
use mathlib.Core.Path.{ap}
use mathlib.Core.Bool.{not}
use Rattle.states.proofs.counting.count_changed.Goals as goal

pub returns-then-not-changed : goal.returns-then-not-changed
returns-then-not-changed c = counts_none _ _ c.requires _ (ap not c.if-not-changed.true)

pub returns-then-n-lt-MOST_CHANGED : goal.returns-then-n-lt-MOST_CHANGED
returns-then-n-lt-MOST_CHANGED c = counts_one _ _ c.requires _ _ _ (ap not c.if-not-changed.false) c.get-n.ensures c.if-n-lt-MOST_CHANGED.true c.put.ensures

pub returns-else-n-lt-MOST_CHANGED : goal.returns-else-n-lt-MOST_CHANGED
returns-else-n-lt-MOST_CHANGED c = counts_most _ _ c.requires _ _ (ap not c.if-not-changed.false) c.get-n.ensures c.if-n-lt-MOST_CHANGED.false
