use Rattle.whole.proofs.Heads.{no_stop, stop_before, stop_runaway, stop_full}
use mathlib.Core.Path.{ap}
use mathlib.Core.Bool.{not}
use Rattle.whole.proofs.head.good_stop.Goals as goal

pub returns-then-stop-eq0 : goal.returns-then-stop-eq0
returns-then-stop-eq0 c = no_stop _ _ c.if-stop-eq0.true

pub returns-then-not-last : goal.returns-then-not-last
returns-then-not-last c = stop_before _ _ c.if-stop-eq0.false (ap not c.if-not-last.true)

pub returns-then-stop-eq-RUNAWAY : goal.returns-then-stop-eq-RUNAWAY
returns-then-stop-eq-RUNAWAY c = stop_runaway _ _ c.if-stop-eq0.false (ap not c.if-not-last.false) c.if-stop-eq-RUNAWAY.true

pub returns-else-stop-eq-RUNAWAY : goal.returns-else-stop-eq-RUNAWAY
returns-else-stop-eq-RUNAWAY c = stop_full _ _ c.if-stop-eq0.false (ap not c.if-not-last.false) c.if-stop-eq-RUNAWAY.false
