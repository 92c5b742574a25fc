use borrow.Author.Tests.{ne_eqb}
use Rattle.loops.proofs.Runs.{on_unless}
use Rattle.loops.proofs.counting.goes_on.Goals as goal

pub returns-then-stop-ne0 : goal.returns-then-stop-ne0
returns-then-stop-ne0 c = let e = ne_eqb c.args.stop 0 c.if-stop-ne0.true in rw e

pub returns : goal.returns
returns c = on_unless c.args.stop _ _ c.if-stop-ne0.false c.breaking.ensures
