use borrow.Author.Tests.{le-leb, lt-leb}
use Rattle.model.specs.Questions.{within}
use Rattle.circuit.proofs.columns.within.Goals as goal

-- `circuit::columns::within` meets its contract. Assumes nothing.

pub returns-then-low-word : goal.returns-then-low-word
unfolding within
returns-then-low-word c = rw (le-leb _ _ c.if-low-word.true)

pub returns-else-low-word : goal.returns-else-low-word
unfolding within
returns-else-low-word c = rw (lt-leb _ _ c.if-low-word.false)
