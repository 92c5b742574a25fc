use Rattle.circuit.proofs.Loops.{comes_to, comes_not}
use Rattle.circuit.proofs.columns.Column.come_to.Goals as goal

-- `circuit::columns::Column::come_to` meets its contract.

pub returns-in-Some : goal.returns-in-Some
returns-in-Some g c = λ p f h. comes_to _ _ _ _ _ (c.total.ensures p f h) c.in-Some.is

pub returns-in-None : goal.returns-in-None
returns-in-None g c = λ p f h. comes_not _ _ _ _ (c.total.ensures p f h) c.in-None.is
