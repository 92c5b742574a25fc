use Rattle.linking.proofs.Leaves.{named_none, named_past, named_in}
use Rattle.linking.proofs.inputs.word_named.Goals as goal

-- `word_named` meets its contract. One law for each way out.

pub returns-then-k-eq0 : goal.returns-then-k-eq0
returns-then-k-eq0 c = named_none _ _ _ _ c.if-k-eq0.true

pub returns-then-count-k : goal.returns-then-count-k
returns-then-count-k c = named_past _ _ _ _ c.if-k-eq0.false c.if-count-k.true

pub returns : goal.returns
returns c = named_in _ _ _ _ _ c.if-k-eq0.false c.if-count-k.false c.word.ensures
