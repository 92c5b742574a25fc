use Rattle.linking.proofs.Chaining.{target_itself, target_word}
use Rattle.linking.proofs.chains.target.Goals as goal

-- `target` meets its contract. One law for each way out.

pub returns-then-targets-eq0 : goal.returns-then-targets-eq0
returns-then-targets-eq0 c = target_itself _ _ _ c.if-targets-eq0.true

pub returns : goal.returns
returns c = target_word _ _ _ _ c.if-targets-eq0.false c.word.ensures
