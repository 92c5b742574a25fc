use Rattle.opening.proofs.Acts.{heard_one, heard_none}
use Rattle.opening.proofs.filing.deliver_to.Goals as goal

pub returns-then-receives : goal.returns-then-receives
returns-then-receives c = heard_one _ _ _ _ _ _ _ _ _ c.receives.ensures c.if-receives.true c.requires.1 c.requires.2 (c.deliver.ensures _)

pub returns : goal.returns
returns c = heard_none _ _ _ _ _ _ _ c.receives.ensures c.if-receives.false
