use Rattle.whole.proofs.Heads.{begun_few, late_many}
use Rattle.whole.proofs.head.few_begun.Goals as goal

pub returns-then-late-most : goal.returns-then-late-most
returns-then-late-most c = begun_few _ _ c.if-late-most.true

pub returns-else-late-most : goal.returns-else-late-most
returns-else-late-most c = late_many _ _ c.if-late-most.false
