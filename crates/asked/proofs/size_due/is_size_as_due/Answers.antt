use Rattle.std.proofs.Common.{◌∙◌, ne_eqb}
use Rattle.packed.proofs.Comparing.{same_is}
use Rattle.asked.proofs.SizeMeeting.{number_other, words_decide}
use Rattle.asked.proofs.size_due.is_size_as_due.Goals as goal

pub returns-then-number-due : goal.returns-then-number-due
returns-then-number-due c = words_decide _ _ _ _ _ c.if-number-due.true (c.eq.ensures ∙ same_is _ _)

pub returns-else-number-due : goal.returns-else-number-due
returns-else-number-due c = ne_eqb _ _ c.if-number-due.false ∙ number_other c.args.due c.args.number _ _ c.if-number-due.false
