use Rattle.asked.proofs.Laws.{first_wrong, first_right}
use Rattle.asked.proofs.case.is_right.Goals as goal

-- src/case.rt:52:9
pub returns-then-answers-case : goal.returns-then-answers-case
returns-then-answers-case c = first_wrong _ _ c.if-answers-case.true

-- src/case.rt:48:1
pub returns : goal.returns
returns c = first_right _ _ c.if-answers-case.false
