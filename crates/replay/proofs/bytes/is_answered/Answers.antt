use Rattle.std.proofs.Common.{◌∙◌, refl, eq-eqb, ne_eqb}
use Rattle.replay.specs.Bytes.{answered}
use Rattle.packed.proofs.Comparing.{same_is}
use Rattle.replay.proofs.Comparing.{and_go, and_end}
use Rattle.replay.proofs.bytes.is_answered.Goals as goal

pub returns-then-eq : goal.returns-then-eq
unfolding answered
returns-then-eq c = and_go _ _ _ _ refl (eq-eqb _ _ c.if-number-due.true) (and_go _ _ _ _ (c.eq.ensures ∙ same_is _ _) c.if-eq.true (c.eq-then-eq.ensures ∙ same_is _ _))

pub returns-else-eq : goal.returns-else-eq
unfolding answered
returns-else-eq c = and_go _ _ _ _ refl (eq-eqb _ _ c.if-number-due.true) (and_end _ _ _ (c.eq.ensures ∙ same_is _ _) c.if-eq.false)

pub returns-else-number-due : goal.returns-else-number-due
unfolding answered
returns-else-number-due c = and_end _ _ _ refl (ne_eqb _ _ c.if-number-due.false)
