use Rattle.std.proofs.Common.{ap, ◌∙◌}
use Rattle.replay.specs.Bytes.{all_alike}
use Rattle.replay.specs.ClassDue.{class_as_due}
use Rattle.replay.proofs.Comparing.{and_go, and_end}
use Rattle.replay.proofs.class_due.is_class_as_due.Goals as goal

pub returns-then-is_answered : goal.returns-then-is_answered
unfolding class_as_due
returns-then-is_answered c =
    and_go _ _ _ _ c.is_answered.ensures c.if-is_answered.true (c.are_alike.ensures ∙ ap (λ b. all_alike b c.args.values.now c.args.units.now c.args.delays.now) c.area_byte.ensures)

pub returns-else-is_answered : goal.returns-else-is_answered
unfolding class_as_due
returns-else-is_answered c = and_end _ _ _ c.is_answered.ensures c.if-is_answered.false
