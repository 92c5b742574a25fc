use Rattle.value.proofs.Laws.{float_truthy, other_truthy}
use Rattle.value.proofs.truthy.Goals.{in-Float, in_default}
use Rattle.value.proofs.truthy.Goals as goal

pub returns-then-matches : goal.returns-then-matches
returns-then-matches c = elim c.match-matches.branch [
  | in-Float w ↦ float_truthy c.args.v _ _ w.in-Float.is c.content_of-content.ensures
  | in_default w ↦ absurd (cc)
]

pub returns : goal.returns
returns c = elim c.match-matches.branch [
  | in-Float w ↦ absurd (cc)
  | in_default w ↦ other_truthy c.args.v w.in_default.not-Float _ c.content_of-content.ensures
]
