use Rattle.value.proofs.Laws.{other_int}
use Rattle.model.specs.Value.{as_int}
use mir.Facts.{to_z-of_z}
use mathlib.Core.Path.{◌∙◌}
use borrow.Author.Rules.{sfits_of}
use Rattle.std.specs.Int.{w64}
use Rattle.value.proofs.as_int.Goals.{in-Nothing, in_default}
use Rattle.value.proofs.as_int.Goals as goal

pub returns-then-matches : goal.returns-then-matches
unfolding as_int
returns-then-matches c = elim c.match-matches.branch [
  | in-Nothing w ↦ rw w.in-Nothing.is (to_z-of_z c.ranges.nothing)
  | in_default w ↦ absurd (cc)
]

pub returns-in-Float : goal.returns-in-Float
unfolding as_int
returns-in-Float c = rw c.in-Float.is (to_z-of_z {w = w64} (sfits_of c.to_int.type_inv) ∙ c.to_int.ensures)

pub returns : goal.returns
returns c = elim c.match-matches.branch [
  | in-Nothing w ↦ absurd (cc)
  | in_default w ↦
      to_z-of_z {w = w64} (sfits_of c.signed.type_inv) ∙ other_int _ _ c.args.v w.in_default.not-Nothing c.in_default-v.not-Float _ c.content_of.ensures c.signed.ensures
]
