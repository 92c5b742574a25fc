use Rattle.value.proofs.Laws.{bit_float}
use Rattle.model.specs.Value.{float_of_int}
use Rattle.model.specs.Base.{if◌then◌otherwise◌}
use mir.Facts.{to_z-of_z}
use mathlib.Core.Bool.{true, false}
use mathlib.Core.Path.{◌∙◌, ap}
use Rattle.model.specs.Value.{as_float}
use borrow.Author.Rules.{rules, sfits_of}
use Rattle.std.specs.Int.{w64}
use Rattle.value.proofs.as_float.Goals as goal

pub returns-in-Nothing : goal.returns-in-Nothing
unfolding as_float
returns-in-Nothing c = search rules

pub returns-in-Int : goal.returns-in-Int
unfolding as_float
returns-in-Int c = rw c.in-Int.is (c.of_int.ensures ∙ ap float_of_int (to_z-of_z {w = w64} (sfits_of c.signed.type_inv) ∙ c.signed.ensures))

pub returns-in-Float : goal.returns-in-Float
unfolding as_float
returns-in-Float c = search rules

pub returns-then-t : goal.returns-then-t
unfolding as_float if◌then◌otherwise◌
returns-then-t c = rw c.in-Bool.is (bit_float _ true c.if-t.true)

pub returns-else-t : goal.returns-else-t
unfolding as_float if◌then◌otherwise◌
returns-else-t c = rw c.in-Bool.is (bit_float _ false c.if-t.false)
