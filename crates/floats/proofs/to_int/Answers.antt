use Rattle.floats.proofs.Ints.{to_int_small, to_int_whole, to_int_nan, to_int_end}
use Rattle.std.proofs.Common.{true, false, ◌∙◌, to_z-of_z, le-leb}
use borrow.Author.Tests.{lt-leb}
use borrow.Author.Rules.{sfits_of}
use Rattle.std.specs.Int.{w64}
use Rattle.floats.proofs.to_int.Goals as goal

pub returns-then-x-lt-OF_ONE : goal.returns-then-x-lt-OF_ONE
returns-then-x-lt-OF_ONE c = to_int_small c.args.bits c.if-x-lt-OF_ONE.true

pub returns-then-x-lt-OF_2_63 : goal.returns-then-x-lt-OF_2_63
returns-then-x-lt-OF_2_63 c = to_z-of_z {w = w64} (sfits_of c.with_sign.type_inv) ∙ c.with_sign.ensures ∙ to_int_whole c.args.bits c.whole_part.result c.if-x-lt-OF_ONE.false c.if-x-lt-OF_2_63.true c.whole_part.ensures.0 c.whole_part.ensures.1

pub returns-then-unsigned-gt-INFINITY : goal.returns-then-unsigned-gt-INFINITY
returns-then-unsigned-gt-INFINITY c = to_int_nan c.args.bits c.if-unsigned-gt-INFINITY.true

pub returns-then-bits-lt-SIGN : goal.returns-then-bits-lt-SIGN
returns-then-bits-lt-SIGN c = to_int_end c.args.bits false (lt-leb _ _ c.if-bits-lt-SIGN.true) c.if-x-lt-OF_2_63.false c.if-unsigned-gt-INFINITY.false

pub returns-else-bits-lt-SIGN : goal.returns-else-bits-lt-SIGN
returns-else-bits-lt-SIGN c = to_int_end c.args.bits true (le-leb _ _ c.if-bits-lt-SIGN.false) c.if-x-lt-OF_2_63.false c.if-unsigned-gt-INFINITY.false
