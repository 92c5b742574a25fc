use lib.ListN.{take}
use native.Mathlib.Omega.{arith}
use Rattle.play.proofs.Texts.{word_added, minus_added, counts_of}
use Rattle.play.proofs.text.add_word.Goals as goal

pub returns-then-word-lt9223372036854775808-clause-text_value : goal.returns-then-word-lt9223372036854775808-clause-text_value
returns-then-word-lt9223372036854775808-clause-text_value c = word_added (take c.args.at c.args.text.now) _ _ _ _ c.if-word-lt9223372036854775808.true c.add_decimal-end.ensures.text_value c.add_byte.ensures.text_value

pub returns-then-word-lt9223372036854775808-clause-prefix_len : goal.returns-then-word-lt9223372036854775808-clause-prefix_len
returns-then-word-lt9223372036854775808-clause-prefix_len c = counts_of _ _ (omega arith)

pub returns-clause-text_value : goal.returns-clause-text_value
returns-clause-text_value c = minus_added (take c.args.at c.args.text.now) _ _ _ _ _ c.if-word-lt9223372036854775808.false c.add_byte-first.ensures.text_value c.add_decimal-end-2.ensures.text_value (omega arith) c.add_byte-2.ensures.text_value

pub returns-clause-prefix_len : goal.returns-clause-prefix_len
returns-clause-prefix_len c = counts_of _ _ (omega arith)
