use borrow.Author.Rules.{sfits_of}
use Rattle.loops.proofs.Runs.{counts_read}
use Rattle.loops.proofs.counting.read_counts.Goals as goal

pub returns : goal.returns
returns c = counts_read _ _ _ _ _ _ _ _ _ _ _ _ _ _ _ _ (sfits_of c.as_int.type_inv) (sfits_of c.as_int-2.type_inv) (sfits_of c.as_int-3.type_inv) c.input.ensures.0 c.look.ensures c.as_int.ensures c.natural-count.ensures c.input-2.ensures.0 c.look-2.ensures c.as_int-2.ensures c.unsigned-first.ensures c.input-3.ensures.0 c.look-3.ensures c.as_int-3.ensures c.unsigned-step.ensures
