use mathlib.Core.Path.{sym, ◌∙◌}
use native.Mathlib.Omega.{arith}
use borrow.Author.Rules.{rules}
use Rattle.linking.proofs.Chaining.{size_most, written_size}
use Rattle.linking.proofs.Loops.{parts_first, parts_next, parts_last}
use Rattle.linking.proofs.chains.Chains.write.Goals as goal

-- `write` meets its contract. The loop: the chains below o are written, of at most 640 members each.

pub loop-o-init : goal.loop-o-init
loop-o-init c = (search rules, parts_first _ _ _ _)

pub overflow_add-done : goal.overflow_add-done
overflow_add-done c = omega (arith, size_most c.args.self.now c.loop-o.o)

pub loop-o-preserved : goal.loop-o-preserved
loop-o-preserved c = (omega (arith, size_most c.args.self.now c.loop-o.o), parts_next _ _ _ _ _ _ _ _ _ c.loop-o-test.true (c.size-done.ensures ∙ sym (written_size _ _ _ _)) c.write_one.ensures c.loop-o.invariant.1)

pub returns : goal.returns
returns c = parts_last _ _ _ _ _ _ _ c.loop-o-test.false c.loop-o.invariant.1
