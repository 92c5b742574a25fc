use borrow.Author.Rules.{rules}
use Rattle.linking.proofs.Chaining.{write_first, write_next, write_end, write_out}
use Rattle.linking.proofs.chains.Chains.write_one.Goals as goal

-- `write_one` meets its contract. The loop: what is left to write are the members from p on.

pub loop-n-init : goal.loop-n-init
loop-n-init c = write_first _ _ _ _ _ _ _ c.at-p.ensures

pub returns-then-p-ge640 : goal.returns-then-p-ge640
returns-then-p-ge640 c = write_end _ _ _ _ _ _ _ (search rules) c.loop-n.invariant

pub loop-n-preserved : goal.loop-n-preserved
loop-n-preserved c = write_next _ _ _ _ _ _ _ _ _ c.loop-n-test.true (search rules) c.target-v.ensures c.put.ensures c.loop-n.invariant

pub returns : goal.returns
returns c = write_out _ _ _ _ _ _ _ c.loop-n-test.false c.loop-n.invariant
