use native.Mathlib.Omega.{arith}
use borrow.Author.Rules.{rules}
use Rattle.linking.proofs.Chaining.{size_first, size_next, size_end, size_out}
use Rattle.linking.proofs.chains.Chains.size.Goals as goal

-- `size` meets its contract. The loop: n members, and those from p on.

pub loop-n-init : goal.loop-n-init
loop-n-init c = size_first _ _ _ _ c.at-p.ensures

pub returns-then-p-ge640 : goal.returns-then-p-ge640
returns-then-p-ge640 c = size_end _ _ _ _ (search rules) c.loop-n.invariant

pub loop-n-preserved : goal.loop-n-preserved
loop-n-preserved c = size_next _ _ _ _ c.loop-n-test.true (search rules) c.loop-n.invariant

pub returns : goal.returns
returns c = let e = size_out _ _ _ _ c.loop-n-test.false c.loop-n.invariant in omega arith
