use Rattle.hours.proofs.Passing.{place_first, place_here, place_next, place_over}
use native.Mathlib.Omega.{arith}
use borrow.Author.Rules.{rules}
use Rattle.hours.proofs.tally.Tally.place.Goals as goal

pub loop-i-init : goal.loop-i-init
loop-i-init c = place_first _ _ _

pub returns-then-self-i : goal.returns-then-self-i
returns-then-self-i c = let s = c.args.self.now in let t = c.loop-i-test.true in (place_here s.drivers s.n c.args.d _ _ (search rules) c.loop-i.invariant t c.if-self-i.true, omega (arith, t))

pub loop-i-preserved : goal.loop-i-preserved
loop-i-preserved c = let s = c.args.self.now in place_next s.drivers s.n c.args.d _ _ (search rules) c.loop-i.invariant c.loop-i-test.true c.if-self-i.false

pub returns : goal.returns
returns c = let s = c.args.self.now in (place_over s.drivers s.n c.args.d _ _ (search rules) c.loop-i.invariant c.loop-i.auto.i-end c.loop-i-test.false, search rules)
