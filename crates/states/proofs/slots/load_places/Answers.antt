use Rattle.states.proofs.Firing.{load_next, load_last}
use mathlib.Core.Path.{refl}
use borrow.Author.Rules.{rules}
use Rattle.states.proofs.slots.load_places.Goals as goal

pub loop-i-init : goal.loop-i-init
loop-i-init c = (search rules, refl)

pub loop-i-preserved : goal.loop-i-preserved
loop-i-preserved c = (search rules, load_next _ _ _ _ (search rules) c.loop-i.invariant.0 c.loop-i-test.true c.loop-i.invariant.1 c.get.ensures)

pub returns : goal.returns
returns c = load_last _ _ _ (search rules) c.loop-i.invariant.0 c.loop-i.invariant.1 c.loop-i-test.false
