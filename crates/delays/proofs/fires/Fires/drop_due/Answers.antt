use Rattle.delays.proofs.Firing.{drop_ends}
use mathlib.Core.Path.{refl, ap}
use mathlib.Core.Bool.{not}
use Rattle.delays.proofs.Firing.{drop_turn, drop_stays, drop_none}
use borrow.Author.Rules.{rules}
use Rattle.delays.proofs.fires.Fires.drop_due.Goals as goal

pub loop-self-init : goal.loop-self-init
loop-self-init c = (refl, search rules, refl)

pub returns-then-not-due : goal.returns-then-not-due
returns-then-not-due c = (c.loop-self.invariant.0, drop_ends _ _ c.loop-self.invariant.1 c.requires (drop_stays _ _ _ _ _ _ _ _ c.loop-self.invariant.2 c.loop-self-test.true c.of_word-front.ensures c.due.ensures (ap not c.if-not-due.true)))

pub loop-self-preserved : goal.loop-self-preserved
loop-self-preserved c = (c.loop-self.invariant.0, search rules, drop_turn _ _ _ _ _ _ _ _ c.loop-self.invariant.2 c.loop-self-test.true c.of_word-front.ensures c.due.ensures (ap not c.if-not-due.false))

pub returns : goal.returns
returns c = (c.loop-self.invariant.0, drop_ends _ _ c.loop-self.invariant.1 c.requires (drop_none _ _ _ _ _ _ c.loop-self.invariant.2 c.loop-self-test.false))
