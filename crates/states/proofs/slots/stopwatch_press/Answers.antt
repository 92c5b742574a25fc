use mathlib.Core.Path.{refl}
use Rattle.model.specs.Delays.{pressed}
use Rattle.states.proofs.Lending.{becomes_past, becomes_any}
use borrow.Author.Rules.{rules}
use Rattle.states.proofs.slots.stopwatch_press.Goals as goal

pub returns-then-gates-g : goal.returns-then-gates-g
returns-then-gates-g c = becomes_past _ _ _ _ c.gates.ensures c.if-gates-g.true _

pub returns : goal.returns
returns c = let a = c.args in becomes_any _ _ _ _ _ _ _ (search rules) c.gates.ensures c.if-gates-g.false c.slot_at-a.ensures refl (search rules) (pressed a.p) c.press.ensures
