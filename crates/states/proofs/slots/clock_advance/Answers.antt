use mathlib.Core.Path.{refl}
use Rattle.model.specs.Delays.{advance_elapsed}
use Rattle.states.proofs.Lending.{clock_past, turns_any}
use borrow.Author.Rules.{rules}
use Rattle.states.proofs.slots.clock_advance.Goals as goal

pub returns-then-gates-g : goal.returns-then-gates-g
returns-then-gates-g c = clock_past _ _ _ _ c.gates.ensures c.if-gates-g.true _ _ _ _ c.advance-next.ensures

pub returns : goal.returns
returns c = let a = c.args in turns_any _ _ _ _ _ _ _ (search rules) c.gates.ensures c.if-gates-g.false c.slot_at-a.ensures refl (search rules) (advance_elapsed a.dt a.interval a.enabled) _ _ c.run_clock.ensures
