use Rattle.class.proofs.Going.{still_good, going_first, going_next, going_last}
use Rattle.class.specs.Call.{call_of, left_of}
use mathlib.Core.Path.{refl, sym, subst}
use Prim.Native.Nat.{ℕ, ◌*◌, ◌≤◌}
use borrow.Author.Rules.{rules}
use Rattle.class.proofs.scripts.Goals as goal

pub loop-i-init : goal.loop-i-init
loop-i-init c = (refl, refl, refl, refl, refl, going_first (call_of c.args.circuit.now c.args.book.now c.args.log.now c.args.values.now c.args.units.now c.args.delays.now c.args.told.now) _)

pub turn-requires : goal.turn-requires
turn-requires c = let i = c.loop-i.invariant in let now = left_of c.loop-i.log c.loop-i.values c.loop-i.units c.loop-i.delays c.loop-i.told in ((c.requires.0.0, still_good (call_of c.args.circuit.now c.args.book.now c.args.log.now c.args.values.now c.args.units.now c.args.delays.now c.args.told.now) _ _ now i.5 c.requires.0.1), (c.requires.1.0, c.requires.1.1, subst (λ (m : ℕ). c.args.n * c.args.size ≤ m) (sym i.0) c.requires.1.2), c.loop-i-test.true)

pub loop-i-preserved : goal.loop-i-preserved
loop-i-preserved c = let l = c.loop-i in let now = left_of l.log l.values l.units l.delays l.told in (search rules, search rules, search rules, search rules, search rules, going_next (call_of c.args.circuit.now c.args.book.now c.args.log.now c.args.values.now c.args.units.now c.args.delays.now c.args.told.now) _ _ _ now _ c.requires.1.2 c.loop-i-test.true l.invariant.5 c.turn.ensures)

pub returns : goal.returns
returns c = going_last (call_of c.args.circuit.now c.args.book.now c.args.log.now c.args.values.now c.args.units.now c.args.delays.now c.args.told.now) _ _ _ _ c.loop-i.invariant.5 c.loop-i.auto.i-end c.loop-i-test.false
