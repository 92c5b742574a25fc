use Rattle.class.proofs.Lending.{turned}
use Rattle.class.specs.Call.{call_of}
use Rattle.books.proofs.Parts.{part_in}
use native.Mathlib.Omega.{arith}
use lib.ListN.{length}
use Rattle.class.proofs.turn.Goals as goal

pub overflow_mul-at : goal.overflow_mul-at
overflow_mul-at c = omega (arith, part_in c.args.n c.args.size c.args.i (length c.args.log.now) c.requires.2 c.requires.1.2, c.well_formed)

pub overflow_add-behind : goal.overflow_add-behind
overflow_add-behind c = omega (arith, part_in c.args.n c.args.size c.args.i (length c.args.log.now) c.requires.2 c.requires.1.2, c.well_formed)

pub slice_bounds-script_answer-end-2 : goal.slice_bounds-script_answer-end-2
slice_bounds-script_answer-end-2 c = part_in _ _ _ _ c.requires.2 c.requires.1.2

pub returns : goal.returns
returns c = turned (call_of c.args.circuit.now c.args.book.now c.args.log.now c.args.values.now c.args.units.now c.args.delays.now c.args.told.now) _ _ _ _ c.requires.2 c.requires.1.2 c.entry-s.ensures _ (record { log = _; values = _; units = _; delays = _ }) _ c.script_answer-answer.ensures (rw (← c.numbered.ensures) c.tell.ensures)
