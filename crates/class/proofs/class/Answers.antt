use Rattle.circuit.proofs.Numbers.{handed}
use Rattle.class.proofs.Calls.{class_refused, class_no_book, class_answered}
use Rattle.class.specs.Call.{call_of}
use Rattle.books.proofs.Books.{good_count}
use Rattle.circuit.proofs.Theorems.{links_are_circuit}
use borrow.Author.Tests.{not-true, not-false}
use mathlib.Core.Path.{refl, sym, ◌∙◌}
use borrow.Author.Rules.{rules}
use mathlib.Core.Path.{ap}
use mathlib.Core.Bool.{not}
use Rattle.class.proofs.class.Goals as goal

pub returns-in_err-refusal_lent : goal.returns-in_err-refusal_lent
returns-in_err-refusal_lent c = let k = c.in_err-refusal_lent.ensures in let h = handed _ _ _ c.from_residual.ensures.1 k.0 in class_refused (call_of c.args.circuit.now c.args.book.now c.args.log.now c.args.values.now c.args.units.now c.args.delays.now c.args.told.now) _ h.0 h.1

pub returns-then-not-good_book : goal.returns-then-not-good_book
returns-then-not-good_book c = class_no_book (call_of c.args.circuit.now c.args.book.now c.args.log.now c.args.values.now c.args.units.now c.args.delays.now c.args.told.now) 0 c.in_ok-refusal_lent.ensures.0 refl _ c.good_book.ensures (not-true _ (ap not c.if-not-good_book.true))

pub part_of-size-requires : goal.part_of-size-requires
part_of-size-requires c = good_count _ _ _ c.count-n.ensures (sym c.good_book.ensures ∙ not-false _ (ap not c.if-not-good_book.false))

pub scripts-requires : goal.scripts-requires
scripts-requires c = let k = c.in_ok-refusal_lent.ensures in let z = sym k.0 in let g = good_count _ _ _ c.count-n.ensures (sym c.good_book.ensures ∙ not-false _ (ap not c.if-not-good_book.false)) in ((links_are_circuit _ _ _ _ z k.1, z), (c.count-n.ensures, g.1, c.part_of-size.ensures.1))

pub returns : goal.returns
returns c = class_answered (call_of c.args.circuit.now c.args.book.now c.args.log.now c.args.values.now c.args.units.now c.args.delays.now c.args.told.now) 0 c.in_ok-refusal_lent.ensures.0 refl _ c.good_book.ensures (not-false _ (ap not c.if-not-good_book.false)) _ c.count-n.ensures _ c.part_of-size.ensures.0 _ c.scripts.ensures
