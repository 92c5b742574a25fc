use Rattle.circuit.proofs.Sized.{broken_8, short_8, two_bounds, fit_8, unfit_8}
use Rattle.circuit.proofs.script.script_sizes.Goals as goal

-- `circuit::script::script_sizes` meets its contract. The sizes are added up only where both are in range. Assumes nothing.

pub returns-then-bytes-ne0 : goal.returns-then-bytes-ne0
returns-then-bytes-ne0 c = broken_8 _ c.if-bytes-ne0.true

pub returns-then-bytes-lt16 : goal.returns-then-bytes-lt16
returns-then-bytes-lt16 c = short_8 _ c.if-bytes-ne0.false c.if-bytes-lt16.true

pub words_of-requires : goal.words_of-requires
words_of-requires c = two_bounds _ _ _ _ c.within.ensures c.within-2.ensures c.if-fit.true

pub returns-then-fit : goal.returns-then-fit
returns-then-fit c = fit_8 _ _ _ _ c.within.ensures c.within-2.ensures _ c.if-bytes-ne0.false c.if-bytes-lt16.false c.get-ticks.ensures c.get-stimuli.ensures c.if-fit.true _ c.words_of.ensures

pub returns-else-fit : goal.returns-else-fit
returns-else-fit c = unfit_8 _ _ _ _ c.within.ensures c.within-2.ensures _ c.if-bytes-ne0.false c.if-bytes-lt16.false c.get-ticks.ensures c.get-stimuli.ensures c.if-fit.false
