use Rattle.circuit.proofs.Sized.{broken_1, short_1, four_bounds, fit_1, unfit_1}
use Rattle.circuit.proofs.sizes.sizes.Goals as goal

-- `circuit::sizes::sizes` meets its contract. The sizes are added up only where all four are in range. Assumes nothing.

pub returns-then-bytes-ne0 : goal.returns-then-bytes-ne0
returns-then-bytes-ne0 c = broken_1 _ c.if-bytes-ne0.true

pub returns-then-bytes-lt32 : goal.returns-then-bytes-lt32
returns-then-bytes-lt32 c = short_1 _ c.if-bytes-ne0.false c.if-bytes-lt32.true

pub words_of-requires : goal.words_of-requires
words_of-requires c = four_bounds _ _ _ _ _ _ _ _ c.within.ensures c.within-2.ensures c.within-3.ensures c.within-4.ensures c.if-fit.true

pub returns-then-fit : goal.returns-then-fit
returns-then-fit c = fit_1 _ _ _ _ _ _ _ _ c.within.ensures c.within-2.ensures c.within-3.ensures c.within-4.ensures _ c.if-bytes-ne0.false c.if-bytes-lt32.false c.get-gates.ensures c.get-constants.ensures c.get-inputs.ensures c.get-calls.ensures c.if-fit.true _ c.words_of.ensures

pub returns-else-fit : goal.returns-else-fit
returns-else-fit c = unfit_1 _ _ _ _ _ _ _ _ c.within.ensures c.within-2.ensures c.within-3.ensures c.within-4.ensures _ c.if-bytes-ne0.false c.if-bytes-lt32.false c.get-gates.ensures c.get-constants.ensures c.get-inputs.ensures c.get-calls.ensures c.if-fit.false
