use native.Mathlib.Omega.{arith}
use borrow.Author.Rules.{rules}
use Rattle.circuit.proofs.Turns.{fill_next}
use Rattle.circuit.proofs.sets.words_of_gates.Goals as goal

pub loop-g-init : goal.loop-g-init
loop-g-init g c = (search rules, λ f k h l. absurd (omega arith))

pub loop-g-preserved : goal.loop-g-preserved
loop-g-preserved g c = (search rules, λ f k. fill_next f c.loop-g.words c.loop-g.g _ (search rules) (k _ _ c.word.ensures) (c.loop-g.invariant.1 f k))

pub returns : goal.returns
returns g c = λ f k h l. c.loop-g.invariant.1 f k h (omega arith)
