use Prim.Native.Nat.{◌+◌, ◌*◌}
use mathlib.Core.Path.{◌∙◌, ap}
use native.Mathlib.Omega.{arith}
use Rattle.model.specs.Value.{bit}
use Rattle.circuit.proofs.Descent.{down_first, down_none, down_room, down_more, down_next, down_last}
use Rattle.circuit.proofs.sets.gates_where.Goals as goal

-- `circuit::sets::gates_where` meets its contract: the word of the gates from g on, which has as many digits.

pub loop-g-init : goal.loop-g-init
loop-g-init g c = (down_none c.args.n, λ p h. down_first p c.args.n)

pub with_bit-word-requires : goal.with_bit-word-requires
with_bit-word-requires g c = down_room c.args.n c.loop-g.g _ c.requires.few c.loop-g-test.true c.loop-g.invariant.0

pub loop-g-preserved : goal.loop-g-preserved
loop-g-preserved g c = (
  down_more c.args.n c.loop-g.g _ _ _ c.loop-g.auto.g c.loop-g-test.true c.loop-g.invariant.0 c.with_bit-word.ensures,
  λ p h. down_next p c.args.n _ _ _ c.loop-g.auto.g c.loop-g-test.true (c.loop-g.invariant.1 p h) (c.with_bit-word.ensures ∙ ap (λ t. c.loop-g.word * 2 + bit t) (h _ _ (omega (arith, c.loop-g.auto.g, c.loop-g-test.true)) c.passes.ensures)),
)

pub returns : goal.returns
returns g c = λ p h. down_last p _ _ _ c.loop-g-test.false (c.loop-g.invariant.1 p h)
