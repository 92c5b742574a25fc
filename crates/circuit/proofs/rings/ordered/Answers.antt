use native.Mathlib.Omega.{arith}
use borrow.Author.Rules.{rules}
use Rattle.model.specs.Kinds.{pure}
use Rattle.model.specs.Circuit.{kind_of_gate}
use Rattle.links.specs.Links.{net}
use Rattle.circuit.proofs.Sources.{pure_first, pure_over, pure_next, pure_last}
use Rattle.circuit.proofs.rings.ordered.Goals as goal

pub loop-k-init : goal.loop-k-init
loop-k-init c = pure_first _ _ _ c.gates-n.ensures.0 (c.gates_where-unplaced.ensures (λ g. pure (kind_of_gate (net c.args.links.now) g)) (λ g t l k. search rules))

pub returns-then-unplaced-eq0 : goal.returns-then-unplaced-eq0
returns-then-unplaced-eq0 c = pure_over _ _ _ _ c.gates-n.ensures.0 c.loop-k-test.true c.loop-k.invariant c.if-unplaced-eq0.true

pub loop-k-preserved : goal.loop-k-preserved
loop-k-preserved c = pure_next _ _ _ _ _ _ c.gates-n.ensures.0 c.gates-n.ensures.1 (λ g l. c.all_awaited-words.ensures g (omega (arith, l, c.gates-n.ensures.1))) c.loop-k.invariant c.round-unplaced.ensures

pub returns : goal.returns
returns c = pure_last _ _ _ _ c.gates-n.ensures.0 c.loop-k.auto._k-end c.loop-k-test.false c.loop-k.invariant
