use mathlib.Core.Path.{ap₂}
use native.Mathlib.Omega.{arith}
use Rattle.model.specs.Questions.{comes_out}
use Rattle.links.specs.Links.{net}
use Rattle.circuit.proofs.Nested.{way_out, way_on, way_ends}
use Rattle.circuit.proofs.bodies.comes_out.Goals as goal

-- `circuit::bodies::comes_out` meets its contract: what is left of the way comes to the same.

pub loop-k-init : goal.loop-k-init
loop-k-init c = ap₂ (comes_out (net c.args.links.now)) (omega (arith, c.gates-n.ensures.0)) c.body_of_gate-around.ensures

pub returns-then-around-eq0 : goal.returns-then-around-eq0
returns-then-around-eq0 c = way_out _ _ _ _ c.if-around-eq0.true c.loop-k.invariant

pub loop-k-preserved : goal.loop-k-preserved
loop-k-preserved c = way_on _ _ _ _ _ _ c.loop-k-test.true c.if-around-eq0.false c.body_of_gate-around-in-loop-k.ensures c.loop-k.invariant

pub returns : goal.returns
returns c = way_ends _ _ _ _ _ c.loop-k-test.false c.loop-k.invariant
