use Rattle.circuit.proofs.Asking.{yes}
use Rattle.circuit.proofs.Order.{no_1, no_2, no_3, yes_3}
use mathlib.Core.Path.{ap}
use mathlib.Core.Bool.{not}
use Rattle.circuit.proofs.words_refusal.Goals as goal

pub returns-then-not-sizes : goal.returns-then-not-sizes
returns-then-not-sizes c = no_1 _ _ c.sizes.ensures (ap not c.if-not-sizes.true)

pub constants-requires : goal.constants-requires
constants-requires c = yes _ _ c.sizes.ensures (ap not c.if-not-sizes.false)

pub returns-then-not-constants : goal.returns-then-not-constants
returns-then-not-constants c = no_2 _ _ c.sizes.ensures (ap not c.if-not-sizes.false) _ c.constants.ensures (ap not c.if-not-constants.true)

pub gates-requires : goal.gates-requires
gates-requires c = yes _ _ c.sizes.ensures (ap not c.if-not-sizes.false)

pub returns-then-not-gates : goal.returns-then-not-gates
returns-then-not-gates c = no_3 _ _ c.sizes.ensures (ap not c.if-not-sizes.false) _ c.constants.ensures (ap not c.if-not-constants.false) _ c.gates.ensures (ap not c.if-not-gates.true)

pub returns : goal.returns
returns c = yes_3 _ _ c.sizes.ensures (ap not c.if-not-sizes.false) _ c.constants.ensures (ap not c.if-not-constants.false) _ c.gates.ensures (ap not c.if-not-gates.false)
