use Rattle.circuit.proofs.Order.{words_passed, no_4, no_5, no_19, no_6, no_7, yes_7}
use mathlib.Core.Path.{ap}
use mathlib.Core.Bool.{not}
use Rattle.circuit.proofs.links_refusal.Goals as goal

pub inputs_good-requires : goal.inputs_good-requires
inputs_good-requires c = (words_passed _ c.requires.circuit_value).sizes

pub returns-then-not-inputs_good : goal.returns-then-not-inputs_good
returns-then-not-inputs_good c = no_4 _ _ c.requires.circuit_value c.requires.links_value _ c.inputs_good.ensures (ap not c.if-not-inputs_good.true)

pub calls_good-requires : goal.calls_good-requires
calls_good-requires c = (words_passed _ c.requires.circuit_value).sizes

pub returns-then-not-calls_good : goal.returns-then-not-calls_good
returns-then-not-calls_good c = no_5 _ _ c.requires.circuit_value c.requires.links_value _ c.inputs_good.ensures (ap not c.if-not-inputs_good.false) _ c.calls_good.ensures (ap not c.if-not-calls_good.true)

pub returns-then-not-bodies_good : goal.returns-then-not-bodies_good
returns-then-not-bodies_good c = no_19 _ _ c.requires.circuit_value c.requires.links_value _ c.inputs_good.ensures (ap not c.if-not-inputs_good.false) _ c.calls_good.ensures (ap not c.if-not-calls_good.false) _ c.bodies_good.ensures (ap not c.if-not-bodies_good.true)

pub returns-then-not-ordered : goal.returns-then-not-ordered
returns-then-not-ordered c = no_6 _ _ c.requires.circuit_value c.requires.links_value _ c.inputs_good.ensures (ap not c.if-not-inputs_good.false) _ c.calls_good.ensures (ap not c.if-not-calls_good.false) _ c.bodies_good.ensures (ap not c.if-not-bodies_good.false) _ c.ordered.ensures (ap not c.if-not-ordered.true)

pub queues-requires : goal.queues-requires
queues-requires c = (words_passed _ c.requires.circuit_value).sizes

pub returns-then-not-few_queues : goal.returns-then-not-few_queues
returns-then-not-few_queues c = no_7 _ _ c.requires.circuit_value c.requires.links_value _ c.inputs_good.ensures (ap not c.if-not-inputs_good.false) _ c.calls_good.ensures (ap not c.if-not-calls_good.false) _ c.bodies_good.ensures (ap not c.if-not-bodies_good.false) _ c.ordered.ensures (ap not c.if-not-ordered.false) _ c.queues.ensures _ c.few_queues.ensures (ap not c.if-not-few_queues.true)

pub returns : goal.returns
returns c = yes_7 _ _ c.requires.circuit_value c.requires.links_value _ c.inputs_good.ensures (ap not c.if-not-inputs_good.false) _ c.calls_good.ensures (ap not c.if-not-calls_good.false) _ c.bodies_good.ensures (ap not c.if-not-bodies_good.false) _ c.ordered.ensures (ap not c.if-not-ordered.false) _ c.queues.ensures _ c.few_queues.ensures (ap not c.if-not-few_queues.false)
