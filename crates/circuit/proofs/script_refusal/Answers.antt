use Rattle.circuit.proofs.Asking.{yes}
use Rattle.circuit.proofs.Parts.{refused_8, refused_9, refused_10, not_refused}
use mathlib.Core.Path.{ap}
use mathlib.Core.Bool.{not}
use Rattle.circuit.proofs.script_refusal.Goals as goal

-- `circuit::script_refusal` meets its contract, question by question. Assumes nothing.

pub returns-then-not-script_sizes : goal.returns-then-not-script_sizes
returns-then-not-script_sizes c = refused_8 _ _ _ c.script_sizes.ensures (ap not c.if-not-script_sizes.true)

pub ticks-requires : goal.ticks-requires
ticks-requires c = yes _ _ c.script_sizes.ensures (ap not c.if-not-script_sizes.false)

pub returns-then-not-ticks : goal.returns-then-not-ticks
returns-then-not-ticks c = refused_9 _ _ _ c.script_sizes.ensures (ap not c.if-not-script_sizes.false) _ c.ticks.ensures (ap not c.if-not-ticks.true)

pub stimuli-requires : goal.stimuli-requires
stimuli-requires c = (c.requires, yes _ _ c.script_sizes.ensures (ap not c.if-not-script_sizes.false))

pub returns-then-not-stimuli : goal.returns-then-not-stimuli
returns-then-not-stimuli c = refused_10 _ _ _ c.script_sizes.ensures (ap not c.if-not-script_sizes.false) _ c.ticks.ensures (ap not c.if-not-ticks.false) _ c.stimuli.ensures (ap not c.if-not-stimuli.true)

pub returns : goal.returns
returns c = not_refused _ _ _ c.script_sizes.ensures (ap not c.if-not-script_sizes.false) _ c.ticks.ensures (ap not c.if-not-ticks.false) _ c.stimuli.ensures (ap not c.if-not-stimuli.false)
