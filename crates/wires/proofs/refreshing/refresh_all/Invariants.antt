use Rattle.std.proofs.Common.{◌≡◌, length}
use Rattle.words.specs.Bits.{bits_left}
use Rattle.model.specs.Base.{each}
use Rattle.model.specs.Wires.{refresh as refresh_gate, refresh_all as refresh_all_gates}
use Rattle.links.specs.Links.{net}
use Rattle.wires.specs.View.{with_wires, values as view}
use Rattle.wires.proofs.Steps.{step}
use Rattle.wires.proofs.refreshing.refresh_all.Given as goal

abbrev pub invariant-loop-g : goal.invariant-loop-g
invariant-loop-g l = (length l.values ≡ length l.initial.values) × (each (step (refresh_gate (net l.links))) (view (net l.links) l.values) (bits_left l.g-iterator) ≡ with_wires (view (net l.links) l.initial.values) (refresh_all_gates (net l.links) (view (net l.links) l.initial.values).wires))
