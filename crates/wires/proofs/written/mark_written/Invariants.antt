use Rattle.model.specs.Settle.{publish_write as publish_one}
use Rattle.std.proofs.Common.{◌≡◌, length, drop}
use Rattle.model.specs.Base.{each}
use Rattle.links.specs.Links.{net}
use Rattle.wires.specs.View.{with_wires, values as view}
use Rattle.wires.proofs.Steps.{step}
use Rattle.wires.proofs.written.mark_written.Given as goal

abbrev pub invariant-loop-k : goal.invariant-loop-k
invariant-loop-k l = (length l.values ≡ length l.initial.values) × ((view (net l.links) l.values).wires.written ≡ (view (net l.links) l.initial.values).wires.written) × (each (step (publish_one (net l.links))) (view (net l.links) l.values) (drop l.k (view (net l.links) l.initial.values).wires.written) ≡ with_wires (view (net l.links) l.initial.values) (each (publish_one (net l.links)) (view (net l.links) l.initial.values).wires (view (net l.links) l.initial.values).wires.written))
