use Rattle.opening.proofs.Rows.{row_left}
use Rattle.wires.specs.View.{with_wires, values as wiring}
use Rattle.links.specs.Links.{net}
use Rattle.model.specs.Wires.{set_outs}
use Rattle.model.specs.Value.{value_of}
use Rattle.model.specs.Base.{both}
use lib.ListN.{length}
use mathlib.Core.Path.{◌≡◌}
use Rattle.opening.proofs.moving.set_row.Given as goal

abbrev pub invariant-loop-k : goal.invariant-loop-k
invariant-loop-k l = (length l.values ≡ length l.initial.values) × (row_left (net l.links) l.o l.kinds l.contents (wiring (net l.links) l.values) l.k ≡ with_wires (wiring (net l.links) l.initial.values) (set_outs (net l.links) (wiring (net l.links) l.initial.values).wires l.o (both value_of l.kinds l.contents)))
