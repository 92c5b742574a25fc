use Rattle.units.specs.View.{units as held}
use Rattle.wires.specs.View.{with_wires, values as view}
use Rattle.links.specs.Links.{net}
use Rattle.model.specs.Wires.{set_outs}
use Rattle.model.specs.State.{Send}
use lib.ListN.{length, get_or, drop}
use mathlib.Core.List.{[], map}
use mathlib.Core.Path.{◌≡◌}
use Prim.Native.Nat.{◌+◌}
use Rattle.unit.proofs.set_event.Given as goal

abbrev pub invariant-loop-j : goal.invariant-loop-j
invariant-loop-j l = (length l.values ≡ length l.initial.values) × (with_wires (view (net l.links) l.values) (set_outs (net l.links) (view (net l.links) l.values).wires (l.o + l.j) (drop l.j (get_or (map (λ (m : Send). m.row) (held (net l.links) l.units).events) l.e []))) ≡ with_wires (view (net l.links) l.initial.values) (set_outs (net l.links) (view (net l.links) l.initial.values).wires l.o (get_or (map (λ (m : Send). m.row) (held (net l.links) l.units).events) l.e [])))
