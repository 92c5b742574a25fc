use Rattle.std.proofs.Common.{◌≡◌, ◌+◌, ◌*◌, length}
use Rattle.model.specs.Base.{each, from}
use Rattle.model.specs.Wires.{behind, refresh_to}
use Rattle.links.specs.Links.{net}
use Rattle.wires.specs.View.{with_wires, values as view}
use Rattle.wires.proofs.Lists.{left_of}
use Rattle.wires.proofs.Steps.{step}
use Rattle.wires.proofs.refreshing.+refresh_behind_refresh_sources_refresh_to.Given as goal

abbrev pub decreases-refresh_behind : goal.decreases-refresh_behind
decreases-refresh_behind l = 3 * l.deep + 1

abbrev pub decreases-refresh_sources : goal.decreases-refresh_sources
decreases-refresh_sources l = 3 * l.deep + 2

abbrev pub decreases-refresh_to : goal.decreases-refresh_to
decreases-refresh_to l = 3 * l.deep

abbrev pub invariant-refresh_sources-loop-k : goal.invariant-refresh_sources-loop-k
invariant-refresh_sources-loop-k l = (length l.values ≡ length l.initial.values) × (left_of (step (behind (net l.links) (refresh_to (net l.links) l.deep))) (view (net l.links) l.values) l.a l.n l.k ≡ with_wires (view (net l.links) l.initial.values) (each (behind (net l.links) (refresh_to (net l.links) l.deep)) (view (net l.links) l.initial.values).wires (from l.a l.n)))
