use Rattle.settling.proofs.Turns.{Left}
use Rattle.areas.specs.Areas.{areas}
use Rattle.states.specs.View.{Lent}
use Rattle.links.specs.Links.{net}
use lib.ListN.{length}
use mathlib.Core.Path.{◌≡◌}
use Prim.Native.Nat.{◌-◌}
use Rattle.settling.proofs.settle_on.Given as goal

abbrev pub invariant-loop : goal.invariant-loop
invariant-loop l = (length l.values ≡ length l.initial.values) × (length l.units ≡ length l.initial.units) × (length l.delays ≡ length l.initial.delays) × Lent (net l.links) l.delays × Left (net l.links) l.to (l.n - l.counter) (areas (net l.links) l.values l.units l.delays) l.n (areas (net l.links) l.initial.values l.initial.units l.initial.delays)
