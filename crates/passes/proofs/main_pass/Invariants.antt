use mathlib.Core.Path.{◌≡◌}
use Prim.Native.Nat.{◌-◌}
use lib.ListN.{length}
use Rattle.links.specs.Links.{net}
use Rattle.states.specs.View.{Lent}
use Rattle.areas.specs.Areas.{areas}
use Rattle.passes.proofs.Mainly.{Mainly}
use Rattle.passes.proofs.main_pass.Given as goal

abbrev pub invariant-loop : goal.invariant-loop
invariant-loop l = (length l.values ≡ length l.initial.values) × (length l.units ≡ length l.initial.units) × (length l.delays ≡ length l.initial.delays) × Lent (net l.links) l.delays × Mainly (net l.links) (areas (net l.links) l.initial.values l.initial.units l.initial.delays) (areas (net l.links) l.values l.units l.delays) l.left l.rest (l.n - l.counter)
