use Rattle.chain.specs.Chain.{calls_in, stack_before}
use Rattle.units.specs.Calls.{with_calls}
use Rattle.units.specs.View.{units as view}
use Rattle.model.specs.Chain.{no_calls}
use Rattle.links.specs.Links.{net}
use lib.ListN.{length}
use mathlib.Core.Path.{◌≡◌}
use Rattle.chain.proofs.pushing.push_stack.Given as goal

abbrev pub invariant-loop-k : goal.invariant-loop-k
invariant-loop-k l = (length l.units ≡ length l.initial.units) × (with_calls (view (net l.links) l.units) no_calls ≡ with_calls (view (net l.links) l.initial.units) no_calls) × (stack_before (calls_in l.links l.a l.k) (view (net l.links) l.units).calls ≡ stack_before (calls_in l.links l.a l.n) (view (net l.links) l.initial.units).calls)
