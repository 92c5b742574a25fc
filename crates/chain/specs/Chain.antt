-- What the code's chains make of the areas. After a stop the calls that were left stay open: no rule decides them, and the next unit clears them.
use Rattle.std.specs.Prelude.{ℕ, ◌≡◌, true, not, cond, List, ◌++◌, map}
use Rattle.lists.specs.Lists.{Filed, NoRoom, Done}
use Rattle.model.specs.Base.{keep, from}
use Rattle.model.specs.Circuit.{Call}
use Rattle.model.specs.Chain.{Calls, no_calls, fit, Chained, chained}
use Rattle.links.specs.Links.{call_of, target}
use Rattle.units.specs.View.{Units}
use Rattle.units.specs.Calls as units
use Rattle.areas.specs.Areas.{Contents, with_state, with_calls}
use Rattle.chain.specs.declared.Ran.{Ran}

-- The calls of an output were added and are now q, if they all fit: u became v.
pub record Pushes (u v : Units) (r : Filed) (q : Calls) : Type 0 where
  pub answer : r ≡ cond (fit q) Done NoRoom
  pub calls : fit q ≡ true → v.calls ≡ q
  pub others : units.with_calls v no_calls ≡ units.with_calls u no_calls

-- a run that goes on from what the areas hold, with so many steps left
abbrev pub started : Contents → ℕ → Chained
started a left = chained a.state left 0 a.calls

-- The areas a became b, with the answer r, as the definition's run k; the calls that a stop left stay open.
pub record Runs (a b : Contents) (r : Ran) (k : Chained) : Type 0 where
  pub state : with_calls b no_calls ≡ with_calls (with_state a k.state) no_calls
  pub calls : k.stop ≡ 0 → b.calls ≡ k.calls
  pub left : r.left ≡ k.left
  pub stop : r.stop ≡ k.stop

-- ---- the two ways of a call

-- n calls of the table of all, from call a on
unfoldable pub calls_in : List ℕ → ℕ → ℕ → List Call
calls_in l a n = map (λ k. call_of (target l k)) (from a n)

-- the remote ones of some calls behind the forks
unfoldable pub forks_behind : List Call → Calls → Calls
forks_behind ks q = units.forks≔ q (q.forks ++ map (λ k. k.to) (keep (λ k. k.remote) ks))

-- the others before the stack
unfoldable pub stack_before : List Call → Calls → Calls
stack_before ks q = units.stack≔ q (map (λ k. k.to) (keep (λ k. not k.remote) ks) ++ q.stack)
