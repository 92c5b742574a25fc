-- Runs, one behind the other.
use mathlib.Core.Path.{◌≡◌, refl, sym, ap, ◌∙◌}
use Prim.Native.Nat.{ℕ}
use Rattle.model.specs.State.{State}
use Rattle.model.specs.Chain.{Calls, no_calls, Chained, chained}
use Rattle.units.specs.View.{Lists}
use Rattle.areas.specs.Areas.{Kept, Contents, with_state, with_calls}
use Rattle.chain.specs.declared.Ran.{Ran}
use Rattle.chain.specs.Chain.{Runs, started}

-- a run keeps what waits, and the rest
pub lists_stay : {a b : Contents} {r : Ran} {k : Chained} → Runs a b r k → b.lists ≡ a.lists
lists_stay p = ap (λ (x : Contents). x.lists) p.state

pub kept_stays : {a b : Contents} {r : Ran} {k : Chained} → Runs a b r k → b.kept ≡ a.kept
kept_stays p = ap (λ (x : Contents). x.kept) p.state

-- a run that goes on where the lists and the rest are the same
pub runs_from :
    {a b d : Contents} {r : Ran} {k : Chained} → b.lists ≡ a.lists → b.kept ≡ a.kept → Runs b d r k → Runs a d r k
runs_from {a} {b} {d} {r} {k} l e p =
    record {
      state = p.state ∙ (λ j. record { state = k.state; lists = l j; calls = no_calls; kept = e j });
      calls = p.calls;
      left = p.left;
      stop = p.stop;
    }

-- where another run came to
pub runs_after : {a b d : Contents} {r q : Ran} {k m : Chained} → Runs a b r k → Runs b d q m → Runs a d q m
runs_after p z = runs_from (lists_stay p) (kept_stays p) z

-- what a run without a stop came to is what the areas hold
pub reached : {a b : Contents} {r : Ran} {k : Chained} → Runs a b r k → k.stop ≡ 0 → k ≡ started b r.left
unfolding chained
reached {a} {b} {r} {k} p e =
    λ j. record { state = ap (λ (x : Contents). x.state) (sym p.state) j; left = sym p.left j; stop = e j; calls = sym (p.calls e) j }
