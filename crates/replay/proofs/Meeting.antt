-- A run that was played is the definition's.
use Rattle.std.proofs.Common.{◌≡◌, ℕ, Bool, List, ◌∙◌}
use Rattle.run.specs.Call.{Right}
use Rattle.run.specs.Told.{Answer, told}
use Rattle.replay.specs.declared.due.Due.{Due}
use Rattle.replay.specs.Due.{as_due}
use Rattle.replay.specs.Met.{called, met}

-- the call answered, and all compared
pub meets :
    (d : Due) (cb sb records l v u e l₁ v₁ u₁ e₁ : List ℕ) (a : Answer) (r : Bool) →
    Right (called cb sb l v u e) (record { log = l₁; values = v₁; units = u₁; delays = e₁ }) (λ m. a ≡ told m) → r ≡ as_due d a records 165 l₁ v₁ u₁ e₁ →
    r ≡ met d cb sb records l v u e
unfolding met
meets d cb sb records l v u e l₁ v₁ u₁ e₁ a r h f = f ∙ (λ i. as_due d (h.answer i) records 165 (h.log i) (h.values i) (h.units i) (h.delays i))
