-- A class that was played is the definition's.
use Rattle.std.proofs.Common.{◌≡◌, ℕ, Bool, List, ◌∙◌}
use Rattle.class.specs.Call.{Right}
use Rattle.replay.specs.declared.class_due.ClassDue.{ClassDue}
use Rattle.replay.specs.ClassDue.{class_as_due}
use Rattle.replay.specs.ClassMet.{class_called, class_met}

-- the call answered, and all compared
pub class_meets :
    (d : ClassDue) (cb bk records words l v u e t l₁ v₁ u₁ e₁ t₁ : List ℕ) (n m : ℕ) (r : Bool) →
    Right (class_called cb bk l v u e t) (record { log = l₁; values = v₁; units = u₁; delays = e₁; told = t₁ }) m → n ≡ m → r ≡ class_as_due d n records words l₁ v₁ u₁ e₁ t₁ →
    r ≡ class_met d cb bk records words l v u e t
unfolding class_met
class_meets d cb bk records words l v u e t l₁ v₁ u₁ e₁ t₁ n m r h e₂ f =
    f ∙ (λ i. class_as_due d ((e₂ ∙ h.number) i) records words (h.log i) (h.values i) (h.units i) (h.delays i) (h.told i))
