-- A size that was asked is the definition's.
use Rattle.std.proofs.Common.{◌≡◌, ℕ, Bool, false, List, ◌∙◌, eq-eqb, ne_eqb}
use Rattle.packed.specs.Same.{same}
use Rattle.size.specs.Call.{Right}
use Rattle.asked.specs.declared.size_due.SizeDue.{SizeDue}
use Rattle.asked.specs.SizeDue.{size_as_due}
use Rattle.asked.specs.SizeMet.{size_met}

-- another number
pub number_other : (d : SizeDue) (n : ℕ) (told words : List ℕ) → (n ≡ d.number → ⊥) → false ≡ size_as_due d n told words
unfolding size_as_due
number_other d n told words h = rw (ne_eqb n d.number h)

-- the number, so that the words decide
pub words_decide : (d : SizeDue) (n : ℕ) (told words : List ℕ) (r : Bool) → n ≡ d.number → r ≡ same told words → r ≡ size_as_due d n told words
unfolding size_as_due
words_decide d n told words r h q = rw (eq-eqb n d.number h) q

-- the call answered, and all compared
pub size_meets :
    (d : SizeDue) (cb words told left : List ℕ) (n m : ℕ) (r : Bool) →
    Right cb d.ticks told left m → n ≡ m → r ≡ size_as_due d n left words →
    r ≡ size_met d cb words told
unfolding size_met
size_meets d cb words told left n m r h e f = f ∙ (λ i. size_as_due d ((e ∙ h.number) i) (h.told_words i) words)
