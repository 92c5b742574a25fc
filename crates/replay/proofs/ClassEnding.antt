-- Laws of what is due of a class.
use Rattle.std.proofs.Common.{◌≡◌, ℕ, Bool, true, false, not, List, ap, ◌∙◌, eq-eqb, ne_eqb}
use Rattle.model.specs.Base.{if◌then◌otherwise◌}
use Rattle.replay.specs.declared.class_due.ClassDue.{ClassDue}
use Rattle.replay.specs.Bytes.{all_alike, answered}
use Rattle.replay.specs.ClassDue.{area_byte, class_as_due}
use Rattle.packed.proofs.Comparing.{and_left, and_right}

-- ---- the byte of the areas

-- what they were filled with
pub byte_filled : (d : ClassDue) → d.cleared ≡ 0 → 165 ≡ area_byte d
unfolding area_byte if◌then◌otherwise◌
byte_filled d e = rw (eq-eqb d.cleared 0 e)

-- zero
pub byte_zero : (d : ClassDue) → (d.cleared ≡ 0 → ⊥) → 0 ≡ area_byte d
unfolding area_byte if◌then◌otherwise◌
byte_zero d e = rw (ne_eqb d.cleared 0 e)

-- ---- all of it

module _ (d : ClassDue) (n : ℕ) (records words log vs us ds told : List ℕ) where
  -- another number, log or words
  pub due_other : (t : Bool) → t ≡ answered n d.number log records told words → not t ≡ true → false ≡ class_as_due d n records words log vs us ds told
  unfolding class_as_due
  due_other t e h = and_left t (answered n d.number log records told words) (all_alike (area_byte d) vs us ds) e h

  -- these, so that the areas decide
  pub due_by_areas :
      (t r : Bool) (b : ℕ) → t ≡ answered n d.number log records told words → not t ≡ false → b ≡ area_byte d → r ≡ all_alike b vs us ds →
      r ≡ class_as_due d n records words log vs us ds told
  unfolding class_as_due
  due_by_areas t r b e h eb q =
      and_right t r (answered n d.number log records told words) (all_alike (area_byte d) vs us ds) e h (q ∙ ap (λ (x : ℕ). all_alike x vs us ds) eb)
