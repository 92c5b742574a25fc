use native.Mathlib.Omega.{arith}
use Rattle.whole.proofs.Forms.{fire_form, event_form, world_form, no_form, pin_form, output_form, past_forms}
use Rattle.whole.proofs.units.can_have.Goals as goal

pub returns-in-0 : goal.returns-in-0
returns-in-0 c = fire_form _ _ _ _ c.kind_of_gate-kind.ensures _ c.in-0.is c.firing.ensures

pub returns-in-1 : goal.returns-in-1
returns-in-1 c = let e = c.in-1.is in event_form _ _ _ _ c.kind_of_gate-kind.ensures (λ z. omega (arith, z, e)) _ e c.receiving.ensures

pub returns-in-2 : goal.returns-in-2
returns-in-2 c = let e = c.in-2.is in world_form _ _ _ _ c.kind_of_gate-kind.ensures (λ z. omega (arith, z, e)) (λ z. omega (arith, z, e)) e

pub returns-in-16-to-31 : goal.returns-in-16-to-31
returns-in-16-to-31 c = pin_form _ _ _ _ c.kind_of_gate-kind.ensures (λ z. omega (arith, z)) (λ z. omega (arith, z)) (λ z. omega (arith, z)) _ (omega arith) (omega arith) c.driven.ensures

pub returns-in-32-to-33 : goal.returns-in-32-to-33
returns-in-32-to-33 c = output_form _ _ _ _ c.kind_of_gate-kind.ensures (λ z. omega (arith, z)) (λ z. omega (arith, z)) (λ z. omega (arith, z)) (omega arith) (omega arith) (omega arith)

pub returns-in_default : goal.returns-in_default
returns-in_default c = no_form _ _ _ _ c.kind_of_gate-kind.ensures (λ z. omega (arith, z)) (λ z. omega (arith, z)) (λ z. omega (arith, z)) (omega arith)

pub returns-in_default-2 : goal.returns-in_default-2
returns-in_default-2 c = past_forms _ _ _ _ c.kind_of_gate-kind.ensures (λ z. omega (arith, z)) (λ z. omega (arith, z)) (λ z. omega (arith, z)) (omega arith) (omega arith) (omega arith)
