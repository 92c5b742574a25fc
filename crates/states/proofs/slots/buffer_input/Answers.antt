use mathlib.Core.Path.{refl, ap, ◌∙◌}
use Rattle.model.specs.Value.{truthy}
use Rattle.model.specs.Delays.{buffer_input}
use Rattle.model.specs.Exec.{countdown}
use Rattle.states.proofs.Lending.{starts_past, of_kind, starts_gate}
use borrow.Author.Rules.{rules}
use Rattle.states.proofs.slots.buffer_input.Goals as goal

pub returns-then-gates-g : goal.returns-then-gates-g
returns-then-gates-g c = let a = c.args in starts_past _ _ _ _ c.gates.ensures c.if-gates-g.true (truthy a.v) (λ d left. buffer_input d a.v left)

pub input-requires : goal.input-requires
input-requires c = (search rules, of_kind _ _ _ _ _ c.kind_of_gate-seconds.ensures c.countdown-k.ensures)

pub returns : goal.returns
returns c = let a = c.args in starts_gate _ _ _ _ _ _ _ (search rules) c.gates.ensures c.if-gates-g.false c.slot_at-a.ensures refl (search rules) _ _ _ _ (λ d left. buffer_input d a.v left) c.kind_of_gate-seconds.ensures (c.countdown-k.ensures ∙ ap (countdown _ _) c.truthy.ensures) c.input.ensures c.count_changed.ensures
