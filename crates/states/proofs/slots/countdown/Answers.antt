use mathlib.Core.Path.{refl, sym, ◌∙◌}
use Rattle.delays.proofs.Countdowns.{of_gate}
use Rattle.states.proofs.slots.countdown.Goals as goal

pub returns : goal.returns
returns c = c.buffer_countdown.ensures ∙ (rw (c.kind_of_gate-seconds.ensures, c.setting.ensures, c.setting-2.ensures) refl) ∙ sym (of_gate _ _ _)
