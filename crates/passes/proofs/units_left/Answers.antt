use Prim.Native.Nat.{ℕ, ◌-◌}
use mathlib.Core.Path.{ap, ◌∙◌}
use Rattle.passes.proofs.units_left.Goals as goal

pub returns : goal.returns
returns c = λ k. c.saturating_sub.ensures ∙ ap (λ (m : ℕ). 1024 - m) (c.begun.ensures.reads k)
