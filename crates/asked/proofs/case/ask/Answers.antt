use mathlib.Core.Path.{◌∙◌}
use Rattle.asked.specs.Case.{answers, areas_of}
use Rattle.asked.proofs.case.ask.Goals as goal

pub returns : goal.returns
unfolding answers areas_of
returns c = λ i. record { check = (c.refused.ensures ∙ c.check.ensures) i; refusal = (c.refused-2.ensures ∙ c.refusal.ensures) i }
