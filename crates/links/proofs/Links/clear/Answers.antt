use Rattle.std.proofs.Common.{rules, ◌≡◌, ℕ, replicate, ap, ◌∙◌}
use Rattle.links.proofs.Links.clear.Goals as goal

pub returns : goal.returns
returns c = c.fill.ensures.after (λ y e. e) ∙ ap (λ (n : ℕ). replicate n 0) c.self.told
