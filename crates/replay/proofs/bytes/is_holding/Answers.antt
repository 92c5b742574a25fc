use Rattle.std.proofs.Common.{List, ℕ, ap, ◌∙◌}
use Rattle.packed.specs.Same.{same}
use Rattle.packed.proofs.Comparing.{same_is}
use Rattle.replay.specs.Bytes.{alike, holds}
use Rattle.replay.proofs.Comparing.{holds_short, and_go, and_end}
use Rattle.replay.proofs.bytes.is_holding.Goals as goal

pub returns-in-None : goal.returns-in-None
returns-in-None c = holds_short _ _ _ c.in-None.ensures.cases

pub returns-then-eq : goal.returns-then-eq
unfolding holds
returns-then-eq c =
    and_go _ _ _ _ (c.eq.ensures ∙ same_is _ _ ∙ ap (λ (l : List ℕ). same l c.args.records.now) c.in-Some.ensures.cases.1) c.if-eq.true
    (c.is_alike.ensures ∙ ap (λ (l : List ℕ). alike c.args.byte l) c.in-Some.ensures.cases.2)

pub returns-else-eq : goal.returns-else-eq
unfolding holds
returns-else-eq c = and_end _ _ _ (c.eq.ensures ∙ same_is _ _ ∙ ap (λ (l : List ℕ). same l c.args.records.now) c.in-Some.ensures.cases.1) c.if-eq.false
