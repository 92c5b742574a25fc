use Rattle.opening.proofs.Acts.{hears_low, hears_other, hears_by}
use Rattle.opening.proofs.filing.receives.Goals as goal

pub returns-then-k-lt2 : goal.returns-then-k-lt2
returns-then-k-lt2 c = hears_low _ _ _ _ c.kind_of_gate-k.ensures c.if-k-lt2.true

pub returns-then-k-kind : goal.returns-then-k-kind
returns-then-k-kind c = hears_other _ _ _ _ c.kind_of_gate-k.ensures c.if-k-lt2.false c.if-k-kind.true

pub returns : goal.returns
returns c = hears_by _ _ _ _ _ _ _ c.kind_of_gate-k.ensures c.if-k-lt2.false c.if-k-kind.false c.setting.ensures c.same.ensures
