use Rattle.value.proofs.Laws.{of_two_kinds, contents_equal, floats_equal, contents_differ, floats_compared}
use Rattle.value.proofs.same.Goals as goal

pub returns-then-kind-kind_of : goal.returns-then-kind-kind_of
returns-then-kind-kind_of c = of_two_kinds _ _ _ _ c.kind_of-kind.ensures c.kind_of.ensures c.if-kind-kind_of.true

pub returns-then-kind-eq-FLOAT : goal.returns-then-kind-eq-FLOAT
returns-then-kind-eq-FLOAT c = floats_equal _ _ _ _ c.kind_of-kind.ensures c.kind_of.ensures c.if-kind-kind_of.false _ _ c.content_of-x.ensures c.content_of-y.ensures c.if-x-y.true c.if-kind-eq-FLOAT.true

pub returns-then-x-y : goal.returns-then-x-y
returns-then-x-y c = contents_equal _ _ _ _ c.kind_of-kind.ensures c.kind_of.ensures c.if-kind-kind_of.false _ _ c.content_of-x.ensures c.content_of-y.ensures c.if-x-y.true c.if-kind-eq-FLOAT.false

pub returns-then-kind-ne-FLOAT : goal.returns-then-kind-ne-FLOAT
returns-then-kind-ne-FLOAT c = contents_differ _ _ _ _ c.kind_of-kind.ensures c.kind_of.ensures c.if-kind-kind_of.false _ _ c.content_of-x.ensures c.content_of-y.ensures c.if-x-y.false c.if-kind-ne-FLOAT.true

pub returns : goal.returns
returns c = floats_compared _ _ _ _ c.kind_of-kind.ensures c.kind_of.ensures c.if-kind-kind_of.false _ _ c.content_of-x.ensures c.content_of-y.ensures c.if-x-y.false c.if-kind-ne-FLOAT.false _ c.eq64.ensures
