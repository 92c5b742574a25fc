use Rattle.links.specs.Links.{net}
use Rattle.wires.specs.View.{values as values_view}
use Rattle.states.specs.View.{delays as delays_view}
use Rattle.passes.proofs.Beginning.{begins}
use Rattle.passes.proofs.begin.Goals as goal

pub returns : goal.returns
returns c =
    let a = c.args in let k = net a.links.now in
    record { over_all = begins k (values_view k a.values.now) _ _ (delays_view k a.delays.now) _ _ _ _ _ _ c.requires.4 (c.listed.ensures k _) (c.begin_unit.ensures k).1 c.unit.ensures.over_all; slots_stay = c.unit.ensures.slots_stay }
