use mathlib.Core.Path.{ap}
use Rattle.states.specs.View.{Delays}
use Rattle.states.proofs.Lending.{lent_kept}
use Rattle.opening.proofs.Ticks.{tick_begins}
use borrow.Author.Rules.{rules}
use Rattle.opening.proofs.begin_tick.Goals as goal

pub returns : goal.returns
returns c =
    let d = c.begin_count.ensures in
    let n = c.narrow-length.ensures in
    record { over_all = tick_begins _ _ _ _ _ _ _ _ _ c.next_tick.ensures c.next_tick-2.ensures d n.1; value = (n.0, lent_kept _ _ _ c.requires.2 (search rules) (ap (λ (d : Delays). d.parts) d)) }
