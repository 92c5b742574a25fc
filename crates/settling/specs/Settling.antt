-- What the code's check answers, and what settling leads to where what it raises is filed as it goes.
use Rattle.std.specs.Prelude.{[], ◌∷◌}
use Rattle.schedule.specs.Schedule.{When, by_rank}
use Rattle.model.specs.Circuit.{Circuit}
use Rattle.model.specs.State.{State}
use Rattle.model.specs.Settle.{Settled}
use Rattle.units.specs.declared.Place.{Place}
use Rattle.units.specs.View.{act_of, Lists}
use Rattle.units.specs.Raising.{activate, place_for, Went, raise_into}
use Rattle.settling.specs.declared.Raised.{Raised}
use Rattle.settling.specs.declared.Raised.TheVariants.{Nothing, Entry, MayWait}

-- a state and an answer, as the definition has them: what is raised is raised at that state, by rank, or, where it may wait, as the check says
unfoldable pub settled : Circuit → When → State → Raised → Settled
settled c when s Nothing = record { state = s; raises = [] }
settled c when s (Entry x) = record { state = s; raises = record { at = s; act = act_of c x; place = by_rank } ∷ [] }
settled c when s (MayWait x) = record { state = s; raises = record { at = s; act = act_of c x; place = when } ∷ [] }

-- what was raised, filed in order, each by how it is raised, up to the first that finds its list full
unfoldable pub filed_into : Circuit → Place → Settled → Lists → Went
filed_into c to z l = raise_into (λ p. activate c (place_for p to)) z.raises l z.state
