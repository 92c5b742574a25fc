-- What waits in the areas, as the scheduler has it: activations without identities.
use Rattle.std.specs.Prelude.{map}
use Rattle.schedule.specs.Schedule.{Setup, plain, Activation, LateQ, MainQ, OpenQ}
use Rattle.model.specs.Circuit.{Circuit}
use Rattle.model.specs.State.{Act}
use Rattle.model.specs.Run.{machine}
use Rattle.units.specs.View.{Lists}

module _ (c : Circuit) where
  -- the machine of a circuit, scheduled without identities
  abbrev pub bare : Setup
  bare = plain (machine c)

  -- an activation
  abbrev pub waiting : Act → Activation bare
  waiting a = record { act = a; tag = tt }

  -- what waits for the late pass
  abbrev pub for_late : Lists → LateQ (Activation bare)
  for_late l = record { late = map waiting l.late; delivered = map waiting l.delivered }

  -- what waits for the main pass, and what is carried
  abbrev pub for_main : Lists → MainQ (Activation bare)
  for_main l = record { pending = map waiting l.pending; carried = map waiting l.carried }

  -- what waits while a tick opens
  abbrev pub for_both : Lists → OpenQ (Activation bare)
  for_both l = record { lateq = for_late l; pending = map waiting l.pending }
