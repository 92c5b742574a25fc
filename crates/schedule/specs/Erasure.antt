-- What of a run remains where the identities are left out: all but them.
use Rattle.std.specs.Prelude.{map}
use Rattle.schedule.specs.Schedule.{Setup, plain, Activation, Turn, Tick}

module _ (S : Setup) where
  -- of an activation: what it runs
  abbrev pub bare : Activation S → Activation (plain S.machine)
  bare e = record { act = e.act; tag = tt }

  -- of a unit begun
  abbrev pub bare_turn : Turn S → Turn (plain S.machine)
  bare_turn u = record { unit = bare u.unit; from = u.from; raised = map bare u.raised; ran = u.ran }

  -- of a tick
  abbrev pub bare_tick : Tick S → Tick (plain S.machine)
  bare_tick k =
      record {
        came = map bare k.came;
        first = tt;
        opened = map bare k.opened;
        late = map bare_turn k.late;
        main = map bare_turn k.main;
        waiting = map bare k.waiting;
        carried = map bare k.carried;
        next = tt;
        world = k.world;
        stop = k.stop;
      }
