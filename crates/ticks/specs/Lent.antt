-- What contracts say of a tick.
use Rattle.std.specs.Prelude.{ℕ, ◌-◌, ◌*◌, ◌≡◌, List, map, length}
use Rattle.schedule.specs.Schedule.{tick}
use Rattle.model.specs.Circuit.{Circuit}
use Rattle.model.specs.Unit.{World}
use Rattle.model.specs.Run.{Allowed}
use Rattle.areas.specs.Areas.{Contents}
use Rattle.passes.specs.Waiting.{bare, waiting}
use Rattle.ticks.specs.declared.Ticked.{Ticked}
use Rattle.ticks.specs.Ticks.{Ticks}

-- the areas a became b, and the log `after`, with the answer r, as the scheduler's tick does with what it gets
abbrev pub TicksAs : Circuit → Contents → Contents → List ℕ → List ℕ → ℕ → Ticked → Allowed → Type 0
TicksAs c a b before after at r i =
    (w : World) → w.state ≡ a.state → w.room ≡ length before - 8 * at
    → Ticks c a b before after at r.size r.stop w (tick (bare c) w i (map (waiting c) a.lists.carried) tt)
