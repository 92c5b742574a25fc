-- What contracts say of the passes: the areas a became b, with the answer r, as the scheduler's pass does, with so many steps left.
use Rattle.std.specs.Prelude.{ℕ, ◌≡◌}
use Rattle.schedule.specs.Schedule.{late_pass, main_pass}
use Rattle.model.specs.Circuit.{Circuit}
use Rattle.model.specs.Unit.{World}
use Rattle.units.specs.declared.Place.{Place}
use Rattle.areas.specs.Areas.{Contents}
use Rattle.chain.specs.declared.Ran.{Ran}
use Rattle.unit.specs.declared.Act.{Act as Entered}
use Rattle.unit.specs.Unit.{act_in, ran}
use Rattle.passes.specs.Waiting.{bare, for_late, for_main}
use Rattle.passes.specs.Passes.{units_left, Passes}
use Rattle.passes.specs.Taking.{one_begun, Works}

abbrev pub PassesLate : Circuit → Contents → Contents → ℕ → Ran → Type 0
PassesLate c a b left r =
    (w : World) → w.state ≡ a.state → w.left ≡ left
    → Passes c (for_late c) a b r w (late_pass (bare c) (units_left a) tt (for_late c a.lists) w 0)

abbrev pub PassesMain : Circuit → Contents → Contents → ℕ → Ran → Type 0
PassesMain c a b left r =
    (w : World) → w.state ≡ a.state → w.left ≡ left
    → Passes c (for_main c) a b r w (main_pass (bare c) (units_left a) tt (for_main c a.lists) w 0)

-- the late pass leaves what is pending and what is carried
abbrev pub LeavesMain : Contents → Contents → Type 0
LeavesMain a b = (b.lists.pending ≡ a.lists.pending) × (b.lists.carried ≡ a.lists.carried)

-- one more unit, x, was listed and ran
abbrev pub BeginsUnit : Circuit → Contents → Contents → Entered → ℕ → Place → Ran → Type 0
BeginsUnit c a b x left to r =
    Works
    b
    r
    (one_begun a.kept (act_in c a.kept.events x))
    (ran c to left (act_in c a.kept.events x) a.state a.lists)
