-- The theorems of the scheduler. What they say is defined in specs/: the runs in Schedule, `Order` and `Follows` in Promise, `bare_tick` in Erasure, `FewUnits` in Limits,
-- `BeginsPending` in Pending, `TickKeeps`, `TickBegins` and `TicksAlike` in Keeping.
use mathlib.Core.Path.{◌≡◌}
use mathlib.Core.List.{List, map}
use Rattle.schedule.specs.Schedule.{Machine, Outcome, Setup, numbered, plain, Activation, Tick, tick, run}
use Rattle.schedule.specs.Promise.{All, Order, Follows, RanAsTold}
use Rattle.schedule.specs.Erasure.{bare_tick}
use Rattle.schedule.specs.Limits.{FewUnits}
use Rattle.schedule.specs.Pending.{BeginsPending}
use Rattle.schedule.specs.Keeping.{DidKeep, TickKeeps, DidBring, TickBegins, DidAlike, TicksAlike}
use Rattle.schedule.proofs.Whole.{order as run_order}
use Rattle.schedule.proofs.Erase.{erasure as run_erasure}
use Rattle.schedule.proofs.Every.{ran_as_told as run_told}
use Rattle.schedule.proofs.Told.{follows as run_follows}
use Rattle.schedule.proofs.Keeps.{run_keeps as kept_in_run}
use Rattle.schedule.proofs.Begins.{run_begins as begun_in_run}
use Rattle.schedule.proofs.Alike.{tick_alike as opened_alike}
use Rattle.schedule.proofs.Limits.{limited as run_limited}
use Rattle.schedule.proofs.Pending.{begins_pending as pending_begins}

-- The order promise holds of every run of every machine.
pub order : (M : Machine) (is : List M.In) (w : M.W) → Order M (run (numbered M) is w)
order = run_order

-- Every run plays its script, tick after tick and unit after unit, and what its ticks' openings raised is what is said of them.
pub follows : (S : Setup) (is : List S.machine.In) (w : S.machine.W) → Follows S is w (run S is w)
follows = run_follows

-- The plain run, which the code is held to, is any run with identities, the identities left out.
pub erasure : (S : Setup) (is : List S.machine.In) (w : S.machine.W) → run (plain S.machine) is w ≡ map (bare_tick S) (run S is w)
erasure = run_erasure

-- Every tick of a run keeps to three of the limits.
pub limited : (S : Setup) (is : List S.machine.In) (w : S.machine.W) → All (FewUnits S) (run S is w)
limited = run_limited

-- What the opening of a tick raises for the main pass begins in it, if there is no stop.
pub begins_pending : (S : Setup) (w : S.machine.W) (i : S.machine.In) (came : List (Activation S)) (t : S.Tag) → BeginsPending S w i (tick S w i came t)
begins_pending = pending_begins

-- A unit that is said to have run is one whose body came to no stop of its own.
pub ran_as_told :
    (S : Setup) (is : List S.machine.In) (w : S.machine.W) → All (λ (t : Tick S). All (RanAsTold S) t.late × All (RanAsTold S) t.main) (run S is w)
ran_as_told = run_told

-- What holds at the start and is kept by opening, body and closing holds wherever a unit begins and after each tick.
pub run_keeps :
    (S : Setup) (P : S.machine.W → Type 0) →
    ((w : S.machine.W) (i : S.machine.In) → P w → DidKeep P (S.machine.opening w i)) →
    ((w : S.machine.W) (a : S.machine.Act) → P w → DidKeep P (S.machine.body w a)) →
    ((w : S.machine.W) (i : S.machine.In) (o : Outcome S.machine.Act) → P w → P (S.machine.closing w i o).world) →
    (is : List S.machine.In) (w : S.machine.W) → P w → All (TickKeeps S P) (run S is w)
run_keeps = kept_in_run

-- What is kept only as long as there is no stop holds wherever a unit begins, and what holds of all that is raised holds of each unit begun.
pub run_begins :
    (S : Setup) (P : S.machine.W → Type 0) (Q : S.machine.Act → Type 0) (R : S.machine.In → Type 0) →
    ((w : S.machine.W) (i : S.machine.In) → R i → P w → DidBring P Q (S.machine.opening w i)) →
    ((w : S.machine.W) (a : S.machine.Act) → Q a → P w → DidBring P Q (S.machine.body w a)) →
    ((w : S.machine.W) (i : S.machine.In) (o : Outcome S.machine.Act) → P w → P (S.machine.closing w i o).world) →
    (is : List S.machine.In) (w : S.machine.W) → All R is → P w → All (TickBegins S P Q) (run S is w)
run_begins = begun_in_run

-- Two ticks whose openings do the same, but for the worlds in which they raise, are the same, or both end as a tick does that a full list stops in its opening.
pub tick_alike :
    (S : Setup) (R : S.machine.W → S.machine.W → Type 0) (w v : S.machine.W) (i : S.machine.In) (came : List (Activation S)) (t : S.Tag) →
    DidAlike R (S.machine.opening w i) (S.machine.opening v i) → TicksAlike S R i (tick S w i came t) (tick S v i came t)
tick_alike = opened_alike
