use native.Mathlib.Omega.{arith}
use Rattle.links.specs.Links.{net}
use Rattle.ticks.proofs.Whole.{ticks_through}
use Rattle.ticks.proofs.tick.Goals as goal

pub run_late-first-requires : goal.run_late-first-requires
run_late-first-requires c = (omega arith, omega arith, c.open-opened.ensures.slots_stay, c.requires.linked.3)

pub begun-late-requires : goal.begun-late-requires
begun-late-requires c = omega arith

pub run_main-second-requires : goal.run_main-second-requires
run_main-second-requires c = (omega arith, omega arith, c.run_late-first.ensures.slots_stay, c.requires.linked.3)

pub changed-narrowed-requires : goal.changed-narrowed-requires
changed-narrowed-requires c = omega (arith, c.run_main-second.ensures.slots_stay.room)

pub close-requires : goal.close-requires
close-requires c = (omega arith, omega arith, omega arith, omega arith)

pub shape_of-values : goal.shape_of-values
shape_of-values c = omega arith

pub shape_of-units : goal.shape_of-units
shape_of-units c = omega arith

pub shape_of-delays : goal.shape_of-delays
shape_of-delays c = omega arith

pub returns-clause-over_all : goal.returns-clause-over_all
returns-clause-over_all c = ticks_through _ _ _ _ _ _ _ _ _ _ _ _ _ _ _ _ _ _ _ c.requires.has_words.3 c.open-opened.ensures.over_all c.run_late-first.ensures.over_all (c.begun-late.ensures.reads (net c.args.links.now)) c.changed-narrowed.ensures c.run_main-second.ensures.over_all c.close.ensures

pub returns-clause-slots_stay : goal.returns-clause-slots_stay
returns-clause-slots_stay c = c.run_main-second.ensures.slots_stay
