use Rattle.lists.proofs.Answers.{refused}
use Rattle.opening.proofs.Ticks.{open_stops, opens_all}
use mathlib.Core.Path.{refl}
use borrow.Author.Rules.{rules}
use Rattle.opening.proofs.open.Goals as goal

pub returns-in_err-arrive-clause-over_all : goal.returns-in_err-arrive-clause-over_all
returns-in_err-arrive-clause-over_all c = rw (refused c.from_residual.result c.from_residual.ensures.0) (open_stops _ _ _ _ _ _ _ c.begin_tick-length.ensures.over_all refl (c.arrive.ensures _ _) c.in_err-arrive.was)

pub returns-in_err-arrive-clause-slots_stay : goal.returns-in_err-arrive-clause-slots_stay
returns-in_err-arrive-clause-slots_stay c = c.begin_tick-length.ensures.value.1

pub finish-requires : goal.finish-requires
finish-requires c = (search rules, search rules, c.begin_tick-length.ensures.value.1)

pub returns-clause-over_all : goal.returns-clause-over_all
returns-clause-over_all c = opens_all _ _ _ _ _ _ _ c.begin_tick-length.ensures.over_all refl (c.arrive.ensures _ _) _ _ _ c.begin_tick-length.ensures.value.0 c.in_ok-arrive.was c.finish.ensures.over_all
