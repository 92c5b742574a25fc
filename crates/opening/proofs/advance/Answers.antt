use Rattle.lists.proofs.Answers.{refused}
use Rattle.opening.proofs.Ticks.{buffers_full, clocks_full, all_advance}
use Rattle.opening.proofs.advance.Goals as goal

pub returns-in_err-advance_buffers-clause-over_all : goal.returns-in_err-advance_buffers-clause-over_all
returns-in_err-advance_buffers-clause-over_all c = rw (refused c.from_residual.result c.from_residual.ensures.0) (buffers_full _ _ _ _ _ c.advance_buffers.ensures.over_all c.in_err-advance_buffers.was)

pub returns-in_err-advance_clocks-clause-over_all : goal.returns-in_err-advance_clocks-clause-over_all
returns-in_err-advance_clocks-clause-over_all c = rw (refused c.from_residual-in_err-advance_clocks.result c.from_residual-in_err-advance_clocks.ensures.0) (clocks_full _ _ _ _ _ c.advance_buffers.ensures.over_all _ _ c.in_ok-advance_buffers.was c.advance_clocks.ensures.over_all c.in_err-advance_clocks.was)

pub returns-clause-over_all : goal.returns-clause-over_all
returns-clause-over_all c = all_advance _ _ _ _ _ c.advance_buffers.ensures.over_all _ _ c.in_ok-advance_buffers.was c.advance_clocks.ensures.over_all _ _ c.in_ok-advance_clocks.was c.advance_timers.ensures.over_all
