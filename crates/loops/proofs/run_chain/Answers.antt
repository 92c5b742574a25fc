use Rattle.loops.proofs.Ring.{chain_idle, chain_ran}
use Rattle.loops.proofs.run_chain.Goals as goal

pub returns-then-forks_waiting-eq0-clause-over_all : goal.returns-then-forks_waiting-eq0-clause-over_all
returns-then-forks_waiting-eq0-clause-over_all c = chain_idle _ _ _ _ _ (c.calls_waiting.ensures _) c.if-calls_waiting-eq0.true (c.forks_waiting.ensures _) c.if-forks_waiting-eq0.true

pub returns-clause-over_all : goal.returns-clause-over_all
returns-clause-over_all c = chain_ran _ _ _ _ _ _ c.gates.ensures.0 c.run_nested.ensures.over_all
