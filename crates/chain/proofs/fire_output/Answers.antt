use Rattle.chain.proofs.Turns.{output_fired, output_full}
use Rattle.chain.proofs.fire_output.Goals as goal

pub returns-in-Err : goal.returns-in-Err
returns-in-Err c = λ v d. output_full _ _ _ v d _ _ _ c.push_calls.ensures c.in-Err.is

pub returns-in-Ok : goal.returns-in-Ok
returns-in-Ok c = λ v d. output_fired _ _ _ v d _ _ _ c.push_calls.ensures c.in-Ok.is
