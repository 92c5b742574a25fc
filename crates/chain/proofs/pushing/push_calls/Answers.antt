use Rattle.chain.proofs.Rows.{no_call, single_call, several_calls}
use Rattle.chain.proofs.pushing.push_calls.Goals as goal

pub returns-then-n-eq0 : goal.returns-then-n-eq0
returns-then-n-eq0 c = no_call _ _ _ _ c.call_count-n.ensures c.if-n-eq0.true

pub returns-then-n-eq1 : goal.returns-then-n-eq1
returns-then-n-eq1 c = single_call _ _ _ _ c.call_count-n.ensures c.first_call-a.ensures _ _ _ _ c.if-n-eq1.true c.call.ensures (c.push_one.ensures _)

pub returns : goal.returns
returns c = several_calls _ _ _ _ c.call_count-n.ensures c.first_call-a.ensures _ _ _ c.push_all.ensures
