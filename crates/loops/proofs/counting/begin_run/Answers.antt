use Rattle.loops.proofs.Runs.{run_refused, run_counted}
use Rattle.loops.proofs.counting.begin_run.Goals as goal

pub returns-then-n-eq0 : goal.returns-then-n-eq0
returns-then-n-eq0 c =
    let h = run_refused _ _ c.runs_left-n.ensures c.if-n-eq0.true in
    record { value = h.0; turns = h.1 }

pub returns : goal.returns
returns c =
    let h = run_counted _ _ c.runs_left-n.ensures _ c.if-n-eq0.false c.set_runs_left.ensures in
    record { value = h.0; turns = h.1 }
