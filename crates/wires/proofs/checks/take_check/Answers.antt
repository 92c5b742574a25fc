use Rattle.wires.proofs.Checking.{take_none, take_some}
use Rattle.std.proofs.Common.{rules}
use Rattle.wires.proofs.checks.take_check.Goals as goal

pub returns-then-n-eq0 : goal.returns-then-n-eq0
returns-then-n-eq0 c =
    let h = take_none _ _ _ (search rules) c.get-n.ensures c.if-n-eq0.true in
    record { value = h.0; turns = h.1 }

pub returns : goal.returns
returns c =
    let h = take_some _ _ _ (search rules) c.get-n.ensures _ _ c.if-n-eq0.false c.get.ensures c.get-input.ensures _ _ c.put.ensures c.put-2.ensures _ _ c.unqueue-late.ensures.value c.unqueue-late.ensures.turns in
    record { value = h.0; turns = h.1 }
