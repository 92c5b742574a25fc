use Rattle.std.proofs.Common.{arith, rules}
use Rattle.wires.proofs.Marks.{room, reader_stale, reader_found, reader_watched, reader_not}
use Rattle.wires.proofs.marking.mark_reader.Goals as goal

pub overflow_add-n : goal.overflow_add-n
overflow_add-n c = let q = room _ _ _ _ _ c.requires.few_to_do c.is_clean.ensures c.if-is_clean.true in omega (arith, q)

pub put-requires : goal.put-requires
put-requires c = let q = room _ _ _ _ _ c.requires.few_to_do c.is_clean.ensures c.if-is_clean.true in search rules

pub overflow_add-result : goal.overflow_add-result
overflow_add-result c = let q = room _ _ _ _ _ c.requires.few_to_do c.is_clean.ensures c.if-is_clean.true in omega (arith, q)

pub returns-then-is_clean : goal.returns-then-is_clean
returns-then-is_clean c = reader_found _ _ _ _ _ _ _ c.gate_at_input-g.ensures c.kind_of_gate.ensures c.is_pure.ensures _ _ _ _ (search rules) (room _ _ _ _ _ c.requires.few_to_do c.is_clean.ensures c.if-is_clean.true) c.if-is_pure.true c.is_clean.ensures c.if-is_clean.true c.soil.ensures c.output.ensures c.put.ensures

pub returns-else-is_clean : goal.returns-else-is_clean
returns-else-is_clean c = reader_stale _ _ _ _ _ _ _ c.gate_at_input-g.ensures c.kind_of_gate.ensures c.is_pure.ensures _ c.if-is_pure.true c.is_clean.ensures c.if-is_clean.false

pub returns-then-watching : goal.returns-then-watching
returns-then-watching c = reader_watched _ _ _ _ _ _ _ c.gate_at_input-g.ensures c.kind_of_gate.ensures c.is_pure.ensures _ _ c.if-is_pure.false c.watching.ensures c.if-watching.true c.watch_for.ensures

pub returns-else-watching : goal.returns-else-watching
returns-else-watching c = reader_not _ _ _ _ _ _ _ c.gate_at_input-g.ensures c.kind_of_gate.ensures c.is_pure.ensures _ c.if-is_pure.false c.watching.ensures c.if-watching.false
