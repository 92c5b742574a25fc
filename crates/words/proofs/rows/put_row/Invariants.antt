use Rattle.words.proofs.Putting.{Put}
use Rattle.words.proofs.rows.put_row.Given as goal

abbrev pub invariant-loop-i : goal.invariant-loop-i
invariant-loop-i l = Put l.initial.area l.area l.row l.p l.i
