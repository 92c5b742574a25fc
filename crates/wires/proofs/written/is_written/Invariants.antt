use Rattle.std.proofs.Common.{◌≡◌, take, drop}
use Rattle.words.specs.Words.{words}
use Rattle.model.specs.Base.{among}
use Rattle.wires.specs.View.{cut}
use Rattle.wires.proofs.written.is_written.Given as goal

abbrev pub invariant-loop-k : goal.invariant-loop-k
invariant-loop-k l = among l.o (drop l.k (take l.n (cut (words l.values)).written)) ≡ among l.o (take l.n (cut (words l.values)).written)
