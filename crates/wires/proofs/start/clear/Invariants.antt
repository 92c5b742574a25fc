use Rattle.std.proofs.Common.{◌≡◌, ◌++◌, length, drop}
use Rattle.words.specs.Words.{words, tail}
use Rattle.wires.proofs.Starting.{zeros}
use Rattle.wires.proofs.start.clear.Given as goal

abbrev pub invariant-loop-k : goal.invariant-loop-k
invariant-loop-k l = (length l.values ≡ length l.initial.values) × (words l.values ≡ zeros l.k ++ drop l.k (words l.initial.values)) × (tail l.values ≡ tail l.initial.values)
