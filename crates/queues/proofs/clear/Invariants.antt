use Rattle.queues.specs.Start.{Cleared}
use Rattle.words.specs.Words.{words, tail}
use lib.ListN.{length}
use mathlib.Core.Path.{◌≡◌}
use Rattle.queues.proofs.clear.Given as goal

abbrev pub invariant-loop-k : goal.invariant-loop-k
invariant-loop-k l = (length l.delays ≡ length l.initial.delays) × Cleared l.k (words l.initial.delays) (words l.delays) × (tail l.delays ≡ tail l.initial.delays)
