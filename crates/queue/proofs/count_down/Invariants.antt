use Rattle.queue.proofs.Laws.{Turned}
use Rattle.words.specs.Words.{words}
use lib.ListN.{length}
use mathlib.Core.Path.{◌≡◌}
use Rattle.queue.proofs.count_down.Given as goal

abbrev pub invariant-loop-i : goal.invariant-loop-i
invariant-loop-i l = (length l.queue ≡ length l.initial.queue) × Turned l.seconds l.dt (words l.initial.queue) (words l.queue) l.first l.count l.i
