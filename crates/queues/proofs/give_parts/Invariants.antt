use Rattle.queues.specs.Start.{Numbered}
use Rattle.states.specs.View.{number}
use Rattle.links.specs.Links.{net}
use Rattle.words.specs.Words.{words, tail}
use lib.ListN.{length}
use mathlib.Core.Path.{◌≡◌}
use Rattle.queues.proofs.give_parts.Given as goal

abbrev pub invariant-loop-g : goal.invariant-loop-g
invariant-loop-g l = (length l.delays ≡ length l.initial.delays) × (l.n ≡ number (net l.links) l.g) × Numbered (net l.links) l.g (words l.initial.delays) (words l.delays) × (tail l.delays ≡ tail l.initial.delays)
