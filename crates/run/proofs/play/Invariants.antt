use Rattle.run.proofs.Playing.{Playing}
use Rattle.words.specs.Words.{words}
use Rattle.links.specs.Links.{net}
use Rattle.states.specs.View.{Lent}
use Rattle.areas.specs.Areas.{areas}
use Prim.Native.Nat.{◌+◌, ◌*◌, ◌≤◌}
use lib.ListN.{length}
use mathlib.Core.Path.{◌≡◌}
use Rattle.run.proofs.play.Given as goal

abbrev pub invariant-loop-k : goal.invariant-loop-k
invariant-loop-k l = (length l.values ≡ length l.initial.values) × (length l.units ≡ length l.initial.units) × (length l.delays ≡ length l.initial.delays) × (length l.log ≡ length l.initial.log) × (l.ticks ≤ 100000) × ((2 + 2 * (l.ticks + l.stimuli)) * 8 ≤ length l.script) × (l.used ≤ l.stimuli) × (l.at * 8 ≤ length l.initial.log) × Lent (net l.links) l.delays
    × Playing (net l.links) l.limit (words l.script) l.k l.used l.at (areas (net l.links) l.values l.units l.delays) l.initial.log l.log
