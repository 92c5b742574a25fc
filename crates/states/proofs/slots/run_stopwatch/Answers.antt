use Rattle.states.proofs.Stores.{stopwatch_stands, stopwatch_runs, slot_long, bit_is}
use borrow.Author.Rules.{rules}
use mathlib.Core.Path.{ap}
use mathlib.Core.Bool.{Bool, not}
use borrow.Author.Tests.{eq-eqb}
use Rattle.states.proofs.slots.run_stopwatch.Goals as goal

pub returns-then-not-running : goal.returns-then-not-running
returns-then-not-running c = stopwatch_stands _ _ _ _ _ c.get-running.ensures (ap (λ (b : Bool). not (not b)) (eq-eqb c.get-running.result 0 c.if-not-running.true))

pub returns : goal.returns
returns c = stopwatch_runs _ _ _ _ _ _ _ _ _ (slot_long _ (search rules)) c.get-time.ensures c.get-running.ensures c.advance-next.ensures c.put.ensures.words (bit_is _ _ c.from.ensures) c.put-2.ensures.words
