use Prim.Native.Nat.{ℕ}
use lib.ListN.{length}
use Rattle.run.proofs.Zeros.{zero_as}
use borrow.Author.Rules.{rules}
use Rattle.run.proofs.perform.Goals as goal

pub play-played-requires-clause-linked : goal.play-played-requires-clause-linked
play-played-requires-clause-linked c = (search rules, search rules, c.start.ensures.2, c.requires.few_calls.0)

pub play-played-requires-clause-limit_bound : goal.play-played-requires-clause-limit_bound
play-played-requires-clause-limit_bound c = (search rules, c.requires.few_calls.1)

pub play-played-requires-clause-started : goal.play-played-requires-clause-started
play-played-requires-clause-started c = (c.start.ensures.0, c.start.ensures.1)

pub returns-clause-logs : goal.returns-clause-logs
returns-clause-logs c = c.play-played.ensures.logs

pub returns-clause-size_in_bounds : goal.returns-clause-size_in_bounds
returns-clause-size_in_bounds c = c.play-played.ensures.size_in_bounds

pub returns-clause-zeroed : goal.returns-clause-zeroed
returns-clause-zeroed c = (zero_as (length c.args.values.now) (length {A = ℕ} c.play-played.new.values) _ c.clear.ensures (search rules), zero_as (length c.args.units.now) (length {A = ℕ} c.play-played.new.units) _ c.clear-2.ensures (search rules), zero_as (length c.args.delays.now) (length {A = ℕ} c.play-played.new.delays) _ c.clear-3.ensures (search rules))
