use Rattle.units.proofs.Ranks.{place_done, place_stop, place_keep, place_last}
use Rattle.words.specs.Words.{words}
use Rattle.words.proofs.Laws.{words_long}
use borrow.Author.Rules.{rules}
use Rattle.units.proofs.raising.place.Goals as goal

pub returns-then-rank-rank_of_gate : goal.returns-then-rank-rank_of_gate
returns-then-rank-rank_of_gate c = place_done _ _ _ (words c.args.list.now) _ (words_long _ _ c.requires.0) (place_stop _ _ _ _ _ _ _ (words c.loop-i.list) _ _ c.requires.2 c.loop-i-test.true c.loop-i.invariant.1 c.get-y.ensures c.gate_of.ensures.0 c.rank_of_gate.ensures c.if-rank-rank_of_gate.true c.put.ensures.words)

pub loop-i-preserved : goal.loop-i-preserved
loop-i-preserved c = (search rules, place_keep _ _ _ _ _ _ _ (words c.loop-i.list) _ _ c.requires.2 c.loop-i-test.true c.loop-i.invariant.1 c.get-y.ensures c.gate_of.ensures.0 c.rank_of_gate.ensures c.if-rank-rank_of_gate.false c.put-in-loop-i.ensures.words)

pub returns : goal.returns
returns c = place_done _ _ _ (words c.args.list.now) _ (words_long _ _ c.requires.0) (place_last _ _ _ (words c.loop-i.list) _ _ c.loop-i-test.false c.loop-i.invariant.1 c.put-2.ensures.words)
