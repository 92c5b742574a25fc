use Rattle.units.proofs.Ranks.{file_full, file_done}
use Rattle.words.specs.Words.{words}
use Rattle.words.proofs.Laws.{words_long}
use borrow.Author.Rules.{rules}
use Rattle.units.proofs.raising.file.Goals as goal

pub returns-then-n-ge-MOST_WAITING : goal.returns-then-n-ge-MOST_WAITING
returns-then-n-ge-MOST_WAITING c = file_full _ _ _ (words c.args.list.now) c.count-n.ensures.value c.if-n-ge-MOST_WAITING.true

pub returns : goal.returns
returns c = file_done _ _ _ (words c.args.list.now) (words c.place.new.list) _ (words_long 1 _ (search rules)) c.count-n.ensures.value c.if-n-ge-MOST_WAITING.false c.place.ensures c.put.ensures.words
