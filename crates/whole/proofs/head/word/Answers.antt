use Rattle.words.specs.Words.{words}
use Rattle.whole.proofs.Heads.{word_behind}
use Rattle.whole.proofs.head.word.Goals as goal

pub returns : goal.returns
returns c = let a = c.args in word_behind (words a.log.now) a.at a.i _ c.get.ensures
