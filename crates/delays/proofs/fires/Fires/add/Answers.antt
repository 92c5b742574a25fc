use Rattle.delays.proofs.Firing.{add_one_more, add_full}
use mathlib.Core.Path.{refl}
use borrow.Author.Rules.{rules}
use Rattle.delays.proofs.fires.Fires.add.Goals as goal

pub returns-then-count-lt-MOST_FIRES : goal.returns-then-count-lt-MOST_FIRES
returns-then-count-lt-MOST_FIRES c = (refl, add_one_more _ _ _ (search rules) c.if-count-lt-MOST_FIRES.true c.requires c.word.ensures)

pub returns-else-count-lt-MOST_FIRES : goal.returns-else-count-lt-MOST_FIRES
returns-else-count-lt-MOST_FIRES c = (refl, add_full _ _ c.if-count-lt-MOST_FIRES.false)
