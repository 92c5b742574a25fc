use borrow.Author.Rules.{rules}
use Rattle.words.proofs.Access.{get_past}
use Rattle.words.proofs.read.Goals as goal

pub returns-then-area-i : goal.returns-then-area-i
returns-then-area-i c = get_past _ _ (search rules)
