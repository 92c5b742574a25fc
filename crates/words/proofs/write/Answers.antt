use Rattle.words.proofs.Access.{put_past}
use borrow.Author.Rules.{rules}
use Rattle.words.proofs.write.Goals as goal

pub returns-else-i-area : goal.returns-else-i-area
returns-else-i-area c = put_past _ _ _ (search rules)
