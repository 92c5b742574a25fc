use Rattle.books.proofs.Books.{count_is}
use Rattle.books.proofs.count.Goals as goal

pub returns : goal.returns
returns c = count_is _ _ c.read.ensures
