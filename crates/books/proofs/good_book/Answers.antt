use Rattle.books.proofs.Books.{book_empty, book_full, book_fits}
use Rattle.books.proofs.good_book.Goals as goal

pub returns-then-n-lt1 : goal.returns-then-n-lt1
returns-then-n-lt1 c = book_empty _ _ _ c.count-n.ensures c.if-n-lt1.true

pub returns-then-most-n : goal.returns-then-most-n
returns-then-most-n c = book_full _ _ _ c.count-n.ensures c.if-n-lt1.false c.if-most-n.true

pub returns : goal.returns
returns c = book_fits _ _ _ c.count-n.ensures c.if-n-lt1.false c.if-most-n.false
