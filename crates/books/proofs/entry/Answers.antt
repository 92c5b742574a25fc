use Rattle.books.proofs.Books.{entry_behind, entry_over, entry_within}
use Rattle.books.proofs.entry.Goals as goal

pub returns-then-book-start : goal.returns-then-book-start
returns-then-book-start c = entry_behind _ _ _ _ _ c.requires.0 c.read-start.ensures c.read-size.ensures c.if-book-start.true

pub returns-then-book-start-2 : goal.returns-then-book-start-2
returns-then-book-start-2 c = entry_over _ _ _ _ _ c.requires.0 c.read-start.ensures c.read-size.ensures c.if-book-start.false c.if-book-start-2.true

pub returns : goal.returns
returns c = entry_within _ _ _ _ _ c.requires.0 c.read-start.ensures c.read-size.ensures c.if-book-start.false c.if-book-start-2.false
