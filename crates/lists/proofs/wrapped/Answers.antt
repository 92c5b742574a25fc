use borrow.Author.Rules.{rules}
use Rattle.lists.proofs.Rings.{wrapped_low, wrapped_high}
use Rattle.lists.proofs.wrapped.Goals as goal

pub returns-then-i-most : goal.returns-then-i-most
returns-then-i-most c = (wrapped_low _ _ c.if-i-most.true, search rules)

pub returns-else-i-most : goal.returns-else-i-most
returns-else-i-most c = (wrapped_high _ _ c.if-i-most.false, search rules)
