use borrow.Author.Rules.{rules}
use Rattle.words.specs.Words.{words}
use Rattle.lists.proofs.Rings.{first_low, first_high}
use Rattle.lists.proofs.first_slot.Goals as goal

pub returns-then-i-most : goal.returns-then-i-most
returns-then-i-most c = (first_low _ _ (words c.args.list.now) c.get-i.ensures c.if-i-most.true, search rules)

pub returns-else-i-most : goal.returns-else-i-most
returns-else-i-most c = (first_high _ _ (words c.args.list.now) c.get-i.ensures c.if-i-most.false, search rules)
