use Rattle.links.proofs.Reading.{entry_in, entry_out}
use borrow.Author.Rules.{rules}
use Rattle.links.proofs.Links.entry.Goals as goal

pub returns-then-i-self : goal.returns-then-i-self
returns-then-i-self c =
    let a = c.args in
    rw (← c.self.view_is) (entry_in c.self.inside.cells a.n a.most a.at a.i a.missing c.if-i-most.true c.if-i-self.true)

pub returns-else-i-self : goal.returns-else-i-self
returns-else-i-self c =
    let a = c.args in
    rw (← c.self.view_is) (entry_out c.self.inside.cells a.n a.most a.at a.i a.missing (search rules))

pub returns-else-i-most : goal.returns-else-i-most
returns-else-i-most c = let a = c.args in entry_out a.self.now a.n a.most a.at a.i a.missing (search rules)
