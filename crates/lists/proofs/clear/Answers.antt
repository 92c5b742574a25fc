use borrow.Author.Rules.{rules}
use Rattle.lists.proofs.Counts.{emptied}
use Rattle.lists.proofs.clear.Goals as goal

pub returns : goal.returns
returns c =
    let h = emptied _ _ (search rules) c.put.ensures in
    record { emptied = h.0; stored = h.1 }
