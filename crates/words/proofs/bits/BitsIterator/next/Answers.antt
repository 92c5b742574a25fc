use Rattle.std.proofs.Common.{rules, arith, refl}
use Rattle.words.proofs.Tables.{next_place, last_place, ones_some, ones_none}
use Rattle.words.proofs.bits.BitsIterator.next.Goals as goal

pub returns-then-d-eq0-clause-steps : goal.returns-then-d-eq0-clause-steps
returns-then-d-eq0-clause-steps c =
    let none = ones_none c.args.self.now.left (search rules) c.if-d-eq0.true in
    (last_place _ none, last_place _ none)

pub returns-clause-steps : goal.returns-clause-steps
returns-clause-steps c = (next_place c.args.self.now.left _ (search rules) (ones_some _ c.if-d-eq0.false) refl).0

pub returns-clause-goes : goal.returns-clause-goes
returns-clause-goes c =
    let e = (next_place c.args.self.now.left _ (search rules) (ones_some _ c.if-d-eq0.false) refl).0 in
    search rules
