use Prim.Native.Nat.{◌+◌}
use lib.ListN.{get_or}
use borrow.Author.Rules.{rules}
use Rattle.words.specs.Words.{words}
use Rattle.linking.proofs.Leaves.{constants_are}
use Rattle.linking.proofs.link_constants.Goals as goal

-- `link_constants` meets its contract. Two tables in a row.

pub returns : goal.returns
returns c = constants_are (words c.args.circuit.now) _ c.args.cells.now _ _
    (c.write_each.ensures (λ k. get_or (words c.args.circuit.now) (4 + k) 0) (λ k r h p. search rules))
    (c.write_each-2.ensures (λ k. get_or (words c.args.circuit.now) (4 + c.args.constants + k) 0) (λ k r h p. search rules))
