use Prim.Native.Nat.{◌+◌}
use lib.ListN.{get_or}
use borrow.Author.Rules.{rules}
use Rattle.words.specs.Words.{words}
use Rattle.linking.specs.Building.{named_word}
use Rattle.linking.proofs.Leaves.{inputs_are}
use Rattle.linking.proofs.inputs.link_inputs.Goals as goal

-- `link_inputs` meets its contract. Four tables in a row.

pub returns : goal.returns
returns c = inputs_are (words c.args.gates.circuit.now) _ _ _ _ _ c.args.cells.now _ _ _ _
    (c.write_each.ensures (λ i. get_or (words c.args.gates.circuit.now) (c.args.sources + i) 0) (λ k r h p. search rules))
    (c.write_each-2.ensures (λ i. named_word (words c.args.gates.circuit.now) 4 c.args.constants (get_or (words c.args.gates.circuit.now) (c.args.sources + c.args.inputs + i) 0)) (λ k r h p. search rules))
    (c.write_each-3.ensures (λ i. named_word (words c.args.gates.circuit.now) (4 + c.args.constants) c.args.constants (get_or (words c.args.gates.circuit.now) (c.args.sources + c.args.inputs + i) 0)) (λ k r h p. search rules))
    c.write_inputs.ensures
