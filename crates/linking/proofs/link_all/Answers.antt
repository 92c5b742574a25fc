use native.Mathlib.Omega.{arith}
use borrow.Author.Rules.{rules}
use Rattle.words.specs.Words.{words}
use Rattle.linking.proofs.Leaves.{all_are}
use Rattle.linking.proofs.GateByGate.{outs_below}
use Rattle.linking.proofs.link_all.Goals as goal

-- `link_all` meets its contract. The groups of tables in a row; 64 gates have at most 576 outputs.

pub link_gates-requires-clause-constants_le_most_constants : goal.link_gates-requires-clause-constants_le_most_constants
link_gates-requires-clause-constants_le_most_constants c = c.requires.constants_le_most_constants

pub link_gates-requires-clause-inputs_value : goal.link_gates-requires-clause-inputs_value
link_gates-requires-clause-inputs_value c = c.requires.inputs_value

pub link_gates-requires-clause-small : goal.link_gates-requires-clause-small
link_gates-requires-clause-small c = c.requires.small

pub link_gates-requires-clause-small_2 : goal.link_gates-requires-clause-small_2
link_gates-requires-clause-small_2 c = c.requires.small_2

pub link_lists-requires : goal.link_lists-requires
link_lists-requires c =
    let a = outs_below _ _ _ _ c.count_outputs-outputs.ensures in
    record { sources_bound = omega arith; inputs_le_most_inputs = omega arith; calls_nonzero = omega arith; calls_bound = omega arith; count_le_most_inputs = omega arith; outputs_le_most_outputs = omega arith }

pub returns : goal.returns
returns c =
    all_are (words c.args.circuit.now) _ _ _ _ _ _ _ _ _ _
    c.count_outputs-outputs.ensures c.clear.ensures c.link_gates.ensures c.link_inputs.ensures c.link_lists.ensures c.link_constants.ensures
