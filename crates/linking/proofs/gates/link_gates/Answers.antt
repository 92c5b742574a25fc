use borrow.Author.Rules.{rules}
use Rattle.words.specs.Words.{words}
use Rattle.linking.proofs.Entering.{entries_small}
use Rattle.linking.proofs.Leaves.{gates_are}
use Rattle.linking.proofs.gates.link_gates.Goals as goal

-- `link_gates` meets its contract. The entries, and then four tables in a row.

pub write_gates-requires-clause-gates : goal.write_gates-requires-clause-gates
write_gates-requires-clause-gates c = entries_small _ _ _ (search rules) c.find_entries.ensures

pub write_gates-requires-clause-small : goal.write_gates-requires-clause-small
write_gates-requires-clause-small c = c.requires.small

pub write_gates-requires-clause-small_2 : goal.write_gates-requires-clause-small_2
write_gates-requires-clause-small_2 c = c.requires.small_2

pub returns : goal.returns
returns c =
    gates_are (words c.args.gates.circuit.now) _ _ _ _ _ _ _ c.args.cells.now _ _ _ _ c.find_entries.ensures
    c.write_counts.ensures c.write_words.ensures c.write_gates.ensures c.write_outputs.ensures
