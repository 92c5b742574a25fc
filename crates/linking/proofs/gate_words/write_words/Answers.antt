use borrow.Author.Rules.{rules}
use Rattle.words.specs.Words.{words}
use Rattle.linking.proofs.Leaves.{two_words_fit, words_stored}
use Rattle.linking.proofs.gate_words.write_words.Goals as goal

-- `write_words` meets its contract. Five stores in a row. No kind is both a buffer's and a Queue's, so the sum fits.

pub overflow_add-buffers : goal.overflow_add-buffers
overflow_add-buffers c = record { fits = two_words_fit (words c.args.gates.circuit.now) _ _ _ _ (search rules) c.gates_within-buffers.ensures c.gates_within-queues.ensures }

pub returns : goal.returns
returns c =
    words_stored (words c.args.gates.circuit.now) _ _ c.args.cells.now _ _ _ _ _
    (rw c.gates_within-time_sources.ensures at c.put.ensures)
    (rw (c.gates_within-buffers.ensures, c.gates_within-queues.ensures) at c.put-2.ensures)
    (rw c.gates_within-clocks.ensures at c.put-3.ensures)
    (rw c.gates_within-stopwatches.ensures at c.put-4.ensures)
    (rw c.gates_within-receivers.ensures at c.put-5.ensures)
