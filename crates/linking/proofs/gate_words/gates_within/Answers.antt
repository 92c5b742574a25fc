use Prim.Native.Nat.{◌+◌}
use mathlib.Core.Path.{refl}
use borrow.Author.Rules.{rules}
use lib.ListN.{get_or}
use Rattle.words.specs.Words.{words}
use Rattle.linking.specs.Building.{bits_of}
use Rattle.linking.proofs.Leaves.{bits_next, bits_fit}
use Rattle.linking.proofs.Loops.{below_first, below_last}
use Rattle.linking.proofs.gate_words.gates_within.Goals as goal

-- `gates_within` meets its contract. The loop: the word has the bits of the gates below g, and so is less than bit g.

pub loop-g-init : goal.loop-g-init
loop-g-init c = below_first _ 0 refl

pub overflow_add-found : goal.overflow_add-found
overflow_add-found c = let q = bits_fit _ _ (λ h. get_or (words c.args.gates.circuit.now) (c.args.gates.kinds + h) 0) _ _ _ _ (search rules) c.loop-g.invariant c.read-kind.ensures c.gate_bit-found.ensures in record { fits = q }

pub loop-g-preserved : goal.loop-g-preserved
loop-g-preserved c = bits_next _ _ (λ h. get_or (words c.args.gates.circuit.now) (c.args.gates.kinds + h) 0) _ _ _ _ c.loop-g.invariant c.read-kind.ensures c.gate_bit-found.ensures

pub returns : goal.returns
unfolding bits_of
returns c = below_last _ _ _ _ c.loop-g.invariant c.loop-g.auto.g-end c.loop-g-test.false
