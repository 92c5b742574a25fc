use native.Mathlib.Omega.{arith}
use Rattle.words.specs.Words.{words}
use Rattle.model.proofs.Sizes.{sizes}
use Rattle.linking.proofs.Whole.{small_kinds, small_places, inputs_all, built}
use Rattle.linking.proofs.link.Goals as goal

-- `link` meets its contract. The sizes are what question 1 says, and `built` is the theorem.

pub link_all-requires : goal.link_all-requires
link_all-requires c =
    let bs = c.args.circuit.now in
    let q₁ = c.requires.circuit_value in
    let q₃ = c.requires.circuit_value_3 in
    let z = sizes bs (words bs) q₁ in
    let g = c.word-gates.ensures in
    let k = c.word-constants.ensures in
    let i = c.word-inputs.ensures in
    record { gates_le_most_gates = omega (arith, z.gates, g); constants_le_most_constants = omega (arith, z.constants, k); inputs_le_most_inputs = omega (arith, z.inputs, i); calls_le_most_calls = omega (arith, z.calls, c.word-calls.ensures); inputs_value = inputs_all bs (words bs) q₁ q₃ _ _ _ g k i; small = small_kinds bs (words bs) q₁ q₃ _ _ g k; small_2 = small_places bs (words bs) q₁ q₃ _ _ g k }

pub returns : goal.returns
returns c =
    let bs = c.args.circuit.now in
    built bs (words bs) c.requires.circuit_value c.requires.circuit_value_3 _ _ _ _ _ c.requires.circuit_value_2
    c.word-gates.ensures c.word-constants.ensures c.word-inputs.ensures c.word-calls.ensures c.link_all.ensures
