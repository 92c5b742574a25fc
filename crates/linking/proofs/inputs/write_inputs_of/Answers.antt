use Prim.Native.Nat.{◌≤◌}
use native.Mathlib.Omega.{arith}
use borrow.Author.Rules.{rules}
use Rattle.kinds.proofs.Laws.{few_inputs}
use Rattle.linking.proofs.inputs.write_inputs_of.Goals as goal

-- `write_inputs_of` meets its contract: no kind has more than ten inputs.

pub write_each-requires-clause-near_2 : goal.write_each-requires-clause-near_2
write_each-requires-clause-near_2 c = omega (arith, few_inputs c.args.kind)

pub write_each-requires-clause-callable : goal.write_each-requires-clause-callable
write_each-requires-clause-callable c =
    let n : c.inputs.result ≤ 10 = omega (arith, few_inputs c.args.kind) in
    λ k h. search rules
