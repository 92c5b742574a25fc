use Rattle.play.proofs.Texts.{few_digits, number_added}
use Prim.Native.Nat.{◌≤◌}
use native.Mathlib.Omega.{arith}
use Rattle.play.proofs.text.add_decimal.Goals as goal

pub put_digits-requires : goal.put_digits-requires
put_digits-requires c =
    let few : c.decimal-n.result ≤ 20 = few_digits c.decimal-n.result c.args.number (omega arith) c.decimal-n.ensures.len in
    (omega (arith, few), few, c.decimal-n.ensures.in_bounds.0)

pub overflow_add-result : goal.overflow_add-result
overflow_add-result c = let few : c.decimal-n.result ≤ 20 = few_digits c.decimal-n.result c.args.number (omega arith) c.decimal-n.ensures.len in omega (arith, few)

pub returns : goal.returns
returns c =
    let few : c.decimal-n.result ≤ 20 = few_digits c.decimal-n.result c.args.number (omega arith) c.decimal-n.ensures.len in
    record { text_value = number_added c.args.text.now _ _ c.args.at c.decimal-n.result c.args.number (omega arith) few c.decimal-n.ensures.in_bounds.0 c.decimal-n.ensures.len c.decimal-n.ensures.digits c.put_digits.ensures; lower_bound = (omega (arith, few), omega (arith, few)) }
