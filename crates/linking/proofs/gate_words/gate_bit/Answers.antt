use borrow.Author.Rules.{rules}
use Rattle.linking.proofs.Leaves.{bit_low, bit_high, bit_in}
use Rattle.linking.proofs.gate_words.gate_bit.Goals as goal

-- `gate_bit` meets its contract. One law for each way out.

pub returns-then-kind-low : goal.returns-then-kind-low
returns-then-kind-low c = bit_low _ _ _ _ c.if-kind-low.true

pub returns-then-high-kind : goal.returns-then-high-kind
returns-then-high-kind c = bit_high _ _ _ _ c.if-kind-low.false c.if-high-kind.true

pub returns : goal.returns
returns c = bit_in _ _ _ _ c.if-kind-low.false c.if-high-kind.false (search rules)
