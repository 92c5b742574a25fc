use mathlib.Core.Path.{refl, ap}
use Rattle.linking.proofs.Chaining.{refilled, chain_next, chain_last}
use Rattle.linking.proofs.chains.Chains.fill_by_keys.Goals as goal

-- `fill_by_keys` meets its contract. The loop: the numbers below i are still to be chained.

pub loop-i-init : goal.loop-i-init
loop-i-init c =
    let heads = refilled 576 0 640 _ _ (ap (λ s. s.heads) c.requires.blank) (c.fill.ensures.after (λ y e. e)) in
    let next = refilled 640 0 640 _ _ (ap (λ s. s.next) c.requires.blank) (c.fill-2.ensures.after (λ y e. e)) in
    rw (heads, next) refl

pub loop-i-preserved : goal.loop-i-preserved
loop-i-preserved c = chain_next _ _ _ _ _ _ c.loop-i-test.true c.word-key.ensures c.add.ensures c.loop-i.invariant

pub returns : goal.returns
returns c = chain_last _ _ _ _ c.loop-i-test.false c.loop-i.invariant
