use borrow.Author.Rules.{rules}
use Rattle.size.proofs.Numbering.{ring_first, ring_next, ring_fewer, none_numbered, ring_numbers, ring_over, ring_last}
use native.Mathlib.Omega.{arith}
use Rattle.model.specs.Base.{each}
use Rattle.links.specs.Links.{net}
use Rattle.figures.specs.Figures.{passed_on}
use Rattle.circuit.specs.Gates.{with_gate}
use Rattle.size.proofs.numbers.number_all.Goals as goal

pub loop-k-init : goal.loop-k-init
loop-k-init c = (search rules, ring_first _ _ _ c.gates-n.ensures.0 c.all_gates-unplaced.ensures, none_numbered _ _ c.requires)

pub returns-then-unplaced-eq0 : goal.returns-then-unplaced-eq0
returns-then-unplaced-eq0 c = ring_over _ _ _ _ _ c.gates-n.ensures.0 c.loop-k-test.true c.loop-k.invariant.1 c.loop-k.invariant.2 c.if-unplaced-eq0.true

pub overflow_sub-unplaced : goal.overflow_sub-unplaced
overflow_sub-unplaced c = ring_fewer _ _ _ _ c.loop-k.invariant.1 (ring_next _ _ _ _ _ _ c.gates-n.ensures.0 c.gates-n.ensures.1 (λ g l. c.words_of_gates-words.ensures (λ g. each with_gate 0 (passed_on (net c.args.links.now) g)) (λ g y k. search rules) g (omega (arith, l, c.gates-n.ensures.1))) c.loop-k.invariant.1 c.round-left.ensures)

pub number_gates-requires : goal.number_gates-requires
number_gates-requires c = c.loop-k.invariant.2.room

pub loop-k-preserved : goal.loop-k-preserved
loop-k-preserved c = let left = ring_next _ _ _ _ _ _ c.gates-n.ensures.0 c.gates-n.ensures.1 (λ g l. c.words_of_gates-words.ensures (λ g. each with_gate 0 (passed_on (net c.args.links.now) g)) (λ g y k. search rules) g (omega (arith, l, c.gates-n.ensures.1))) c.loop-k.invariant.1 c.round-left.ensures in (search rules, left, ring_numbers _ _ _ _ _ _ _ c.gates-n.ensures.0 c.gates-n.ensures.1 c.loop-k-test.true c.loop-k.invariant.1 left c.loop-k.invariant.2 c.number_gates.ensures)

pub returns : goal.returns
returns c = ring_last _ _ _ _ _ c.gates-n.ensures.0 c.loop-k.auto._k-end c.loop-k-test.false c.loop-k.invariant.1 c.loop-k.invariant.2
