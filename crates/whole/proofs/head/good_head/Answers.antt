use Rattle.whole.proofs.Heads.{other_tick, bad_steps, many_begun, many_carried, head_is}
use mathlib.Core.Path.{ap}
use mathlib.Core.Bool.{not}
use Rattle.whole.proofs.head.good_head.Goals as goal

pub returns-then-word-tick : goal.returns-then-word-tick
returns-then-word-tick c = other_tick _ _ _ c.word.ensures c.if-word-tick.true

pub returns-then-not-good_steps : goal.returns-then-not-good_steps
returns-then-not-good_steps c = bad_steps _ _ _ c.word.ensures c.if-word-tick.false _ _ c.word-2.ensures c.stop_in.ensures _ c.good_steps.ensures (ap not c.if-not-good_steps.true)

pub returns-then-not-few_begun : goal.returns-then-not-few_begun
returns-then-not-few_begun c = many_begun _ _ _ c.word.ensures c.if-word-tick.false _ _ c.word-2.ensures c.stop_in.ensures _ c.good_steps.ensures (ap not c.if-not-good_steps.false) _ _ c.word-3.ensures c.word-4.ensures _ c.few_begun.ensures (ap not c.if-not-few_begun.true)

pub returns-then-word : goal.returns-then-word
returns-then-word c = many_carried _ _ _ c.word.ensures c.if-word-tick.false _ _ c.word-2.ensures c.stop_in.ensures _ c.good_steps.ensures (ap not c.if-not-good_steps.false) _ _ c.word-3.ensures c.word-4.ensures _ c.few_begun.ensures (ap not c.if-not-few_begun.false) _ c.word-5.ensures c.if-word.true

pub returns : goal.returns
returns c = head_is _ _ _ c.word.ensures c.if-word-tick.false _ _ c.word-2.ensures c.stop_in.ensures _ c.good_steps.ensures (ap not c.if-not-good_steps.false) _ _ c.word-3.ensures c.word-4.ensures _ c.few_begun.ensures (ap not c.if-not-few_begun.false) _ c.word-5.ensures c.if-word.false _ c.word-6.ensures
