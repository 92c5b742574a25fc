use Rattle.words.proofs.Laws.{length_words}
use Rattle.words.specs.Words.{words}
use Rattle.lists.proofs.Stacks.{popped}
use Rattle.lists.proofs.Answers.{none_left}
use Rattle.lists.proofs.stack_pop.Goals as goal

pub returns-then-height-eq0 : goal.returns-then-height-eq0
returns-then-height-eq0 c =
    let h = none_left _ _ c.count-height.ensures.value c.if-height-eq0.true in
    record { value = h.0; list_value = h.1 }

pub returns : goal.returns
returns c =
    let h = popped _ _ _ (words c.args.list.now) _ (length_words _ _ c.requires.0) c.count-height.ensures.value c.count-height.ensures.upper_bound c.if-height-eq0.false c.get-x.ensures c.put.ensures.words in
    record { value = h.0; list_value = h.1 }
