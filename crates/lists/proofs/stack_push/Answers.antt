use Rattle.words.proofs.Laws.{length_words}
use Rattle.words.specs.Words.{words}
use Rattle.lists.proofs.Stacks.{pushed}
use Rattle.lists.proofs.Answers.{no_room}
use Rattle.lists.proofs.stack_push.Goals as goal

pub returns-then-most-height : goal.returns-then-most-height
returns-then-most-height c =
    let h = no_room _ _ _ _ c.count-height.ensures.value c.if-most-height.true in
    record { value = h.0; list_value = h.1 }

pub returns : goal.returns
returns c =
    let h = pushed _ _ _ (words c.args.list.now) (words c.put.new.area) _ (length_words _ _ c.requires.0) c.count-height.ensures.value c.if-most-height.false c.put.ensures.words c.put-2.ensures.words in
    record { value = h.0; list_value = h.1 }
