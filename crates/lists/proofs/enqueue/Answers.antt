use Rattle.words.proofs.Laws.{length_words}
use Rattle.words.specs.Words.{words}
use Rattle.lists.proofs.Rings.{enqueued}
use Rattle.lists.proofs.Answers.{no_room}
use Rattle.lists.proofs.enqueue.Goals as goal

pub returns-then-most-held : goal.returns-then-most-held
returns-then-most-held c =
    let h = no_room _ _ _ _ c.count-held.ensures.value_2 c.if-most-held.true in
    record { value = h.0; list_value = h.1 }

pub returns : goal.returns
returns c =
    let h = enqueued _ _ _ _ _ (words c.args.list.now) (words c.put.new.area) _ (length_words _ _ c.requires.0) c.count-held.ensures.value_2 c.if-most-held.false c.first_slot.ensures.0 c.first_slot.ensures.1 c.wrapped-i.ensures.0 c.put.ensures.words c.put-2.ensures.words in
    record { value = h.0; list_value = h.1 }
