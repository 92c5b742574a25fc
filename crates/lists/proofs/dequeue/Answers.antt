use Rattle.words.proofs.Laws.{length_words}
use Rattle.words.specs.Words.{words}
use Rattle.lists.proofs.Rings.{dequeued}
use Rattle.lists.proofs.Answers.{none_left}
use Rattle.lists.proofs.dequeue.Goals as goal

pub returns-then-held-eq0 : goal.returns-then-held-eq0
returns-then-held-eq0 c =
    let h = none_left _ _ c.count-held.ensures.value_2 c.if-held-eq0.true in
    record { value = h.0; list_value = h.1 }

pub returns : goal.returns
returns c =
    let h = dequeued _ _ _ _ _ (words c.args.list.now) (words c.put.new.area) _ (length_words _ _ c.requires.0) c.count-held.ensures.value_2 c.count-held.ensures.upper_bound c.if-held-eq0.false c.first_slot-i.ensures.0 c.get-x.ensures c.wrapped.ensures.0 c.wrapped.ensures.1 c.put.ensures.words c.put-2.ensures.words in
    record { value = h.0; list_value = h.1 }
