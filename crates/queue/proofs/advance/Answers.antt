use Rattle.queue.proofs.Laws.{advance_all}
use Rattle.queue.proofs.advance.Goals as goal

pub returns : goal.returns
returns c =
    let h = advance_all _ _ _ _ _ _ _ c.count_down.ensures (c.take_front.ensures.queue_value, c.take_front.ensures.front_value) in
    record { queue_value = h.0; front_value = h.1 }
