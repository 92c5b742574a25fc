use Rattle.words.specs.Words.{words}
use Rattle.lists.proofs.Counts.{count_is}
use Rattle.lists.proofs.count.Goals as goal

pub returns : goal.returns
returns c =
    let h = count_is _ _ _ (words c.args.list.now) c.get-n.ensures c.min.ensures in
    record { value = h.0; value_2 = h.1.0; upper_bound = h.1.1 }
