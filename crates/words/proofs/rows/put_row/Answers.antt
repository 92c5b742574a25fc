use Rattle.words.proofs.Putting.{put_first, put_next, put_last}
use borrow.Author.Rules.{rules}
use Rattle.words.proofs.rows.put_row.Goals as goal

pub loop-i-init : goal.loop-i-init
loop-i-init c = put_first _ _ _

pub loop-i-preserved : goal.loop-i-preserved
loop-i-preserved c = put_next _ _ _ _ _ _ c.requires (search rules) c.loop-i.invariant c.put.ensures

pub returns : goal.returns
returns c =
    let h = put_last _ _ _ _ _ (search rules) (search rules) c.loop-i.invariant in
    record { area_value = h.0; area_value_2 = h.1 }
