use Rattle.logging.proofs.Turns.{head_filled}
use Rattle.logging.proofs.write_head.Goals as goal

pub returns : goal.returns
returns c = head_filled _ _ _ _ c.saturating_sub-main.ensures c.put.ensures c.put-2.ensures c.put-3.ensures c.put-4.ensures c.put-5.ensures c.put-6.ensures c.put-7.ensures
