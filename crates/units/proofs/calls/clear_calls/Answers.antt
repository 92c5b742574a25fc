use borrow.Rule.Slice.PartMut.{put_mid}
use Rattle.units.proofs.Lending.{kept_length}
use Rattle.units.proofs.Calling.{calls_cleared}
use borrow.Author.Rules.{rules}
use Rattle.units.proofs.calls.clear_calls.Goals as goal

pub returns : goal.returns
returns c = let u = c.args.units.now in let p = c.clear.new.list in let d = c.clear-2.new.list in calls_cleared u p d c.requires (search rules) (kept_length 0 2056 u p c.clear.auto.list (search rules)) (kept_length 2056 2064 (put_mid 0 2056 u p) d c.clear-2.auto.list (search rules)) c.clear.ensures.emptied c.clear-2.ensures.emptied
