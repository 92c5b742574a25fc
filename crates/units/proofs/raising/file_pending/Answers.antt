use Rattle.units.proofs.Filing.{pending_filed}
use borrow.Author.Rules.{rules}
use Rattle.units.proofs.raising.file_pending.Goals as goal

pub returns : goal.returns
returns c = pending_filed _ c.args.units.now c.file.new.list (search rules) _ _ c.file.auto.list c.file.ensures
