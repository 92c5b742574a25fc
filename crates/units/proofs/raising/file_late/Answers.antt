use Rattle.units.proofs.Filing.{late_filed}
use borrow.Author.Rules.{rules}
use Rattle.units.proofs.raising.file_late.Goals as goal

pub returns : goal.returns
returns c = late_filed _ c.args.units.now c.file.new.list (search rules) _ _ c.file.auto.list c.file.ensures
