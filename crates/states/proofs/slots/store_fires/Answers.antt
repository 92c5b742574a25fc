use native.Mathlib.Omega.{arith}
use lib.ListN.{length}
use mathlib.Core.Path.{◌≡◌}
use Rattle.states.proofs.Firing.{stored_fires}
use borrow.Author.Rules.{rules}
use Rattle.states.proofs.slots.store_fires.Goals as goal

pub put_row-requires : goal.put_row-requires
put_row-requires c = let n : length c.args.fires.words ≡ 32 = search rules in omega (arith, n)

pub returns : goal.returns
returns c = stored_fires _ _ _ _ _ (search rules) (search rules) c.put.ensures.words c.put-2.ensures.words c.put_row.ensures.area_value
