use native.Mathlib.Omega.{arith}
use Rattle.walk.proofs.Outputs.{head_there, begun_few, shown_begins}
use Rattle.walk.proofs.shown_at.Goals as goal

pub get-requires : goal.get-requires
get-requires c = let h = head_there _ _ c.requires in omega (arith, h)

pub get-requires-2 : goal.get-requires-2
get-requires-2 c = let h = head_there _ _ c.requires in omega (arith, h)

pub overflow_add-begun : goal.overflow_add-begun
overflow_add-begun c = let h = begun_few _ _ c.requires c.get.ensures c.get-2.ensures in omega (arith, h)

pub get-carried-requires : goal.get-carried-requires
get-carried-requires c = let h = head_there _ _ c.requires in omega (arith, h)

pub overflow_add-result : goal.overflow_add-result
overflow_add-result c = let h = head_there _ _ c.requires in omega (arith, h)

pub overflow_mul-result : goal.overflow_mul-result
overflow_mul-result c = let h = begun_few _ _ c.requires c.get.ensures c.get-2.ensures in omega (arith, h)

pub overflow_add-result-2 : goal.overflow_add-result-2
overflow_add-result-2 c = let h = (shown_begins _ _ c.requires c.get.ensures c.get-2.ensures c.get-carried.ensures).2 in omega (arith, h)

pub overflow_mul-result-2 : goal.overflow_mul-result-2
overflow_mul-result-2 c = let h = (shown_begins _ _ c.requires c.get.ensures c.get-2.ensures c.get-carried.ensures).0 in omega (arith, h)

pub overflow_add-result-3 : goal.overflow_add-result-3
overflow_add-result-3 c = let h = (shown_begins _ _ c.requires c.get.ensures c.get-2.ensures c.get-carried.ensures).2 in omega (arith, h)

pub returns : goal.returns
returns c = (shown_begins _ _ c.requires c.get.ensures c.get-2.ensures c.get-carried.ensures).1
