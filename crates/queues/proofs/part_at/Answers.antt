use Rattle.queues.proofs.Lending.{table_inside, part_inside}
use native.Mathlib.Omega.{arith}
use mathlib.Core.Path.{ap}
use Prim.Native.Nat.{ℕ, ◌*◌}
use Rattle.states.specs.View.{queue_at}
use Rattle.queues.proofs.part_at.Goals as goal

pub get-p-requires : goal.get-p-requires
get-p-requires c = table_inside _ _ _ c.requires.0 c.requires.1

pub overflow_mul-result : goal.overflow_mul-result
overflow_mul-result c = let h = part_inside _ _ _ c.requires.0 c.requires.1 _ c.get-p.ensures in omega arith

pub overflow_add-result : goal.overflow_add-result
overflow_add-result c = let h = part_inside _ _ _ c.requires.0 c.requires.1 _ c.get-p.ensures in omega arith

pub overflow_mul-result-2 : goal.overflow_mul-result-2
overflow_mul-result-2 c = let h = part_inside _ _ _ c.requires.0 c.requires.1 _ c.get-p.ensures in omega arith

pub returns : goal.returns
returns c = (ap (λ (p : ℕ). queue_at p * 8) c.get-p.ensures, part_inside _ _ _ c.requires.0 c.requires.1 _ c.get-p.ensures)
