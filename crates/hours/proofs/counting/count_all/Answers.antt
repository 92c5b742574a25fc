use mathlib.Core.Path.{refl}
use native.Mathlib.Omega.{arith}
use borrow.Author.Rules.{rules}
use Rattle.walk.proofs.Walk.{fits_here, goes_on}
use Rattle.hours.proofs.Passing.{count_first, counts_few, count_more, count_stopped, count_done}
use Rattle.hours.proofs.counting.count_all.Goals as goal

pub loop-at-init : goal.loop-at-init
loop-at-init c = (search rules, search rules, count_first _ _ _ _ c.requires _ _ _ c.new-tally.ensures)

pub count_record-requires : goal.count_record-requires
count_record-requires c = let i = c.loop-at.invariant in let z = i.0 in let t = c.loop-at-test.true in (fits_here _ _ _ _ (omega (arith, z, t)) i.2.left, counts_few _ _ _ _ _ _ _ _ i.2)

pub returns-in_err-count_record : goal.returns-in_err-count_record
returns-in_err-count_record c = let i = c.loop-at.invariant in let z = i.0 in let t = c.loop-at-test.true in count_stopped _ _ _ _ _ _ _ _ i.2 (omega (arith, z, t)) _ _ _ _ c.in_err-count_record.ensures refl c.from_residual.result (cc)

pub loop-at-smaller : goal.loop-at-smaller
loop-at-smaller c = let i = c.loop-at.invariant in let z = i.0 in let t = c.loop-at-test.true in let g = goes_on _ _ _ _ (omega (arith, z, t)) i.2.left c.record_size-at.ensures.value refl in let u = g.0 in let v = g.1 in omega (arith, z, t, u, v)

pub loop-at-preserved : goal.loop-at-preserved
loop-at-preserved c = let i = c.loop-at.invariant in let z = i.0 in let t = c.loop-at-test.true in let e = c.record_size-at.ensures.value in let g = (goes_on _ _ _ _ (omega (arith, z, t)) i.2.left e refl).1 in (i.0, omega (arith, z, g), count_more _ _ _ _ _ _ _ _ i.2 (omega (arith, z, t)) _ _ _ _ c.in_ok-count_record.ensures refl e refl)

pub returns : goal.returns
returns c = let i = c.loop-at.invariant in let z = i.0 in let t = c.loop-at-test.false in count_done _ _ _ _ _ _ i.2 (omega (arith, z, t))
