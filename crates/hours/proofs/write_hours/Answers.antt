use native.Mathlib.Omega.{arith}
use Rattle.hours.proofs.Calls.{good_shares, too_many, too_long, all_written}
use borrow.Author.Rules.{rules}
use Rattle.hours.proofs.write_hours.Goals as goal

pub returns-in_default : goal.returns-in_default
returns-in_default c = let v = c.args in too_many v.len _ (good_shares _ _ _) _ c.count_all.ensures v.report.now c.in_default.is

pub returns-then-report-size : goal.returns-then-report-size
returns-then-report-size c = let v = c.args in too_long v.len _ (good_shares _ _ _) _ c.count_all.ensures v.report.now _ c.in-Some.is (search rules) (search rules) c.if-report-size.true

pub write_report-requires : goal.write_report-requires
write_report-requires c =
    let h = c.if-report-size.false in
    record { has_words = omega (arith, h); few = (c.count_all.ensures.low _ c.in-Some.is, c.requires.2) }

pub returns : goal.returns
returns c = let v = c.args in all_written v.len _ (good_shares _ _ _) _ c.count_all.ensures v.report.now _ c.in-Some.is (search rules) (search rules) c.if-report-size.false _ (λ i. (c.slice_known-1.given i).fits) (λ i. (c.type_inv.report i).fits) c.write_report.ensures
