use mathlib.Core.Path.{sym, ◌∙◌}
use native.Mathlib.Omega.{arith}
use borrow.Author.Rules.{rules}
use Rattle.links.specs.Links.{net}
use Rattle.whole.proofs.Logs.{odd_bytes, whole_begins, no_record, record_passed, record_within, all_passed, at_end}
use Rattle.whole.proofs.whole.Goals as goal

pub returns-then-log-ne0 : goal.returns-then-log-ne0
returns-then-log-ne0 c = let a = c.args in odd_bytes (net a.links.now) a.log.now c.if-log-ne0.true

pub loop-tick-init : goal.loop-tick-init
loop-tick-init c = let a = c.args in (search rules, search rules, whole_begins (net a.links.now) a.log.now c.if-log-ne0.false)

pub returns-then-at-size : goal.returns-then-at-size
returns-then-at-size c = let a = c.args in let i = c.loop-tick.invariant in let h = c.if-at-size.true in all_passed (net a.links.now) a.log.now _ _ i.2 (omega (arith, h, i.0))

pub returns-in_default : goal.returns-in_default
returns-in_default c = let a = c.args in let i = c.loop-tick.invariant in let h = c.if-at-size.false in let t = c.loop-tick-test.true in no_record (net a.links.now) a.log.now _ _ i.2 (omega (arith, h, i.0, i.1)) (omega (arith, t)) (sym c.in_default.is ∙ c.good_record.ensures)

pub overflow_add-at : goal.overflow_add-at
overflow_add-at c = let a = c.args in let i = c.loop-tick.invariant in let h = c.if-at-size.false in let t = c.loop-tick-test.true in let w = record_within (net a.links.now) a.log.now _ _ i.2 (omega (arith, h, i.0, i.1)) (omega (arith, t)) _ (sym c.in-Some.is ∙ c.good_record.ensures) in omega (arith, w, c.well_formed)

pub loop-tick-preserved : goal.loop-tick-preserved
loop-tick-preserved c =
    let a = c.args in let i = c.loop-tick.invariant in let h = c.if-at-size.false in let t = c.loop-tick-test.true in
    (i.0, record_within (net a.links.now) a.log.now _ _ i.2 (omega (arith, h, i.0, i.1)) (omega (arith, t)) _ (sym c.in-Some.is ∙ c.good_record.ensures), record_passed (net a.links.now) a.log.now _ _ i.2 (omega (arith, h, i.0, i.1)) (omega (arith, t)) _ (sym c.in-Some.is ∙ c.good_record.ensures))

pub returns : goal.returns
returns c = let a = c.args in let i = c.loop-tick.invariant in let t = c.loop-tick-test.false in at_end (net a.links.now) a.log.now _ _ _ i.0 i.1 i.2 (omega (arith, t))
