use mathlib.Core.Path.{◌∙◌}
use borrow.Author.Rules.{rules}
use Rattle.circuit.proofs.Turns.{each_first, each_next, each_last}
use Rattle.size.proofs.Starts.{pick_some, pick_none, picked_all}
use Rattle.size.proofs.most.greatest.Goals.{in-Some, in_default}
use Rattle.size.proofs.most.greatest.Goals as goal

pub loop-i-init : goal.loop-i-init
loop-i-init g c = λ p f h. each_first _ _ _ _ ∙ picked_all p f _

pub loop-i-preserved : goal.loop-i-preserved
loop-i-preserved g c =
    elim c.match-number.branch [
      | in-Some w ↦ λ p f h. each_next _ _ _ _ _ _ _ c.loop-i-test.true (pick_some p f _ _ _ _ c.number.result (h _ _ c.loop-i-test.true c.number.ensures) w.in-Some.is (w.most-is ∙ w.max-most.ensures)) (c.loop-i.invariant p f h)
      | in_default w ↦ λ p f h. each_next _ _ _ _ _ _ _ c.loop-i-test.true (pick_none p f _ _ _ c.number.result (h _ _ c.loop-i-test.true c.number.ensures) (search rules) w.most-is) (c.loop-i.invariant p f h)
    ]

pub returns : goal.returns
returns g c = λ p f h. each_last _ _ _ _ _ _ c.loop-i-test.false (c.loop-i.invariant p f h)
