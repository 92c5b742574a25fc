use mathlib.Core.Path.{◌≡◌, ◌∙◌, subst}
use native.Mathlib.Omega.{arith}
use borrow.Author.Rules.{rules}
use Rattle.std.specs.Prelude.{None}
use Rattle.circuit.proofs.Loops.{tally_first, tally_next, tally_stop, tally_last}
use Rattle.circuit.proofs.columns.Column.total.Goals as goal

-- `circuit::columns::Column::total` meets its contract. With what was counted so far, the words left come to the same; each comes to 64 at most.

pub loop-i-init : goal.loop-i-init
loop-i-init g c = (omega arith, λ p f h. tally_first p f _ _ _)

pub returns-in_err-n : goal.returns-in_err-n
returns-in_err-n g c =
    let none : c.from_residual.result ≡ None = search rules in
    λ p f h. none ∙ tally_stop p f _ _ _ _ _ _ _ _ c.args.self.now.there (c.loop-i.invariant.1 p f h) c.loop-i-test.true c.get.ensures (h _ _ c.counted.ensures) c.in_err-n.was

pub loop-i-preserved : goal.loop-i-preserved
loop-i-preserved g c = (
  omega (arith, c.loop-i.invariant.0, c.requires.small _ _ (subst (goal.F-post g c.args.counted c.get.result) c.in_ok-n.was c.counted.ensures)),
  λ p f h. tally_next p f _ _ _ _ _ _ _ _ _ c.args.self.now.there (c.loop-i.invariant.1 p f h) c.loop-i-test.true c.get.ensures (h _ _ c.counted.ensures) c.in_ok-n.was,
)

pub returns : goal.returns
returns g c = λ p f h. tally_last p f _ _ _ _ _ _ (c.loop-i.invariant.1 p f h) c.loop-i-test.false
