use Rattle.play.proofs.Texts.{digit_put, digits_put}
use lib.Seq.{paste-zero}
use lib.ListN.{length-set}
use native.Mathlib.Omega.{arith}
use borrow.Author.Rules.{rules}
use Rattle.play.proofs.text.put_digits.Goals as goal

pub loop-i-init : goal.loop-i-init
loop-i-init c = let a = c.args in (search rules, search rules, paste-zero a.text.now a.at a.digits.now)

pub loop-i-preserved : goal.loop-i-preserved
loop-i-preserved c =
    let l = c.loop-i in
    let a = c.args in (
      simp length-set l.invariant.0,
      search rules,
      digit_put a.text.now l.text a.digits.now a.at l.i (omega arith) (omega arith) l.invariant.2,
    )

pub returns : goal.returns
returns c =
    let a = c.args in
    digits_put a.text.now _ a.digits.now a.at _ _ c.loop-i.invariant.1 c.loop-i-test.false c.loop-i.invariant.2
