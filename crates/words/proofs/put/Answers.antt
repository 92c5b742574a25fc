use native.Mathlib.Omega.{arith}
use lib.ListN.{length-set}
use Rattle.words.proofs.Access.{put_word}
use Rattle.words.proofs.put.Goals as goal

pub bounds-area-o-2 : goal.bounds-area-o-2
bounds-area-o-2 c = simp length-set (omega arith)

pub bounds-area-o-3 : goal.bounds-area-o-3
bounds-area-o-3 c = simp length-set (omega arith)

pub bounds-area-o-4 : goal.bounds-area-o-4
bounds-area-o-4 c = simp length-set (omega arith)

pub bounds-area-o-5 : goal.bounds-area-o-5
bounds-area-o-5 c = simp length-set (omega arith)

pub bounds-area-o-6 : goal.bounds-area-o-6
bounds-area-o-6 c = simp length-set (omega arith)

pub bounds-area-o-7 : goal.bounds-area-o-7
bounds-area-o-7 c = simp length-set (omega arith)

pub bounds-area-o-8 : goal.bounds-area-o-8
bounds-area-o-8 c = simp length-set (omega arith)

pub shape_of-area : goal.shape_of-area
shape_of-area c = simp length-set

pub returns : goal.returns
returns c = put_word c.args.i c.args.area.now c.args.v (omega arith) (omega arith)
