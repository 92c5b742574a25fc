use native.Mathlib.Omega.{arith}
use borrow.Author.Rules.{rules}
use mathlib.Core.Path.{refl}
use Rattle.model.specs.Questions.{may_call, may_be_called}
use Rattle.links.specs.Links.{net}
use Rattle.circuit.proofs.Sized.{sized}
use Rattle.circuit.proofs.Parts.{and_yes, and_no}
use Rattle.circuit.proofs.Rows.{calls_are}
use Rattle.circuit.proofs.calls.calls_good.Goals as goal

pub get-n-requires : goal.get-n-requires
get-n-requires c = let s = sized c.args.circuit.now c.requires in omega arith

pub get-requires : goal.get-requires
get-requires c = let s = sized c.args.circuit.now c.requires in omega arith

pub get-requires-2 : goal.get-requires-2
get-requires-2 c = let s = sized c.args.circuit.now c.requires in omega arith

pub overflow_add-first : goal.overflow_add-first
overflow_add-first c = let s = sized c.args.circuit.now c.requires in omega arith

pub get-requires-3 : goal.get-requires-3
get-requires-3 c = let s = sized c.args.circuit.now c.requires in omega arith

pub overflow_add-first-2 : goal.overflow_add-first-2
overflow_add-first-2 c = let s = sized c.args.circuit.now c.requires in omega arith

pub overflow_mul-first : goal.overflow_mul-first
overflow_mul-first c = let s = sized c.args.circuit.now c.requires in omega arith

pub overflow_add-first-3 : goal.overflow_add-first-3
overflow_add-first-3 c = let s = sized c.args.circuit.now c.requires in omega arith

pub invariant_of-callers : goal.invariant_of-callers
invariant_of-callers c = let s = sized c.args.circuit.now c.requires in omega arith

pub overflow_add-called : goal.overflow_add-called
overflow_add-called c = let s = sized c.args.circuit.now c.requires in omega arith

pub invariant_of-called : goal.invariant_of-called
invariant_of-called c = let s = sized c.args.circuit.now c.requires in omega arith

pub returns-then-all : goal.returns-then-all
returns-then-all c =
    let net = net c.args.links.now in
    and_yes _ _ _ (calls_are _ net _ _ _ _ _ _ c.get-n.ensures c.get.ensures c.get-2.ensures c.get-3.ensures (c.all.ensures (may_call net) (λ w t k. search rules)) (c.all-then-all.ensures (may_be_called net) (λ w t k. search rules))) c.if-all.true

pub returns-else-all : goal.returns-else-all
returns-else-all c =
    let net = net c.args.links.now in
    and_no _ _ _ (calls_are _ net _ _ _ _ _ _ c.get-n.ensures c.get.ensures c.get-2.ensures c.get-3.ensures (c.all.ensures (may_call net) (λ w t k. search rules)) refl) c.if-all.false
