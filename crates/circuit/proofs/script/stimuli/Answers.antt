use Prim.Native.Nat.{◌+◌, ◌*◌}
use native.Mathlib.Omega.{arith}
use borrow.Author.Rules.{rules}
use mathlib.Core.Path.{refl}
use lib.Dec.{eqb}
use lib.ListN.{get_or}
use Rattle.words.specs.Words.{words}
use Rattle.model.specs.Circuit.{part}
use Rattle.model.specs.Questions.{within}
use Rattle.circuit.proofs.Parts.{and_yes, and_no, stimuli_are}
use Rattle.circuit.proofs.Sized.{sized, script_sized}
use Rattle.circuit.proofs.script.stimuli.Goals as goal

-- `circuit::script::stimuli` meets its contract. Questions 1 and 8 say that the gates and the stimuli are there.

pub get-constants-requires : goal.get-constants-requires
get-constants-requires c = let z = sized c.args.circuit.now c.requires.0 in omega arith

pub get-requires : goal.get-requires
get-requires c = let z = sized c.args.circuit.now c.requires.0 in omega arith

pub overflow_mul-kinds : goal.overflow_mul-kinds
overflow_mul-kinds c = let z = sized c.args.circuit.now c.requires.0 in omega arith

pub overflow_add-kinds : goal.overflow_add-kinds
overflow_add-kinds c = let z = sized c.args.circuit.now c.requires.0 in omega arith

pub invariant_of-kinds : goal.invariant_of-kinds
invariant_of-kinds c = let z = sized c.args.circuit.now c.requires.0 in omega arith

pub get-count-requires : goal.get-count-requires
get-count-requires c = let z = script_sized c.args.script.now c.requires.1 in omega arith

pub get-requires-2 : goal.get-requires-2
get-requires-2 c = let z = script_sized c.args.script.now c.requires.1 in omega arith

pub overflow_mul-first : goal.overflow_mul-first
overflow_mul-first c = let z = script_sized c.args.script.now c.requires.1 in omega arith

pub overflow_add-first : goal.overflow_add-first
overflow_add-first c = let z = script_sized c.args.script.now c.requires.1 in omega arith

pub invariant_of-gates : goal.invariant_of-gates
invariant_of-gates c = let z = script_sized c.args.script.now c.requires.1 in omega arith

pub overflow_add-values : goal.overflow_add-values
overflow_add-values c = let z = script_sized c.args.script.now c.requires.1 in omega arith

pub invariant_of-values : goal.invariant_of-values
invariant_of-values c = let z = script_sized c.args.script.now c.requires.1 in omega arith

pub returns-then-all : goal.returns-then-all
returns-then-all c =
    and_yes _ _ _ (stimuli_are c.args.circuit.now _ _ _ _ _ _ _ c.requires.0 c.get.ensures c.get-constants.ensures c.get-count.ensures c.get-2.ensures (c.all.ensures (λ g. eqb (get_or (part (words c.args.circuit.now) (4 + 2 * c.get-constants.result) c.get.result) g 0) 28) (λ w t k. search rules)) (c.all-then-all.ensures (within 0 c.get-constants.result) (λ w t k. search rules))) c.if-all.true

pub returns-else-all : goal.returns-else-all
returns-else-all c =
    and_no _ _ _ (stimuli_are c.args.circuit.now _ _ _ _ _ _ _ c.requires.0 c.get.ensures c.get-constants.ensures c.get-count.ensures c.get-2.ensures (c.all.ensures (λ g. eqb (get_or (part (words c.args.circuit.now) (4 + 2 * c.get-constants.result) c.get.result) g 0) 28) (λ w t k. search rules)) refl) c.if-all.false
