use Rattle.circuit.proofs.Numbers.{handed}
use Rattle.size.proofs.Answers.{refused_first, refused_ring, refused_loop, refused_ticks, figures_told}
use borrow.Author.Tests.{not-false}
use borrow.Author.Rules.{rules}
use mathlib.Core.Path.{refl, ap}
use mathlib.Core.Bool.{not}
use Rattle.size.proofs.size.Goals as goal

pub returns-in_err-circuit_refusal : goal.returns-in_err-circuit_refusal
returns-in_err-circuit_refusal c = let k = c.in_err-circuit_refusal.ensures in let h = handed _ _ _ c.from_residual.ensures.1 k.0 in refused_first _ _ _ _ _ _ (h.0, k.1) h.1

pub returns-then-not-number_all : goal.returns-then-not-number_all
returns-then-not-number_all c = refused_ring _ _ _ 0 _ _ c.in_ok-circuit_refusal.ensures refl _ c.number_all.ensures.0 (ap not c.if-not-number_all.true)

pub returns-then-not-no_loop : goal.returns-then-not-no_loop
returns-then-not-no_loop c = refused_loop _ _ _ 0 _ _ c.in_ok-circuit_refusal.ensures refl _ c.number_all.ensures.0 (ap not c.if-not-number_all.false) _ c.no_loop.ensures (ap not c.if-not-no_loop.true)

pub returns-then-ticks-gt-MOST_TICKS : goal.returns-then-ticks-gt-MOST_TICKS
returns-then-ticks-gt-MOST_TICKS c = refused_ticks _ _ _ 0 _ _ c.in_ok-circuit_refusal.ensures refl _ c.number_all.ensures.0 (ap not c.if-not-number_all.false) _ c.no_loop.ensures (ap not c.if-not-no_loop.false) c.if-ticks-gt-MOST_TICKS.true

pub unit_steps-requires : goal.unit_steps-requires
unit_steps-requires c = c.number_all.ensures.1 (not-false _ (ap not c.if-not-number_all.false))

pub returns : goal.returns
returns c = figures_told _ _ _ 0 _ _ c.in_ok-circuit_refusal.ensures refl _ c.number_all.ensures.0 (ap not c.if-not-number_all.false) _ c.no_loop.ensures (ap not c.if-not-no_loop.false) c.if-ticks-gt-MOST_TICKS.false _ _ _ _ c.unit_steps.ensures c.put_at.ensures c.log_bytes.ensures c.put_at-2.ensures
