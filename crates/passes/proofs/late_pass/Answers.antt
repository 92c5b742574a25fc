use mathlib.Core.Path.{refl}
use native.Mathlib.Nat.{sub-zero}
use native.Mathlib.Omega.{arith}
use Rattle.links.specs.Links.{net}
use Rattle.wires.specs.View.{values as values_view}
use Rattle.states.specs.View.{delays as delays_view}
use Rattle.units.specs.View.{units as units_view}
use Rattle.passes.proofs.Lately.{late_first, late_room, late_none, late_on, late_stop, late_end}
use borrow.Author.Rules.{rules}
use Rattle.passes.proofs.late_pass.Goals as goal

pub loop-init : goal.loop-init
loop-init c = (search rules, search rules, search rules, c.requires.2, rw sub-zero (late_first _ _ _ _ (c.units_left-n.ensures (net c.args.links.now))))

pub returns-in_default : goal.returns-in_default
returns-in_default c =
    let k = net c.args.links.now in
    let d = late_none k (values_view k c.loop.values) (units_view k c.loop.units) _ (delays_view k c.loop.delays) _ _ _ _ _ (c.next_late.ensures k) (omega (arith, c.loop-test.true)) c.loop.invariant.4 (record { left = c.loop.rest; stop = 0 }) c.in_default.is refl refl in
    record { over_all = d.0; over_all_2 = d.1; slots_stay = c.loop.invariant.3 }

pub begin-r-requires : goal.begin-r-requires
begin-r-requires c =
    let k = net c.args.links.now in
    (search rules, search rules, c.loop.invariant.3, c.requires.3, late_room k (values_view k c.loop.values) (units_view k c.loop.units) _ (delays_view k c.loop.delays) _ _ _ _ _ (c.next_late.ensures k) (omega (arith, c.loop-test.true)) c.loop.invariant.4)

pub returns-then-r-ne0 : goal.returns-then-r-ne0
returns-then-r-ne0 c =
    let k = net c.args.links.now in
    let d = late_stop k (values_view k c.loop.values) (units_view k c.loop.units) _ (delays_view k c.loop.delays) _ _ _ _ _ (c.next_late.ensures k) (omega (arith, c.loop-test.true)) c.loop.invariant.4 _ _ _ c.in-Some.is c.begin-r.ensures.over_all c.if-r-ne0.true in
    record { over_all = d.0; over_all_2 = d.1; slots_stay = c.begin-r.ensures.slots_stay }

pub loop-preserved : goal.loop-preserved
loop-preserved c =
    let k = net c.args.links.now in
    (search rules, search rules, search rules, c.begin-r.ensures.slots_stay, late_on k (values_view k c.loop.values) (units_view k c.loop.units) _ (delays_view k c.loop.delays) _ _ _ _ _ (c.next_late.ensures k) (omega (arith, c.loop-test.true)) c.loop.invariant.4 _ _ _ c.in-Some.is c.begin-r.ensures.over_all c.if-r-ne0.false _ (omega (arith, c.loop-test.true)))

pub returns : goal.returns
returns c =
    let k = net c.args.links.now in
    let d = late_end k _ _ _ _ _ _ (omega (arith, c.loop-test.false)) (c.late_over.ensures k) c.loop.invariant.4 in
    record { over_all = d.0; over_all_2 = d.1; slots_stay = c.loop.invariant.3 }
