use borrow.Author.Rules.{sfits_of}
use Rattle.steps.proofs.Wiring.{cycles, fires_down, fires_up}
use Rattle.steps.proofs.exec_cycle.Goals as goal

pub returns-then-p-eq1 : goal.returns-then-p-eq1
returns-then-p-eq1 c = cycles _ _ _ _ _ _ _ _ _ _ _ _ _ _ _ (sfits_of c.as_int-now.type_inv) (sfits_of c.as_int-count.type_inv) c.input-i.ensures c.output-o.ensures c.ready.ensures c.shown.ensures c.as_int-now.ensures c.look.ensures c.as_int-count.ensures c.cycle_next-n.ensures c.set_out.ensures (fires_down _ c.if-p-eq1.true) c.output.ensures

pub returns : goal.returns
returns c = cycles _ _ _ _ _ _ _ _ _ _ _ _ _ _ _ (sfits_of c.as_int-now.type_inv) (sfits_of c.as_int-count.type_inv) c.input-i.ensures c.output-o.ensures c.ready.ensures c.shown.ensures c.as_int-now.ensures c.look.ensures c.as_int-count.ensures c.cycle_next-n.ensures c.set_out.ensures (fires_up _ c.if-p-eq1.false) c.output-2.ensures
