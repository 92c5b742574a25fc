use borrow.Author.Rules.{sfits_of}
use Rattle.steps.proofs.Wiring.{var_cast, var_negative, var_named}
use Rattle.steps.proofs.var.Goals as goal

pub returns-then-n-lt0 : goal.returns-then-n-lt0
returns-then-n-lt0 c = var_negative _ _ _ _ _ (sfits_of c.as_int-n.type_inv) c.setting.ensures c.as_int-n.ensures c.if-n-lt0.true c.output.ensures

pub overflow_cast-n : goal.overflow_cast-n
overflow_cast-n c = var_cast c.as_int-n.result (sfits_of c.as_int-n.type_inv) c.if-n-lt0.false

pub returns : goal.returns
returns c = var_named _ _ _ _ _ (sfits_of c.as_int-n.type_inv) c.setting.ensures c.as_int-n.ensures c.if-n-lt0.false c.output-2.ensures
