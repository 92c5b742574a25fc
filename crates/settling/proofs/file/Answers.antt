use Rattle.lists.proofs.Answers.{refused}
use Rattle.settling.proofs.Turns.{filed_full, filed_done}
use Rattle.settling.proofs.file.Goals as goal

pub returns-in_err-activate : goal.returns-in_err-activate
returns-in_err-activate c = rw (refused c.from_residual.result c.from_residual.ensures.0) (filed_full _ _ c.activate.ensures.0 c.in_err-activate.was, c.activate.ensures.1)

pub returns : goal.returns
returns c = (filed_done _ _ c.activate.ensures.0 c.in_ok-activate.was, c.activate.ensures.1)
