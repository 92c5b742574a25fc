use mathlib.Core.Path.{ap, ◌∙◌}
use mathlib.Core.Bool.{false}
use Rattle.std.specs.Prelude.{None, Some, Option}
use Rattle.model.specs.declared.Value.{Value}
use Rattle.delays.specs.States.{buffer_moved}
use Rattle.delays.proofs.Buffers.{lands_last, lands_starting}
use Rattle.delays.proofs.buffer.Buffer.land.Goals as goal

pub returns-in-None : goal.returns-in-None
returns-in-None c =
    ap (λ (l : Option Value). buffer_moved (record { flight = None; later = l; landed = Some c.args.v; changed = false })) c.in-None.is
    ∙ lands_last c.args.self _ _ _ _ c.in-None.is

pub returns-in-Some : goal.returns-in-Some
returns-in-Some c = lands_starting _ _ _ _ _ _ _ _ c.in-Some.is c.truthy.ensures c.buffer_countdown-k.ensures
