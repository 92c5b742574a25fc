use Rattle.wires.proofs.Tags.{content_masked}
use Rattle.std.proofs.Common.{rules}
use Rattle.wires.proofs.held.content_held.Goals as goal

pub returns : goal.returns
returns c = content_masked _ _ _ (search rules) (search rules) c.wrapping_sub_u64-whole.ensures.value
