use Rattle.std.proofs.Common.{refl}
use Rattle.model.specs.Value.{narrow_changes}
use Rattle.floats.proofs.narrowing.narrow.Goals as goal

pub returns : goal.returns
unfolding narrow_changes
returns c =
    let n = c.nearest_f32-near.ensures in
    (n, rw (c.differs.ensures, c.float32_of.ensures, c.float_of.ensures, n) refl)
