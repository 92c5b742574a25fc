use Rattle.play.proofs.Texts.{byte_added}
use mathlib.Core.Path.{refl}
use native.Mathlib.Omega.{arith}
use Rattle.play.proofs.text.add_byte.Goals as goal

pub returns : goal.returns
returns c =
    let a = c.args in
    record { text_value = byte_added a.text.now a.at a.byte (omega arith); value = refl }
