-- The promises of a call, together.
use Prim.Native.Nat.{ℕ}
use mathlib.Core.List.{List}
use mathlib.Core.Option.{some}
use Rattle.model.specs.Questions.{Areas}
use Rattle.model.proofs.Ends.{numbers}
use Rattle.model.proofs.InOrder.{in_order}
use Rattle.model.proofs.Fresh.{begins_fresh}
use Rattle.model.proofs.Noticing.{noticed}
use Rattle.promises.specs.Promises.{Promised}
use Rattle.promises.proofs.Theorems.{every_log_whole}

pub promised : (areas : Areas) (room : ℕ) (cb sb : List ℕ) → Promised areas room cb sb
promised areas room cb sb =
    record {
      numbers = numbers areas room cb sb;
      order = in_order areas room cb sb;
      begins_fresh = begins_fresh areas room cb sb;
      notices = noticed (some areas) cb sb;
      whole = every_log_whole areas room cb sb;
    }
