-- What a reader knows that is not refused.
use Prim.Native.Nat.{ℕ}
use mathlib.Core.Path.{◌≡◌, sym, ap, ◌∙◌}
use mathlib.Core.Bool.{true}
use mathlib.Core.List.{List}
use mathlib.Core.Option.{none}
use Rattle.words.specs.Words.{words}
use Rattle.model.specs.Circuit.{Circuit, circuit}
use Rattle.model.specs.Questions.{circuit_refusal}
use Rattle.links.specs.Links.{net}
use Rattle.records.specs.Whole.{whole}
use Rattle.records.proofs.Refused.{not_refused}
use Rattle.whole.specs.Asked.{Asked}

-- its links show the circuit, which is not refused, and the log is whole records of it
pub record Passed (circuit_bytes log made : List ℕ) : Type 0 where
  pub asked : circuit_refusal none circuit_bytes ≡ 0
  pub shows : net made ≡ circuit (words circuit_bytes)
  pub whole_log : whole (net made) log ≡ true

pub passed : {circuit_bytes log links made : List ℕ} {r : ℕ} → Asked circuit_bytes log links made r → r ≡ 0 → Passed circuit_bytes log made
passed {circuit_bytes = b} {log = log} a z =
    let n = not_refused b log (sym a.number ∙ z) in
    record { asked = n.0; shows = a.shows z; whole_log = ap (λ (c : Circuit). whole c log) (a.shows z) ∙ n.1 }
