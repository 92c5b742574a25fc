-- What the functions of this crate answer beside the definition's tests.
use Rattle.std.specs.Prelude.{ℕ, ◌≡◌, Option, Some, None, List, length}
use Rattle.words.specs.Words.{words}
use Rattle.model.specs.Base.{if◌then◌otherwise◌}
use Rattle.model.specs.Circuit.{Circuit, circuit}
use Rattle.model.specs.Record.{record_size}
use Rattle.links.specs.Links.{net}
use Rattle.circuit.specs.Refusals.{links_after}
use Rattle.records.specs.Whole.{good_record, log_refusal}

-- how many words the good record of tick t has that the words begin with, if they begin with one
unfoldable pub size_if_good : Circuit → ℕ → List ℕ → Option ℕ
size_if_good c t ws = if good_record c t ws then Some (record_size (length c.outputs) ws) otherwise None

-- What a reader has asked: the number that it is refused with, or 0, and the links `made` of what they were, which then show the circuit.
pub record Asked (circuit_bytes log links made : List ℕ) (r : ℕ) : Type 0 where
  pub number : r ≡ log_refusal circuit_bytes log
  pub links_made : made ≡ links_after circuit_bytes links
  pub shows : r ≡ 0 → net made ≡ circuit (words circuit_bytes)
