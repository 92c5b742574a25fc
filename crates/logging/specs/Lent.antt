-- What contracts say of a record, over the circuit of the links.
use Rattle.std.specs.Prelude.{ℕ, List, map}
use Rattle.model.specs.Record.{record_words}
use Rattle.model.specs.Closing.{as_listed}
use Rattle.wires.specs.Lent.{wires_in}
use Rattle.units.specs.Lent.{units_in}
use Rattle.logging.specs.declared.Head.{Head}
use Rattle.logging.specs.Log.{record_of}

-- the words of a tick's record with this head, by what the areas hold
abbrev pub record_in : List ℕ → List ℕ → List ℕ → Head → List ℕ
record_in links vs us h = record_words (record_of h (units_in links us).begun (map as_listed (units_in links us).lists.carried) (wires_in links vs).outs)
