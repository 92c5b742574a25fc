-- The outputs that the records of a circuit show.
use Rattle.std.specs.Prelude.{ℕ, zero, suc, ◌+◌, ◌*◌, min, List, length, get_or}
use Rattle.model.specs.Kinds.{kind_at}

-- the outputs of n gates, whose kinds are these words from place k on
unfoldable pub outputs_from : List ℕ → ℕ → ℕ → ℕ
outputs_from ws k zero = 0
outputs_from ws k (suc n) = length (kind_at (get_or ws k 0)).outs + outputs_from ws (suc k) n

-- the outputs of a circuit with these words: sizes, constants, kinds; there are at most 64 constants and 64 gates
unfoldable pub outputs_of : List ℕ → ℕ
outputs_of ws = outputs_from ws (4 + 2 * min (get_or ws 1 0) 64) (min (get_or ws 0 0) 64)
