-- What contracts say of a record in a log that a function is lent.
use Rattle.std.specs.Prelude.{ℕ, List, length, drop}
use Rattle.words.specs.Words.{words}
use Rattle.words.specs.Slices.{HasWords}
use Rattle.model.specs.Record.{record_size}
use Rattle.links.specs.Links.{net}
use Rattle.walk.specs.Walk.{Stands}

-- the words of a log from word `at` on
abbrev pub behind : List ℕ → ℕ → List ℕ
behind log at = drop at (words log)

-- a record stands there with its outputs too, those of the circuit of these links
abbrev pub Complete : List ℕ → List ℕ → ℕ → Type 0
Complete links log at = Stands log at × HasWords log at (record_size (length (net links).outputs) (drop at (words log)))
