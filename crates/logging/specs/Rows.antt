-- What the rows of a record are.
use Rattle.std.specs.Prelude.{ℕ, ◌≡◌, ◌<◌, ◌+◌, ◌-◌, length, List, [], ◌∷◌, map, get_or, take}
use Rattle.words.specs.Words.{words}
use Rattle.words.specs.Tables.{base}
use Rattle.model.specs.declared.Value.{Value}
use Rattle.model.specs.Base.{both, from}
use Rattle.model.specs.Record.{Listed}
use Rattle.wires.specs.Held.{held}
use Rattle.wires.specs.View.{cut as cut_values}
use Rattle.units.specs.View.{sizes, listed_of}
use Rattle.logging.specs.declared.Head.{Head}

-- the head, where n units have begun, the late ones of them at most n, and k are carried
unfoldable pub head_row : Head → ℕ → ℕ → List ℕ
head_row h n k = h.tick ∷ h.steps ∷ (n - (n - h.late)) ∷ (n - h.late) ∷ k ∷ h.stop ∷ h.changed ∷ []

-- where the entries of the units begun and of those carried stand in the area `units`: behind their counts
abbrev pub begun_first : ℕ
begun_first = base sizes 6 + 1

abbrev pub carried_first : ℕ
carried_first = base sizes 4 + 1

-- n entries of the area `units`, from word k on, as a record lists them
unfoldable pub entries_in : ℕ → ℕ → List ℕ → List Listed
entries_in k n bs = map (λ i. listed_of (get_or (words bs) i 0)) (from k n)

-- what the first n outputs show, by the area `values`
unfoldable pub outs_in : ℕ → List ℕ → List Value
outs_in n bs = take n (both held (cut_values (words bs)).out_tags (cut_values (words bs)).out_contents)

-- A row of n words: each is what f says of its place.
pub record Says (f : ℕ → ℕ → Type 0) (n : ℕ) (row : List ℕ) : Type 0 where
  pub length : length row ≡ n
  pub words : (i r : ℕ) → i < n → f i r → r ≡ get_or row i 0
