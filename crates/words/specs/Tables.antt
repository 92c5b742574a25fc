-- Tables of words, one behind the other; and what may stand in them: marks as the binary digits of words, a ring, a stack.
use Rattle.std.specs.Prelude.{ℕ, zero, suc, ◌+◌, ◌/◌, ◌%◌, Bool, not, List, [], ◌∷◌, ◌++◌, eqb, get_or, take, drop}

-- Words cut into tables of these sizes, and behind the tables what is left.
abbrev pub tables : List ℕ → List ℕ → List (List ℕ)
tables [] ws = ws ∷ []
tables (n ∷ ns) ws = take n ws ∷ tables ns (drop n ws)

-- Where table t begins.
abbrev pub base : List ℕ → ℕ → ℕ
base [] t = 0
base (n ∷ ns) zero = 0
base (n ∷ ns) (suc t) = n + base ns t

-- A word as a mark: any but 0 is one.
abbrev pub marked : ℕ → Bool
marked x = not (eqb x 0)

-- The n lowest binary digits of a word as marks, the lowest first.
unfoldable pub digits : ℕ → ℕ → List Bool
digits zero d = []
digits (suc n) d = marked (d % 2) ∷ digits n (d / 2)

-- The 64 digits of each word, one word behind the other.
unfoldable pub marks : List ℕ → List Bool
marks [] = []
marks (d ∷ ds) = digits 64 d ++ marks ds

-- n entries of a ring of 1,024 places, from place h on.
unfoldable pub ring : ℕ → ℕ → List ℕ → List ℕ
ring zero h r = []
ring (suc n) h r = get_or r (h % 1024) 0 ∷ ring n (h + 1) r

-- The first n words, the last one first.
unfoldable pub stack : ℕ → List ℕ → List ℕ
stack zero r = []
stack (suc n) r = get_or r n 0 ∷ stack n r
