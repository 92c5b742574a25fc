-- The numbers of the code's answer, and words put in their places.
use Rattle.std.specs.Prelude.{ℕ, ◌+◌, List, [], ◌∷◌, Ok, Err, set}
use Rattle.run.specs.Told.{Answer}

-- 1 to 10 or 19 for a refused call; else the stop, 11 to 13, or 0
abbrev pub number_of : Answer → ℕ
number_of (Err n) = n
number_of (Ok p) = p.stop

abbrev pub ticks_of : Answer → ℕ
ticks_of (Err n) = 0
ticks_of (Ok p) = p.ticks

abbrev pub bytes_of : Answer → ℕ
bytes_of (Err n) = 0
bytes_of (Ok p) = p.bytes

-- what is told beside the number, and all of it
abbrev pub end_of : Answer → List ℕ
end_of a = ticks_of a ∷ bytes_of a ∷ []

abbrev pub all_of : Answer → List ℕ
all_of a = number_of a ∷ end_of a

-- these words from word `at` on, as far as there is room
unfoldable pub put_from : ℕ → List ℕ → List ℕ → List ℕ
put_from at [] ws = ws
put_from at (x ∷ xs) ws = put_from (at + 1) xs (set ws at x)
