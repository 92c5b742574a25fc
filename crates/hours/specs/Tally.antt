-- How the ticks of each driver are counted in one pass, and written down: what the contracts of the code cite.
use Rattle.words.specs.Words.{words}
use Rattle.std.specs.Prelude.{ℕ, suc, ◌+◌, ◌*◌, ◌≤◌, ◌<◌, ◌≡◌, Bool, true, false, Option, Some, None, List, [], ◌∷◌, ◌++◌, eqb, length, get_or, replicate, set, take}
use Rattle.model.specs.Base.{if◌then◌otherwise◌, each, snoc, among}
use Rattle.model.specs.Script.{most_ticks}
use Rattle.links.specs.Links.{most_outputs}
use Rattle.records.specs.Records.{records_in}
use Rattle.walk.specs.Walk.{shown_there}
use Rattle.hours.specs.Hours.{Share, unassigned, assigned, share, shares, most_drivers, line_words}

-- ---- the tables

-- the drivers so far, and counts: first nobody's ticks, then four for each driver
pub record Tally : Type 0 where
  pub drivers : List ℕ
  pub counts : List ℕ

abbrev pub most_counts : ℕ
most_counts = 1 + 4 * most_drivers

-- the place of a driver, or how many there are
unfoldable pub place : ℕ → List ℕ → ℕ
place d [] = 0
place d (x ∷ xs) = if eqb d x then 0 otherwise suc (place d xs)

-- one more in place i
unfoldable pub more : List ℕ → ℕ → List ℕ
more cs i = set cs i (get_or cs i 0 + 1)

-- a driver more, if it is a new one
unfoldable pub with_driver : List ℕ → ℕ → List ℕ
with_driver ds d = if among d ds then ds otherwise snoc ds d

-- one more tick
unfoldable pub tallied : Tally → Share → Tally
tallied t unassigned = record { drivers = t.drivers; counts = more t.counts 0 }
tallied t (assigned d a) = record { drivers = with_driver t.drivers d; counts = more t.counts (1 + 4 * place d t.drivers + a) }

-- as the code keeps it: n drivers in a table
unfoldable pub tally : List ℕ → List ℕ → ℕ → Tally
tally ds cs n = record { drivers = take n ds; counts = cs }

-- before the first tick
abbrev pub at_start : Tally
at_start = record { drivers = []; counts = replicate most_counts 0 }

-- ---- counting

-- no count is above b
unfoldable pub UpTo : ℕ → List ℕ → Type 0
UpTo b cs = (i : ℕ) → get_or cs i 0 ≤ b

-- more than any count: there are no more ticks in a log
abbrev pub above_all : ℕ
above_all = suc most_ticks

-- driver and activity are two of so many outputs
abbrev pub Named : ℕ → ℕ → ℕ → Type 0
Named outs driver activity = (outs ≤ most_outputs) × (driver < outs) × (activity < outs)

-- What counting some ticks does to the tables: n' drivers now, or r tells that a 33rd appeared.
pub record Counts (ss : List Share) (ds cs : List ℕ) (n : ℕ) (ds' cs' : List ℕ) (n' : ℕ) (r : Option (Unit {0})) : Type 0 where
  pub few : r ≡ Some tt → tally ds' cs' n' ≡ each tallied (tally ds cs n) ss
  pub many : r ≡ None → most_drivers < length (each tallied (tally ds cs n) ss).drivers
  pub low : (b : ℕ) → UpTo b cs → UpTo (b + length ss) cs'

-- whom the ticks of a log are assigned to, where the circuit has so many outputs
abbrev pub shares_of : ℕ → ℕ → ℕ → List ℕ → List Share
shares_of outs driver activity log = shares driver activity (records_in outs most_ticks (words log))

-- whom a tick is assigned to, by the outputs that stand from word k on
unfoldable pub share_there : List ℕ → ℕ → ℕ → ℕ → ℕ → Share
share_there log outs k driver activity = share (shown_there log outs k driver) (shown_there log outs k activity)

-- whether a tick is some driver's
unfoldable pub is_assigned : Share → Bool
is_assigned unassigned = false
is_assigned (assigned d a) = true

-- ---- writing, from the tables

-- the words of a line
unfoldable pub line_row : ℕ → ℕ → ℕ → ℕ → List ℕ
line_row first d a ms = line_words (record { first = first; driver = d; activity = a; milliseconds = ms })

-- the four lines of driver i
unfoldable pub driver_rows : ℕ → ℕ → List ℕ → ℕ → List ℕ
driver_rows len d cs i =
    line_row 1 d 0 (get_or cs (1 + 4 * i) 0 * len)
    ++ (line_row 1 d 1 (get_or cs (1 + 4 * i + 1) 0 * len) ++ (line_row 1 d 2 (get_or cs (1 + 4 * i + 2) 0 * len) ++ line_row 1 d 3 (get_or cs (1 + 4 * i + 3) 0 * len)))

-- the lines of drivers i, i + 1, .. and the last line
unfoldable pub rows_from : ℕ → List ℕ → ℕ → List ℕ → List ℕ
rows_from len cs i [] = line_row 0 0 0 (get_or cs 0 0 * len)
rows_from len cs i (d ∷ ds) = driver_rows len d cs i ++ rows_from len cs (suc i) ds

-- the words of a line, and of the four of a driver
abbrev pub line_size : ℕ
line_size = 5

abbrev pub driver_size : ℕ
driver_size = 4 * line_size
