-- What contracts say of the links and the areas that a function is lent.
use Rattle.std.specs.Prelude.{ℕ, ◌≤◌, ◌<◌, ◌≡◌, length, List}
use Rattle.model.specs.Circuit.{Circuit}
use Rattle.links.specs.Links.{total, net}

-- an array of all cells
abbrev pub Linked : List ℕ → Type 0
Linked links = length links ≡ total

-- the circuit that it shows
abbrev pub net_of : List ℕ → Circuit
net_of links = net links

-- the bytes that an area has at the least: question 7
abbrev pub least_area : ℕ
least_area = 65536

-- an area of so many
abbrev pub Room : List ℕ → Type 0
Room area = least_area ≤ length area

-- a number that fits the 16 bits that a cell or an entry has for it
abbrev pub Short : ℕ → Type 0
Short n = n < 65536
