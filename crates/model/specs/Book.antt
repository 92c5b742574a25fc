-- A book: several byte strings in one. Its count, then starts and lengths in bytes as two parallel arrays of words, then the strings (document 02, K1).
use Rattle.std.specs.Prelude.{ℕ, ◌+◌, ◌*◌, ◌/◌, Bool, ◌&&◌, List, [], map, leb, length, take, drop}
use Rattle.words.specs.Words.{words}
use Rattle.model.specs.Base.{if◌then◌otherwise◌, from}
use Rattle.model.specs.Circuit.{word_at}
use Rattle.model.specs.Questions.{within}

-- how many strings it says to hold; a book of fewer than eight bytes says 0
unfoldable pub count : List ℕ → ℕ
count book = word_at (words book) 0

-- from 1 to `most`, and both arrays lie in the book
unfoldable pub good_book : ℕ → List ℕ → Bool
good_book most book = within 1 most (count book) && leb (8 * (1 + 2 * count book)) (length book)

-- where string k begins, from the book's first byte, and how many bytes it has; k counts from 0
unfoldable pub start_of : List ℕ → ℕ → ℕ
start_of book k = word_at (words book) (1 + k)

unfoldable pub length_of : List ℕ → ℕ → ℕ
length_of book k = word_at (words book) (1 + count book + k)

-- The bytes of string k. One that leaves the book has none, and so the first question about it refuses it: question 8 for a script (`leaves_refused`).
unfoldable pub entry : List ℕ → ℕ → List ℕ
entry book k = if leb (start_of book k + length_of book k) (length book) then take (length_of book k) (drop (start_of book k) book) otherwise []

-- all of them, in order
unfoldable pub entries : List ℕ → List (List ℕ)
entries book = map (entry book) (from 0 (count book))

-- ---- a log cut into equal parts

-- how many bytes each of n parts has: as many whole words as can be
unfoldable pub part_of : ℕ → ℕ → ℕ
part_of n len = 8 * (len / (8 * n))

-- part k, of parts of so many bytes
unfoldable pub cut : ℕ → List ℕ → ℕ → List ℕ
cut size log k = take size (drop (k * size) log)

unfoldable pub book_opened : ℕ
unfolding count good_book start_of length_of entry entries part_of cut
book_opened = 0
