-- What contracts say of a book.
use Rattle.std.specs.Prelude.{ℕ, ◌-◌, ◌≤◌, ◌≡◌, List, length, take, drop}
use Rattle.model.specs.Book.{entry}
use Rattle.books.specs.declared.Span.{Span}

-- few strings: a class has the most
abbrev pub Few : ℕ → Type 0
Few n = n ≤ 16

-- s is where string k lies, or an empty span if it leaves the book
abbrev pub Spans : List ℕ → ℕ → Span → Type 0
Spans book k s = (s.start ≤ s.end) × (s.end ≤ length book) × (take (s.end - s.start) (drop s.start book) ≡ entry book k)
