-- How contracts speak of a slice that a function is lent. `x.now` of a `&`, and `x.old` and `x.new` of a `&mut`, are what it holds: a list. Where a word takes what
-- it holds at both moments, at the call and at the return, that is a pair of lists: `(x.old, x.new)`.
use Rattle.std.specs.Prelude.{ℕ, ◌+◌, ◌*◌, ◌≤◌, ◌≡◌, List, length}
use Rattle.words.specs.Words.{tail}

-- what a slice of numbers holds when the function is called, and when it returns
abbrev pub Slice : Type 0
Slice = List ℕ × List ℕ

abbrev pub before : Slice → List ℕ
before s = s.0

abbrev pub after : Slice → List ℕ
after s = s.1

-- the bytes behind its last whole word stay
abbrev pub SameTail : Slice → Type 0
SameTail s = tail (after s) ≡ tail (before s)

-- a slice has n words from word a on
abbrev pub HasWords : List ℕ → ℕ → ℕ → Type 0
HasWords s a n = (a + n) * 8 ≤ length s
