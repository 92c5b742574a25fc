-- A book and its strings, as code reads them.
use Prim.Native.Nat.{ℕ, ◌+◌, ◌-◌, ◌*◌, ◌≤◌, ◌<◌}
use mathlib.Core.Path.{◌≡◌, refl, sym, ap, ◌∙◌}
use mathlib.Core.Bool.{Bool, true, false, ◌&&◌}
use mathlib.Core.List.{List, []}
use native.Mathlib.Omega.{arith}
use lib.Dec.{leb}
use lib.ListN.{length, get_or, take, drop}
use borrow.Author.Tests.{le-leb, lt-leb}
use Rattle.words.specs.Words.{words}
use Rattle.model.specs.Base.{if◌then◌otherwise◌}
use Rattle.model.specs.Circuit.{word_at}
use Rattle.model.specs.Questions.{within}
use Rattle.model.specs.Book.{count, good_book, start_of, length_of, entry}
use Rattle.model.proofs.Lists.{both_true}
use Rattle.model.proofs.Sizes.{within_true}
use Rattle.books.specs.Lent.{Spans}
use Rattle.books.specs.declared.Span.{Span}

pub count_is : (b : List ℕ) (r : ℕ) → r ≡ get_or (words b) 0 0 → r ≡ count b
unfolding count word_at
count_is b r e = e

module _ (most : ℕ) (b : List ℕ) (n : ℕ) (e : n ≡ count b) where
  -- ---- whether it is good
  pub book_empty : n < 1 → false ≡ good_book most b
  unfolding good_book within
  book_empty h = rw (← e, lt-leb 1 n h) refl

  pub book_full : 1 ≤ n → most < n → false ≡ good_book most b
  unfolding good_book within
  book_full l h = rw (← e, le-leb 1 n l, lt-leb n most h) refl

  pub book_fits : 1 ≤ n → n ≤ most → leb (8 * (1 + 2 * n)) (length b) ≡ good_book most b
  unfolding good_book within
  book_fits l h = rw (← e, le-leb 1 n l, le-leb n most h) refl

  -- where it is
  pub good_count : good_book most b ≡ true → (1 ≤ n) × (n ≤ most)
  unfolding good_book
  good_count g =
      let x = within_true 1 most (count b) (both_true (within 1 most (count b)) (leb (8 * (1 + 2 * count b)) (length b)) g).0 in
      (omega (arith, e, x.0), omega (arith, e, x.1))

-- ---- string k: its start s and its length z, as they were read
module _ (b : List ℕ) (n k s z : ℕ) (c : n ≡ count b) (es : s ≡ get_or (words b) (1 + k) 0) (ez : z ≡ get_or (words b) (1 + n + k) 0) where
  entry_is : entry b k ≡ (if leb (s + z) (length b) then take z (drop s b) otherwise [])
  unfolding entry start_of length_of word_at
  entry_is = rw (es, ez, c) refl

  -- it leaves the book
  leaves : length b < s + z → Spans b k (record { start = 0; end = 0 })
  unfolding if◌then◌otherwise◌
  leaves h = (omega arith, omega arith, sym (entry_is ∙ rw (lt-leb (s + z) (length b) h) refl))

  pub entry_behind : length b < s → Spans b k (record { start = 0; end = 0 })
  entry_behind h = leaves (omega arith)

  pub entry_over : s ≤ length b → length b - s < z → Spans b k (record { start = 0; end = 0 })
  entry_over l h = leaves (omega arith)

  pub entry_within : s ≤ length b → z ≤ length b - s → Spans b k (record { start = s; end = s + z })
  unfolding if◌then◌otherwise◌
  entry_within l h =
      (omega arith, omega arith, ap (λ (m : ℕ). take m (drop s b)) (let q : s + z - s ≡ z = omega arith in q) ∙ sym (entry_is ∙ rw (le-leb (s + z) (length b) (omega arith)) refl))
