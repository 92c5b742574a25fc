-- What the proofs of `count` and `clear` cite: they serve every list.
use Prim.Native.Nat.{ℕ, ◌≤◌, min}
use mathlib.Core.Path.{◌≡◌}
use mathlib.Core.List.{List}
use native.Mathlib.Omega.{arith}
use lib.ListN.{length, get_or}
use lib.Seq.{get_or-set_same}
use Rattle.words.specs.Words.{words, Stored}
use Rattle.words.proofs.Laws.{words_long}
use Rattle.lists.specs.Lists.{stacked, queued, Emptied}
use Rattle.lists.proofs.Stacks.{stacked_length, stacked_none}
use Rattle.lists.proofs.Rings.{queued_length, queued_none}

-- What `count` ensures of its result r.
abbrev pub Counted : ℕ → List ℕ → ℕ → Type 0
Counted most w r = (r ≡ length (stacked most w)) × ((r ≡ length (queued most w)) × (r ≤ most))

-- the answer of `count`
pub count_is : (most n r : ℕ) (w : List ℕ) → n ≡ get_or w 0 0 → r ≡ min n most → Counted most w r
count_is most n r w e h = (omega (arith, stacked_length most w), (omega (arith, queued_length most w), omega arith))

-- what `clear` leaves
pub emptied : (s t : List ℕ) → 8 ≤ length s → Stored s t 0 0 → Emptied (words t) × Stored s t 0 0
emptied s t l e =
    let z : get_or (words t) 0 0 ≡ 0 = rw e.words (get_or-set_same (words s) 0 0 0 (words_long 1 s l)) in
    (λ most. (stacked_none most (words t) z, queued_none most (words t) z), e)
