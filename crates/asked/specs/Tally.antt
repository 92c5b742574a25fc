-- How many cases were asked, and what came of them.
use Rattle.std.specs.Prelude.{ℕ, List, slice_index, slice_set}
use Rattle.packed.specs.Tally.{one_more}
use Rattle.packed.specs.Tally as packed
use Rattle.asked.specs.declared.tally.Tally.{Tally}

-- one more of a number
unfoldable pub counted : List ℕ → ℕ → List ℕ
counted ns n = slice_set ns n (one_more (slice_index ns n))

-- a right one with this number
unfoldable pub with_right : Tally → ℕ → Tally
with_right t n = record { right = counted t.right n; all = packed.with_right t.all }

-- a wrong one
unfoldable pub with_wrong : Tally → Tally
with_wrong t = record { right = t.right; all = packed.with_wrong t.all }

-- one that could not be read whole
unfoldable pub with_cut : Tally → Tally
with_cut t = record { right = t.right; all = packed.with_cut t.all }
