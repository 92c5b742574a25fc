-- How many were tried, and what came of them.
use Rattle.std.specs.Prelude.{ℕ, ◌+◌, ◌%◌, ◌^◌, true}
use Rattle.packed.specs.declared.tally.Tally.{Tally}

-- one more; a count of 64 bits begins again
unfoldable pub one_more : ℕ → ℕ
one_more n = (n + 1) % 2 ^ 64

-- one as it should be
unfoldable pub with_right : Tally → Tally
with_right t = record { tried = one_more t.tried; wrong = t.wrong; cut = t.cut }

-- one that is not
unfoldable pub with_wrong : Tally → Tally
with_wrong t = record { tried = one_more t.tried; wrong = one_more t.wrong; cut = t.cut }

-- one that could not be read whole
unfoldable pub with_cut : Tally → Tally
with_cut t = record { tried = t.tried; wrong = t.wrong; cut = true }
