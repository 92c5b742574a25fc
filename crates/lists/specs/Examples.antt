-- Examples, by computation.
use Rattle.std.specs.Prelude.{◌≡◌, refl, [], ◌∷◌}
use Rattle.lists.specs.Lists.{downward, stacked, appended, ring, queued}

-- two entries: the one that stands last is the first of a stack
last_first : stacked 3 (2 ∷ 7 ∷ 8 ∷ 9 ∷ []) ≡ 8 ∷ 7 ∷ []
unfolding stacked downward
last_first = refl

-- and the last of a list that is only appended to
oldest_first : appended 3 (2 ∷ 7 ∷ 8 ∷ 9 ∷ []) ≡ 7 ∷ 8 ∷ []
unfolding stacked downward
oldest_first = refl

-- a count above the limit is read as the limit
count_beyond : stacked 3 (4 ∷ 7 ∷ 8 ∷ 9 ∷ []) ≡ 9 ∷ 8 ∷ 7 ∷ []
unfolding stacked downward
count_beyond = refl

-- a ring goes from its last slot on to its first
goes_round : queued 3 (2 ∷ 2 ∷ 7 ∷ 8 ∷ 9 ∷ []) ≡ 9 ∷ 7 ∷ []
unfolding queued ring
goes_round = refl

-- a first slot beyond the ring is read as 0
first_beyond : queued 3 (2 ∷ 3 ∷ 7 ∷ 8 ∷ 9 ∷ []) ≡ 7 ∷ 8 ∷ []
unfolding queued ring
first_beyond = refl
