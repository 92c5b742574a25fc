-- Words worked out: the ring goes from its last slot on to its first.
use Rattle.std.specs.Prelude.{ℕ, ◌≡◌, refl, false, List, [], ◌∷◌, set, replicate}
use Rattle.model.specs.Base.{both}
use Rattle.model.specs.Value.{value_of}
use Rattle.model.specs.declared.Value.TheVariants.{Nothing, Int}
use Rattle.model.specs.State.{ticks_left}
use Rattle.delays.specs.States.{of_word}
use Rattle.queue.specs.Queue.{slot, ring, records}

-- two records, the front one in slot 255: its countdown is the word 9, the other's 7, and the last value of the other's row is the Int 5
abbrev two : List ℕ
two = set (set (set (set (set (set (replicate 4354 0) 0 255) 1 2) 257 9) 2 7) 265 1) 273 5

in_ticks : records false two
    ≡ record { row = replicate 8 Nothing; left = ticks_left 9 }
    ∷ record { row = Nothing ∷ Nothing ∷ Nothing ∷ Nothing ∷ Nothing ∷ Nothing ∷ Nothing ∷ Int 5 ∷ []; left = ticks_left 7 }
    ∷ []
unfolding records ring slot both value_of of_word
in_ticks = refl
