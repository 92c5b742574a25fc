-- Examples, by computation.
use Rattle.std.specs.Prelude.{ℕ, ◌^◌, ◌-◌, ◌≡◌, refl, Bool, true, false, List, [], ◌∷◌, map, ℤ, pos, negsuc}
use Rattle.model.specs.Base.{if◌then◌otherwise◌}
use Rattle.model.specs.Exec.{cycle_next, remainder}

-- a row: whether down, Count, the number now, and the next one
pub record Row : Type 0 where
  pub down : Bool
  pub count : ℤ
  pub now : ℤ
  pub next : ℕ

-- down and up
abbrev down : ℤ → ℤ → ℕ → Row
down c n x = record { down = true; count = c; now = n; next = x }

abbrev up : ℤ → ℤ → ℕ → Row
up c n x = record { down = false; count = c; now = n; next = x }

-- the largest Int and the smallest; negsuc n is -1 - n
abbrev largest : ℤ
largest = pos (2 ^ 63 - 1)

abbrev smallest : ℤ
smallest = negsuc (2 ^ 63 - 1)

-- Count, the number now, the next one
abbrev rows : List Row
rows =
    -- from nothing, which is 0
    up (pos 3) (pos 0) 1
    ∷ down (pos 3) (pos 0) 2
    ∷ up (pos 3) (pos 2) 0
    ∷ down (pos 3) (pos 2) 1
    -- Count 1, 0 and -5
    ∷ up (pos 1) (pos 0) 0
    ∷ down (pos 1) (pos 0) 0
    ∷ up (pos 0) (pos 2) 0
    ∷ down (pos 0) (pos 2) 0
    ∷ up (negsuc 4) (pos 2) 0
    ∷ down (negsuc 4) (pos 2) 0
    -- the largest Count
    ∷ up largest (pos 0) 1
    ∷ down largest (pos 0) (2 ^ 63 - 2)
    ∷ up largest (pos (2 ^ 63 - 2)) 0
    ∷ up largest largest 1
    ∷ down largest smallest (2 ^ 63 - 3)
    -- Count has shrunk, by little and from the largest number that can be shown
    ∷ up (pos 3) (pos 7) 2
    ∷ down (pos 3) (pos 7) 0
    ∷ up (pos 3) (pos 3) 1
    ∷ down (pos 3) (pos 3) 2
    ∷ up (pos 3) (pos (2 ^ 63 - 2)) 1
    ∷ down (pos 3) (pos (2 ^ 63 - 2)) 2
    ∷ up (pos 1) (pos (2 ^ 63 - 2)) 0
    ∷ down (pos (2 ^ 63 - 2)) (pos (2 ^ 63 - 2)) (2 ^ 63 - 3)
    -- -1, -3 and -4
    ∷ up (pos 3) (negsuc 0) 0
    ∷ down (pos 3) (negsuc 0) 1
    ∷ up (pos 3) (negsuc 2) 1
    ∷ down (pos 3) (negsuc 2) 2
    ∷ down (pos 3) (negsuc 3) 1
    -- the ends of the range: 2 ^ 63 is 2 more than a multiple of 3
    ∷ up (pos 3) largest 2
    ∷ down (pos 3) largest 0
    ∷ up (pos 3) smallest 2
    ∷ down (pos 3) smallest 0
    ∷ []

-- each row is so
examples : map (λ t. cycle_next t.down t.count t.now) rows ≡ map (λ t. t.next) rows
unfolding cycle_next remainder if◌then◌otherwise◌
examples = refl
