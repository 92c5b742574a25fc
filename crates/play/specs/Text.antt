-- Words as text.
use Rattle.std.specs.Prelude.{ℕ, zero, suc, ◌-◌, ◌^◌, cond, List, ◌∷◌, ltb}
use Rattle.io.specs.Digits.{last_digits}

-- how many decimal digits n takes: the least number from k on, of at most so many tries, whose power of ten is above n
unfoldable pub places_from : ℕ → ℕ → ℕ → ℕ
places_from zero k n = k
places_from (suc tries) k n = cond (ltb n (10 ^ k)) k (places_from tries (suc k) n)

-- the decimal digits of n, one at least
unfoldable pub decimal : ℕ → List ℕ
decimal n = last_digits 10 (places_from 20 1 n) n

-- a word in signed decimal: from 2 ^ 63 on it stands for 2 ^ 64 less, and a minus comes first
unfoldable pub spelled : ℕ → List ℕ
spelled w = cond (ltb w (2 ^ 63)) (decimal w) (45 ∷ decimal (2 ^ 64 - w))
