-- The set bits of a word, as they come.
use Rattle.std.specs.Prelude.{ℕ, suc, Bool, true, false, List, [], ◌∷◌}
use Rattle.words.specs.declared.bits.Bits.{Bits}
use Rattle.words.specs.Tables.{digits}

-- The places of the marks, counted from n on.
unfoldable pub places : ℕ → List Bool → List ℕ
places n [] = []
places n (true ∷ bs) = n ∷ places (suc n) bs
places n (false ∷ bs) = places (suc n) bs

-- The set bits of a word, the lowest first.
abbrev pub bits_of : ℕ → List ℕ
bits_of d = places 0 (digits 64 d)

-- Those that are still to come.
abbrev pub bits_left : Bits → List ℕ
bits_left b = bits_of b.left
