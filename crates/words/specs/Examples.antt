-- Examples, by computation.
use Rattle.std.specs.Prelude.{ℕ, ◌^◌, ◌-◌, ◌≡◌, refl, List, [], ◌∷◌, pos, negsuc}
use Rattle.words.specs.Words.{words, tail, bytes, signed, unsigned}

-- the least byte is the first
least_first : words (1 ∷ 2 ∷ 0 ∷ 0 ∷ 0 ∷ 0 ∷ 0 ∷ 0 ∷ []) ≡ 513 ∷ []
unfolding words
least_first = refl

-- the last byte counts most
last_most : words (0 ∷ 0 ∷ 0 ∷ 0 ∷ 0 ∷ 0 ∷ 0 ∷ 128 ∷ []) ≡ 2 ^ 63 ∷ []
unfolding words
last_most = refl

-- eleven bytes are one word and a tail of three
eleven : List ℕ
eleven = 7 ∷ 0 ∷ 0 ∷ 0 ∷ 0 ∷ 0 ∷ 0 ∷ 0 ∷ 1 ∷ 2 ∷ 3 ∷ []

one_word : words eleven ≡ 7 ∷ []
unfolding words eleven
one_word = refl

three_left : tail eleven ≡ 1 ∷ 2 ∷ 3 ∷ []
unfolding tail eleven
three_left = refl

-- the bytes of two words
two_words : bytes (513 ∷ (2 ^ 64 - 2) ∷ []) ≡ 1 ∷ 2 ∷ 0 ∷ 0 ∷ 0 ∷ 0 ∷ 0 ∷ 0 ∷ 254 ∷ 255 ∷ 255 ∷ 255 ∷ 255 ∷ 255 ∷ 255 ∷ 255 ∷ []
unfolding bytes
two_words = refl

-- negsuc n is -1 - n
largest : signed (2 ^ 63 - 1) ≡ pos (2 ^ 63 - 1)
largest = refl

least : signed (2 ^ 63) ≡ negsuc (2 ^ 63 - 1)
least = refl

all_ones : signed (2 ^ 64 - 1) ≡ negsuc 0
all_ones = refl

minus_two : unsigned (negsuc 1) ≡ 2 ^ 64 - 2
minus_two = refl
