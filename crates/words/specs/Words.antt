-- Words of eight bytes, least first, and the signed numbers that they stand for.
use Rattle.std.specs.Prelude.{ℕ, zero, suc, ◌+◌, ◌*◌, ◌/◌, ◌%◌, List, [], ◌∷◌, ◌++◌, ◌≡◌, set, ℤ}
use Rattle.std.proofs.lemmas.List.Edits.{sets}
use Rattle.std.specs.Int.{w64}
use Rattle.std.proofs.Common.{to_z, of_z}

-- The word that eight bytes make, the least one first.
abbrev pub word : ℕ → ℕ → ℕ → ℕ → ℕ → ℕ → ℕ → ℕ → ℕ
word a b c d e f g h = a + 256 * (b + 256 * (c + 256 * (d + 256 * (e + 256 * (f + 256 * (g + 256 * h))))))

-- The whole words that a list of bytes holds, in order.
unfoldable pub words : List ℕ → List ℕ
words [] = []
words (a ∷ []) = []
words (a ∷ b ∷ []) = []
words (a ∷ b ∷ c ∷ []) = []
words (a ∷ b ∷ c ∷ d ∷ []) = []
words (a ∷ b ∷ c ∷ d ∷ e ∷ []) = []
words (a ∷ b ∷ c ∷ d ∷ e ∷ f ∷ []) = []
words (a ∷ b ∷ c ∷ d ∷ e ∷ f ∷ g ∷ []) = []
words (a ∷ b ∷ c ∷ d ∷ e ∷ f ∷ g ∷ h ∷ r) = word a b c d e f g h ∷ words r

-- The bytes after the last whole word: fewer than eight.
unfoldable pub tail : List ℕ → List ℕ
tail [] = []
tail (a ∷ []) = a ∷ []
tail (a ∷ b ∷ []) = a ∷ b ∷ []
tail (a ∷ b ∷ c ∷ []) = a ∷ b ∷ c ∷ []
tail (a ∷ b ∷ c ∷ d ∷ []) = a ∷ b ∷ c ∷ d ∷ []
tail (a ∷ b ∷ c ∷ d ∷ e ∷ []) = a ∷ b ∷ c ∷ d ∷ e ∷ []
tail (a ∷ b ∷ c ∷ d ∷ e ∷ f ∷ []) = a ∷ b ∷ c ∷ d ∷ e ∷ f ∷ []
tail (a ∷ b ∷ c ∷ d ∷ e ∷ f ∷ g ∷ []) = a ∷ b ∷ c ∷ d ∷ e ∷ f ∷ g ∷ []
tail (a ∷ b ∷ c ∷ d ∷ e ∷ f ∷ g ∷ h ∷ r) = tail r

-- The n lowest bytes of a number, the least one first.
abbrev pub bytes_of : ℕ → ℕ → List ℕ
bytes_of zero v = []
bytes_of (suc n) v = v % 256 ∷ bytes_of n (v / 256)

-- The eight bytes of each word.
unfoldable pub bytes : List ℕ → List ℕ
bytes [] = []
bytes (v ∷ vs) = bytes_of 8 v ++ bytes vs

-- The bytes t are s with word i made v, where s has a word i, and the same elsewhere.
pub record Stored (s t : List ℕ) (i v : ℕ) : Type 0 where
  pub words : words t ≡ set (words s) i v
  pub tail : tail t ≡ tail s

-- The bytes `after` are `before` with the words from word p on made xs, and the same elsewhere.
pub record Filled (before after : List ℕ) (p : ℕ) (xs : List ℕ) : Type 0 where
  pub words : words after ≡ sets (words before) p xs
  pub tail : tail after ≡ tail before

-- The signed number that a word stands for: itself below 2 ^ 63, and 2 ^ 64 less from there on.
abbrev pub signed : ℕ → ℤ
signed v = to_z w64 v

-- The word that stands for a signed number.
abbrev pub unsigned : ℤ → ℕ
unsigned z = of_z w64 z
