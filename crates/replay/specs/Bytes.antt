-- Bytes compared, and words.
use Rattle.std.specs.Prelude.{ℕ, Bool, ◌&&◌, List, length, take, drop, ◌==◌}
use Rattle.std.specs.List.{list_all}
use Rattle.packed.specs.Same.{same}

-- every byte is this one
abbrev pub alike : ℕ → List ℕ → Bool
alike b xs = list_all (λ x. x == b) xs

-- so is every byte of three areas
unfoldable pub all_alike : ℕ → List ℕ → List ℕ → List ℕ → Bool
all_alike b vs us ds = alike b vs && (alike b us && alike b ds)

-- a log holds these records, and behind them nothing but this byte
unfoldable pub holds : ℕ → List ℕ → List ℕ → Bool
holds b log records = same (take (length records) log) records && alike b (drop (length records) log)

-- a call's number is the one due, and the bytes and the words that it leaves are these
unfoldable pub answered : (number due : ℕ) → (left bytes told words : List ℕ) → Bool
answered number due left bytes told words = number == due && (same left bytes && same told words)
