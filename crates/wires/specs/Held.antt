-- How two words hold a value: a tag and a content.
use Rattle.std.specs.Prelude.{ℕ, zero, suc, ◌%◌, not, ◌==◌}
use Rattle.model.specs.declared.Value.{Value}
use Rattle.model.specs.declared.Value.TheVariants.{Nothing, Int, Float, Bool as Truth}

-- By its last two binary digits a tag is 0 for nothing, 1 for an Int, 2 for a Bool, whose content is the last digit, and 3 for a Float.
unfoldable pub held_by : ℕ → ℕ → Value
held_by zero b = Nothing
held_by (suc zero) b = Int b
held_by (suc (suc zero)) b = Truth (not (b % 2 == 0))
held_by (suc (suc (suc t))) b = Float b

unfoldable pub held : ℕ → ℕ → Value
held t b = held_by (t % 4) b

-- the tag that is written for a value
unfoldable pub tag_of : Value → ℕ
tag_of Nothing = 0
tag_of (Int b) = 1
tag_of (Float b) = 3
tag_of (Truth b) = 2
