-- The values on wires, and how each is read as a truth, an Int or a Float. An Int and a Float are held as their 64 bits; sums, comparisons and narrowing
-- are IEEE 754's, by `lib.Ieee`.
use Rattle.std.specs.Prelude.{ℕ, zero, suc, ◌*◌, Bool, true, false, not, eqb, ℤ, pos, Float as Number}
use Rattle.std.specs.Bool.{beq}
use Rattle.std.specs.Float.{nan, inf, fin, binary32, binary64}
use Rattle.std.specs.Float.Ieee.{of_bits, to_bits, add, lt, le, eq, round, of_int, to_signed, up, down}
use Rattle.words.specs.Words.{signed}
use Rattle.model.specs.declared.Value.{Value}
use Rattle.model.specs.declared.Value.TheVariants.{Nothing, Int, Float, Bool as Truth}

-- ---- f64 and f32 by their bits

-- the f64 sum, rounded to nearest, ties to even
unfoldable pub plus64 : ℕ → ℕ → ℕ
plus64 a b = to_bits binary64 (add binary64 (of_bits binary64 a) (of_bits binary64 b))

-- at most; 0.0 and -0.0 are equal
unfoldable pub le64 : ℕ → ℕ → Bool
le64 a b = le (of_bits binary64 a) (of_bits binary64 b)

-- below
unfoldable pub lt64 : ℕ → ℕ → Bool
lt64 a b = lt (of_bits binary64 a) (of_bits binary64 b)

-- equal
unfoldable pub eq64 : ℕ → ℕ → Bool
eq64 a b = eq (of_bits binary64 a) (of_bits binary64 b)

-- the f32 sum, rounded likewise
unfoldable pub plus32 : ℕ → ℕ → ℕ
plus32 a b = to_bits binary32 (add binary32 (of_bits binary32 a) (of_bits binary32 b))

-- at most, of f32
unfoldable pub le32 : ℕ → ℕ → Bool
le32 a b = le (of_bits binary32 a) (of_bits binary32 b)

-- Narrowing to f32: the number m * 2 ^ e as a fraction of whole numbers, rounded to nearest, ties to even.
unfoldable pub nearest32 : Number → Number
nearest32 nan = nan
nearest32 (inf s) = inf s
nearest32 (fin s m e) = round binary32 s (m * up e) (down e)

-- the f32 bits that f64 bits narrow to
unfoldable pub narrow : ℕ → ℕ
narrow b = to_bits binary32 (nearest32 (of_bits binary64 b))

-- Whether narrowing changes the number: the f32 is not equal to the f64. 0.1 becomes another number; 0.5 and -0.0 stay (document 02, K9).
unfoldable pub narrow_changes : ℕ → Bool
narrow_changes b = not (eq (of_bits binary32 (narrow b)) (of_bits binary64 b))

-- the f64 nearest to an Int, ties to even
unfoldable pub float_of_int : ℤ → ℕ
float_of_int z = to_bits binary64 (of_int binary64 z)

-- an f64 without its fraction; one beyond the 64-bit range becomes the nearer end
unfoldable pub to_int : ℕ → ℤ
to_int b = to_signed 63 (of_bits binary64 b)

-- 1.0
abbrev pub one_point_zero : ℕ
one_point_zero = 0x3FF0000000000000

-- -1.0
abbrev pub minus_one_point_zero : ℕ
minus_one_point_zero = 0xBFF0000000000000

-- ---- value.rs

-- an Int or a Float is true exactly when it is not zero (-0.0 is zero), a Bool is itself, nothing is false
unfoldable pub truthy : Value → Bool
truthy Nothing = false
truthy (Int b) = not (eqb b 0)
truthy (Float b) = not (eq64 b 0)
truthy (Truth t) = t

-- 1 for true
unfoldable pub bit : Bool → ℕ
bit false = 0
bit true = 1

-- As an Int: a Float drops its fraction, and one beyond the 64-bit range becomes the nearer end. Nothing gives `d`.
unfoldable pub as_int : ℤ → Value → ℤ
as_int d Nothing = d
as_int d (Int b) = signed b
as_int d (Float b) = to_int b
as_int d (Truth t) = pos (bit t)

-- As a Float: an Int becomes the nearest one. Nothing gives `d`.
unfoldable pub as_float : ℕ → Value → ℕ
as_float d Nothing = d
as_float d (Int b) = float_of_int (signed b)
as_float d (Float b) = b
as_float d (Truth t) = float_of_int (pos (bit t))

-- Equal: of one kind, and equal in it. 0.0 and -0.0 are equal; Int 1, Float 1.0 and Bool true are not.
unfoldable pub same : Value → Value → Bool
same Nothing Nothing = true
same Nothing (Int y) = false
same Nothing (Float y) = false
same Nothing (Truth y) = false
same (Int x) Nothing = false
same (Int x) (Int y) = eqb x y
same (Int x) (Float y) = false
same (Int x) (Truth y) = false
same (Float x) Nothing = false
same (Float x) (Int y) = false
same (Float x) (Float y) = eq64 x y
same (Float x) (Truth y) = false
same (Truth x) Nothing = false
same (Truth x) (Int y) = false
same (Truth x) (Float y) = false
same (Truth x) (Truth y) = beq x y

-- ---- as two words, kind and content: 0 0 is nothing, 1 Int, 2 Float, 3 Bool

abbrev pub kind-Int : ℕ
kind-Int = 1

abbrev pub kind-Float : ℕ
kind-Float = 2

abbrev pub kind-Bool : ℕ
kind-Bool = 3

-- the kind of a value
unfoldable pub kind_of : Value → ℕ
kind_of Nothing = 0
kind_of (Int b) = kind-Int
kind_of (Float b) = kind-Float
kind_of (Truth t) = kind-Bool

-- its content: the bits of an Int or a Float, 0 or 1 of a Bool
unfoldable pub content_of : Value → ℕ
content_of Nothing = 0
content_of (Int b) = b
content_of (Float b) = b
content_of (Truth t) = bit t

-- the value of a kind and a content
unfoldable pub value_of : ℕ → ℕ → Value
value_of zero b = Nothing
value_of (suc zero) b = Int b
value_of (suc (suc zero)) b = Float b
value_of (suc (suc (suc k))) b = Truth (not (eqb b 0))

unfoldable pub value_opened : ℕ
unfolding of_bits to_bits add lt le eq round of_int to_signed plus64 le64 lt64 eq64 plus32 le32 nearest32 narrow narrow_changes float_of_int to_int truthy bit as_int as_float same kind_of content_of value_of
value_opened = 0
