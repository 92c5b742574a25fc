-- What the code finds or not, as the definitions have it: the code's Option is the library's, theirs is that of mathematics.
use Rattle.std.specs.Prelude.{Option, Some, None}
use Rattle.std.proofs.Math.Option as math

abbrev pub option_of : {A : Type 0} → Option A → math.Option A
option_of (Some a) = math.some a
option_of None = math.none
