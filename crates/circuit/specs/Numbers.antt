-- The numbers of refusals, and of what a call answers.
use Rattle.std.specs.Prelude.{ℕ, Result, Ok, Err}
use Rattle.circuit.specs.declared.refusals.Refusal.{Refusal}
use Rattle.circuit.specs.declared.refusals.Refusal.TheVariants.{Sizes, Constants, Gates, Inputs, Calls, Order, Areas, ScriptSizes, Ticks, Stimuli, NoBook, NotWhole, WrongNames, NoRoom, Bodies, RingOrLoop, WrongTicks}

abbrev pub number_of : Refusal → ℕ
number_of Sizes = 1
number_of Constants = 2
number_of Gates = 3
number_of Inputs = 4
number_of Calls = 5
number_of Order = 6
number_of Areas = 7
number_of ScriptSizes = 8
number_of Ticks = 9
number_of Stimuli = 10
number_of NoBook = 15
number_of NotWhole = 16
number_of WrongNames = 17
number_of NoRoom = 18
number_of Bodies = 19
number_of RingOrLoop = 23
number_of WrongTicks = 24

-- the number that a call is refused with, or 0
abbrev pub refused : {A : Type 0} → Result A Refusal → ℕ
refused (Ok a) = 0
refused (Err r) = number_of r

-- an answer with the number in the refusal's place
abbrev pub numbered : {A : Type 0} → Result A Refusal → Result A ℕ
numbered (Ok a) = Ok a
numbered (Err r) = Err (number_of r)
