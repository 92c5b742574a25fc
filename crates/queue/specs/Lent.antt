-- What contracts say of the part of the area that one Queue has.
use Rattle.std.specs.Prelude.{ℕ, ◌≤◌, ◌≡◌, Bool, length, List}
use Rattle.delays.specs.declared.countdown.Countdown.{Countdown as Counting}
use Rattle.delays.specs.States.{counted, counts_seconds}

-- its bytes
abbrev pub part_bytes : ℕ
part_bytes = 34832

abbrev pub Part : List ℕ → Type 0
Part queue = length queue ≡ part_bytes

-- a slice that has room for one
abbrev pub HoldsPart : List ℕ → Type 0
HoldsPart queue = part_bytes ≤ length queue

-- whether a countdown is in seconds
abbrev pub in_seconds : Counting → Bool
in_seconds k = counts_seconds (counted k)
