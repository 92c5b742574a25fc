-- A run of the packed ones, and what is due of it.
use Rattle.std.specs.Prelude.{ℕ, Bool, false, ◌&&◌, List, Ok, Err, ◌==◌, slice_index}
use Rattle.run.specs.Told.{Answer}
use Rattle.replay.specs.declared.due.Due.{Due}
use Rattle.replay.specs.Bytes.{all_alike, holds}

-- its numbers, from the words before its circuit
unfoldable pub due_of : List ℕ → Due
due_of ws =
    record { log = slice_index ws 0; values = slice_index ws 1; units = slice_index ws 2; delays = slice_index ws 3; stop = slice_index ws 4; ticks = slice_index ws 5; circuit = slice_index ws 6; script = slice_index ws 7; records = slice_index ws 8 }

-- the answer is of a run with the stop, the ticks and the bytes of records that are due
abbrev pub ends : Due → Answer → Bool
ends d (Err n) = false
ends d (Ok p) = p.stop == d.stop && (p.ticks == d.ticks && p.bytes == d.records)

-- all of it: the answer, the log with these records in front and what it was filled with behind them, and the areas
unfoldable pub as_due : Due → Answer → List ℕ → ℕ → List ℕ → List ℕ → List ℕ → List ℕ → Bool
as_due d a records filled log vs us ds = ends d a && (holds filled log records && all_alike 0 vs us ds)
