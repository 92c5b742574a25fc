-- What a call tells of its answer.
use Rattle.std.specs.Prelude.{ℕ, ◌*◌, Result, Ok, Err, length}
use Rattle.model.specs.Answer.{refused, played}
use Rattle.model.specs.Answer as model
use Rattle.run.specs.declared.Played.{Played}

-- an answer as code has it, with the number of a refusal
abbrev pub Answer : Type 0
Answer = Result Played ℕ

-- of a run the stop, the ticks done, and the bytes of its records
unfoldable pub told : model.Answer → Answer
told (refused n) = Err n
told (played p) = Ok (record { stop = p.stop; ticks = p.ticks; bytes = 8 * length p.log })
