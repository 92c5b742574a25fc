-- What a host is told of a call with one script: document 01's number for each answer, the ticks done, and the bytes of the log that hold records.
use Rattle.std.specs.Prelude.{ℕ, ◌≡◌, List, [], ◌∷◌}
use Rattle.model.specs.Answer.{Answer, number, ticks_done, log_bytes}
use Rattle.model.specs.Several.{over}

-- the number, and the words for the ticks done and the bytes over the first of those that were there, as far as there is room
pub record TellsHost (a : Answer) (r : ℕ) (before after : List ℕ) : Type 0 where
  pub number : r ≡ number a
  pub words : after ≡ over (ticks_done a ∷ log_bytes a ∷ []) before
