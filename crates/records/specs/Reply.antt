-- What a reader of a log answers, and what it leaves in the buffer that it writes to.
use Rattle.std.specs.Prelude.{ℕ, zero, suc, List, [], ◌∷◌, ◌++◌, length, drop}
use Rattle.model.specs.Several.{over}

-- refused with a number, or these bytes are written
pub data Reply : Type 0 where
  refused : ℕ → Reply
  writes : List ℕ → Reply

-- a later question is asked only where the earlier ones were answered yes, whose number is 0
unfoldable pub or_refused : ℕ → Reply → Reply
or_refused zero later = later
or_refused (suc n) later = refused (suc n)

-- the number answered: 0 where it is not refused
unfoldable pub reply_number : Reply → ℕ
reply_number (refused n) = n
reply_number (writes new) = 0

-- the buffer afterwards: untouched by a refusal; else the bytes from its first on, and its rest untouched
unfoldable pub buffer_after : Reply → List ℕ → List ℕ
buffer_after (refused n) old = old
buffer_after (writes new) old = new ++ drop (length new) old

-- the words lent for what is told, afterwards: untouched by a refusal; else the first one, if there is one, is how many bytes were written
unfoldable pub told_after : Reply → List ℕ → List ℕ
told_after (refused n) told = told
told_after (writes new) told = over (length new ∷ []) told

unfoldable pub reply_opened : ℕ
unfolding over or_refused reply_number buffer_after told_after
reply_opened = 0
