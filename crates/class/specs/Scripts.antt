-- A class under way: the first n scripts have been answered.
use Rattle.std.specs.Prelude.{ℕ, ◌*◌, ◌≤◌, ◌≡◌, List, map, length}
use borrow.Rule.Slice.PartMut.{put_mid}
use Rattle.model.specs.Base.{from}
use Rattle.model.specs.Answer.{Answer, answer, log_after, area_after}
use Rattle.model.specs.Book.{count, entry, cut}
use Rattle.model.specs.Several.{answered, call_log, told_of, call_told}
use Rattle.model.specs.Class.{class_area}
use Rattle.books.specs.Lent.{Few}
use Rattle.telling.specs.Numbers.{put_from}
use Rattle.class.specs.Call.{Call, Left, lent}

-- the answer to script i, with a part of so many bytes
abbrev pub answer_of : Call → ℕ → ℕ → Answer
answer_of k size i = answer (lent k) size k.circuit (entry k.book i)

-- Script i was answered: it left its part, the areas and its three words so.
pub record Turned (k : Call) (size i : ℕ) (l : Left) : Type 0 where
  pub told : l.told ≡ put_from (3 * i) (told_of (answer_of k size i)) k.told
  pub log : l.log ≡ put_mid (i * size) size k.log (log_after (answer_of k size i) (cut size k.log i))
  pub values : l.values ≡ area_after (answer_of k size i) k.values
  pub units : l.units ≡ area_after (answer_of k size i) k.units
  pub delays : l.delays ≡ area_after (answer_of k size i) k.delays

-- the answers to the first n scripts
unfoldable pub first_answers : Call → ℕ → ℕ → List Answer
first_answers k size n = map (answer_of k size) (from 0 n)

-- They were answered: so are the log, the areas and what is told.
pub record SoFar (k : Call) (size n : ℕ) (l : Left) : Type 0 where
  pub told : l.told ≡ call_told (answered (first_answers k size n)) k.told
  pub log : l.log ≡ call_log (answered (first_answers k size n)) size k.log
  pub values : l.values ≡ class_area (answered (first_answers k size n)) k.values
  pub units : l.units ≡ class_area (answered (first_answers k size n)) k.units
  pub delays : l.delays ≡ class_area (answered (first_answers k size n)) k.delays

-- the book has n scripts, and their parts lie in the log
abbrev pub Scripts : List ℕ → List ℕ → ℕ → ℕ → Type 0
Scripts book log n size = (n ≡ count book) × Few n × (n * size ≤ length log)
