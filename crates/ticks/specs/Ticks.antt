-- What a tick makes of the areas and of the log.
use Rattle.std.specs.Prelude.{ℕ, ◌+◌, ◌*◌, ◌≡◌, List, ◌++◌, map, length, take, drop}
use Rattle.words.specs.Words.{words, tail}
use Rattle.schedule.specs.Schedule.{Tick}
use Rattle.model.specs.Circuit.{Circuit}
use Rattle.model.specs.Unit.{World}
use Rattle.areas.specs.Areas.{Contents}
use Rattle.passes.specs.Waiting.{bare, waiting}

-- The areas a became b, and the log `after`, as the tick t did from the world w on: it has a record of so many words behind the first `at` words, and this stop.
pub record Ticks (c : Circuit) (a b : Contents) (before after : List ℕ) (at size stop : ℕ) (w : World) (t : Tick (bare c)) : Type 0 where
  pub stopped : t.stop ≡ stop
  pub carried : t.carried ≡ map (waiting c) b.lists.carried
  pub state : t.world.state ≡ b.state
  pub room : t.world.room + 8 * size ≡ w.room
  pub logged : length t.world.logged ≡ size
  pub log : words after ≡ take at (words before) ++ t.world.logged ++ drop (at + size) (words before)
  pub behind : tail after ≡ tail before
