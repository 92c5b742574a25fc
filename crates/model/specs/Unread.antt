-- Reading for the record cannot be seen. To show what reading gives, the definition refreshes all pure gates where a tick is closed; the source makes no record, and
-- does not. Here is the run in which reading changes nothing: each tick begins in the state that the last unit of the one before left, or its opening where none
-- began. `reading_unseen` says that the answer is the same, `unread_fresh` that its units begin fresh too.
use Rattle.std.specs.Prelude.{ℕ, List, [], ◌∷◌, ◌++◌}
use Rattle.words.specs.Words.{words}
use Rattle.schedule.specs.Schedule.{plain, Activation, Turn, Tick, tick, go_on}
use Rattle.schedule.specs.Promise.{All, left_by}
use Rattle.model.specs.Circuit.{Circuit, circuit}
use Rattle.model.specs.Unit.{World}
use Rattle.model.specs.Run.{Played, Allowed, ticks_get, opening, machine, world_at_start, seen}
use Rattle.model.specs.Fresh.{BeginsFresh}

module _ (c : Circuit) where
  -- The world after the tick t, which began in w and came to no stop, with the state that its last unit left: a gate that the record refreshed is stale as before.
  unfoldable pub unread : World → Allowed → Tick (plain (machine c)) → World
  unread w i t =
      record {
        state = (left_by (plain (machine c)) (opening c w i).world (t.late ++ t.main)).state;
        left = t.world.left;
        room = t.world.room;
        logged = t.world.logged;
      }

  -- the ticks of a script from a world on, each in the world that the one before it left unread; otherwise as `run_on`
  unfoldable pub unread_on : List Allowed → World → List (Activation (plain (machine c))) → List (Tick (plain (machine c)))
  unread_on [] w came = []
  unread_on (i ∷ is) w came =
      let t = tick (plain (machine c)) w i came tt in
      t ∷ go_on (plain (machine c)) t.stop (unread_on is (unread w i t) t.carried)

  -- from the start, with a log of so many bytes
  unfoldable pub unread_ticks : ℕ → List Allowed → List (Tick (plain (machine c)))
  unread_ticks room is = unread_on is (world_at_start c room) []

-- what is seen of the unread run of a script over a circuit, as `play`
unfoldable pub play_unread : ℕ → Circuit → List ℕ → Played
play_unread room c script_words = seen c (unread_ticks c room (ticks_get c script_words))

-- every unit of it
abbrev pub UnreadRunFresh : ℕ → List ℕ → List ℕ → Type 0
UnreadRunFresh room circuit_bytes script_bytes =
    let c = circuit (words circuit_bytes) in
    All (λ (t : Tick (plain (machine c))). All (λ (u : Turn (plain (machine c))). BeginsFresh c u.from u.unit.act) (t.late ++ t.main))
    (unread_ticks c room (ticks_get c (words script_bytes)))

unfoldable pub unread_opened : ℕ
unfolding unread unread_on unread_ticks play_unread
unread_opened = 0
