-- What the opening of a tick leads to where what it raises is filed as it goes.
use Rattle.std.specs.Prelude.{ℕ, ◌%◌, ◌^◌, ◌≡◌, List, []}
use Rattle.schedule.specs.Schedule.{Place, to_late, to_delivered, to_pending, Filed}
use Rattle.lists.specs.Lists.{Filed as Answer}
use Rattle.model.specs.Base.{both}
use Rattle.model.specs.Circuit.{Circuit, part}
use Rattle.model.specs.Script.{Given, stimulus}
use Rattle.model.specs.State.{Act, State}
use Rattle.model.specs.Chain.{no_calls}
use Rattle.model.specs.Opening.{Opened, open_tick}
use Rattle.units.specs.declared.Place.TheVariants.{Late, Pending}
use Rattle.units.specs.View.{Lists}
use Rattle.units.specs.Raising.{all_by_rank, activate, deliver, Went, raise_into}
use Rattle.areas.specs.Areas.{Contents, with_went}

-- to the list that it is meant for
unfoldable pub put_to : Circuit → Place → Act → Lists → Filed Lists
put_to c to_late a l = activate c Late a l
put_to c to_delivered a l = deliver a l
put_to c to_pending a l = activate c Pending a l

-- what was raised, filed in order, up to the first that finds its list full
unfoldable pub opened_into : Circuit → Opened → Lists → Went
opened_into c z l = raise_into (put_to c) z.raises l z.state

-- nothing raised yet
unfoldable pub unopened : State → Opened
unopened s = record { state = s; raises = [] }

-- a part of the opening: the areas a became b, with the answer r, as the definition's z says
pub record Opens (c : Circuit) (a b : Contents) (r : Answer) (z : Opened) : Type 0 where
  pub areas : b ≡ with_went a (opened_into c z a.lists)
  pub answer : r ≡ (opened_into c z a.lists).answer

-- n stimuli of a script's words: gates and constants from these places on, each by its remainder in 16 bits
unfoldable pub stimuli_of : Circuit → List ℕ → ℕ → ℕ → ℕ → List Act
stimuli_of c ws gates constants n =
    both (λ g k. stimulus c.constants (g % 2 ^ 16) (k % 2 ^ 16)) (part ws gates n) (part ws constants n)

-- The areas as a tick finds them after the one before: what was carried is late, nothing else waits, no unit has begun, and what was sent is delivered now.
unfoldable pub reopened : Circuit → Contents → Contents
reopened c a =
    record {
      state = a.state;
      lists = record { late = all_by_rank c a.lists.carried []; delivered = []; pending = []; carried = [] };
      calls = no_calls;
      kept =
          record {
            begun = [];
            events = a.state.outbox;
            parts = a.kept.parts;
            behind_values = a.kept.behind_values;
            behind_units = a.kept.behind_units;
            behind_delays = a.kept.behind_delays;
          };
    }

-- the opening of a tick
unfoldable pub opened : Circuit → Contents → Given → Went
opened c a given = opened_into c (open_tick c a.state given) (reopened c a).lists
