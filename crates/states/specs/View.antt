-- How the area `delays` holds the small states of the gates: a table of 64 words that says which part each Queue has, a slot of 43 words for each of 64 gates, a word
-- that counts the narrowings of this tick that changed their number, and behind them a part of 4,354 words for each Queue.
use Rattle.std.specs.Prelude.{ℕ, ◌+◌, ◌*◌, ◌≤◌, min, ◌≡◌, Bool, true, List, [], ◌++◌, map, leb, eqb, pos, length, get_or, set, take, drop}
use Rattle.std.proofs.Math.Option.{Option, none, some}
use Rattle.words.specs.Words.{words, tail}
use Rattle.words.specs.Tables.{marked}
use Rattle.model.specs.declared.Value.{Value}
use Rattle.model.specs.Base.{if◌then◌otherwise◌, keep}
use Rattle.model.specs.Value.{value_of, as_int, as_float}
use Rattle.model.specs.Kinds.{QueueInSeconds}
use Rattle.model.specs.Circuit.{Circuit, part, kind_of_gate, gates}
use Rattle.model.specs.Questions.{within, queues}
use Rattle.model.specs.State.{Countdown, Flight, Queued, Delay, idle}
use Rattle.model.specs.Delays.{Started, Moved, launch, in_ticks, in_seconds}
use Rattle.model.specs.Exec.{most_fires, tally}
use Rattle.delays.specs.States.{of_word, under_way}
use Rattle.queue.specs.Queue.{records}

-- where the slot of gate g begins, in words
abbrev pub slot_at : ℕ → ℕ
slot_at g = 64 + 43 * g

-- where the count stands
abbrev pub changed_at : ℕ
changed_at = 2816

-- where part p begins
abbrev pub queue_at : ℕ → ℕ
queue_at p = 2817 + 4354 * p

-- ---- a slot: seconds so far, a mark if it runs; the value in flight, by a mark, its kind, its content and its countdown; the later input, by a mark, its kind and
-- its content; of the fires under way where the first one stands, how many they are, and their 32 places

unfoldable pub flight_in : Bool → List ℕ → Option Flight
flight_in seconds ws =
    if marked (get_or ws 2 0) then launch (value_of (get_or ws 3 0) (get_or ws 4 0)) (of_word seconds (get_or ws 5 0)) otherwise none

unfoldable pub later_in : List ℕ → Option Value
later_in ws = if marked (get_or ws 6 0) then some (value_of (get_or ws 7 0) (get_or ws 8 0)) otherwise none

unfoldable pub fires_in : Bool → List ℕ → List Countdown
fires_in seconds ws = under_way seconds (min most_fires (get_or ws 10 0)) (get_or ws 9 0) (part ws 11 32)

-- A slot and the records of its gate. Countdowns are in seconds or in ticks, as the gate's kind says.
unfoldable pub delay_of : Bool → List ℕ → List Queued → Delay
delay_of seconds ws qs =
    record {
      flight = flight_in seconds ws;
      later = later_in ws;
      fires = fires_in seconds ws;
      elapsed = get_or ws 0 0;
      running = marked (get_or ws 1 0);
      records = qs;
    }

-- ---- Queues

-- kinds 16 and 17
unfoldable pub is_queue : Circuit → ℕ → Bool
is_queue c g = within 16 17 (kind_of_gate c g)

-- the number of Queue g among the Queues
unfoldable pub number : Circuit → ℕ → ℕ
number c g = length (keep (within 16 17) (take g c.kinds))

-- the countdown that a record starts by its wait, in ticks or in seconds
unfoldable pub queue_countdown : Bool → Value → Started
queue_countdown seconds v = if seconds then in_seconds (as_float 0 v) otherwise in_ticks (as_int (pos 0) v)

module _ (c : Circuit) (ws : List ℕ) where
  -- the records of gate g
  unfoldable pub records_at : ℕ → List Queued
  records_at g = if is_queue c g then records (eqb (kind_of_gate c g) QueueInSeconds) (part ws (queue_at (get_or ws g 0)) 4354) otherwise []

  -- the small state of gate g
  unfoldable pub delay_at : ℕ → Delay
  delay_at g = delay_of (leb 12 (kind_of_gate c g)) (part ws (slot_at g) 43) (records_at g)

-- What the area holds: the small states, how many narrowings changed their number, which part each gate has, and what lies behind the parts of the Queues.
pub record Delays : Type 0 where
  pub delays : List Delay
  pub changed : ℕ
  pub parts : List ℕ
  pub rest : List ℕ

-- the small state of gate g
abbrev pub delay_in : Delays → ℕ → Delay
delay_in d g = get_or d.delays g idle

-- it becomes x, and nothing else changes
abbrev pub with_delay : Delays → ℕ → Delay → Delays
with_delay d g x = record { delays = set d.delays g x; changed = d.changed; parts = d.parts; rest = d.rest }

-- the count becomes n, and nothing else changes
abbrev pub with_changed : Delays → ℕ → Delays
with_changed d n = record { delays = d.delays; changed = n; parts = d.parts; rest = d.rest }

-- one narrowing more is counted, if it changed its number
abbrev pub counting : Delays → Bool → Delays
counting d changed = with_changed d (tally d.changed changed)

-- gate g takes a countdown that starts, by f, and its narrowing is counted
abbrev pub starting : Delays → ℕ → (Delay → Countdown → Delay) → Started → Delays
starting d g f k = counting (with_delay d g (f (delay_in d g) k.left)) k.changed

-- What the bytes of the area hold for circuit c. Left open are only places that are not in use (the slots of gates that c does not have, of a value that is not
-- there, of fires and records past their counts), and which word stands for a mark or a value where several do.
unfoldable pub delays : Circuit → List ℕ → Delays
delays c bs =
    record {
      delays = map (delay_at c (words bs)) (gates c);
      changed = get_or (words bs) changed_at 0;
      parts = take 64 (words bs);
      rest = drop (queue_at (queues c)) (words bs) ++ tail bs;
    }

-- each Queue has the part of its number
abbrev pub Parted : Circuit → List ℕ → Type 0
Parted c parts = (g : ℕ) → is_queue c g ≡ true → get_or parts g 0 ≡ number c g

-- an area that can hold the small states of circuit c
pub record Lent (c : Circuit) (bs : List ℕ) : Type 0 where
  pub room : queue_at (queues c) * 8 ≤ length bs
  pub parted : Parted c (delays c bs).parts

-- Gate g moved on to m, which hands out the row vs and fires n times; its narrowing is counted, and nothing else changed.
pub record Moves (d e : Delays) (g : ℕ) (m : Moved) (vs : List Value) (n : ℕ) : Type 0 where
  pub state : e ≡ counting (with_delay d g m.state) m.changed
  pub row : m.row ≡ vs
  pub fires : m.fires ≡ n
