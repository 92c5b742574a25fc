-- The records of one Queue as its part of the area holds them. In words: where the front record stands, how many records there are, 256 countdowns, and 256 rows
-- of eight kinds and eight contents. The records go round a ring of 256 slots.
use Rattle.std.specs.Prelude.{ℕ, zero, suc, ◌+◌, ◌*◌, ◌%◌, ◌<◌, min, ◌≡◌, Bool, List, [], ◌∷◌, get_or, take, drop, Option, None, Some}
use Rattle.std.proofs.Math.Option as math
use Rattle.model.specs.Base.{if◌then◌otherwise◌, both}
use Rattle.model.specs.Value.{value_of}
use Rattle.model.specs.State.{Queued, idle, records≔}
use Rattle.model.specs.Delays.{Moved, moved, tick_down, due}
use Rattle.delays.specs.States.{counted, of_word}
use Rattle.queue.specs.declared.Record.{Record}

-- the definition's record
unfoldable pub queued : Record → Queued
queued r = record { row = both value_of r.kinds r.contents; left = counted r.left }

-- what a tick comes to: the records that are left, and the row of the one that is handed out
unfoldable pub released : Option Record → List Queued → Moved
released None qs = moved (records≔ idle qs) [] 0
released (Some r) qs = moved (records≔ idle qs) (queued r).row 1

-- the front record, if it is due
unfoldable pub front_if_due : List Queued → math.Option Queued
front_if_due [] = math.none
front_if_due (q ∷ qs) = if due q.left then math.some q otherwise math.none

-- a record counts down
unfoldable pub ticked : ℕ → Queued → Queued
ticked dt q = record { row = q.row; left = tick_down dt q.left }

-- the record in slot s; its countdown is in seconds or in ticks, as the Queue's kind says
unfoldable pub slot : Bool → List ℕ → ℕ → Queued
slot seconds ws s =
    record {
      row = both value_of (take 8 (drop (258 + s * 16) ws)) (take 8 (drop (266 + s * 16) ws));
      left = of_word seconds (get_or ws (2 + s) 0);
    }

-- n slots of a ring of 256, from the first on
unfoldable pub ring : {A : Type 0} → (ℕ → A) → ℕ → ℕ → List A
ring f first zero = []
ring f first (suc n) = f (first % 256) ∷ ring f (suc first) n

-- The records, the front one first, whatever the words hold: a first beyond the ring counts by its remainder, a count beyond 256 as 256. Slots that hold no record
-- stay open.
unfoldable pub records : Bool → List ℕ → List Queued
records seconds ws = ring (slot seconds ws) (get_or ws 0 0) (min (get_or ws 1 0) 256)

-- Slot s of the words became a record; the other slots, the first and the count are as before.
pub record Placed (seconds : Bool) (ws to : List ℕ) (s : ℕ) (q : Queued) : Type 0 where
  pub here : slot seconds to s ≡ q
  pub others : (t : ℕ) → t < 256 → (t ≡ s → ⊥) → slot seconds to t ≡ slot seconds ws t
  pub first : get_or to 0 0 ≡ get_or ws 0 0
  pub count : get_or to 1 0 ≡ get_or ws 1 0
