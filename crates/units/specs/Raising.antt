-- Where what is raised goes: `activate`, over lists of what waits, and raising one after the other, up to the first that finds its list full.
use Rattle.std.specs.Prelude.{ℕ, cond, List, [], ◌∷◌, leb}
use Rattle.schedule.specs.Schedule.{Raise, When, by_rank as ranked, put_off, Filed, full, filed, room, most_waiting, most_delivered}
use Rattle.lists.specs.Lists.{Filed as Answer, NoRoom, Done}
use Rattle.model.specs.Base.{snoc}
use Rattle.model.specs.Circuit.{Circuit, rank_of_gate}
use Rattle.model.specs.State.{Act, State}
use Rattle.units.specs.declared.Place.{Place}
use Rattle.units.specs.declared.Place.TheVariants.{Late, Pending, After}
use Rattle.units.specs.View.{Lists, Units}

-- ---- one list changed

abbrev pub late≔ : Lists → List Act → Lists
late≔ l x = record { late = x; delivered = l.delivered; pending = l.pending; carried = l.carried }

abbrev pub delivered≔ : Lists → List Act → Lists
delivered≔ l x = record { late = l.late; delivered = x; pending = l.pending; carried = l.carried }

abbrev pub pending≔ : Lists → List Act → Lists
pending≔ l x = record { late = l.late; delivered = l.delivered; pending = x; carried = l.carried }

abbrev pub carried≔ : Lists → List Act → Lists
carried≔ l x = record { late = l.late; delivered = l.delivered; pending = l.pending; carried = x }

-- the lists of the area change, and nothing else
abbrev pub with_lists : Units → Lists → Units
with_lists u l = record { calls = u.calls; lists = l; begun = u.begun; outbox = u.outbox; events = u.events; rest = u.rest }

module _ (c : Circuit) where
  -- by rank, and within a rank by age: a new one goes behind all whose rank is not above its own (`push`)
  unfoldable pub by_rank : Act → List Act → List Act
  by_rank a [] = a ∷ []
  by_rank a (b ∷ l) = cond (leb (rank_of_gate c b.gate) (rank_of_gate c a.gate)) (b ∷ by_rank a l) (a ∷ b ∷ l)

  -- one after the other
  unfoldable pub all_by_rank : List Act → List Act → List Act
  all_by_rank [] l = l
  all_by_rank (a ∷ rest) l = all_by_rank rest (by_rank a l)

  -- `activate`: to late, to pending, or, where a unit of some rank has begun in the main pass, to carried if the pass has reached its rank, else to pending
  unfoldable pub activate : Place → Act → Lists → Filed Lists
  activate Late a l = room l.late most_waiting (late≔ l (by_rank a l.late))
  activate Pending a l = room l.pending most_waiting (pending≔ l (by_rank a l.pending))
  activate (After r) a l =
      cond
      (leb (rank_of_gate c a.gate) r)
      (room l.carried most_waiting (carried≔ l (snoc l.carried a)))
      (room l.pending most_waiting (pending≔ l (by_rank a l.pending)))

-- no rank is above this: a cell of the links has 16 bits for it
abbrev pub most_rank : ℕ
most_rank = 65535

-- The place of what is raised so, where `to` is that of what is raised by rank: put off in the main pass it is carried whatever its rank, as after the highest there is.
unfoldable pub place_for : When → Place → Place
place_for p Late = Late
place_for p Pending = Pending
place_for ranked (After r) = After r
place_for put_off (After r) = After most_rank

-- an event is delivered behind the others
unfoldable pub deliver : Act → Lists → Filed Lists
deliver a l = room l.delivered most_delivered (delivered≔ l (snoc l.delivered a))

-- ---- what raising comes to

-- whether there was room
unfoldable pub answer : Filed Lists → Answer
answer full = NoRoom
answer (filed l) = Done

-- the lists after it
unfoldable pub lists_after : Lists → Filed Lists → Lists
lists_after l full = l
lists_after l (filed k) = k

-- the state and the lists that it led to, and whether a list was full: then the state is that of the raising that found it full
pub record Went : Type 0 where
  pub state : State
  pub lists : Lists
  pub answer : Answer

-- one after the other
unfoldable pub raise_into : {P : Type 0} → (P → Act → Lists → Filed Lists) → List (Raise State Act P) → Lists → State → Went
raise_into file [] l s = record { state = s; lists = l; answer = Done }
raise_into file (r ∷ rs) l s =
    elim (file r.place r.act l) [ full ↦ record { state = r.at; lists = l; answer = NoRoom } | filed k ↦ raise_into file rs k s ]
