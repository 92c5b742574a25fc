-- What contracts say of the area `units`.
use Rattle.std.specs.Prelude.{ℕ, ◌≡◌, cond, List, map, ltb, length, drop}
use Rattle.std.proofs.Math.Option.{Option}
use Rattle.words.specs.Slices.{Slice, before, after}
use Rattle.schedule.specs.Schedule.{Filed, room, most_units, most_waiting}
use Rattle.std.specs.Prelude.{Option as Found}
use Rattle.lists.specs.Lists.{ranked, Filed as Answer, NoRoom, Done}
use Rattle.model.specs.Base.{snoc}
use Rattle.model.specs.Circuit.{Circuit}
use Rattle.model.specs.State.{Act, Send}
use Rattle.model.specs.Chain.{Popped}
use Rattle.links.specs.Lent.{net_of}
use Rattle.units.specs.View.{act_of, listed_of, Lists, Units, units}
use Rattle.units.specs.Raising.{with_lists, carried≔, by_rank, answer, lists_after}
use Rattle.units.specs.Calls.{with_calls, with_begun, popped, calls_left, first_of}

-- of what it holds, whatever the circuit
abbrev pub Reads : List ℕ → (Circuit → Units → Type 0) → Type 0
Reads us P = (c : Circuit) → P c (units c us)

-- of what it held at the call and holds at the return, whatever the circuit
abbrev pub Changes : Slice → (Circuit → Units → Units → Type 0) → Type 0
Changes us P = (c : Circuit) → P c (units c (before us)) (units c (after us))

-- the same for the circuit of the links
abbrev pub UnitsChange : List ℕ → Slice → (Circuit → Units → Units → Type 0) → Type 0
UnitsChange links us P = P (net_of links) (units (net_of links) (before us)) (units (net_of links) (after us))

-- what it holds at the call
abbrev pub units_in : List ℕ → List ℕ → Units
units_in links us = units (net_of links) us

-- ---- how u became v, with the answer r

-- x is what filing came to
abbrev pub Files : Units → Units → Answer → Filed Lists → Type 0
Files u v r x = (r ≡ answer x) × (v ≡ with_lists u (lists_after u.lists x))

-- carried, if there is room
abbrev pub carry : Act → Lists → Filed Lists
carry a l = room l.carried most_waiting (carried≔ l (snoc l.carried a))

-- the first one of a list was taken off: l is that list, and k the lists with another in its place
abbrev pub TakesOff : Units → Units → Option Act → List Act → (List Act → Lists) → Type 0
TakesOff u v r l k = (r ≡ first_of l) × (v ≡ with_lists u (k (drop 1 l)))

-- p is the next call, and it was taken
abbrev pub Pops : Units → Units → Found ℕ → Option Popped → Type 0
Pops u v r p = (r ≡ popped p) × (v ≡ with_calls u (calls_left u.calls p))

-- the unit of entry x was listed among those begun, if there was room
abbrev pub ListsUnit : Units → Units → Answer → ℕ → Type 0
ListsUnit u v r x =
    (r ≡ cond (ltb (length u.begun) most_units) Done NoRoom)
    × (v ≡ with_begun u (cond (ltb (length u.begun) most_units) (snoc u.begun (listed_of x)) u.begun))

-- the two halves of the events have changed places, or were cleared
abbrev pub with_halves : Units → List Send → List Send → Units
with_halves u o es = record { calls = u.calls; lists = u.lists; begun = u.begun; outbox = o; events = es; rest = u.rest }

-- ---- a list by rank, lent by itself

-- what waits in it
abbrev pub waits_in : Circuit → List ℕ → List Act
waits_in c ws = map (act_of c) (ranked most_waiting ws)

-- entry x was filed, if there was room: the list's words were ws and are xs
abbrev pub FilesByRank : Circuit → List ℕ → List ℕ → Answer → ℕ → Type 0
FilesByRank c ws xs r x =
    (r ≡ cond (ltb (length (waits_in c ws)) most_waiting) Done NoRoom)
    × (waits_in c xs ≡ cond (ltb (length (waits_in c ws)) most_waiting) (by_rank c (act_of c x) (waits_in c ws)) (waits_in c ws))
