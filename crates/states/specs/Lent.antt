-- What contracts say of the area `delays`, over the circuit of the links, and of a slot that is lent by itself.
use Rattle.std.specs.Prelude.{ℕ, ◌*◌, ◌≤◌, ◌≡◌, cond, ltb, length, List}
use Rattle.words.specs.Slices.{Slice, before, after}
use Rattle.lists.specs.Lists.{Filed, NoRoom, Done}
use Rattle.model.specs.Circuit.{Circuit}
use Rattle.model.specs.Delays.{Started}
use Rattle.model.specs.Exec.{most_fires}
use Rattle.model.specs.Questions.{queues}
use Rattle.delays.specs.States.{add_fire}
use Rattle.links.specs.Links.{net}
use Rattle.links.specs.Lent.{net_of}
use Rattle.states.specs.View.{queue_at, Delays, delays, delay_in, starting, Lent}

-- a slot
abbrev pub Slot : List ℕ → Type 0
Slot slot = length slot ≡ 344

-- the area has room for a slot of each gate and the count
abbrev pub SlotsFit : List ℕ → Type 0
SlotsFit ds = queue_at 0 * 8 ≤ length ds

-- and for a part for each Queue
abbrev pub Parts : List ℕ → List ℕ → Type 0
Parts links ds = queue_at (queues (net links)) * 8 ≤ length ds

-- it has them, and says which part each Queue has: at the call, and at the return
abbrev pub Slots : List ℕ → List ℕ → Type 0
Slots links ds = Lent (net links) ds

abbrev pub SlotsStay : List ℕ → List ℕ → Type 0
SlotsStay links ds = Lent (net_of links) ds

-- what it holds
abbrev pub delays_in : List ℕ → List ℕ → Delays
delays_in links ds = delays (net_of links) ds

-- of what it held at the call and holds at the return
abbrev pub DelaysChange : List ℕ → Slice → (Circuit → Delays → Delays → Type 0) → Type 0
DelaysChange links ds P = P (net_of links) (delays (net_of links) (before ds)) (delays (net_of links) (after ds))

-- a fire of gate g was added, if there was room, and r says so
abbrev pub AddsFire : Delays → Delays → ℕ → Filed → Started → Type 0
AddsFire d e g r k = (r ≡ cond (ltb (length (delay_in d g).fires) most_fires) Done NoRoom) × (e ≡ starting d g add_fire k)
