-- Parts of the opening: what is raised to one list, and what a gate that moves on leads to before its Fires are filed.
use Rattle.std.specs.Prelude.{ℕ, ◌+◌, ◌≡◌, ◌&&◌, List, [], ◌∷◌, ◌++◌, map, eqb, length, get_or}
use Rattle.schedule.specs.Schedule.{Place, to_late, to_delivered, to_pending, full, filed}
use Rattle.lists.specs.Lists.{Filed as Answer, NoRoom, Done}
use Rattle.model.specs.declared.Value.{Value}
use Rattle.model.specs.Base.{keep, joined, each, from}
use Rattle.model.specs.Value.{same, truthy}
use Rattle.model.specs.Circuit.{Circuit, kind_of_gate, setting}
use Rattle.model.specs.State.{form-Event, Act, Send, State, wires≔}
use Rattle.model.specs.Delays.{advance_flight, advance_fires, advance_records}
use Rattle.model.specs.Exec.{delay, countdown}
use Rattle.model.specs.Opening.{Opened, raised_to, fire, delivered, lower, advanced, advance_buffer, advance_clock, advance_timer}
use Rattle.model.specs.Wires.{invalidate}
use Rattle.model.specs.Settle.{Settled, settle}
use Rattle.wires.specs.View.{Values}
use Rattle.states.specs.View.{Delays}
use Rattle.units.specs.View.{Lists, Units}
use Rattle.units.specs.Raising.{with_lists}
use Rattle.areas.specs.Areas.{Contents, together, with_state}
use Rattle.opening.specs.Opening.{put_to, unopened}

-- the lists that filing led to, and whether one was full
pub record Put : Type 0 where
  pub lists : Lists
  pub answer : Answer

-- one after the other to one list, up to the first that finds it full
unfoldable pub put_all : Circuit → Place → List Act → Lists → Put
put_all c p [] l = record { lists = l; answer = Done }
put_all c p (a ∷ acts) l = elim (put_to c p a l) [ full ↦ record { lists = l; answer = NoRoom } | filed k ↦ put_all c p acts k ]

-- these were filed: the area u became v, with the answer r
pub record Puts (c : Circuit) (u v : Units) (r : Answer) (p : Place) (acts : List Act) : Type 0 where
  pub units : v ≡ with_lists u (put_all c p acts u.lists).lists
  pub answer : r ≡ (put_all c p acts u.lists).answer

-- event e of the tick before
unfoldable pub event : Units → ℕ → Send
event u e = record { gate = get_or (map (λ m. m.gate) u.events) e 0; row = get_or (map (λ m. m.row) u.events) e [] }

-- what the gates gs, of those that receive what a gate of a kind sends on a channel, get of an event with this row
unfoldable pub heard_by : Circuit → ℕ → Value → List Value → List ℕ → List Act
heard_by c kind channel row gs =
    map (λ r. record { gate = r; form = form-Event; row = row }) (keep (λ r. eqb (kind_of_gate c r) (kind + 2) && same channel (setting c r 0)) gs)

-- A gate moved on as the definition's z says: the areas a became b, and n Fires of gate g are still to be filed.
pub record Advances (a b : Contents) (z : Opened) (p : Place) (g n : ℕ) : Type 0 where
  pub areas : b ≡ with_state a z.state
  pub raises : z.raises ≡ raised_to p z.state (fire n g)

-- the same for a function of the areas `values` and `delays`, whatever the area `units` holds
abbrev pub MovesOn : Values → Values → Delays → Delays → (State → Opened) → Place → ℕ → ℕ → Type 0
MovesOn v v' d d' f p g n = (u : Units) → Advances (together v u d) (together v' u d') (f (together v u d).state) p g n

-- ---- the definition's `advance_buffer`, by kind; dt is the tick's length in f32

-- a value buffer
unfoldable pub landing : Circuit → ℕ → ℕ → State → Opened
landing c dt g s = advanced c (unopened s) s to_late g 0 (advance_flight (λ v. countdown c g (truthy v)) dt (delay c s g))

-- a buffer in exec mode
unfoldable pub firing : Circuit → ℕ → ℕ → State → Opened
firing c dt g s = advanced c (unopened s) s to_late g 0 (advance_fires dt (delay c s g))

-- a Queue
unfoldable pub releasing : Circuit → ℕ → ℕ → State → Opened
releasing c dt g s = advanced c (unopened s) s to_late g 1 (advance_records dt (delay c s g))

-- ---- the definition's `open_tick`, in stages

-- events and stimuli come, at the state s
unfoldable pub arrived : Circuit → State → List Send → List Act → Opened
arrived c s events stimuli =
    record { state = s; raises = raised_to to_delivered s (joined (map (delivered c) events)) ++ raised_to to_late s stimuli }

-- ended pulses fall
unfoldable pub lowered : Circuit → State → State
lowered c s = wires≔ s (each (lower c) s.wires (from 0 (length c.outputs)))

-- buffers and Queues, Clocks, Stopwatches move on
unfoldable pub advanced_all : Circuit → ℕ → State → Opened
advanced_all c dt s =
    each (advance_timer c) (each (advance_clock c) (each (advance_buffer c dt) (unopened s) c.buffers) c.clocks) c.stopwatches

-- what settling raises is pending
unfoldable pub pending_all : Settled → Opened
pending_all z = record { state = z.state; raises = map (λ r. record { at = r.at; act = r.act; place = to_pending }) z.raises }

-- time sources are stale, then what waits is settled
unfoldable pub settled_after : Circuit → State → Opened
settled_after c s = pending_all (settle c (wires≔ s (each (invalidate c) s.wires c.time_sources)))

-- the last stage, after z
unfoldable pub finished : Circuit → Opened → Opened
finished c z = record { state = (settled_after c z.state).state; raises = z.raises ++ (settled_after c z.state).raises }
