-- The stages of a tick after its opening: the late pass, the main pass, the record.
use Rattle.std.specs.Prelude.{ℕ, ◌+◌, ◌-◌, ◌≡◌, Bool, true, false, List, map, eqb, length}
use Rattle.schedule.specs.Schedule.{log_full, late_pass, main_pass}
use Rattle.model.specs.Base.{if◌then◌otherwise◌}
use Rattle.model.specs.Circuit.{Circuit}
use Rattle.model.specs.State.{Wires}
use Rattle.model.specs.Wires.{refresh_all}
use Rattle.model.specs.Chain.{runaway}
use Rattle.model.specs.Unit.{World}
use Rattle.model.specs.Record.{record_words}
use Rattle.model.specs.Closing.{as_listed}
use Rattle.wires.specs.View.{Values, with_wires}
use Rattle.units.specs.View.{Units}
use Rattle.areas.specs.Areas.{Contents}
use Rattle.chain.specs.declared.Ran.{Ran}
use Rattle.passes.specs.Waiting.{bare, for_late, for_main}
use Rattle.passes.specs.Passes.{units_left, Passes}
use Rattle.logging.specs.declared.Head.{Head}
use Rattle.logging.specs.Log.{record_of, fits, Writes}
use Rattle.ticks.specs.declared.Ticked.{Ticked}

-- The areas a became b, with the answer r, as the late pass, with so many steps left and this stop.
pub record RanLate (c : Circuit) (a b : Contents) (left stop : ℕ) (r : Ran) : Type 0 where
  pub passes : (w : World) → w.state ≡ a.state → w.left ≡ left → Passes c (for_late c) a b r w (late_pass (bare c) (units_left a) tt (for_late c a.lists) w stop)
  pub pending : b.lists.pending ≡ a.lists.pending
  pub carried : b.lists.carried ≡ a.lists.carried

-- The areas a became b, with the answer r, as the main pass, with so many steps left and this stop.
pub record RanMain (c : Circuit) (a b : Contents) (left stop : ℕ) (r : Ran) : Type 0 where
  pub passes : (w : World) → w.state ≡ a.state → w.left ≡ left → Passes c (for_main c) a b r w (main_pass (bare c) (units_left a) tt (for_main c a.lists) w stop)

-- the steps made of a tick that may make `limit`; those of one stopped by 11 include the one not made
unfoldable pub steps_made : ℕ → ℕ → ℕ → ℕ
steps_made limit left stop = limit - left + (if eqb stop runaway then 1 otherwise 0)

-- the outputs as they are read at a tick's end
unfoldable pub outputs_read : Circuit → Wires → ℕ → Wires
outputs_read c w stop = if eqb stop 0 then refresh_all c w otherwise w

-- the head of a tick's record
unfoldable pub head_of : ℕ → ℕ → ℕ → ℕ → ℕ → Values → Head
head_of limit late changed left stop v = record { tick = v.wires.tick; steps = steps_made limit left stop; late = late; stop = stop; changed = changed }

-- the words of a record with this head
abbrev pub words_with : Head → Values → Units → List ℕ
words_with h v u = record_words (record_of h u.begun (map as_listed u.lists.carried) v.wires.outs)

-- the words of a tick's record
unfoldable pub words_of : ℕ → ℕ → ℕ → Ran → Values → Units → List ℕ
words_of limit late changed r v u = words_with (head_of limit late changed r.left r.stop v) v u

-- the answer of a tick, by whether its record fits
unfoldable pub ticked_as : Bool → List ℕ → ℕ → Ticked
ticked_as true rs stop = record { size = length rs; stop = stop }
ticked_as false rs stop = record { size = 0; stop = log_full }

-- The end of a tick after the passes' answer r: the outputs are read, v became b, and the record is written to the log, which became `after`.
pub record Closes (c : Circuit) (limit late changed : ℕ) (r : Ran) (v b : Values) (u : Units) (before after : List ℕ) (at : ℕ) (t : Ticked) : Type 0 where
  pub values : b ≡ with_wires v (outputs_read c v.wires r.stop)
  pub answer : t ≡ ticked_as (fits before at (words_of limit late changed r b u)) (words_of limit late changed r b u) r.stop
  pub log : Writes before after at (words_of limit late changed r b u)
