-- When the bytes of a log are whole records of a circuit (document 02, K3): what every reader of a log asks with 16, after the circuit's own questions.
use Rattle.std.specs.Prelude.{ℕ, zero, suc, ◌+◌, ◌-◌, ◌%◌, ◌^◌, Bool, true, false, ◌&&◌, ◌||◌, List, leb, ltb, eqb, length, get_or, drop}
use Rattle.std.proofs.Math.Option.{none}
use Rattle.words.specs.Words.{words}
use Rattle.schedule.specs.Schedule.{most_units, most_waiting, list_full}
use Rattle.model.specs.Base.{if◌then◌otherwise◌, all, both}
use Rattle.model.specs.Kinds.{never, if_driven, always, value, Out, fires, shows, passes, kind_at, ChangeDetector, EdgeExec, BufferTicksExec, BufferSecondsExec, QueueInSeconds, WorldEvent, receiving}
use Rattle.model.specs.Circuit.{Circuit, circuit, part, word_at, has_source, kind_of_gate, input, source}
use Rattle.model.specs.State.{form-Fire, form-Event, form-World, form_pin, form_output}
use Rattle.model.specs.Script.{most_ticks}
use Rattle.model.specs.Chain.{runaway}
use Rattle.model.specs.Record.{Listed, head_size, begun_count, carried_count, stop_in, carried_at, shown_at, shown_count, record_size, units_at}
use Rattle.model.specs.Run.{most_steps}
use Rattle.model.specs.Questions.{within, yes_all, good_constant, circuit_refusal, or_else}

-- ---- the words of a record's head

-- steps to 50,000,000, one more only with stop 11; a stop 11 may come with fewer
unfoldable pub good_steps : ℕ → ℕ → Bool
good_steps steps stop = leb steps most_steps || (eqb steps (suc most_steps) && eqb stop runaway)

-- stop 0, or 11 or 12 in the last record alone
unfoldable pub good_stop : ℕ → Bool → Bool
good_stop stop last = eqb stop 0 || ((eqb stop runaway || eqb stop list_full) && last)

-- the head of a record of tick t: its tick, its steps, the units begun and carried within document 01's limits, and the count of narrowings no negative number
unfoldable pub good_head : ℕ → List ℕ → Bool
good_head t ws =
    eqb (word_at ws 0) t
    && (good_steps (word_at ws 1) (stop_in ws) && (leb (begun_count ws) most_units && (leb (carried_count ws) most_waiting && ltb (word_at ws 6) (2 ^ 63))))

-- ---- its units

-- the kinds that have Fire: a ChangeDetector, buffers in exec mode, Clock, Stopwatch, Queues
unfoldable pub firing : ℕ → Bool
firing k = eqb k ChangeDetector || (eqb k BufferTicksExec || within BufferSecondsExec QueueInSeconds k)

module _ (c : Circuit) where
  -- input p of gate g is an E that a value drives; one that is only called has no unit
  unfoldable pub driven : ℕ → ℕ → Bool
  driven g p = elim (get_or (kind_at (kind_of_gate c g)).ins p value).watch [ never ↦ false | if_driven ↦ has_source (source c (input c g p)) | always ↦ false ]

  -- The forms that gate g can have: Fire, Event, World, a pin, an output of an EdgeExec. In which list a unit stands makes no difference.
  unfoldable pub can_have : ℕ → ℕ → Bool
  can_have g form =
      if eqb form form-Fire then firing (kind_of_gate c g)
      otherwise if eqb form form-Event then receiving (kind_of_gate c g)
      otherwise if eqb form form-World then eqb (kind_of_gate c g) WorldEvent
      otherwise if ltb form form_pin then false
      otherwise if ltb form form_output then driven g (form - form_pin)
      otherwise if ltb form (form_output + 2) then eqb (kind_of_gate c g) EdgeExec
      otherwise false

  -- a gate of the circuit, in a form that it can have
  unfoldable pub good_unit : Listed → Bool
  good_unit u = ltb u.gate (length c.kinds) && can_have u.gate u.form

-- ---- its outputs

-- kind and content as of a constant or 0 0; of an exec always 0 0
unfoldable pub good_output : Out → ℕ → ℕ → Bool
good_output o k b = (eqb k 0 && eqb b 0) || ((elim o [ fires ↦ false | shows ↦ true | passes ↦ true ]) && good_constant k b)

module _ (c : Circuit) where
  -- of the first n outputs, whose kinds stand from place k on, and whose contents behind these
  unfoldable pub good_outputs : List ℕ → ℕ → ℕ → Bool
  good_outputs ws k n = yes_all (both (λ f b. f b) (both good_output c.outputs (part ws k n)) (part ws (k + n) n))

  -- ---- a record, and a log

  -- the units begun, the units carried and the outputs of a record
  unfoldable pub good_rows : List ℕ → Bool
  good_rows ws =
      all (good_unit c) (units_at ws head_size (begun_count ws))
      && (all (good_unit c) (units_at ws (carried_at ws) (carried_count ws)) && good_outputs ws (shown_at ws) (shown_count (length c.outputs) ws))

  -- The words begin with a whole record of tick t; it is the last one where nothing follows.
  unfoldable pub good_record : ℕ → List ℕ → Bool
  good_record t ws =
      leb (record_size (length c.outputs) ws) (length ws)
      && (good_head t ws && (good_stop (stop_in ws) (eqb (record_size (length c.outputs) ws) (length ws)) && good_rows ws))

  -- The words are whole records of ticks t, t + 1, .., at most so many.
  unfoldable pub whole_from : ℕ → ℕ → List ℕ → Bool
  whole_from zero t ws = eqb (length ws) 0
  whole_from (suc left) t ws = elim (eqb (length ws) 0) [ true ↦ true | false ↦ good_record t ws && whole_from left (suc t) (drop (record_size (length c.outputs) ws) ws) ]

-- The bytes of a log are whole records of the circuit, from tick 1 on; none at all are whole too.
unfoldable pub whole : Circuit → List ℕ → Bool
whole c log = eqb (length log % 8) 0 && whole_from c most_ticks 1 (words log)

-- What a reader of a log is refused with before it asks anything of its own: the circuit's own refusals first, as for a call that is lent no areas; then 16.
abbrev pub not_whole : ℕ
not_whole = 16

unfoldable pub log_refusal : List ℕ → List ℕ → ℕ
log_refusal circuit_bytes log = or_else (circuit_refusal none circuit_bytes) (if whole (circuit (words circuit_bytes)) log then 0 otherwise not_whole)

unfoldable pub whole_opened : ℕ
unfolding good_steps good_stop good_head firing driven can_have good_unit good_output good_outputs good_rows good_record whole_from whole log_refusal
whole_opened = 0
