-- A record of the log: its parts and its words, written from the parts and read back. Who writes records and who reads them go by this.
use Rattle.std.specs.Prelude.{ℕ, ◌+◌, ◌*◌, List, [], ◌∷◌, ◌++◌, map, eqb, length, take, drop}
use Rattle.model.specs.declared.Value.{Value}
use Rattle.model.specs.Base.{if◌then◌otherwise◌, both}
use Rattle.model.specs.Value.{kind_of, content_of, value_of}
use Rattle.model.specs.Circuit.{part, word_at}

-- a unit as a record lists it
pub record Listed : Type 0 where
  pub gate : ℕ
  pub form : ℕ

-- The parts of a record: the tick, its steps, the units that it began in its late pass and in its main pass, the units that it carries, all in their order, its stop, or
-- 0, how many of its narrowings changed their number, and what each output shows; a stopped tick shows none.
pub record LogRecord : Type 0 where
  pub tick : ℕ
  pub steps : ℕ
  pub late : List Listed
  pub main : List Listed
  pub carried : List Listed
  pub stop : ℕ
  pub changed : ℕ
  pub outs : List Value

-- ---- its words

-- the words of its head
abbrev pub head_size : ℕ
head_size = 7

-- tick, steps, late units, main units, carried, stop, changed
unfoldable pub head : LogRecord → List ℕ
head r = r.tick ∷ r.steps ∷ length r.late ∷ length r.main ∷ length r.carried ∷ r.stop ∷ r.changed ∷ []

-- of units: their gates, then their forms
unfoldable pub gates_and_forms : List Listed → List ℕ
gates_and_forms us = map (λ u. u.gate) us ++ map (λ u. u.form) us

-- of values: their kinds, then their contents, 0 0 for nothing; an exec output shows nothing
unfoldable pub kinds_and_contents : List Value → List ℕ
kinds_and_contents vs = map kind_of vs ++ map content_of vs

-- the head, the units begun, the units carried, the outputs
unfoldable pub record_words : LogRecord → List ℕ
record_words r = head r ++ (gates_and_forms (r.late ++ r.main) ++ (gates_and_forms r.carried ++ kinds_and_contents r.outs))

-- ---- read back: the record that some words begin with, in a log of a circuit with so many outputs

-- how many units it says have begun
unfoldable pub begun_count : List ℕ → ℕ
begun_count ws = word_at ws 2 + word_at ws 3

-- how many are carried
unfoldable pub carried_count : List ℕ → ℕ
carried_count ws = word_at ws 4

-- its stop
unfoldable pub stop_in : List ℕ → ℕ
stop_in ws = word_at ws 5

-- how many outputs it shows
unfoldable pub shown_count : ℕ → List ℕ → ℕ
shown_count outputs ws = if eqb (stop_in ws) 0 then outputs otherwise 0

-- where the carried units begin, and the outputs
unfoldable pub carried_at : List ℕ → ℕ
carried_at ws = head_size + 2 * begun_count ws

unfoldable pub shown_at : List ℕ → ℕ
shown_at ws = carried_at ws + 2 * carried_count ws

-- how many words it has
unfoldable pub record_size : ℕ → List ℕ → ℕ
record_size outputs ws = shown_at ws + 2 * shown_count outputs ws

-- a unit by its gate and form
abbrev pub listed : ℕ → ℕ → Listed
listed g form = record { gate = g; form = form }

-- n units, from place k on
unfoldable pub units_at : List ℕ → ℕ → ℕ → List Listed
units_at ws k n = both listed (part ws k n) (part ws (k + n) n)

-- n outputs, from place k on
unfoldable pub outputs_at : List ℕ → ℕ → ℕ → List Value
outputs_at ws k n = both value_of (part ws k n) (part ws (k + n) n)

-- all of it
unfoldable pub record_at : ℕ → List ℕ → LogRecord
record_at outputs ws =
    record {
      tick = word_at ws 0;
      steps = word_at ws 1;
      late = take (word_at ws 2) (units_at ws head_size (begun_count ws));
      main = drop (word_at ws 2) (units_at ws head_size (begun_count ws));
      carried = units_at ws (carried_at ws) (carried_count ws);
      stop = stop_in ws;
      changed = word_at ws 6;
      outs = outputs_at ws (shown_at ws) (shown_count outputs ws);
    }

unfoldable pub record_opened : ℕ
unfolding head gates_and_forms kinds_and_contents record_words begun_count carried_count stop_in shown_count carried_at shown_at record_size units_at outputs_at record_at
record_opened = 0
