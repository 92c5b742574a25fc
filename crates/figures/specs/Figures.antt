-- How large a run can get (document 02, K12): the most steps that any one unit can cause, and the most bytes of a log.
use Rattle.std.specs.Prelude.{ℕ, zero, suc, ◌+◌, ◌*◌, min, max, Bool, true, false, not, ◌&&◌, List, [], ◌∷◌, map, eqb, length, get_or}
use Rattle.std.proofs.Math.Option.{none}
use Rattle.words.specs.Words.{words}
use Rattle.schedule.specs.Schedule.{most_units, most_waiting}
use Rattle.model.specs.Base.{if◌then◌otherwise◌, all, joined, sum, from, keep}
use Rattle.model.specs.Kinds.{In, value, Out, fires, shows, passes, kind_at, Loop}
use Rattle.model.specs.Circuit.{Circuit, circuit, kind_of_gate, output, gate_at_input, calls_of, gates}
use Rattle.model.specs.Script.{most_ticks}
use Rattle.model.specs.Record.{head_size}
use Rattle.model.specs.Run.{most_steps}
use Rattle.model.specs.Questions.{circuit_refusal, or_else, within, yes_all}
use Rattle.model.specs.Several.{over}

-- ---- where a unit may start

-- an E: calls may come to it, and it has no value of its own, as RER_Input has
unfoldable pub is-E : In → Bool
is-E p = p.called && not p.constant

-- an exec output; RER_Output is none
unfoldable pub is_exec : Out → Bool
is_exec fires = true
is_exec shows = false
is_exec passes = false

-- ---- rounds over gates, of each of which it is listed what it passes on to

module _ (passed : List (List ℕ)) where
  -- in a round a gate is placed if all that it passes on to were placed before
  unfoldable pub place : List Bool → List Bool
  place placed = map (all (λ g. get_or placed g true)) passed

  -- n rounds, from none
  unfoldable pub placed : ℕ → List Bool
  placed zero = map (λ _. false) passed
  placed (suc n) = place (placed n)

  -- the steps that come of entering each gate: one, and those of all that it passes on to
  unfoldable pub count : List ℕ → List ℕ
  count steps = map (λ gs. suc (sum (map (λ g. get_or steps g 0) gs))) passed

  -- of calls that go n gates deep
  unfoldable pub counted : ℕ → List ℕ
  counted zero = map (λ _. 0) passed
  counted (suc n) = count (counted n)

-- the greatest of a list, 0 for none
unfoldable pub greatest : List ℕ → ℕ
greatest [] = 0
greatest (n ∷ ns) = max n (greatest ns)

module _ (c : Circuit) where
  -- ---- calls

  -- all outputs of gate g
  unfoldable pub outputs_of : ℕ → List ℕ
  outputs_of g = from (output c g 0) (length (kind_at (kind_of_gate c g)).outs)

  -- the gates that the calls of output o enter, one for each call, remote or not
  unfoldable pub entered_from : ℕ → List ℕ
  entered_from o = map (λ k. gate_at_input c k.to) (calls_of c o)

  -- what gate g passes on to, if it passes on to all its calls: those of all its outputs, whatever its kind
  unfoldable pub passed_on : ℕ → List ℕ
  passed_on g = joined (map entered_from (outputs_of g))

  -- of each gate
  unfoldable pub all_passed_on : List (List ℕ)
  all_passed_on = map passed_on (gates c)

  -- ---- 23: do the calls form a ring, or has the circuit a Loop?

  -- as many rounds as there are gates place all but the gates of a ring, and those that come to one
  unfoldable pub no_ring : Bool
  no_ring = yes_all (placed all_passed_on (length c.kinds))

  unfoldable pub no_loop : Bool
  no_loop = all (λ k. not (eqb k Loop)) c.kinds

  -- ---- the steps of a unit

  -- without a ring calls go no deeper than there are gates; then these are one, and those of all that gate g passes on to (`gate_steps`)
  unfoldable pub steps_of_gate : ℕ → ℕ
  steps_of_gate g = get_or (counted all_passed_on (length c.kinds)) g 0

  -- a unit that starts at an input enters its gate
  unfoldable pub steps_of_input : ℕ → ℕ
  steps_of_input i = steps_of_gate (gate_at_input c i)

  -- one that starts at an output makes its calls
  unfoldable pub steps_of_output : ℕ → ℕ
  steps_of_output o = sum (map steps_of_gate (entered_from o))

  -- every E and every exec output
  unfoldable pub exec_inputs : List ℕ
  exec_inputs = keep (λ i. is-E (get_or c.pins i value)) (from 0 (length c.pins))

  unfoldable pub exec_outputs : List ℕ
  exec_outputs = keep (λ o. is_exec (get_or c.outputs o shows)) (from 0 (length c.outputs))

  -- of all these the most
  unfoldable pub most_of_starts : ℕ
  most_of_starts = max (greatest (map steps_of_input exec_inputs)) (greatest (map steps_of_output exec_outputs))

  -- The most steps that any one unit can cause; 50,000,001 for more than 50,000,000.
  unfoldable pub most_unit_steps : ℕ
  most_unit_steps = min (suc most_steps) most_of_starts

  -- ---- the bytes of a log

  -- the words of a record of 1,024 units, 256 carried and all outputs
  unfoldable pub most_record_words : ℕ
  most_record_words = head_size + 2 * most_units + 2 * most_waiting + 2 * length c.outputs

  -- The most bytes of a log of T ticks.
  unfoldable pub most_log_bytes : ℕ → ℕ
  most_log_bytes T = 8 * (T * most_record_words)

-- ---- asking for both

abbrev pub ring_or_loop : ℕ
ring_or_loop = 23

abbrev pub wrong_ticks : ℕ
wrong_ticks = 24

-- the number that it is refused with, or 0: the circuit's own questions, as for a call that is lent no areas; then 23; then 24, since T is limited as in a script
unfoldable pub size_refusal : List ℕ → ℕ → ℕ
size_refusal bytes T =
    let c = circuit (words bytes) in
    or_else (circuit_refusal none bytes) (if not (no_ring c && no_loop c) then ring_or_loop otherwise if not (within 0 most_ticks T) then wrong_ticks otherwise 0)

-- refused with a number, or the two figures: steps and bytes
pub data Size : Type 0 where
  refused : ℕ → Size
  figures : ℕ → ℕ → Size

-- by the number that it is refused with, 0 for none
unfoldable pub size_by : ℕ → List ℕ → ℕ → Size
size_by zero bytes T = let c = circuit (words bytes) in figures (most_unit_steps c) (most_log_bytes c T)
size_by (suc n) bytes T = refused (suc n)

-- what is answered of a circuit and T ticks
unfoldable pub size : List ℕ → ℕ → Size
size bytes T = size_by (size_refusal bytes T) bytes T

-- the number that is answered: 0 where it is not refused
unfoldable pub size_number : Size → ℕ
size_number (refused n) = n
size_number (figures steps bytes) = 0

-- the words lent for what is told, afterwards: untouched by a refusal; else the first two, as far as there is room, are the figures
unfoldable pub size_told : Size → List ℕ → List ℕ
size_told (refused n) told = told
size_told (figures steps bytes) told = over (steps ∷ bytes ∷ []) told

unfoldable pub figures_opened : ℕ
unfolding is-E is_exec place placed count counted greatest outputs_of entered_from passed_on all_passed_on no_ring no_loop steps_of_gate steps_of_input steps_of_output exec_inputs exec_outputs most_of_starts most_unit_steps most_record_words most_log_bytes size_refusal size_by size size_number over size_told
figures_opened = 0
