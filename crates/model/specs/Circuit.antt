-- A circuit, as it is read from its words, with what is worked out of it once. A word is held as its 64 bits, so a negative one is 2^63 or more.
use Rattle.std.specs.Prelude.{ℕ, ◌+◌, ◌*◌, ◌/◌, ◌%◌, ◌^◌, ◌-◌, Bool, true, false, ◌&&◌, List, [], ◌∷◌, map, eqb, length, get_or, take, drop}
use Rattle.std.proofs.Math.Option.{Option, none, some}
use Rattle.model.specs.declared.Value.{Value}
use Rattle.model.specs.declared.Value.TheVariants.{Nothing, Int}
use Rattle.model.specs.Base.{if◌then◌otherwise◌, keep, joined, both, from, starts, owners}
use Rattle.model.specs.Value.{value_of, same}
use Rattle.model.specs.Kinds.{In, never, if_driven, always, Out, kind_at, Clock, Stopwatch, LoopEntry, time_source, buffering, receiving}

-- the gates that a circuit has at the most
abbrev pub most_gates : ℕ
most_gates = 64

-- and the inputs
abbrev pub most_inputs : ℕ
most_inputs = 640

-- a call from an output: to an input, at once or remote, which waits for the chain's end
pub record Call : Type 0 where
  pub to : ℕ
  pub remote : Bool

-- Gates, inputs and outputs count from 0, each gate's own in the order of its kind.
pub record Circuit : Type 0 where
  -- by name: constant k is named k + 1, and 0 is nothing
  pub constants : List Value
  -- of each gate: its kind, its rank, the body that it lies in, 0 outside and else 1 + the Loop's gate, and, if it is a Loop, the entry of its body
  pub kinds : List ℕ
  pub ranks : List ℕ
  pub bodies : List ℕ
  pub entries : List ℕ
  pub first_input : List ℕ
  pub first_output : List ℕ
  -- of each input: what it is, its gate, the output that it reads, the value stored in it, whether a change of what it reads is acted on
  pub pins : List In
  pub gate_of_input : List ℕ
  pub sources : List (Option ℕ)
  pub stored : List Value
  pub watched : List Bool
  -- of each output: what it is, its gate, the inputs that read it, ascending, and its calls as listed
  pub outputs : List Out
  pub gate_of_output : List ℕ
  pub readers : List (List ℕ)
  pub calls : List (List Call)
  -- the gates of some kinds, ascending: time sources, buffers and Queues, Clocks, Stopwatches, receivers of events
  pub time_sources : List ℕ
  pub buffers : List ℕ
  pub clocks : List ℕ
  pub stopwatches : List ℕ
  pub receivers : List ℕ

-- ---- from words

-- n words from place k on
unfoldable pub part : List ℕ → ℕ → ℕ → List ℕ
part ws k n = take n (drop k ws)

-- word k
unfoldable pub word_at : List ℕ → ℕ → ℕ
word_at ws k = get_or ws k 0

-- the word -1
abbrev pub minus_one : ℕ
minus_one = 2 ^ 64 - 1

-- -1 is no source
unfoldable pub source_of : ℕ → Option ℕ
source_of w = if eqb w minus_one then none otherwise some w

-- whether there is a source
unfoldable pub has_source : Option ℕ → Bool
has_source none = false
has_source (some o) = true

-- a watched pin, by what it is and whether a value drives it
unfoldable pub is_watched : In → Option ℕ → Bool
is_watched p s = elim p.watch [ never ↦ false | if_driven ↦ has_source s | always ↦ true ]

-- whether input i reads output o
unfoldable pub reads : ℕ → List (Option ℕ) → ℕ → Bool
reads o ss i = elim (get_or ss i none) [ none ↦ false | some p ↦ eqb o p ]

-- one of the listed calls: the output that it comes from, and the call
pub record Listed : Type 0 where
  pub out : ℕ
  pub call : Call

-- a call's target is 2 × input + remote
unfoldable pub listed_call : ℕ → ℕ → Listed
listed_call o t = record { out = o; call = record { to = t / 2; remote = eqb (t % 2) 1 } }

-- the calls of output o, as listed
unfoldable pub calls_from : ℕ → List Listed → List Call
calls_from o ls = map (λ l. l.call) (keep (λ l. eqb l.out o) ls)

-- the word of a gate is rank + 65,536 × body
abbrev pub rank_size : ℕ
rank_size = 65536

-- whether gate e is an entry that names gate g
unfoldable pub names : List ℕ → List Value → List ℕ → ℕ → ℕ → Bool
names kinds stored first_input g e = eqb (get_or kinds e 0) LoopEntry && same (get_or stored (get_or first_input e 0) Nothing) (Int g)

-- the gates whose kind passes the test, ascending
unfoldable pub gates_such : (ℕ → Bool) → List ℕ → List ℕ
gates_such p kinds = keep (λ g. p (get_or kinds g 0)) (from 0 (length kinds))

-- Sizes G K I C, then pairs of parallel arrays: constants, gates, inputs, calls.
unfoldable pub circuit : List ℕ → Circuit
circuit ws =
    let G = word_at ws 0 in
    let K = word_at ws 1 in
    let I = word_at ws 2 in
    let C = word_at ws 3 in
    let gates = 4 + 2 * K in
    let inputs = gates + 2 * G in
    let calls = inputs + 2 * I in
    let constants = Nothing ∷ both value_of (part ws 4 K) (part ws (4 + K) K) in
    let kinds = part ws gates G in
    let in_counts = map (λ k. length (kind_at k).ins) kinds in
    let out_counts = map (λ k. length (kind_at k).outs) kinds in
    let pins = joined (map (λ k. (kind_at k).ins) kinds) in
    let outputs = joined (map (λ k. (kind_at k).outs) kinds) in
    let sources = map source_of (part ws inputs I) in
    let listed = both listed_call (part ws calls C) (part ws (calls + C) C) in
    let places = part ws (gates + G) G in
    let first_input = starts 0 in_counts in
    let stored = map (λ k. get_or constants k Nothing) (part ws (inputs + I) I) in
    record {
      constants = constants;
      kinds = kinds;
      ranks = map (λ w. w % rank_size) places;
      bodies = map (λ w. w / rank_size) places;
      entries = map (λ g. get_or (keep (names kinds stored first_input g) (from 0 G)) 0 0) (from 0 G);
      first_input = first_input;
      first_output = starts 0 out_counts;
      pins = pins;
      gate_of_input = owners 0 in_counts;
      sources = sources;
      stored = stored;
      watched = both is_watched pins sources;
      outputs = outputs;
      gate_of_output = owners 0 out_counts;
      readers = map (λ o. keep (reads o sources) (from 0 I)) (from 0 (length outputs));
      calls = map (λ o. calls_from o listed) (from 0 (length outputs));
      time_sources = gates_such time_source kinds;
      buffers = gates_such buffering kinds;
      clocks = gates_such (λ k. eqb k Clock) kinds;
      stopwatches = gates_such (λ k. eqb k Stopwatch) kinds;
      receivers = gates_such receiving kinds;
    }

-- ---- looking things up

module _ (c : Circuit) where
  -- the kind of gate g
  unfoldable pub kind_of_gate : ℕ → ℕ
  kind_of_gate g = get_or c.kinds g 0

  -- the rank of gate g, which is that of its units
  unfoldable pub rank_of_gate : ℕ → ℕ
  rank_of_gate g = get_or c.ranks g 0

  -- the body that gate g lies in
  unfoldable pub body_of_gate : ℕ → ℕ
  body_of_gate g = get_or c.bodies g 0

  -- the entry of Loop g's body
  unfoldable pub entry_of_loop : ℕ → ℕ
  entry_of_loop g = get_or c.entries g 0

  -- input p of gate g
  unfoldable pub input : ℕ → ℕ → ℕ
  input g p = get_or c.first_input g 0 + p

  -- output p of gate g
  unfoldable pub output : ℕ → ℕ → ℕ
  output g p = get_or c.first_output g 0 + p

  -- all inputs of gate g
  unfoldable pub inputs_of : ℕ → List ℕ
  inputs_of g = from (input g 0) (length (kind_at (kind_of_gate g)).ins)

  -- the gate that has input i
  unfoldable pub gate_at_input : ℕ → ℕ
  gate_at_input i = get_or c.gate_of_input i 0

  -- the output that input i reads
  unfoldable pub source : ℕ → Option ℕ
  source i = get_or c.sources i none

  -- the value stored in input i
  unfoldable pub stored_in : ℕ → Value
  stored_in i = get_or c.stored i Nothing

  -- setting p of gate g
  unfoldable pub setting : ℕ → ℕ → Value
  setting g p = stored_in (input g p)

  -- the gate that has output o
  unfoldable pub gate_at_output : ℕ → ℕ
  gate_at_output o = get_or c.gate_of_output o 0

  -- the inputs that read output o, in ascending gate, then input
  unfoldable pub readers_of : ℕ → List ℕ
  readers_of o = get_or c.readers o []

  -- the calls of output o, in listed order
  unfoldable pub calls_of : ℕ → List Call
  calls_of o = get_or c.calls o []

  -- whether a change of what input i reads is acted on
  unfoldable pub watching : ℕ → Bool
  watching i = get_or c.watched i false

  -- all gates, ascending
  unfoldable pub gates : List ℕ
  gates = from 0 (length c.kinds)

  -- those whose kind passes the test, ascending
  unfoldable pub gates_of : (ℕ → Bool) → List ℕ
  gates_of p = gates_such p c.kinds

  unfoldable pub circuit_opened : ℕ
  unfolding part word_at source_of has_source is_watched reads listed_call calls_from names gates_such circuit kind_of_gate rank_of_gate body_of_gate entry_of_loop input output inputs_of gate_at_input source stored_in setting gate_at_output readers_of calls_of watching gates gates_of
  circuit_opened = 0
