-- The links of a circuit: what a run looks up, in one array of 64-bit cells that is worked out once. `cells` writes a circuit down, `net` reads one back;
-- `net` makes some circuit of every array, so that code over links is right whatever they hold.
use Rattle.std.specs.Prelude.{ℕ, ◌+◌, ◌-◌, ◌*◌, ◌/◌, ◌%◌, ◌^◌, min, List, [], ◌∷◌, ◌++◌, map, eqb, length, get_or, replicate}
use Rattle.std.proofs.Math.Option.{Option, none, some}
use Rattle.model.specs.declared.Value.{Value}
use Rattle.model.specs.declared.Value.TheVariants.{Nothing}
use Rattle.model.specs.Base.{keep, joined, both, from, starts}
use Rattle.model.specs.Value.{value_of, kind_of, content_of, bit}
use Rattle.model.specs.Kinds.{value, fires, Kind, kind_at}
use Rattle.model.specs.Circuit.{most_gates, most_inputs, Call, Circuit, minus_one, source_of}
use Rattle.model.specs.Chain.{most_calls}

-- ---- how many there can be, beside what the definition names

-- a kind has at most nine outputs
abbrev pub most_outputs : ℕ
most_outputs = 9 * most_gates

abbrev pub most_constants : ℕ
most_constants = 64

-- ---- the tables, one behind the other

-- where each begins; they stand in this order
-- 16 counts and words of gates
abbrev pub counts_at : ℕ
counts_at = 0

-- 64 gates: kind and body, rank, first input and entry, first output
abbrev pub gates_at : ℕ
gates_at = counts_at + 16

-- 640 inputs: the source
abbrev pub sources_at : ℕ
sources_at = gates_at + most_gates

-- the kind of the stored value
abbrev pub stored_kinds_at : ℕ
stored_kinds_at = sources_at + most_inputs

-- its content
abbrev pub stored_contents_at : ℕ
stored_contents_at = stored_kinds_at + most_inputs

-- the gate, and whether it is watched
abbrev pub inputs_at : ℕ
inputs_at = stored_contents_at + most_inputs

-- 576 outputs: the gate
abbrev pub outputs_at : ℕ
outputs_at = inputs_at + most_inputs

-- where its readers begin and how many they are, and the same of its calls
abbrev pub rows_at : ℕ
rows_at = outputs_at + most_outputs

-- 640 readers: inputs
abbrev pub readers_at : ℕ
readers_at = rows_at + most_outputs

-- 256 calls: targets
abbrev pub calls_at : ℕ
calls_at = readers_at + most_inputs

-- 64 constants, of which the first is named 1: the kind
abbrev pub constant_kinds_at : ℕ
constant_kinds_at = calls_at + most_calls

-- the content
abbrev pub constant_contents_at : ℕ
constant_contents_at = constant_kinds_at + most_constants

-- the cells in all
abbrev pub total : ℕ
total = constant_contents_at + most_constants

-- four numbers below 65,536 in one cell, the first one lowest
unfoldable pub packed : ℕ → ℕ → ℕ → ℕ → ℕ
packed a b c d = a + 65536 * (b + 65536 * (c + 65536 * d))

-- digit 0, 1, 2 or 3 of a cell to the base 65,536
unfoldable pub digit : ℕ → ℕ → ℕ
digit n x = x / 65536 ^ n % 65536

-- A gate's kind and its body share a digit, kind + 256 × body,
abbrev pub kind_size : ℕ
kind_size = 256

-- and so do its first input and its entry, first input + 1,024 × entry.
abbrev pub input_size : ℕ
input_size = 1024

-- two numbers as one, of which the first is below n
unfoldable pub paired : ℕ → ℕ → ℕ → ℕ
paired n a b = a + n * b

-- a word of gates: bit g is set where g is one of them
unfoldable pub word_of_gates : List ℕ → ℕ
word_of_gates [] = 0
word_of_gates (g ∷ gs) = 2 ^ g + word_of_gates gs

-- the gates of a word, ascending
unfoldable pub gates_of_word : ℕ → List ℕ
gates_of_word d = keep (λ g. eqb (d / 2 ^ g % 2) 1) (from 0 64)

-- ---- writing a circuit down

-- a table of n cells, its unused ones 0
unfoldable pub table_of : ℕ → List ℕ → List ℕ
table_of n xs = xs ++ replicate (n - length xs) 0

-- -1 stands for no source
unfoldable pub source_cell : Option ℕ → ℕ
source_cell none = minus_one
source_cell (some o) = o

-- a call's target is 2 × input + remote
unfoldable pub call_cell : Call → ℕ
call_cell k = 2 * k.to + bit k.remote

-- four numbers each, from four lists
unfoldable pub gate_cells : List ℕ → List ℕ → List ℕ → List ℕ → List ℕ
gate_cells ks rs is os = both (λ f p. f p) (both (λ f i. f i) (both packed ks rs) is) os

-- each output's row: where its readers begin and how many they are, and the same of its calls
unfoldable pub row_cells : List (List ℕ) → List (List Call) → List ℕ
row_cells rs ks =
    let rn = map (λ r. length r) rs in
    let kn = map (λ k. length k) ks in
    gate_cells (starts 0 rn) rn (starts 0 kn) kn

-- the constants that have a name
unfoldable pub named : List Value → List Value
named [] = []
named (v ∷ vs) = vs

-- how many gates, constants, inputs and outputs there are, and the words of the gates of some kinds
unfoldable pub count_cells : Circuit → List ℕ
count_cells c =
    length c.kinds ∷ length (named c.constants) ∷ length c.pins ∷ length c.outputs
    ∷ word_of_gates c.time_sources ∷ word_of_gates c.buffers ∷ word_of_gates c.clocks ∷ word_of_gates c.stopwatches ∷ word_of_gates c.receivers ∷ []

-- all tables
unfoldable pub cells : Circuit → List ℕ
cells c =
    joined (
    table_of 16 (count_cells c)
    ∷ table_of most_gates
    (gate_cells (both (paired kind_size) c.kinds c.bodies) c.ranks (both (paired input_size) c.first_input c.entries) c.first_output)
    ∷ table_of most_inputs (map source_cell c.sources)
    ∷ table_of most_inputs (map kind_of c.stored)
    ∷ table_of most_inputs (map content_of c.stored)
    ∷ table_of most_inputs (both (λ g w. packed g (bit w) 0 0) c.gate_of_input c.watched)
    ∷ table_of most_outputs c.gate_of_output
    ∷ table_of most_outputs (row_cells c.readers c.calls)
    ∷ table_of most_inputs (joined c.readers)
    ∷ table_of most_calls (map call_cell (joined c.calls))
    ∷ table_of most_constants (map kind_of (named c.constants))
    ∷ table_of most_constants (map content_of (named c.constants))
    ∷ [])

-- ---- reading one back

-- a list by its elements
unfoldable pub listed : {A : Type 0} → ℕ → (ℕ → A) → List A
listed n f = map f (from 0 n)

-- a call of a target
abbrev pub call_of : ℕ → Call
call_of t = record { to = t / 2; remote = eqb (t % 2) 1 }

module _ (l : List ℕ) where
  -- cell i
  abbrev pub cell : ℕ → ℕ
  cell i = get_or l i 0

  -- what is in use of the table that begins at a: cell n says how many, and m is all
  abbrev pub entries : ℕ → ℕ → ℕ → List ℕ
  entries n m a = listed (min (cell n) m) (λ i. cell (a + i))

  -- what is written of gate g, of input i, of output o
  unfoldable pub gate_digit : ℕ → ℕ → ℕ
  gate_digit n g = digit n (cell (gates_at + g))

  -- of gate g its kind, its body, its first input and its entry
  unfoldable pub gate_kind : ℕ → ℕ
  gate_kind g = gate_digit 0 g % kind_size

  unfoldable pub gate_body : ℕ → ℕ
  gate_body g = gate_digit 0 g / kind_size

  unfoldable pub gate_first : ℕ → ℕ
  gate_first g = gate_digit 2 g % input_size

  unfoldable pub gate_entry : ℕ → ℕ
  gate_entry g = gate_digit 2 g / input_size

  unfoldable pub input_digit : ℕ → ℕ → ℕ
  input_digit n i = digit n (cell (inputs_at + i))

  unfoldable pub row_digit : ℕ → ℕ → ℕ
  row_digit n o = digit n (cell (rows_at + o))

  -- the kind of gate g, for any g
  unfoldable pub kind_in : ℕ → Kind
  kind_in g = kind_at (gate_kind g)

  -- the circuit that the links show
  unfoldable pub net : Circuit
  net =
      let G = min (cell counts_at) most_gates in
      let K = min (cell (counts_at + 1)) most_constants in
      let I = min (cell (counts_at + 2)) most_inputs in
      let O = min (cell (counts_at + 3)) most_outputs in
      record {
        constants = Nothing ∷ listed K (λ k. value_of (cell (constant_kinds_at + k)) (cell (constant_contents_at + k)));
        kinds = listed G gate_kind;
        ranks = listed G (gate_digit 1);
        bodies = listed G gate_body;
        entries = listed G gate_entry;
        first_input = listed G gate_first;
        first_output = listed G (gate_digit 3);
        pins = listed I (λ i. get_or (kind_in (input_digit 0 i)).ins (i - gate_first (input_digit 0 i)) value);
        gate_of_input = listed I (input_digit 0);
        sources = listed I (λ i. source_of (cell (sources_at + i)));
        stored = listed I (λ i. value_of (cell (stored_kinds_at + i)) (cell (stored_contents_at + i)));
        watched = listed I (λ i. eqb (input_digit 1 i) 1);
        outputs = listed O (λ o. get_or (kind_in (cell (outputs_at + o))).outs (o - gate_digit 3 (cell (outputs_at + o))) fires);
        gate_of_output = listed O (λ o. cell (outputs_at + o));
        readers = listed O (λ o. listed (row_digit 1 o) (λ k. cell (readers_at + (row_digit 0 o + k))));
        calls = listed O (λ o. listed (row_digit 3 o) (λ k. call_of (cell (calls_at + (row_digit 2 o + k)))));
        time_sources = gates_of_word (cell (counts_at + 4));
        buffers = gates_of_word (cell (counts_at + 5));
        clocks = gates_of_word (cell (counts_at + 6));
        stopwatches = gates_of_word (cell (counts_at + 7));
        receivers = gates_of_word (cell (counts_at + 8));
      }

-- ---- what the code looks up beside the circuit itself

module _ (l : List ℕ) where
  -- digit n of the row of output o; a row that is missing is 0
  unfoldable pub row_at : ℕ → ℕ → ℕ
  row_at n o = get_or (listed (min (cell l (counts_at + 3)) most_outputs) (row_digit l n)) o 0

  -- where the readers of output o begin in their table, and how many they are
  unfoldable pub first_reader : ℕ → ℕ
  first_reader o = row_at 0 o

  unfoldable pub reader_count : ℕ → ℕ
  reader_count o = row_at 1 o

  -- reader k of that table
  abbrev pub reader_at : ℕ → ℕ
  reader_at k = cell l (readers_at + k)

  -- where the calls of output o begin in their table, and how many they are
  unfoldable pub first_call : ℕ → ℕ
  first_call o = row_at 2 o

  unfoldable pub call_count : ℕ → ℕ
  call_count o = row_at 3 o

  -- the target of call k of that table
  abbrev pub target : ℕ → ℕ
  target k = cell l (calls_at + k)

unfoldable pub links_opened : ℕ
unfolding packed digit paired word_of_gates gates_of_word table_of source_cell call_cell gate_cells row_cells named count_cells cells listed gate_digit gate_kind gate_body gate_first gate_entry input_digit row_digit kind_in net row_at first_reader reader_count first_call call_count
links_opened = 0
