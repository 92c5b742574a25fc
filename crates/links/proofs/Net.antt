-- The links that are written for a circuit show that circuit again: `net_cells`.
use Prim.Native.Nat.{ℕ, zero, suc, ◌+◌, ◌-◌, ◌*◌, ◌/◌, ◌%◌, ◌≤◌, ◌<◌, min}
use mathlib.Core.Path.{◌≡◌, refl, sym, ap, ap₂, ◌∙◌}
use mathlib.Core.Bool.{Bool, true, false, true≢false, ◌&&◌}
use mathlib.Core.List.{List, [], ◌∷◌, map}
use mathlib.Core.Option.{Option, none, some}
use native.Mathlib.Nat.{zero-add}
use native.Mathlib.Omega.{arith}
use lib.Dec.{eqb}
use lib.ListN.{length, get_or, length-map, get_or-map}
use borrow.Author.Tests.{eqb-true}
use Rattle.words.specs.Words.{words}
use Rattle.model.specs.declared.Value.TheVariants.{Nothing}
use Rattle.model.specs.Base.{if◌then◌otherwise◌, keep, all, joined, both, from, starts}
use Rattle.model.specs.Value.{value_of, kind_of, content_of, bit}
use Rattle.model.specs.Kinds.{value, fires, kind_at, time_source, buffering, receiving}
use Rattle.model.specs.Circuit.{Call, Circuit, circuit, part, word_at, minus_one, source_of, reads, listed_call, calls_from, names, gates_such, kind_of_gate, input, output, gate_at_input, gate_at_output}
use Rattle.model.specs.Questions.{within, question_1, question_3}
use Rattle.model.proofs.Lists.{both_true, bit_most, both_length, from_length}
use Rattle.model.proofs.Sizes.{all_within, sizes}
use Rattle.model.proofs.Roomy.{few}
use Rattle.model.proofs.Laid.{starts_length, part_most, Laid, laid, Full, filled}
use Rattle.value.proofs.Laws.{made_again}
use Rattle.links.specs.Links.{gates_at, sources_at, stored_kinds_at, stored_contents_at, inputs_at, outputs_at, rows_at, readers_at, calls_at, constant_kinds_at, constant_contents_at, packed, digit, paired, kind_size, input_size, word_of_gates, gates_of_word, source_cell, call_cell, gate_cells, row_cells, named, count_cells, cells, listed, call_of, cell, gate_digit, gate_kind, gate_body, gate_first, gate_entry, input_digit, row_digit, kind_in, net}
use Rattle.links.proofs.Tables.{listed_is, both_at, both_most, map_at, base, table_sizes, Room, [·], ◌∷·◌, table_read, digit_0, digit_1, Under, Small, paired_at, gate_cells_length, Four, four, rows_read, starts_under, counts_under, firsts_under, by_owner, bit_read, word_read, shares, joined_map}

-- ---- what makes a circuit come back: no table is overfull, and each number fits its digit, or its part of one

-- each place belongs to a part, of which it is the element that its distance from the part's first place tells
abbrev Placed : {A : Type 0} → (ℕ → List A) → A → List ℕ → List ℕ → List ℕ → List A → Type 0
Placed f d ks owners firsts xs =
    (i : ℕ) → i < length xs →
    (get_or owners i 0 < length ks) × (get_or (f (get_or ks (get_or owners i 0) 0)) (i - get_or firsts (get_or owners i 0) 0) d ≡ get_or xs i d)

-- the facts of a circuit that its links show it again by
pub record Fitting (c : Circuit) : Type 0 where
  pub gates : length c.kinds ≤ 64
  pub constants : c.constants ≡ Nothing ∷ named c.constants
  pub names : length (named c.constants) ≤ 64
  pub inputs : length c.pins ≤ 640
  pub outputs : length c.outputs ≤ 576
  pub kinds : Under 256 c.kinds
  pub ranks : Small c.ranks
  pub bodies : Under 256 c.bodies
  pub entries : Under 64 c.entries
  pub first_inputs : Under 1024 c.first_input
  pub first_outputs : Small c.first_output
  pub pins : Placed (λ k. (kind_at k).ins) value c.kinds c.gate_of_input c.first_input c.pins
  pub outs : Placed (λ k. (kind_at k).outs) fires c.kinds c.gate_of_output c.first_output c.outputs
  pub sources : (i : ℕ) → source_of (source_cell (get_or c.sources i none)) ≡ get_or c.sources i none
  pub readers : length (joined c.readers) ≤ 640
  pub calls : length (joined c.calls) ≤ 256
  pub time_sources : gates_of_word (word_of_gates c.time_sources) ≡ c.time_sources
  pub buffers : gates_of_word (word_of_gates c.buffers) ≡ c.buffers
  pub clocks : gates_of_word (word_of_gates c.clocks) ≡ c.clocks
  pub stopwatches : gates_of_word (word_of_gates c.stopwatches) ≡ c.stopwatches
  pub receivers : gates_of_word (word_of_gates c.receivers) ≡ c.receivers

-- a call and its cell
call_again : (k : Call) → call_of (call_cell k) ≡ k
unfolding call_cell
call_again k =
    let t : (2 * k.to + bit k.remote) / 2 ≡ k.to = omega (arith, bit_most k.remote) in
    let r : (2 * k.to + bit k.remote) % 2 ≡ bit k.remote = omega (arith, bit_most k.remote) in
    λ j. record { to = t j; remote = (ap (λ x. eqb x 1) r ∙ bit_read k.remote) j }

at_most : {a b n : ℕ} → a ≡ b → b ≤ n → a ≤ n
at_most e h = omega arith

-- ---- table by table

-- of a circuit whose lists have the lengths that belong to them, and that fits
module _ (c : Circuit) (L : Laid c) (F : Full c) (T : Fitting c) where
  -- how many readers and how many calls each output has
  reader_counts : List ℕ
  reader_counts = map (λ r. length r) c.readers

  call_counts : List ℕ
  call_counts = map (λ k. length k) c.calls

  -- the digits that two numbers of each gate share
  kinds_and_bodies : List ℕ
  kinds_and_bodies = both (paired kind_size) c.kinds c.bodies

  inputs_and_entries : List ℕ
  inputs_and_entries = both (paired input_size) c.first_input c.entries

  -- what is written into each table
  tables : List (List ℕ)
  tables =
      count_cells c
      ∷ gate_cells kinds_and_bodies c.ranks inputs_and_entries c.first_output
      ∷ map source_cell c.sources
      ∷ map kind_of c.stored
      ∷ map content_of c.stored
      ∷ both (λ g w. packed g (bit w) 0 0) c.gate_of_input c.watched
      ∷ c.gate_of_output
      ∷ row_cells c.readers c.calls
      ∷ joined c.readers
      ∷ map call_cell (joined c.calls)
      ∷ map kind_of (named c.constants)
      ∷ map content_of (named c.constants)
      ∷ []

  reader_counts_length : length reader_counts ≡ length c.outputs
  unfolding reader_counts
  reader_counts_length = length-map c.readers (λ r. length r) ∙ L.readers

  call_counts_length : length call_counts ≡ length c.outputs
  unfolding call_counts
  call_counts_length = length-map c.calls (λ k. length k) ∙ L.calls

  reader_starts_length : length (starts 0 reader_counts) ≡ length c.outputs
  reader_starts_length = starts_length 0 reader_counts ∙ reader_counts_length

  call_starts_length : length (starts 0 call_counts) ≡ length c.outputs
  call_starts_length = starts_length 0 call_counts ∙ call_counts_length

  rows_length : length (row_cells c.readers c.calls) ≡ length c.outputs
  unfolding row_cells reader_counts call_counts
  rows_length =
      gate_cells_length (starts 0 reader_counts) reader_counts (starts 0 call_counts) call_counts (reader_counts_length ∙ sym reader_starts_length)
      (call_starts_length ∙ sym reader_starts_length) (call_counts_length ∙ sym reader_starts_length)
      ∙ reader_starts_length

  inputs_length : length (both (λ g w. packed g (bit w) 0 0) c.gate_of_input c.watched) ≡ length c.pins
  inputs_length = both_length (λ g w. packed g (bit w) 0 0) c.gate_of_input c.watched (L.gates_of_inputs ∙ sym F.watched) ∙ L.gates_of_inputs

  firsts_alike : length c.entries ≡ length c.first_input
  firsts_alike = F.entries ∙ sym L.first_inputs

  bodies_length : length kinds_and_bodies ≡ length c.kinds
  unfolding kinds_and_bodies
  bodies_length = both_length (paired kind_size) c.kinds c.bodies (sym F.bodies)

  entries_length : length inputs_and_entries ≡ length c.kinds
  unfolding inputs_and_entries
  entries_length = both_length (paired input_size) c.first_input c.entries (sym firsts_alike) ∙ L.first_inputs

  gates_length : length (gate_cells kinds_and_bodies c.ranks inputs_and_entries c.first_output) ≡ length c.kinds
  gates_length =
      gate_cells_length kinds_and_bodies c.ranks inputs_and_entries c.first_output (F.ranks ∙ sym bodies_length) (entries_length ∙ sym bodies_length)
      (L.first_outputs ∙ sym bodies_length)
      ∙ bodies_length

  few_counts : length (count_cells c) ≤ 16
  unfolding count_cells
  few_counts = omega arith

  room : Room table_sizes tables
  unfolding table_sizes tables
  room =
      few_counts
      ∷· at_most gates_length T.gates
      ∷· at_most (length-map c.sources source_cell ∙ F.sources) T.inputs
      ∷· at_most (length-map c.stored kind_of ∙ F.stored) T.inputs
      ∷· at_most (length-map c.stored content_of ∙ F.stored) T.inputs
      ∷· at_most inputs_length T.inputs
      ∷· at_most L.gates_of_outputs T.outputs
      ∷· at_most rows_length T.outputs
      ∷· T.readers
      ∷· at_most (length-map (joined c.calls) call_cell) T.calls
      ∷· at_most (length-map (named c.constants) kind_of) T.names
      ∷· at_most (length-map (named c.constants) content_of) T.names
      ∷· [·]

  -- cell i of table t
  known : (t i : ℕ) → i < get_or table_sizes t 0 → cell (cells c) (base table_sizes t + i) ≡ get_or (get_or tables t []) i 0
  unfolding cells table_sizes tables both kinds_and_bodies inputs_and_entries
  known t i h = table_read room t i h

  -- the counts
  gate_count : min (cell (cells c) 0) 64 ≡ length c.kinds
  unfolding table_sizes tables count_cells
  gate_count = omega (arith, known 0 0 (omega arith), T.gates)

  name_count : min (cell (cells c) 1) 64 ≡ length (named c.constants)
  unfolding table_sizes tables count_cells
  name_count = omega (arith, known 0 1 (omega arith), T.names)

  input_count : min (cell (cells c) 2) 640 ≡ length c.pins
  unfolding table_sizes tables count_cells
  input_count = omega (arith, known 0 2 (omega arith), T.inputs)

  output_count : min (cell (cells c) 3) 576 ≡ length c.outputs
  unfolding table_sizes tables count_cells
  output_count = omega (arith, known 0 3 (omega arith), T.outputs)

  -- a word of gates
  word_back :
      (n : ℕ) (gs : List ℕ) → n < 16 → get_or (count_cells c) n 0 ≡ word_of_gates gs → gates_of_word (word_of_gates gs) ≡ gs →
      gates_of_word (cell (cells c) n) ≡ gs
  unfolding table_sizes tables
  word_back n gs h e b = ap gates_of_word (sym (ap (cell (cells c)) (zero-add n)) ∙ known 0 n h ∙ e) ∙ b

  -- the gates
  gate_known : (g : ℕ) → g < length kinds_and_bodies → cell (cells c) (gates_at + g) ≡ get_or (gate_cells kinds_and_bodies c.ranks inputs_and_entries c.first_output) g 0
  unfolding table_sizes tables
  gate_known g h = known 1 g (omega (arith, T.gates, bodies_length))

  body_at : (g : ℕ) → get_or kinds_and_bodies g 0 ≡ paired kind_size (get_or c.kinds g 0) (get_or c.bodies g 0)
  unfolding kinds_and_bodies
  body_at g = paired_at kind_size c.kinds c.bodies g F.bodies

  entry_at : (g : ℕ) → get_or inputs_and_entries g 0 ≡ paired input_size (get_or c.first_input g 0) (get_or c.entries g 0)
  unfolding inputs_and_entries
  entry_at g = paired_at input_size c.first_input c.entries g firsts_alike

  bodies_fit : Small kinds_and_bodies
  unfolding paired
  bodies_fit g = omega (arith, body_at g, T.kinds g, T.bodies g)

  entries_fit : Small inputs_and_entries
  unfolding paired
  entries_fit g = omega (arith, entry_at g, T.first_inputs g, T.entries g)

  gates_back : Four (λ g. cell (cells c) (gates_at + g)) kinds_and_bodies c.ranks inputs_and_entries c.first_output
  gates_back =
      four kinds_and_bodies c.ranks inputs_and_entries c.first_output (F.ranks ∙ sym bodies_length) (entries_length ∙ sym bodies_length)
      (L.first_outputs ∙ sym bodies_length) (λ g. cell (cells c) (gates_at + g)) gate_known bodies_fit T.ranks entries_fit T.first_outputs

  -- of each gate
  module _ (g : ℕ) (h : g < length c.kinds) where
    in_cells : g < length kinds_and_bodies
    in_cells = omega (arith, bodies_length)

    kind_back : gate_kind (cells c) g ≡ get_or c.kinds g 0
    unfolding gate_kind gate_digit paired
    kind_back = omega (arith, gates_back.first g in_cells, body_at g, T.kinds g)

    body_back : gate_body (cells c) g ≡ get_or c.bodies g 0
    unfolding gate_body gate_digit paired
    body_back = omega (arith, gates_back.first g in_cells, body_at g, T.kinds g)

    first_back : gate_first (cells c) g ≡ get_or c.first_input g 0
    unfolding gate_first gate_digit paired
    first_back = omega (arith, gates_back.third g in_cells, entry_at g, T.first_inputs g)

    entry_back : gate_entry (cells c) g ≡ get_or c.entries g 0
    unfolding gate_entry gate_digit paired
    entry_back = omega (arith, gates_back.third g in_cells, entry_at g, T.first_inputs g)

    rank_back : gate_digit (cells c) 1 g ≡ get_or c.ranks g 0
    unfolding gate_digit
    rank_back = gates_back.second g in_cells

    output_back : gate_digit (cells c) 3 g ≡ get_or c.first_output g 0
    unfolding gate_digit
    output_back = gates_back.fourth g in_cells

  -- of all
  gates_listed : (f : ℕ → ℕ) (xs : List ℕ) → length xs ≡ length c.kinds → ((g : ℕ) → g < length c.kinds → f g ≡ get_or xs g 0) → listed (min (cell (cells c) 0) 64) f ≡ xs
  gates_listed f xs e h = listed_is 0 f _ xs (gate_count ∙ sym e) (λ g k. h g (omega arith))

  -- the inputs
  input_known : (i : ℕ) → i < length c.pins → cell (cells c) (inputs_at + i) ≡ packed (get_or c.gate_of_input i 0) (bit (get_or c.watched i false)) 0 0
  unfolding table_sizes tables
  input_known i h =
      known 5 i (omega (arith, T.inputs))
      ∙ both_at (λ g w. packed g (bit w) 0 0) c.gate_of_input c.watched i 0 false 0 (omega (arith, L.gates_of_inputs)) (omega (arith, F.watched))

  input_gate : (i : ℕ) → i < length c.pins → input_digit (cells c) 0 i ≡ get_or c.gate_of_input i 0
  unfolding input_digit
  input_gate i h =
      ap (digit 0) (input_known i h)
      ∙ digit_0 (get_or c.gate_of_input i 0) (bit (get_or c.watched i false)) 0 0 (omega (arith, (T.pins i h).0, T.gates))
      (omega (arith, bit_most (get_or c.watched i false))) (omega arith) (omega arith)

  input_mark : (i : ℕ) → i < length c.pins → input_digit (cells c) 1 i ≡ bit (get_or c.watched i false)
  unfolding input_digit
  input_mark i h =
      ap (digit 1) (input_known i h)
      ∙ digit_1 (get_or c.gate_of_input i 0) (bit (get_or c.watched i false)) 0 0 (omega (arith, (T.pins i h).0, T.gates))
      (omega (arith, bit_most (get_or c.watched i false))) (omega arith) (omega arith)

  gate_of_input_back : listed (min (cell (cells c) 2) 640) (input_digit (cells c) 0) ≡ c.gate_of_input
  gate_of_input_back = listed_is 0 _ _ c.gate_of_input (input_count ∙ sym L.gates_of_inputs) (λ i h. input_gate i (omega (arith, L.gates_of_inputs)))

  watched_back : listed (min (cell (cells c) 2) 640) (λ i. eqb (input_digit (cells c) 1 i) 1) ≡ c.watched
  watched_back =
      listed_is false _ _ c.watched (input_count ∙ sym F.watched)
      (λ i h. ap (λ x. eqb x 1) (input_mark i (omega (arith, F.watched))) ∙ bit_read (get_or c.watched i false))

  pins_back :
      listed (min (cell (cells c) 2) 640)
      (λ i. get_or (kind_in (cells c) (input_digit (cells c) 0 i)).ins (i - gate_first (cells c) (input_digit (cells c) 0 i)) value)
      ≡ c.pins
  unfolding kind_in
  pins_back =
      listed_is value _ _ c.pins input_count
      (λ i h.
      let p = T.pins i h in
      ap (λ g. get_or (kind_in (cells c) g).ins (i - gate_first (cells c) g) value) (input_gate i h)
      ∙ ap₂ (λ k n. get_or (kind_at k).ins (i - n) value) (kind_back _ p.0) (first_back _ p.0)
      ∙ p.1)

  sources_back : listed (min (cell (cells c) 2) 640) (λ i. source_of (cell (cells c) (sources_at + i))) ≡ c.sources
  unfolding table_sizes tables
  sources_back =
      listed_is none _ _ c.sources (input_count ∙ sym F.sources)
      (λ i h.
      ap source_of (known 2 i (omega (arith, T.inputs, F.sources)) ∙ map_at source_cell c.sources i none 0 h) ∙ T.sources i)

  stored_back : listed (min (cell (cells c) 2) 640) (λ i. value_of (cell (cells c) (stored_kinds_at + i)) (cell (cells c) (stored_contents_at + i))) ≡ c.stored
  unfolding table_sizes tables
  stored_back =
      listed_is Nothing _ _ c.stored (input_count ∙ sym F.stored)
      (λ i h.
      ap₂ value_of
      (known 3 i (omega (arith, T.inputs, F.stored)) ∙ map_at kind_of c.stored i Nothing 0 h)
      (known 4 i (omega (arith, T.inputs, F.stored)) ∙ map_at content_of c.stored i Nothing 0 h)
      ∙ made_again (get_or c.stored i Nothing))

  constants_back :
      Nothing ∷ listed (min (cell (cells c) 1) 64) (λ k. value_of (cell (cells c) (constant_kinds_at + k)) (cell (cells c) (constant_contents_at + k)))
      ≡ c.constants
  unfolding table_sizes tables
  constants_back =
      ap (λ vs. Nothing ∷ vs)
      (listed_is Nothing _ _ (named c.constants) name_count
      (λ i h.
      ap₂ value_of
      (known 10 i (omega (arith, T.names)) ∙ map_at kind_of (named c.constants) i Nothing 0 h)
      (known 11 i (omega (arith, T.names)) ∙ map_at content_of (named c.constants) i Nothing 0 h)
      ∙ made_again (get_or (named c.constants) i Nothing)))
      ∙ sym T.constants

  -- the outputs
  output_gate : (o : ℕ) → o < length c.outputs → cell (cells c) (outputs_at + o) ≡ get_or c.gate_of_output o 0
  unfolding table_sizes tables
  output_gate o h = known 6 o (omega (arith, T.outputs))

  gate_of_output_back : listed (min (cell (cells c) 3) 576) (λ o. cell (cells c) (outputs_at + o)) ≡ c.gate_of_output
  gate_of_output_back = listed_is 0 _ _ c.gate_of_output (output_count ∙ sym L.gates_of_outputs) (λ o h. output_gate o (omega (arith, L.gates_of_outputs)))

  outputs_back :
      listed (min (cell (cells c) 3) 576)
      (λ o. get_or (kind_in (cells c) (cell (cells c) (outputs_at + o))).outs (o - gate_digit (cells c) 3 (cell (cells c) (outputs_at + o))) fires)
      ≡ c.outputs
  unfolding kind_in
  outputs_back =
      listed_is fires _ _ c.outputs output_count
      (λ o h.
      let p = T.outs o h in
      ap (λ g. get_or (kind_in (cells c) g).outs (o - gate_digit (cells c) 3 g) fires) (output_gate o h)
      ∙ ap₂ (λ k n. get_or (kind_at k).outs (o - n) fires) (kind_back _ p.0) (output_back _ p.0)
      ∙ p.1)

  row_known :
      (o : ℕ) → o < length (starts 0 reader_counts) →
      cell (cells c) (rows_at + o) ≡ get_or (gate_cells (starts 0 reader_counts) reader_counts (starts 0 call_counts) call_counts) o 0
  unfolding table_sizes tables row_cells reader_counts call_counts
  row_known o h = known 7 o (omega (arith, T.outputs, reader_starts_length))

  rows_back : Four (λ o. cell (cells c) (rows_at + o)) (starts 0 reader_counts) reader_counts (starts 0 call_counts) call_counts
  unfolding reader_counts call_counts
  rows_back =
      let r : length (joined c.readers) < 65536 = omega (arith, T.readers) in
      let k : length (joined c.calls) < 65536 = omega (arith, T.calls) in
      four (starts 0 reader_counts) reader_counts (starts 0 call_counts) call_counts (reader_counts_length ∙ sym reader_starts_length)
      (call_starts_length ∙ sym reader_starts_length) (call_counts_length ∙ sym reader_starts_length) (λ o. cell (cells c) (rows_at + o)) row_known
      (starts_under 65536 c.readers r) (counts_under 65536 c.readers r) (starts_under 65536 c.calls k) (counts_under 65536 c.calls k)

  readers_back :
      listed (min (cell (cells c) 3) 576)
      (λ o. listed (row_digit (cells c) 1 o) (λ k. cell (cells c) (readers_at + (row_digit (cells c) 0 o + k)))) ≡ c.readers
  unfolding row_digit table_sizes tables reader_counts
  readers_back =
      rows_read 0 c.readers (λ j. cell (cells c) (readers_at + j)) _ _ _ (output_count ∙ sym L.readers)
      (λ o h. rows_back.first o (omega (arith, reader_starts_length, L.readers))) (λ o h. rows_back.second o (omega (arith, reader_starts_length, L.readers)))
      (λ j h. known 8 j (omega (arith, T.readers)))

  calls_back :
      listed (min (cell (cells c) 3) 576)
      (λ o. listed (row_digit (cells c) 3 o) (λ k. call_of (cell (cells c) (calls_at + (row_digit (cells c) 2 o + k))))) ≡ c.calls
  unfolding row_digit table_sizes tables call_counts
  calls_back =
      rows_read (call_of 0) c.calls (λ j. call_of (cell (cells c) (calls_at + j))) _ _ _ (output_count ∙ sym L.calls)
      (λ o h. rows_back.third o (omega (arith, reader_starts_length, L.calls))) (λ o h. rows_back.fourth o (omega (arith, reader_starts_length, L.calls)))
      (λ j h.
      ap call_of (known 9 j (omega (arith, T.calls)) ∙ map_at call_cell (joined c.calls) j (call_of 0) 0 h)
      ∙ call_again (get_or (joined c.calls) j (call_of 0)))

  -- a circuit that fits comes back
  pub back : net (cells c) ≡ c
  unfolding net count_cells
  back =
      λ j.
      record {
        constants = constants_back j;
        kinds = gates_listed (gate_kind (cells c)) c.kinds refl kind_back j;
        ranks = gates_listed (gate_digit (cells c) 1) c.ranks F.ranks rank_back j;
        bodies = gates_listed (gate_body (cells c)) c.bodies F.bodies body_back j;
        entries = gates_listed (gate_entry (cells c)) c.entries F.entries entry_back j;
        first_input = gates_listed (gate_first (cells c)) c.first_input L.first_inputs first_back j;
        first_output = gates_listed (gate_digit (cells c) 3) c.first_output L.first_outputs output_back j;
        pins = pins_back j;
        gate_of_input = gate_of_input_back j;
        sources = sources_back j;
        stored = stored_back j;
        watched = watched_back j;
        outputs = outputs_back j;
        gate_of_output = gate_of_output_back j;
        readers = readers_back j;
        calls = calls_back j;
        time_sources = word_back 4 c.time_sources (omega arith) refl T.time_sources j;
        buffers = word_back 5 c.buffers (omega arith) refl T.buffers j;
        clocks = word_back 6 c.clocks (omega arith) refl T.clocks j;
        stopwatches = word_back 7 c.stopwatches (omega arith) refl T.stopwatches j;
        receivers = word_back 8 c.receivers (omega arith) refl T.receivers j;
      }

-- ---- a circuit that is read from words

-- a source and its cell
pub source_back : (w : ℕ) → source_cell (source_of w) ≡ w
unfolding source_of source_cell if◌then◌otherwise◌
source_back w = go (eqb w minus_one) refl
  where
    go : (b : Bool) → eqb w minus_one ≡ b → source_cell (if b then none otherwise some w) ≡ w
    go true e = sym (eqb-true w minus_one e)
    go false e = refl

-- an input reads one output
reads_one : (ss : List (Option ℕ)) (i o p : ℕ) → reads o ss i ≡ true → reads p ss i ≡ true → o ≡ p
unfolding reads
reads_one ss i o p = go (get_or ss i none)
  where
    go : (s : Option ℕ) → (elim s [ none ↦ false | some q ↦ eqb o q ]) ≡ true → (elim s [ none ↦ false | some q ↦ eqb p q ]) ≡ true → o ≡ p
    go none h k = absurd (true≢false (sym h))
    go (some q) h k = eqb-true o q h ∙ sym (eqb-true p q k)

-- what is below n wherever it is worked out
under_map : (n : ℕ) (f : ℕ → ℕ) → 0 < n → ((x : ℕ) → f x < n) → (xs : List ℕ) → Under n (map f xs)
under_map n f z h [] i = z
under_map n f z h (x ∷ xs) zero = h x
under_map n f z h (x ∷ xs) (suc i) = under_map n f z h xs i

-- the first of n numbers from a on that passes a test
pub first_kept : (m : ℕ) (p : ℕ → Bool) (a n : ℕ) → 0 < m → a + n ≤ m → get_or (keep p (from a n)) 0 0 < m
unfolding keep from if◌then◌otherwise◌
first_kept m p a zero z l = z
first_kept m p a (suc n) z l = go (p a) (first_kept m p (suc a) n z (omega arith))
  where
    go : (b : Bool) → get_or (keep p (from (suc a) n)) 0 0 < m → get_or (if b then a ∷ keep p (from (suc a) n) otherwise keep p (from (suc a) n)) 0 0 < m
    go true h = omega arith
    go false h = h

module _ (bytes ws : List ℕ) (q : question_1 bytes ws ≡ true) (r : question_3 ws (circuit ws) ≡ true) where
  few_gates : length (circuit ws).kinds ≤ 64
  few_gates = (few bytes ws q r).gates

  few_inputs : length (circuit ws).pins ≤ 640
  few_inputs = (few bytes ws q r).inputs

  few_outputs : length (circuit ws).outputs ≤ 576
  few_outputs = (few bytes ws q r).outputs

  sources_again : (i : ℕ) → source_of (source_cell (get_or (circuit ws).sources i none)) ≡ get_or (circuit ws).sources i none
  unfolding circuit source_of if◌then◌otherwise◌
  sources_again i =
      let ss = part ws (4 + 2 * word_at ws 1 + 2 * word_at ws 0) (word_at ws 2) in
      let e : get_or (map source_of ss) i none ≡ source_of (get_or ss i minus_one) = get_or-map source_of ss i minus_one in
      ap (λ s. source_of (source_cell s)) e ∙ ap source_of (source_back (get_or ss i minus_one)) ∙ sym e

  few_readers : length (joined (circuit ws).readers) ≤ 640
  unfolding circuit word_at
  few_readers =
      let ss = (circuit ws).sources in
      omega (
        arith,
        shares (λ o i. reads o ss i) (reads_one ss) 0 (length (circuit ws).outputs) (from 0 (word_at ws 2)),
        from_length 0 (word_at ws 2),
        (sizes bytes ws q).inputs,
      )

  few_calls : length (joined (circuit ws).calls) ≤ 256
  unfolding circuit calls_from word_at
  few_calls =
      let at = 4 + 2 * word_at ws 1 + 2 * word_at ws 0 + 2 * word_at ws 2 in
      let n = word_at ws 3 in
      let ls = both listed_call (part ws at n) (part ws (at + n) n) in
      let O = length (circuit ws).outputs in
      omega (
        arith,
        joined_map (λ l. l.call) (λ o. keep (λ l. eqb l.out o) ls) (from 0 O),
        shares (λ o l. eqb l.out o) (λ l o p h k. sym (eqb-true l.out o h) ∙ eqb-true l.out p k) 0 O ls,
        both_most listed_call (part ws at n) (part ws (at + n) n),
        part_most ws at n,
        (sizes bytes ws q).calls,
      )

  -- an entry is a gate
  small_entries : Under 64 (circuit ws).entries
  unfolding circuit word_at
  small_entries =
      let G = word_at ws 0 in
      let named_by : ℕ → ℕ → Bool = names (circuit ws).kinds (circuit ws).stored (circuit ws).first_input in
      under_map 64 (λ g. get_or (keep (named_by g) (from 0 G)) 0 0) (omega arith)
      (λ g. first_kept 64 (named_by g) 0 G (omega arith) (omega (arith, (sizes bytes ws q).gates))) (from 0 G)

  fitting : Fitting (circuit ws)
  unfolding circuit word_at question_3 gates_such named gate_at_input gate_at_output input output kind_of_gate
  fitting =
      let ks = (circuit ws).kinds in
      let K = word_at ws 1 in
      let small_kinds = all (within 1 31) ks in
      let small_bodies = all (within 0 64) (circuit ws).bodies in
      let h = both_true small_kinds small_bodies (both_true (small_kinds && small_bodies) _ r).0 in
      record {
        gates = few_gates;
        constants = refl;
        names = omega (arith, both_most value_of (part ws 4 K) (part ws (4 + K) K), part_most ws 4 K, (sizes bytes ws q).constants);
        inputs = few_inputs;
        outputs = few_outputs;
        kinds = λ i. omega (arith, all_within 1 31 ks h.0 i);
        ranks = under_map 65536 (λ w. w % 65536) (omega arith) (λ w. omega arith) (part ws (4 + 2 * K + word_at ws 0) (word_at ws 0));
        bodies = λ i. omega (arith, all_within 0 64 (circuit ws).bodies h.1 i);
        entries = small_entries;
        first_inputs = firsts_under (λ k. (kind_at k).ins) 1024 ks (omega (arith, few_inputs));
        first_outputs = firsts_under (λ k. (kind_at k).outs) 65536 ks (omega (arith, few_outputs));
        pins = by_owner (λ k. (kind_at k).ins) value ks (circuit ws).gate_of_input (circuit ws).first_input refl (laid ws).input_of;
        outs = by_owner (λ k. (kind_at k).outs) fires ks (circuit ws).gate_of_output (circuit ws).first_output refl (laid ws).output_of;
        sources = sources_again;
        readers = few_readers;
        calls = few_calls;
        time_sources = word_read (λ g. time_source (get_or ks g 0)) (length ks) few_gates;
        buffers = word_read (λ g. buffering (get_or ks g 0)) (length ks) few_gates;
        clocks = word_read (λ g. eqb (get_or ks g 0) 14) (length ks) few_gates;
        stopwatches = word_read (λ g. eqb (get_or ks g 0) 15) (length ks) few_gates;
        receivers = word_read (λ g. receiving (get_or ks g 0)) (length ks) few_gates;
      }

-- the links of every circuit whose bytes questions 1 and 3 let through show that circuit
pub net_cells :
    (bytes : List ℕ) → question_1 bytes (words bytes) ≡ true → question_3 (words bytes) (circuit (words bytes)) ≡ true →
    net (cells (circuit (words bytes))) ≡ circuit (words bytes)
net_cells bytes q r =
    let ws = words bytes in
    back (circuit ws) (laid ws) (filled bytes ws q r) (fitting bytes ws q r)
