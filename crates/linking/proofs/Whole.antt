-- The builder's theorem: what it writes is `cells` of the circuit.
use Prim.Native.Nat.{ℕ, suc, ◌+◌, ◌*◌, ◌/◌, ◌%◌, ◌≤◌, ◌<◌}
use mathlib.Core.Path.{◌≡◌, refl, sym, ap, ap₂, ◌∙◌}
use mathlib.Core.Bool.{Bool, true, ◌&&◌, ◌||◌}
use mathlib.Core.List.{List, [], ◌∷◌, map}
use mathlib.Core.Option.{Option}
use native.Mathlib.Omega.{arith}
use lib.Dec.{eqb}
use lib.ListN.{replicate, length, get_or, length-map, get_or-map}
use Rattle.model.specs.declared.Value.{Value}
use Rattle.model.specs.declared.Value.TheVariants.{Nothing}
use Rattle.model.specs.Base.{keep, all, joined, both, from, sum}
use Rattle.model.specs.Value.{value_of, kind_of, content_of, bit}
use Rattle.model.specs.Kinds.{In, Out, kind_at, time_source, buffering, receiving, kinds_opened}
use Rattle.model.specs.Circuit.{Call, part, word_at, source_of, reads, listed_call, calls_from, names, circuit}
use Rattle.model.specs.Questions.{within, good_constant, yes_all, question_1, question_2, question_3}
use Rattle.model.proofs.Lists.{both_true, all_places, from_same}
use Rattle.model.proofs.Sizes.{all_within, Sizes, sizes}
use Rattle.model.proofs.Laid.{filled}
use Rattle.value.proofs.Laws.{made_again}
use Rattle.links.specs.Links.{total, table_of, source_cell, call_cell, gate_cells, row_cells, named, count_cells, cells, listed, packed, paired}
use Rattle.links.proofs.Reading.{listed_length, listed_in}
use Rattle.links.proofs.Tables.{table_sizes}
use Rattle.linking.specs.Building.{written, below, named_word, Small, row_of, members, lists_written, ins_at, outs_at, gate_cell, input_cells, output_cells, value_named, named_by, entries_found, word_cells, gates_written, inputs_written, constants_written, all_written}
use Rattle.linking.proofs.Loops.{below_same, below_mono}
use Rattle.linking.proofs.Elements.{map_listed, both_listed, part_listed, joined_length, keep_from}
use Rattle.linking.proofs.Members.{members_most}
use Rattle.linking.proofs.Entering.{names_gate, first_named}
use Rattle.linking.proofs.Tables.{tables, cleared, table_put}
use Rattle.linking.proofs.GateByGate.{ins_below, outs_below, inputs_size, outputs_size}
use Rattle.linking.proofs.Written.{first_table, gate_table, output_table, word_within, word_within_two, one_kind, two_kinds, source_table, constant_back, constant_table, stored_table}
use Rattle.linking.proofs.Pins.{input_table, reader_lists, call_at, call_lists, call_table, row_table}

-- ---- the tests of kinds, as ranges

time_within : (k : ℕ) → time_source k ≡ within 3 4 k
unfolding time_source
time_within k = two_kinds 3 k

receive_within : (k : ℕ) → receiving k ≡ within 26 27 k
unfolding receiving
receive_within k = two_kinds 26 k

buffer_within : (k : ℕ) → buffering k ≡ (within 10 13 k || within 16 17 k)
unfolding buffering within
buffer_within k = refl

-- ---- the lists of a circuit, by their elements

module _ {bytes : List ℕ} (ws : List ℕ) (z : Sizes bytes ws) where
  -- the sizes, and where the parts of the words begin, as `circuit` reads them
  abbrev G : ℕ
  G = get_or ws 0 0

  abbrev K : ℕ
  K = get_or ws 1 0

  abbrev I : ℕ
  I = get_or ws 2 0

  abbrev C : ℕ
  C = get_or ws 3 0

  abbrev kinds : ℕ
  kinds = 4 + 2 * K

  abbrev sources : ℕ
  sources = kinds + 2 * G

  abbrev callers : ℕ
  callers = sources + 2 * I

  abbrev O : ℕ
  O = below (outs_at ws kinds) G

  kinds_are : (circuit ws).kinds ≡ listed G (λ g. get_or ws (kinds + g) 0)
  unfolding circuit word_at
  kinds_are = part_listed ws kinds G (omega (arith, z.counted))

  -- what is worked out of the word of each rank and body
  places_are : (f : ℕ → ℕ) → map f (part ws (kinds + G) G) ≡ listed G (λ g. f (get_or ws (kinds + G + g) 0))
  places_are f = ap (λ (r : List ℕ). map f r) (part_listed ws (kinds + G) G (omega (arith, z.counted))) ∙ map_listed f G (λ g. get_or ws (kinds + G + g) 0)

  ranks_are : (circuit ws).ranks ≡ listed G (λ g. get_or ws (kinds + G + g) 0 % 65536)
  unfolding circuit word_at
  ranks_are = places_are (λ w. w % 65536)

  bodies_are : (circuit ws).bodies ≡ listed G (λ g. get_or ws (kinds + G + g) 0 / 65536)
  unfolding circuit word_at
  bodies_are = places_are (λ w. w / 65536)

  first_inputs_are : (circuit ws).first_input ≡ listed G (below (ins_at ws kinds))
  unfolding circuit word_at ins_at
  first_inputs_are = first_table ws kinds G (λ k. (kind_at k).ins) (circuit ws).kinds kinds_are

  first_outputs_are : (circuit ws).first_output ≡ listed G (below (outs_at ws kinds))
  unfolding circuit word_at outs_at
  first_outputs_are = first_table ws kinds G (λ k. (kind_at k).outs) (circuit ws).kinds kinds_are

  sources_are : (circuit ws).sources ≡ listed I (λ i. source_of (get_or ws (sources + i) 0))
  unfolding circuit word_at
  sources_are =
      ap (λ (r : List ℕ). map source_of r) (part_listed ws sources I (omega (arith, z.counted))) ∙ map_listed source_of I (λ i. get_or ws (sources + i) 0)

  outputs_are : length (circuit ws).outputs ≡ O
  unfolding circuit word_at outs_at
  outputs_are =
      ap (λ (r : List ℕ). length (joined (map (λ k. (kind_at k).outs) r))) kinds_are
      ∙ ap (λ (r : List (List Out)). length (joined r)) (map_listed (λ k. (kind_at k).outs) G (λ g. get_or ws (kinds + g) 0))
      ∙ joined_length G (λ g. (kind_at (get_or ws (kinds + g) 0)).outs)

  -- the words of a constant
  abbrev constant_kind : ℕ → ℕ
  constant_kind k = get_or ws (4 + k) 0

  abbrev constant_content : ℕ → ℕ
  constant_content k = get_or ws (4 + K + k) 0

  constants_are : (circuit ws).constants ≡ Nothing ∷ both value_of (listed K constant_kind) (listed K constant_content)
  unfolding circuit word_at
  constants_are =
      λ j. Nothing ∷ both value_of (part_listed ws 4 K (omega (arith, z.counted)) j) (part_listed ws (4 + K) K (omega (arith, z.counted)) j)

  stored_are : (circuit ws).stored ≡ map (λ k. get_or (Nothing ∷ both value_of (listed K constant_kind) (listed K constant_content)) k Nothing) (listed I (λ i. get_or ws (sources + I + i) 0))
  unfolding circuit word_at
  stored_are = λ j. map (λ k. get_or (constants_are j) k Nothing) (part_listed ws (sources + I) I (omega (arith, z.counted)) j)

  readers_are : (circuit ws).readers ≡ listed O (members (λ i. get_or ws (sources + i) 0) I)
  unfolding circuit word_at
  readers_are =
      let o : O ≤ 9 * G = outs_below ws kinds G O refl in
      ap (λ (n : ℕ). map (λ o. keep (reads o (circuit ws).sources) (from 0 I)) (from 0 n)) outputs_are
      ∙ reader_lists I O (λ i. get_or ws (sources + i) 0) (circuit ws).sources (omega (arith, z.gates)) sources_are

  -- the words of a call
  abbrev caller : ℕ → ℕ
  caller i = get_or ws (callers + i) 0

  abbrev target : ℕ → ℕ
  target i = get_or ws (callers + C + i) 0

  calls_are : (circuit ws).calls ≡ listed O (λ o. map (call_at target) (members caller C o))
  unfolding circuit word_at
  calls_are =
      let e : both listed_call (part ws callers C) (part ws (callers + C) C) ≡ listed C (λ i. listed_call (caller i) (target i))
      = (λ j. both listed_call (part_listed ws callers C (omega (arith, z.counted)) j) (part_listed ws (callers + C) C (omega (arith, z.counted)) j))
      ∙ both_listed listed_call C caller target in
      ap (λ (n : ℕ). map (λ o. calls_from o (both listed_call (part ws callers C) (part ws (callers + C) C))) (from 0 n)) outputs_are
      ∙ call_lists C O caller target (both listed_call (part ws callers C) (part ws (callers + C) C)) e

  -- ---- the tables that ask no more than the sizes

  outputs_table : (circuit ws).gate_of_output ≡ joined (listed G (output_cells ws kinds))
  unfolding circuit
  outputs_table = output_table ws kinds G (circuit ws).kinds kinds_are

  sources_table : map source_cell (circuit ws).sources ≡ listed I (λ i. get_or ws (sources + i) 0)
  unfolding circuit word_at
  sources_table =
      ap (λ (r : List ℕ). map source_cell (map source_of r)) (part_listed ws sources I (omega (arith, z.counted))) ∙ source_table I (λ i. get_or ws (sources + i) 0)

  rows_table : row_cells (circuit ws).readers (circuit ws).calls
      ≡ listed O (row_of (λ o. length (members (λ i. get_or ws (sources + i) 0) I o)) (λ o. length (members caller C o)))
  unfolding row_cells
  rows_table =
      (λ j. row_cells (readers_are j) (calls_are j))
      ∙ row_table O (members (λ i. get_or ws (sources + i) 0) I) (λ o. map (call_at target) (members caller C o))
      (λ o. length (members (λ i. get_or ws (sources + i) 0) I o)) (λ o. length (members caller C o)) (λ o. refl) (λ o. length-map (members caller C o) (call_at target))

  calls_table : map call_cell (joined (circuit ws).calls) ≡ joined (listed O (λ o. map target (members caller C o)))
  calls_table = ap (λ (r : List (List Call)). map call_cell (joined r)) calls_are ∙ call_table C O caller target

  -- ---- those of values: each constant is good

  module _ (good : (k : ℕ) → k < K → good_constant (constant_kind k) (constant_content k) ≡ true) where
    constant_kinds_table : map kind_of (named (circuit ws).constants) ≡ listed K constant_kind
    unfolding named kind_of
    constant_kinds_table =
        ap (λ (r : List Value). map kind_of (named r)) constants_are
        ∙ constant_table K constant_kind constant_content kind_of refl constant_kind (λ k l. (constant_back (constant_kind k) (constant_content k) (good k l)).0)

    constant_contents_table : map content_of (named (circuit ws).constants) ≡ listed K constant_content
    unfolding named content_of
    constant_contents_table =
        ap (λ (r : List Value). map content_of (named r)) constants_are
        ∙ constant_table K constant_kind constant_content content_of refl constant_content (λ k l. (constant_back (constant_kind k) (constant_content k) (good k l)).1)

    stored_kinds_table : map kind_of (circuit ws).stored ≡ listed I (λ i. named_word ws 4 K (get_or ws (sources + I + i) 0))
    unfolding kind_of
    stored_kinds_table =
        ap (λ (r : List Value). map kind_of r) stored_are
        ∙ stored_table K constant_kind constant_content kind_of refl constant_kind (λ k l. (constant_back (constant_kind k) (constant_content k) (good k l)).0) ws 4 (λ k. refl) I (λ i. get_or ws (sources + I + i) 0)

    stored_contents_table : map content_of (circuit ws).stored ≡ listed I (λ i. named_word ws (4 + K) K (get_or ws (sources + I + i) 0))
    unfolding content_of
    stored_contents_table =
        ap (λ (r : List Value). map content_of r) stored_are
        ∙ stored_table K constant_kind constant_content content_of refl constant_content (λ k l. (constant_back (constant_kind k) (constant_content k) (good k l)).1) ws (4 + K) (λ k. refl) I (λ i. get_or ws (sources + I + i) 0)

    -- the value stored in input i
    stored_at : (i : ℕ) → i < I → get_or (circuit ws).stored i Nothing ≡ value_named ws K (get_or ws (sources + I + i) 0)
    unfolding value_named kind_of content_of
    stored_at i l =
        let v = get_or (circuit ws).stored i Nothing in
        let name : ℕ → ℕ = λ i. get_or ws (sources + I + i) 0 in
        let k : kind_of v ≡ named_word ws 4 K (name i)
        = sym (get_or-map kind_of (circuit ws).stored i Nothing) ∙ ap (λ (r : List ℕ). get_or r i 0) stored_kinds_table ∙ listed_in I (λ i. named_word ws 4 K (name i)) i 0 l in
        let b : content_of v ≡ named_word ws (4 + K) K (name i)
        = sym (get_or-map content_of (circuit ws).stored i Nothing) ∙ ap (λ (r : List ℕ). get_or r i 0) stored_contents_table ∙ listed_in I (λ i. named_word ws (4 + K) K (name i)) i 0 l in
        sym (made_again v) ∙ ap₂ value_of k b

    -- the gates, where there are as many inputs as they have
    module _ (full : I ≡ below (ins_at ws kinds) G) where
      -- an entry's setting is an input of the circuit
      setting_in : (e : ℕ) → e < G → get_or ws (kinds + e) 0 ≡ 30 → below (ins_at ws kinds) e < I
      unfolding ins_at below kinds_opened
      setting_in e l h =
          let n : ins_at ws kinds e ≡ 1 = ap (λ (k : ℕ). length (kind_at k).ins) h in
          let m : below (ins_at ws kinds) (suc e) ≤ below (ins_at ws kinds) G = below_mono (ins_at ws kinds) (suc e) G l in
          omega arith

      -- which entry names which gate
      named_alike : (g e : ℕ) → g < 64 → e < G →
          names (circuit ws).kinds (circuit ws).stored (circuit ws).first_input g e ≡ eqb (named_by ws kinds (sources + I) K e) g
      unfolding names named_by
      named_alike g e l h =
          let k : get_or (circuit ws).kinds e 0 ≡ get_or ws (kinds + e) 0
          = ap (λ (r : List ℕ). get_or r e 0) kinds_are ∙ listed_in G (λ g. get_or ws (kinds + g) 0) e 0 h in
          let f : get_or (circuit ws).first_input e 0 ≡ below (ins_at ws kinds) e
          = ap (λ (r : List ℕ). get_or r e 0) first_inputs_are ∙ listed_in G (below (ins_at ws kinds)) e 0 h in
          rw (k, f)
          (names_gate (get_or ws (kinds + e) 0) g (get_or (circuit ws).stored (below (ins_at ws kinds) e) Nothing)
          (value_named ws K (get_or ws (sources + I + below (ins_at ws kinds) e) 0)) l (λ q. stored_at (below (ins_at ws kinds) e) (setting_in e h q)))

      entries_are : (circuit ws).entries ≡ listed G (λ g. get_or (entries_found ws kinds G (sources + I) K) g 0)
      unfolding circuit word_at listed entries_found members
      entries_are =
          from_same
          (λ g. get_or (keep (names (circuit ws).kinds (circuit ws).stored (circuit ws).first_input g) (from 0 G)) 0 0)
          (λ g. get_or (entries_found ws kinds G (sources + I) K) g 0) 0 G
          (λ g a l.
          let s : g < 64 = omega (arith, z.gates) in
          ap (λ (r : List ℕ). get_or r 0 0)
          (keep_from (names (circuit ws).kinds (circuit ws).stored (circuit ws).first_input g) (λ e. eqb (named_by ws kinds (sources + I) K e) g) 0 G
          (λ e m. named_alike g e s (omega arith)))
          ∙ sym (first_named (named_by ws kinds (sources + I) K) G g s))

      gates_table :
          gate_cells (both (paired 256) (circuit ws).kinds (circuit ws).bodies) (circuit ws).ranks (both (paired 1024) (circuit ws).first_input (circuit ws).entries)
          (circuit ws).first_output
          ≡ listed G (gate_cell ws kinds G (entries_found ws kinds G (sources + I) K))
      gates_table =
          gate_table ws kinds G (entries_found ws kinds G (sources + I) K) (circuit ws).kinds (circuit ws).ranks (circuit ws).bodies (circuit ws).first_input
          (circuit ws).entries (circuit ws).first_output kinds_are ranks_are bodies_are first_inputs_are entries_are first_outputs_are

  -- ---- those of inputs: there are as many as the gates have

  module _ (full : length (circuit ws).pins ≡ I) where
    inputs_table : both (λ g w. packed g (bit w) 0 0) (circuit ws).gate_of_input (circuit ws).watched ≡ joined (listed G (input_cells ws kinds sources))
    unfolding circuit
    inputs_table = input_table ws kinds G sources I (circuit ws).kinds (circuit ws).sources kinds_are sources_are full

    inputs_are : I ≡ below (ins_at ws kinds) G
    unfolding circuit word_at ins_at
    inputs_are =
        sym full
        ∙ ap (λ (r : List ℕ). length (joined (map (λ k. (kind_at k).ins) r))) kinds_are
        ∙ ap (λ (r : List (List In)). length (joined r)) (map_listed (λ k. (kind_at k).ins) G (λ g. get_or ws (kinds + g) 0))
        ∙ joined_length G (λ g. (kind_at (get_or ws (kinds + g) 0)).ins)

    counts_table : count_cells (circuit ws) ≡ G ∷ K ∷ I ∷ O ∷ word_cells ws kinds G
    unfolding circuit count_cells word_cells named
    counts_table =
        let ks = (circuit ws).kinds in
        let a : length ks ≡ G = ap (λ (r : List ℕ). length r) kinds_are ∙ listed_length G (λ g. get_or ws (kinds + g) 0) in
        let b : length (named (circuit ws).constants) ≡ K
        = ap (λ (r : List Value). length (named r)) constants_are
        ∙ ap (λ (r : List Value). length r) (both_listed value_of K constant_kind constant_content) ∙ listed_length K (λ k. value_of (constant_kind k) (constant_content k)) in
        let t = word_within ws kinds G ks kinds_are time_source 3 4 time_within in
        let u = word_within_two ws kinds G ks kinds_are buffering 10 13 16 17 (omega arith) buffer_within in
        let v = word_within ws kinds G ks kinds_are (λ k. eqb k 14) 14 14 (one_kind 14) in
        let w = word_within ws kinds G ks kinds_are (λ k. eqb k 15) 15 15 (one_kind 15) in
        let x = word_within ws kinds G ks kinds_are receiving 26 27 receive_within in
        λ j. a j ∷ b j ∷ full j ∷ outputs_are j ∷ t j ∷ u j ∷ v j ∷ w j ∷ x j ∷ []

  -- ---- how long the tables are that are made part after part

  outputs_length : length (joined (listed G (output_cells ws kinds))) ≤ 576
  outputs_length =
      let e = below_same (λ g. length (output_cells ws kinds g)) (outs_at ws kinds) G (λ g l. sym (outputs_size ws kinds g (outs_at ws kinds g) refl)) in
      let o = outs_below ws kinds G O refl in
      omega (arith, z.gates, joined_length G (output_cells ws kinds))

  inputs_length : length (joined (listed G (input_cells ws kinds sources))) ≤ 640
  inputs_length =
      let e = below_same (λ g. length (input_cells ws kinds sources g)) (ins_at ws kinds) G (λ g l. sym (inputs_size ws kinds sources g (ins_at ws kinds g) refl)) in
      let i = ins_below ws kinds G (below (ins_at ws kinds) G) refl in
      omega (arith, z.gates, joined_length G (input_cells ws kinds sources))

  readers_length : length (joined (listed O (members (λ i. get_or ws (sources + i) 0) I))) ≤ 640
  readers_length =
      omega (arith, z.inputs, joined_length O (members (λ i. get_or ws (sources + i) 0) I), members_most (λ i. get_or ws (sources + i) 0) I O)

  calls_length : length (joined (listed O (λ o. map target (members caller C o)))) ≤ 256
  calls_length =
      let e = below_same (λ o. length (map target (members caller C o))) (λ o. length (members caller C o)) O (λ o l. length-map (members caller C o) target) in
      omega (arith, z.calls, joined_length O (λ o. map target (members caller C o)), members_most caller C O)

  -- ---- all tables, one after the other

  module _ (good : (k : ℕ) → k < K → good_constant (constant_kind k) (constant_content k) ≡ true) (full : length (circuit ws).pins ≡ I) where
    all_tables : all_written ws G K I C ≡ cells (circuit ws)
    unfolding all_written constants_written lists_written inputs_written gates_written word_cells sum table_sizes tables cells joined both
    all_tables =
        let readers : ℕ → List ℕ = members (λ i. get_or ws (sources + i) 0) I in
        let made : ℕ → List ℕ = members caller C in
        let name : ℕ → ℕ = λ i. get_or ws (sources + I + i) 0 in
        let row : ℕ → ℕ = row_of (λ o. length (readers o)) (λ o. length (made o)) in
        let o : O ≤ 9 * G = outs_below ws kinds G O refl in
        let es : List ℕ = entries_found ws kinds G (sources + I) K in
        let h = cleared table_sizes (replicate total 0) refl in
        let h = table_put table_sizes _ 0 (G ∷ K ∷ I ∷ O ∷ word_cells ws kinds G) _ _ (omega arith) refl (omega arith) refl h in
        let h = table_put table_sizes _ 1 (listed G (gate_cell ws kinds G es)) _ _ (omega arith) refl (omega (arith, z.gates, listed_length G (gate_cell ws kinds G es))) refl h in
        let h = table_put table_sizes _ 6 (joined (listed G (output_cells ws kinds))) _ _ (omega arith) refl outputs_length refl h in
        let h = table_put table_sizes _ 2 (listed I (λ i. get_or ws (sources + i) 0)) _ _ (omega arith) refl (omega (arith, z.inputs, listed_length I (λ i. get_or ws (sources + i) 0))) refl h in
        let h = table_put table_sizes _ 3 (listed I (λ i. named_word ws 4 K (name i))) _ _ (omega arith) refl (omega (arith, z.inputs, listed_length I (λ i. named_word ws 4 K (name i)))) refl h in
        let h = table_put table_sizes _ 4 (listed I (λ i. named_word ws (4 + K) K (name i))) _ _ (omega arith) refl (omega (arith, z.inputs, listed_length I (λ i. named_word ws (4 + K) K (name i)))) refl h in
        let h = table_put table_sizes _ 5 (joined (listed G (input_cells ws kinds sources))) _ _ (omega arith) refl inputs_length refl h in
        let h = table_put table_sizes _ 8 (joined (listed O readers)) _ _ (omega arith) refl readers_length refl h in
        let h = table_put table_sizes _ 9 (joined (listed O (λ o. map target (made o)))) _ _ (omega arith) refl calls_length refl h in
        let h = table_put table_sizes _ 7 (listed O row) _ _ (omega arith) refl (omega (arith, z.gates, listed_length O row)) refl h in
        let h = table_put table_sizes _ 10 (listed K constant_kind) _ _ (omega arith) refl (omega (arith, z.constants, listed_length K constant_kind)) refl h in
        let h = table_put table_sizes _ 11 (listed K constant_content) _ _ (omega arith) refl (omega (arith, z.constants, listed_length K constant_content)) refl h in
        h.cells
        ∙ sym
        (λ j. joined (
        table_of 16 (counts_table full j)
        ∷ table_of 64 (gates_table good (inputs_are full) j)
        ∷ table_of 640 (sources_table j)
        ∷ table_of 640 (stored_kinds_table good j)
        ∷ table_of 640 (stored_contents_table good j)
        ∷ table_of 640 (inputs_table full j)
        ∷ table_of 576 (outputs_table j)
        ∷ table_of 576 (rows_table j)
        ∷ table_of 640 (joined (readers_are j))
        ∷ table_of 256 (calls_table j)
        ∷ table_of 64 (constant_kinds_table good j)
        ∷ table_of 64 (constant_contents_table good j)
        ∷ []))

-- ---- where questions 1 to 3 are answered yes

-- each number of a list whose members are within a range
each_most : (n low high : ℕ) (f : ℕ → ℕ) (xs : List ℕ) → xs ≡ listed n f → all (within low high) xs ≡ true → (i : ℕ) → i < n → f i ≤ high
each_most n low high f xs e h i l =
    omega (arith, all_within low high xs h i, ap (λ (r : List ℕ). get_or r i 0) e, listed_in n f i 0 l)

module _ (bytes ws : List ℕ) (q₁ : question_1 bytes ws ≡ true) (q₃ : question_3 ws (circuit ws) ≡ true) where
  in_range : (all (within 1 31) (circuit ws).kinds ≡ true) × (all (within 0 64) (circuit ws).bodies ≡ true)
  unfolding question_3
  in_range =
      both_true (all (within 1 31) (circuit ws).kinds) (all (within 0 64) (circuit ws).bodies)
      (both_true (all (within 1 31) (circuit ws).kinds && all (within 0 64) (circuit ws).bodies) _ q₃).0

  -- a kind and a body are below 256
  pub small_kinds : (g k : ℕ) → g ≡ get_or ws 0 0 → k ≡ get_or ws 1 0 → Small ws (4 + 2 * k) g 256
  small_kinds g k eg ek i h =
      let z = sizes bytes ws q₁ in
      let m = each_most (G ws z) 1 31 (λ g. get_or ws (kinds ws z + g) 0) (circuit ws).kinds (kinds_are ws z) in_range.0 i (omega arith) in
      rw ek (omega arith)

  pub small_places : (g k : ℕ) → g ≡ get_or ws 0 0 → k ≡ get_or ws 1 0 → Small ws (4 + 2 * k + g) g 16777216
  small_places g k eg ek i h =
      let z = sizes bytes ws q₁ in
      let m = each_most (G ws z) 0 64 (λ g. get_or ws (kinds ws z + G ws z + g) 0 / 65536) (circuit ws).bodies (bodies_are ws z) in_range.1 i (omega arith) in
      rw (ek, eg) (omega arith)

  full : length (circuit ws).pins ≡ get_or ws 2 0
  full =
      let z = sizes bytes ws q₁ in
      sym (filled bytes ws q₁ q₃).sources ∙ ap (λ (r : List (Option ℕ)). length r) (sources_are ws z) ∙ listed_length (get_or ws 2 0) (λ i. source_of (get_or ws (sources ws z + i) 0))

  -- the inputs are those of the gates
  pub inputs_all : (g k i : ℕ) → g ≡ get_or ws 0 0 → k ≡ get_or ws 1 0 → i ≡ get_or ws 2 0 → i ≡ below (ins_at ws (4 + 2 * k)) g
  inputs_all g k i eg ek ei = rw (eg, ek, ei) (inputs_are ws (sizes bytes ws q₁) full)

  -- what the builder writes is `cells` of the circuit
  pub built : (l₁ : List ℕ) (g k i n : ℕ) → question_2 ws ≡ true → g ≡ get_or ws 0 0 → k ≡ get_or ws 1 0 → i ≡ get_or ws 2 0 → n ≡ get_or ws 3 0 →
      l₁ ≡ all_written ws g k i n → l₁ ≡ cells (circuit ws)
  unfolding question_2 yes_all word_at
  built l₁ g k i n q₂ eg ek ei en e =
      let z = sizes bytes ws q₁ in
      let t : ℕ → Bool = λ j. good_constant (constant_kind ws z j) (constant_content ws z j) in
      let bs : both good_constant (part ws 4 (get_or ws 1 0)) (part ws (4 + get_or ws 1 0) (get_or ws 1 0)) ≡ listed (get_or ws 1 0) t
      = (λ j. both good_constant (part_listed ws 4 (get_or ws 1 0) (omega (arith, z.counted)) j) (part_listed ws (4 + get_or ws 1 0) (get_or ws 1 0) (omega (arith, z.counted)) j))
      ∙ both_listed good_constant (get_or ws 1 0) (constant_kind ws z) (constant_content ws z) in
      let good : (j : ℕ) → j < get_or ws 1 0 → t j ≡ true
      = λ j h. sym (listed_in (get_or ws 1 0) t j true h)
      ∙ all_places (listed (get_or ws 1 0) t) (ap (λ (r : List Bool). all (λ b. b) r) (sym bs) ∙ q₂) j in
      e ∙ (λ j. all_written ws (eg j) (ek j) (ei j) (en j)) ∙ all_tables ws z good full
