-- What the builder's own functions do. The contract of `link` cites none of it: `cells` of Links says what they make together.
use Rattle.std.specs.Prelude.{ℕ, zero, suc, ◌+◌, ◌-◌, ◌*◌, ◌/◌, ◌%◌, ◌^◌, ◌<◌, true, false, List, [], ◌∷◌, map, eqb, ltb, length, get_or, set, replicate}
use Rattle.std.proofs.lemmas.List.Edits.{sets}
use Rattle.model.specs.Base.{if◌then◌otherwise◌, keep, joined, from}
use Rattle.model.specs.declared.Value.{Value}
use Rattle.model.specs.declared.Value.TheVariants.{Nothing, Int, Float, Bool as Truth}
use Rattle.model.specs.Value.{bit, value_of}
use Rattle.model.specs.Kinds.{value, kind_at, LoopEntry}
use Rattle.model.specs.Circuit.{most_gates, rank_size, source_of, is_watched}
use Rattle.model.specs.Questions.{within}
use Rattle.linking.specs.declared.chains.Chains.{Chains}
use Rattle.links.specs.Links.{counts_at, gates_at, sources_at, stored_kinds_at, stored_contents_at, inputs_at, outputs_at, rows_at, readers_at, calls_at, constant_kinds_at, constant_contents_at, total, kind_size, input_size, listed, packed, paired}

-- n cells, from cell `base` on, become f 0, f 1, ..
abbrev pub written : List ℕ → ℕ → ℕ → (ℕ → ℕ) → List ℕ
written l base n f = sets l base (listed n f)

-- f 0 + .. + f (k - 1): where part k begins, in a row of parts of these sizes
unfoldable pub below : (ℕ → ℕ) → ℕ → ℕ
below f zero = 0
below f (suc k) = below f k + f k

-- the word of name k, where the K words from `first` on are named 1 to K, and no other
unfoldable pub named_word : List ℕ → ℕ → ℕ → ℕ → ℕ
named_word ws first K k = if eqb k 0 then 0 otherwise if ltb K k then 0 otherwise get_or ws (first + (k - 1)) 0

-- bit g, if the kind is one of low to high
unfoldable pub gate_bit : ℕ → ℕ → ℕ → ℕ → ℕ
gate_bit low high kind g = if within low high kind then 2 ^ g otherwise 0

-- each of the n words from place a on is below m
abbrev pub Small : List ℕ → ℕ → ℕ → ℕ → Type 0
Small ws a n m = (k : ℕ) → k < n → get_or ws (a + k) 0 < m

-- each of the first n numbers of the list can be a gate's
abbrev pub Gates : List ℕ → ℕ → Type 0
Gates es n = (g : ℕ) → g < n → get_or es g 0 < most_gates

-- ---- lists as chains

-- Chain o begins with heads[o], and next[i] comes behind i. What is no place of `next` ends a chain.
abbrev pub chains : List ℕ → List ℕ → Chains
chains heads next = record { heads = heads; next = next }

-- room for chains
abbrev pub blank : Chains
blank = chains (replicate 576 0) (replicate 640 0)

-- no number is in any chain
abbrev pub no_chains : Chains
no_chains = chains (replicate 576 640) (replicate 640 640)

-- i comes first in chain k
unfoldable pub chained : Chains → ℕ → ℕ → Chains
chained c i k = record { heads = set c.heads k i; next = set c.next i (get_or c.heads k 0) }

-- the numbers below n, from the last down, each in the chain of its key
unfoldable pub all_chained : (ℕ → ℕ) → ℕ → Chains → Chains
all_chained key zero c = c
all_chained key (suc i) c = all_chained key i (chained c i (key i))

-- n members at most, from p on
unfoldable pub chain : List ℕ → ℕ → ℕ → List ℕ
chain next zero p = []
chain next (suc n) p = elim (ltb p (length next)) [ true ↦ p ∷ chain next n (get_or next p 0) | false ↦ [] ]

-- chain o, of 640 members at most
unfoldable pub chain_at : Chains → ℕ → List ℕ
chain_at c o = chain c.next 640 (get_or c.heads o 0)

-- how many they are
unfoldable pub size_at : Chains → ℕ → ℕ
size_at c o = length (chain_at c o)

-- what is written of member i: word `targets` + i, or i itself where `targets` is 0
unfoldable pub target : List ℕ → ℕ → ℕ → ℕ
target ws targets i = if eqb targets 0 then i otherwise get_or ws (targets + i) 0

-- the row of output o: where its readers begin and how many they are, and the same of its calls
unfoldable pub row_of : (ℕ → ℕ) → (ℕ → ℕ) → ℕ → ℕ
row_of readers calls o = packed (below readers o) (readers o) (below calls o) (calls o)

-- the numbers below n whose key is o, ascending
unfoldable pub members : (ℕ → ℕ) → ℕ → ℕ → List ℕ
members key n o = keep (λ i. eqb (key i) o) (from 0 n)

-- the tables of readers, calls and rows of O outputs: the sources of I inputs are the words from `sources` on, C calls come from the outputs of the words
-- from `calls` on, and their targets stand behind these
unfoldable pub lists_written : List ℕ → ℕ → ℕ → ℕ → ℕ → ℕ → List ℕ → List ℕ
lists_written ws sources I calls C O l =
    let readers = members (λ i. get_or ws (sources + i) 0) I in
    let made = members (λ i. get_or ws (calls + i) 0) C in
    written
    (sets (sets l readers_at (joined (listed O readers))) calls_at (joined (listed O (λ o. map (λ i. get_or ws (calls + C + i) 0) (made o)))))
    rows_at O (row_of (λ o. length (readers o)) (λ o. length (made o)))

-- ---- gate by gate: the kinds of the gates are the words from `kinds` on

-- how many inputs and how many outputs gate g has
unfoldable pub ins_at : List ℕ → ℕ → ℕ → ℕ
ins_at ws kinds g = length (kind_at (get_or ws (kinds + g) 0)).ins

unfoldable pub outs_at : List ℕ → ℕ → ℕ → ℕ
outs_at ws kinds g = length (kind_at (get_or ws (kinds + g) 0)).outs

-- the word of those of n gates whose kind is one of low to high
unfoldable pub bits_of : List ℕ → ℕ → ℕ → ℕ → ℕ → ℕ
bits_of ws kinds n low high = below (λ g. gate_bit low high (get_or ws (kinds + g) 0) g) n

-- the cell of gate g; behind the kinds of n gates stand the words of their ranks and bodies, and `es` are the entries
unfoldable pub gate_cell : List ℕ → ℕ → ℕ → List ℕ → ℕ → ℕ
gate_cell ws kinds n es g =
    let place = get_or ws (kinds + n + g) 0 in
    packed (paired kind_size (get_or ws (kinds + g) 0) (place / rank_size)) (place % rank_size) (paired input_size (below (ins_at ws kinds) g) (get_or es g 0))
    (below (outs_at ws kinds) g)

-- the cell of input p of gate g, of this kind, by the word of its source
unfoldable pub input_cell : ℕ → ℕ → ℕ → ℕ → ℕ
input_cell kind g source p = packed g (bit (is_watched (get_or (kind_at kind).ins p value) (source_of source))) 0 0

-- the cells of the inputs of gate g; the sources of all inputs are the words from `sources` on
unfoldable pub input_cells : List ℕ → ℕ → ℕ → ℕ → List ℕ
input_cells ws kinds sources g =
    listed (ins_at ws kinds g) (λ p. input_cell (get_or ws (kinds + g) 0) g (get_or ws (sources + below (ins_at ws kinds) g + p) 0) p)

-- the cells of the outputs of gate g
unfoldable pub output_cells : List ℕ → ℕ → ℕ → List ℕ
output_cells ws kinds g = listed (outs_at ws kinds g) (λ p. g)

-- ---- entries: where the names of the constants in the inputs are the words from `stored` on

-- the constant named k of K, and nothing where there is none
unfoldable pub value_named : List ℕ → ℕ → ℕ → Value
value_named ws K k = value_of (named_word ws 4 K k) (named_word ws (4 + K) K k)

-- the gate whose number a value is; 64, which is no gate's, for what is no Int
unfoldable pub gate_of : Value → ℕ
gate_of Nothing = most_gates
gate_of (Int g) = g
gate_of (Float b) = most_gates
gate_of (Truth t) = most_gates

-- the gate that one of this kind names by its setting, if it is an entry
unfoldable pub gate_named : ℕ → Value → ℕ
gate_named kind v = if eqb kind LoopEntry then gate_of v otherwise most_gates

-- the gate that gate e names
unfoldable pub named_by : List ℕ → ℕ → ℕ → ℕ → ℕ → ℕ
named_by ws kinds stored K e = gate_named (get_or ws (kinds + e) 0) (value_named ws K (get_or ws (stored + below (ins_at ws kinds) e) 0))

-- the gates below n, from the last down, each written down at the gate that it names
unfoldable pub entered : (ℕ → ℕ) → ℕ → List ℕ → List ℕ
entered named zero es = es
entered named (suc e) es = entered named e (set es (named e) e)

-- the entries of n gates
unfoldable pub entries_found : List ℕ → ℕ → ℕ → ℕ → ℕ → List ℕ
entries_found ws kinds n stored K = entered (named_by ws kinds stored K) n (replicate most_gates 0)

-- ---- the tables together, of G gates, K constants, I inputs, C calls and O outputs

-- the words of gates, in the order of `count_cells`
unfoldable pub word_cells : List ℕ → ℕ → ℕ → List ℕ
word_cells ws kinds G =
    bits_of ws kinds G 3 4 ∷ (bits_of ws kinds G 10 13 + bits_of ws kinds G 16 17) ∷ bits_of ws kinds G 14 14 ∷ bits_of ws kinds G 15 15 ∷ bits_of ws kinds G 26 27 ∷ []

-- counts, gates and outputs
unfoldable pub gates_written : List ℕ → ℕ → ℕ → ℕ → ℕ → ℕ → ℕ → List ℕ → List ℕ
gates_written ws kinds G stored K I O l =
    sets
    (written (sets (sets l counts_at (G ∷ K ∷ I ∷ O ∷ [])) (counts_at + 4) (word_cells ws kinds G)) gates_at G
    (gate_cell ws kinds G (entries_found ws kinds G stored K)))
    outputs_at (joined (listed G (output_cells ws kinds)))

-- the four tables of the inputs
unfoldable pub inputs_written : List ℕ → ℕ → ℕ → ℕ → ℕ → ℕ → List ℕ → List ℕ
inputs_written ws kinds G sources I K l =
    sets
    (written
    (written (written l sources_at I (λ i. get_or ws (sources + i) 0)) stored_kinds_at I (λ i. named_word ws 4 K (get_or ws (sources + I + i) 0)))
    stored_contents_at I (λ i. named_word ws (4 + K) K (get_or ws (sources + I + i) 0)))
    inputs_at (joined (listed G (input_cells ws kinds sources)))

-- the two tables of the constants
unfoldable pub constants_written : List ℕ → ℕ → List ℕ → List ℕ
constants_written ws K l = written (written l constant_kinds_at K (λ k. get_or ws (4 + k) 0)) constant_contents_at K (λ k. get_or ws (4 + K + k) 0)

-- all tables, in cleared cells
unfoldable pub all_written : List ℕ → ℕ → ℕ → ℕ → ℕ → List ℕ
all_written ws G K I C =
    let kinds = 4 + 2 * K in
    let sources = kinds + 2 * G in
    let calls = sources + 2 * I in
    let O = below (outs_at ws kinds) G in
    constants_written ws K
    (lists_written ws sources I calls C O (inputs_written ws kinds G sources I K (gates_written ws kinds G (sources + I) K I O (replicate total 0))))
