-- The eleven questions, in the order in which they are asked: 1 to 5, 19, 6 to 10. A word is held as its 64 bits: a negative one is 2^63 or more, so it lies above every bound here.
use Rattle.std.specs.Prelude.{ℕ, zero, suc, ◌+◌, ◌-◌, ◌*◌, ◌/◌, ◌%◌, max, Bool, true, false, not, ◌&&◌, ◌||◌, List, map, leb, ltb, eqb, length, get_or}
use Rattle.std.proofs.Math.Option.{Option, none, some}
use Rattle.std.specs.Float.{nan, inf, fin, binary64}
use Rattle.std.specs.Float.Ieee.{of_bits}
use Rattle.words.specs.Words.{words}
use Rattle.model.specs.declared.Value.{Value}
use Rattle.model.specs.declared.Value.TheVariants.{Nothing, Int, Float, Bool as Truth}
use Rattle.model.specs.Base.{if◌then◌otherwise◌, keep, all, both, from, sum}
use Rattle.model.specs.Value.{le64, kind-Int, kind-Float, kind-Bool}
use Rattle.model.specs.Kinds.{In, value, Setting, anything, ticks, seconds, variable, channel, loop, fires, shows, passes, kind_at, Var, QueueInTicks, QueueInSeconds, WorldEvent, Loop, pure}
use Rattle.model.specs.Circuit.{Circuit, circuit, part, word_at, minus_one, names, kind_of_gate, body_of_gate, inputs_of, gate_at_input, source, stored_in, gate_at_output, calls_of, gates, gates_of}
use Rattle.model.specs.Script.{most_ticks}

-- low to high
unfoldable pub within : ℕ → ℕ → ℕ → Bool
within low high w = leb low w && leb w high

-- neither an infinity nor a NaN
unfoldable pub finite : ℕ → Bool
finite b = elim (of_bits binary64 b) [ nan ↦ false | inf s ↦ false | fin s m e ↦ true ]

-- all were answered yes
unfoldable pub yes_all : List Bool → Bool
yes_all bs = all (λ b. b) bs

-- 1. Are the bytes whole words, at least four, G 1 to 64, K 0 to 64, I 0 to 640, C 0 to 256, and the length as these give?
unfoldable pub question_1 : List ℕ → List ℕ → Bool
question_1 bytes ws =
    eqb (length bytes % 8) 0 && leb 4 (length ws)
    && within 1 64 (word_at ws 0) && within 0 64 (word_at ws 1) && within 0 640 (word_at ws 2) && within 0 256 (word_at ws 3)
    && eqb (length ws) (4 + 2 * (word_at ws 0 + word_at ws 1 + word_at ws 2 + word_at ws 3))

-- 2. Is each constant of kind 1 to 3, a Float finite, a Bool 0 or 1?
unfoldable pub good_constant : ℕ → ℕ → Bool
good_constant k b = if eqb k kind-Int then true otherwise if eqb k kind-Float then finite b otherwise if eqb k kind-Bool then within 0 1 b otherwise false

-- of all constants
unfoldable pub question_2 : List ℕ → Bool
question_2 ws = yes_all (both good_constant (part ws 4 (word_at ws 1)) (part ws (4 + word_at ws 1) (word_at ws 1)))

-- 3. Are kinds 1 to 31, ranks 0 to 65,535, bodies 0 to 64, and is I their sum of inputs? A rank is a remainder by 65,536, so it is never more.
unfoldable pub question_3 : List ℕ → Circuit → Bool
question_3 ws c =
    all (within 1 31) c.kinds && all (within 0 64) c.bodies && eqb (sum (map (λ k. length (kind_at k).ins) c.kinds)) (word_at ws 2)

-- 4. Is each source -1 or a value output, each stored 0 to K, at most one of the two given, no constant on an E, no source on an S or a kind 11 or 13 Input,
-- each setting as it has to be?
unfoldable pub value_output : Circuit → ℕ → Bool
value_output c o = ltb o (length c.outputs) && (elim (get_or c.outputs o fires) [ fires ↦ false | shows ↦ true | passes ↦ true ])

-- an Int that passes the test
unfoldable pub int_such_that : (ℕ → Bool) → Value → Bool
int_such_that p Nothing = false
int_such_that p (Int b) = p b
int_such_that p (Float b) = false
int_such_that p (Truth t) = false

-- an Int or nothing
unfoldable pub int_or_nothing : Value → Bool
int_or_nothing Nothing = true
int_or_nothing (Int b) = true
int_or_nothing (Float b) = false
int_or_nothing (Truth t) = false

-- a Float or nothing
unfoldable pub float_or_nothing : Value → Bool
float_or_nothing Nothing = true
float_or_nothing (Int b) = false
float_or_nothing (Float b) = true
float_or_nothing (Truth t) = false

-- initial anything; tick waits Int or nothing; seconds Float or nothing; variable the Int number of a kind-5 gate; channel an Int 0 to 255; loop the Int number
-- of a kind-29 gate
unfoldable pub good_setting : Circuit → Setting → Value → Bool
good_setting c anything v = true
good_setting c ticks v = int_or_nothing v
good_setting c seconds v = float_or_nothing v
good_setting c variable v = int_such_that (λ g. eqb (kind_of_gate c g) Var) v
good_setting c channel v = int_such_that (within 0 255) v
good_setting c loop v = int_such_that (λ g. eqb (kind_of_gate c g) Loop) v

-- 0 to K: the constants are named 1 to K, and 0 is nothing
unfoldable pub names_constant : Circuit → ℕ → Bool
names_constant c k = ltb k (length c.constants)

-- of an input, its words for source and stored, and the value stored
unfoldable pub good_input : Circuit → In → ℕ → ℕ → Value → Bool
good_input c pin src k v =
    (if eqb src minus_one then true otherwise value_output c src && pin.source && eqb k 0)
    && names_constant c k && (eqb k 0 || pin.constant) && good_setting c pin.setting v

-- of all inputs
unfoldable pub question_4 : List ℕ → Circuit → Bool
question_4 ws c =
    let I = word_at ws 2 in
    let inputs = 4 + 2 * (word_at ws 1 + word_at ws 0) in
    all (λ i. good_input c (get_or c.pins i value) (word_at ws (inputs + i)) (word_at ws (inputs + I + i)) (stored_in c i)) (from 0 I)

-- 5. Does each call go from an exec output or RER_Output to an E or RER_Input?
unfoldable pub may_call : Circuit → ℕ → Bool
may_call c o = ltb o (length c.outputs) && (elim (get_or c.outputs o shows) [ fires ↦ true | shows ↦ false | passes ↦ true ])

-- E or RER_Input, by the word of a target
unfoldable pub may_be_called : Circuit → ℕ → Bool
may_be_called c t = ltb (t / 2) (length c.pins) && (get_or c.pins (t / 2) value).called

-- of all calls
unfoldable pub question_5 : List ℕ → Circuit → Bool
question_5 ws c =
    let C = word_at ws 3 in
    let calls = 4 + 2 * (word_at ws 1 + word_at ws 0 + word_at ws 2) in
    all (may_call c) (part ws calls C) && all (may_be_called c) (part ws (calls + C) C)

-- 19. Do both ends of each call lie in one body, do entries and bodies match, and do bodies form no ring?
unfoldable pub calls_inside : Circuit → ℕ → Bool
calls_inside c o = all (λ k. eqb (body_of_gate c (gate_at_output c o)) (body_of_gate c (gate_at_input c k.to))) (calls_of c o)

-- the body that gate g lies in is 0, outside, or that of a Loop
unfoldable pub in_a_body : Circuit → ℕ → Bool
in_a_body c g = eqb (body_of_gate c g) 0 || eqb (kind_of_gate c (body_of_gate c g - 1)) Loop

-- the entries that name gate g
unfoldable pub entries_of : Circuit → ℕ → List ℕ
entries_of c g = keep (names c.kinds c.stored c.first_input g) (gates c)

-- gate g, if it is a Loop, has one entry, and that lies in the Loop's own body
unfoldable pub has_entry : Circuit → ℕ → Bool
has_entry c g = not (eqb (kind_of_gate c g) Loop) || (eqb (length (entries_of c g)) 1 && all (λ e. eqb (body_of_gate c e) (suc g)) (entries_of c g))

-- going outwards from body b, from a Loop's body to the one that the Loop lies in, ends outside after n bodies at the most
unfoldable pub comes_out : Circuit → ℕ → ℕ → Bool
comes_out c zero b = eqb b 0
comes_out c (suc n) b = eqb b 0 || comes_out c n (body_of_gate c (b - 1))

-- of the calls of all outputs, and of all gates; a way outwards that meets more bodies than there are gates goes in a ring
unfoldable pub question_19 : Circuit → Bool
question_19 c =
    all (calls_inside c) (from 0 (length c.outputs)) && all (in_a_body c) (gates c) && all (has_entry c) (gates c)
    && all (λ g. comes_out c (length c.kinds) (body_of_gate c g)) (gates c)

-- 6. Is there an order in which each pure gate comes after its pure sources? In each round a gate is placed if it is not pure, or if all its sources were placed
-- before; as many rounds as there are gates place all that an order can.
unfoldable pub source_placed : Circuit → List Bool → ℕ → Bool
source_placed c placed i = elim (source c i) [ none ↦ true | some o ↦ get_or placed (gate_at_output c o) true ]

-- one round
unfoldable pub place : Circuit → List Bool → List Bool
place c placed = map (λ g. not (pure (kind_of_gate c g)) || all (source_placed c placed) (inputs_of c g)) (gates c)

-- n rounds
unfoldable pub place_on : Circuit → ℕ → List Bool → List Bool
place_on c zero placed = placed
place_on c (suc n) placed = place_on c n (place c placed)

-- all are placed in the end; at the beginning those that are not pure
unfoldable pub question_6 : Circuit → Bool
question_6 c = yes_all (place_on c (length c.kinds) (map (λ k. not (pure k)) c.kinds))

-- 7. Are there at most 8 Queues, and are the areas at least 65,536 bytes, delays times the number of Queues if above 1?
pub record Areas : Type 0 where
  pub values : ℕ
  pub units : ℕ
  pub delays : ℕ

-- Queues in ticks and in seconds together
unfoldable pub queues : Circuit → ℕ
queues c = length (gates_of c (within QueueInTicks QueueInSeconds))

-- a call that is lent no areas asks only the first half
unfoldable pub question_7 : Option Areas → Circuit → Bool
question_7 none c = leb (queues c) 8
question_7 (some a) c = leb (queues c) 8 && leb 65536 a.values && leb 65536 a.units && leb (65536 * max 1 (queues c)) a.delays

-- 8. Is the script of whole words, at least two, T 0 to 100,000, S 0 to 65,535, length as these give?
unfoldable pub question_8 : List ℕ → List ℕ → Bool
question_8 bytes ws =
    eqb (length bytes % 8) 0 && leb 2 (length ws) && within 0 most_ticks (word_at ws 0) && within 0 65535 (word_at ws 1)
    && eqb (length ws) (2 + 2 * (word_at ws 0 + word_at ws 1))

-- 9. Is each tick length finite and 0 (-0.0 too) to 3,600 (0x40AC200000000000), each count 0 to 64, their sum S?
unfoldable pub good_length : ℕ → Bool
good_length b = finite b && le64 0 b && le64 b 0x40AC200000000000

-- of all tick lengths and counts
unfoldable pub question_9 : List ℕ → Bool
question_9 ws =
    let T = word_at ws 0 in
    all good_length (part ws 2 T) && all (within 0 64) (part ws (2 + T) T) && eqb (sum (part ws (2 + T) T)) (word_at ws 1)

-- 10. Is each stimulus gate of kind 28, its constant 0 to K?
unfoldable pub question_10 : List ℕ → Circuit → Bool
question_10 ws c =
    let S = word_at ws 1 in
    let stimuli = 2 + 2 * word_at ws 0 in
    all (λ g. eqb (kind_of_gate c g) WorldEvent) (part ws stimuli S) && all (names_constant c) (part ws (stimuli + S) S)

-- The number of the first question about the circuit whose answer is no, and 0 where all are yes. `areas` is none for a call that is lent none.
unfoldable pub circuit_refusal : Option Areas → List ℕ → ℕ
circuit_refusal areas bytes =
    let ws = words bytes in
    let c = circuit ws in
    if not (question_1 bytes ws) then 1
    otherwise if not (question_2 ws) then 2
    otherwise if not (question_3 ws c) then 3
    otherwise if not (question_4 ws c) then 4
    otherwise if not (question_5 ws c) then 5
    otherwise if not (question_19 c) then 19
    otherwise if not (question_6 c) then 6
    otherwise if not (question_7 areas c) then 7
    otherwise 0

-- the same of the questions about a script for the circuit c
unfoldable pub script_refusal : Circuit → List ℕ → ℕ
script_refusal c bytes =
    let ws = words bytes in
    if not (question_8 bytes ws) then 8 otherwise if not (question_9 ws) then 9 otherwise if not (question_10 ws c) then 10 otherwise 0

-- a later question is asked only where the earlier ones were answered yes
unfoldable pub or_else : ℕ → ℕ → ℕ
or_else zero later = later
or_else (suc n) later = suc n

-- the number that a call with this circuit and script is refused with, or 0
unfoldable pub refusal : Option Areas → List ℕ → List ℕ → ℕ
refusal areas circuit_bytes script_bytes = or_else (circuit_refusal areas circuit_bytes) (script_refusal (circuit (words circuit_bytes)) script_bytes)

unfoldable pub questions_opened : ℕ
unfolding within finite yes_all question_1 good_constant question_2 question_3 value_output int_such_that int_or_nothing float_or_nothing good_setting names_constant good_input question_4 may_call may_be_called question_5 calls_inside in_a_body entries_of has_entry comes_out question_19 source_placed place place_on question_6 queues question_7 question_8 good_length question_9 question_10 circuit_refusal script_refusal or_else refusal
questions_opened = 0
