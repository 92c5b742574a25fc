-- What a look-up in the links gives: one law for each way out of each function.
use Prim.Native.Nat.{ℕ, zero, suc, ◌+◌, ◌-◌, ◌/◌, ◌%◌, ◌≤◌, ◌<◌, min}
use mathlib.Core.Path.{◌≡◌, refl, sym, ap, ap₂, ◌∙◌}
use mathlib.Core.Bool.{true, false}
use mathlib.Core.List.{List, [], ◌∷◌, map}
use mathlib.Core.Option.{none, some}
use native.Mathlib.Omega.{arith}
use native.Mathlib.Numerals.{add-one}
use lib.Dec.{eqb}
use lib.ListN.{length, get_or, length-map, get_or-eq_default}
use borrow.Author.Tests.{eq-eqb, ne_eqb}
use Rattle.model.specs.Base.{if◌then◌otherwise◌, each, from}
use Rattle.model.specs.Circuit.{minus_one, source_of, kind_of_gate, rank_of_gate, body_of_gate, entry_of_loop, input, output, gate_at_input, source, gate_at_output, watching, stored_in, setting, readers_of, calls_of, Call}
use Rattle.model.specs.declared.Value.{Value}
use Rattle.model.specs.declared.Value.TheVariants.{Nothing}
use Rattle.model.specs.Value.{value_of}
use Rattle.model.specs.Kinds.{In, value, Out, fires, kind_at}
use Rattle.model.proofs.Lists.{map_from, from_length}
use Rattle.links.specs.Links.{gates_at, sources_at, stored_kinds_at, stored_contents_at, inputs_at, outputs_at, rows_at, readers_at, calls_at, constant_kinds_at, constant_contents_at, entries, digit, listed, cell, gate_digit, gate_kind as kind_digit, gate_body as body_digit, gate_first, gate_entry, input_digit, row_digit, kind_in, net, row_at, first_reader, reader_count, reader_at, first_call, call_count, target, call_of, gates_of_word}

-- ---- a list by its elements

module _ {A : Type 0} (n : ℕ) (f : ℕ → A) where
  pub listed_length : length (listed n f) ≡ n
  unfolding listed
  listed_length = length-map (from 0 n) f ∙ from_length 0 n

  pub listed_in : (i : ℕ) (d : A) → i < n → get_or (listed n f) i d ≡ f i
  unfolding listed
  listed_in i d h = map_from f 0 n i d h ∙ ap f (omega arith)

  pub listed_out : (i : ℕ) (d : A) → n ≤ i → get_or (listed n f) i d ≡ d
  listed_out i d h = get_or-eq_default (listed n f) d {n = i} (omega (arith, listed_length))

map_over : {A B : Type 0} (h : A → B) (f : ℕ → A) (xs : List ℕ) (i : ℕ) (d : A) → get_or (map (λ j. h (f j)) xs) i (h d) ≡ h (get_or (map f xs) i d)
map_over h f [] i d = refl
map_over h f (x ∷ xs) zero d = refl
map_over h f (x ∷ xs) (suc i) d = map_over h f xs i d

-- what is worked out of an element, where the default gives the default
pub listed_over :
    {A B : Type 0} (h : A → B) (n : ℕ) (f : ℕ → A) (i : ℕ) (d x : A) → x ≡ get_or (listed n f) i d → h x ≡ get_or (listed n (λ j. h (f j))) i (h d)
unfolding listed
listed_over h n f i d x e = ap h e ∙ sym (map_over h f (from 0 n) i d)

-- ---- cells and entries

pub past_cells : (l : List ℕ) (i : ℕ) → length l ≤ i → 0 ≡ cell l i
past_cells l i h = sym (get_or-eq_default l 0 {n = i} h)

pub entry_in :
    (l : List ℕ) (n m a i d : ℕ) → i < m → i < cell l n → cell l (a + i) ≡ get_or (entries l n m a) i d
entry_in l n m a i d h k = sym (listed_in (min (cell l n) m) (λ j. cell l (a + j)) i d (omega arith))

pub entry_out : (l : List ℕ) (n m a i d : ℕ) → min (cell l n) m ≤ i → d ≡ get_or (entries l n m a) i d
entry_out l n m a i d h = sym (listed_out (min (cell l n) m) (λ j. cell l (a + j)) i d h)

-- ---- counts

module _ (l : List ℕ) (x : ℕ) where
  pub gates_counted : x ≡ min (cell l 0) 64 → (x ≡ length (net l).kinds) × (x ≤ 64)
  unfolding net
  gates_counted e = (e ∙ sym (listed_length _ _), omega arith)

  pub inputs_counted : x ≡ min (cell l 2) 640 → (x ≡ length (net l).pins) × (x ≤ 640)
  unfolding net
  inputs_counted e = (e ∙ sym (listed_length _ _), omega arith)

  pub outputs_counted : x ≡ min (cell l 3) 576 → (x ≡ length (net l).outputs) × (x ≤ 576)
  unfolding net
  outputs_counted e = (e ∙ sym (listed_length _ _), omega arith)

  pub constants_counted : x ≡ min (cell l 1) 64 → (x + 1 ≡ length (net l).constants) × (x + 1 ≤ 65)
  unfolding net
  constants_counted e = (add-one x ∙ ap suc (e ∙ sym (listed_length _ _)), omega arith)

-- ---- digits

first_digit : (x : ℕ) → x % 65536 ≡ digit 0 x
unfolding digit
first_digit x = omega arith

module _ (l : List ℕ) (g x : ℕ) (e : x ≡ get_or (entries l 0 64 gates_at) g 0) where
  pub gate_kind : x % 65536 % 256 ≡ kind_of_gate (net l) g
  unfolding kind_of_gate net kind_digit gate_digit digit
  gate_kind = ap (λ d. d % 256) (first_digit x) ∙ listed_over (λ y. digit 0 y % 256) _ _ g 0 x e

  pub gate_body : x % 65536 / 256 ≡ body_of_gate (net l) g
  unfolding body_of_gate net body_digit gate_digit digit
  gate_body = ap (λ d. d / 256) (first_digit x) ∙ listed_over (λ y. digit 0 y / 256) _ _ g 0 x e

  pub gate_rank : x / 65536 % 65536 ≡ rank_of_gate (net l) g
  unfolding rank_of_gate net gate_digit digit
  gate_rank = listed_over (digit 1) _ _ g 0 x e

  pub loop_entry : x / 4294967296 % 65536 / 1024 ≡ entry_of_loop (net l) g
  unfolding entry_of_loop net gate_entry gate_digit digit
  loop_entry = listed_over (λ y. digit 2 y / 1024) _ _ g 0 x e

  pub gate_input : (p : ℕ) → p < 65536 → (x / 4294967296 % 65536 % 1024 + p ≡ input (net l) g p) × (x / 4294967296 % 65536 % 1024 + p < 131072)
  unfolding input net gate_first gate_digit digit
  gate_input p h = (ap (λ a. a + p) (listed_over (λ y. digit 2 y % 1024) _ _ g 0 x e), omega arith)

  pub gate_output : (p : ℕ) → p < 65536 → (x / 281474976710656 % 65536 + p ≡ output (net l) g p) × (x / 281474976710656 % 65536 + p < 131072)
  unfolding output net gate_digit digit
  gate_output p h = (ap (λ a. a + p) (listed_over (digit 3) _ _ g 0 x e), omega arith)

-- a rank has the 16 bits of a digit
pub rank_small : (l : List ℕ) (g : ℕ) → rank_of_gate (net l) g < 65536
rank_small l g = let x = get_or (entries l 0 64 gates_at) g 0 in omega (arith, gate_rank l g x refl)

module _ (l : List ℕ) (i x : ℕ) (e : x ≡ get_or (entries l 2 640 inputs_at) i 0) where
  pub input_gate : x % 65536 ≡ gate_at_input (net l) i
  unfolding gate_at_input net input_digit digit
  input_gate = first_digit x ∙ listed_over (digit 0) _ _ i 0 x e

  pub input_watched : eqb (x / 65536 % 65536) 1 ≡ watching (net l) i
  unfolding watching net input_digit digit
  input_watched = listed_over (λ y. eqb (digit 1 y) 1) _ _ i 0 x e

module _ (l : List ℕ) (o x : ℕ) (e : x ≡ get_or (entries l 3 576 rows_at) o 0) where
  pub row_first_reader : (x % 65536 ≡ first_reader l o) × (x % 65536 < 65536)
  unfolding first_reader row_at row_digit digit
  row_first_reader = (first_digit x ∙ listed_over (digit 0) _ _ o 0 x e, omega arith)

  pub row_reader_count : (x / 65536 % 65536 ≡ reader_count l o) × (x / 65536 % 65536 < 65536)
  unfolding reader_count row_at row_digit digit
  row_reader_count = (listed_over (digit 1) _ _ o 0 x e, omega arith)

  pub row_first_call : (x / 4294967296 % 65536 ≡ first_call l o) × (x / 4294967296 % 65536 < 65536)
  unfolding first_call row_at row_digit digit
  row_first_call = (listed_over (digit 2) _ _ o 0 x e, omega arith)

  pub row_call_count : (x / 281474976710656 % 65536 ≡ call_count l o) × (x / 281474976710656 % 65536 < 65536)
  unfolding call_count row_at row_digit digit
  row_call_count = (listed_over (digit 3) _ _ o 0 x e, omega arith)

-- ---- what an input reads

module _ (l : List ℕ) (i x : ℕ) (e : x ≡ get_or (entries l 2 640 sources_at) i minus_one) where
  source_known : source_of x ≡ source (net l) i
  unfolding source net source_of if◌then◌otherwise◌
  source_known = listed_over source_of _ _ i minus_one x e

  pub source_none : x ≡ minus_one → none ≡ source (net l) i
  unfolding source_of if◌then◌otherwise◌
  source_none h = let q : eqb x minus_one ≡ true = eq-eqb x minus_one h in sym (rw q) ∙ source_known

  pub source_some : (x ≡ minus_one → ⊥) → some x ≡ source (net l) i
  unfolding source_of if◌then◌otherwise◌
  source_some h = let q : eqb x minus_one ≡ false = ne_eqb x minus_one h in sym (rw q) ∙ source_known

pub output_gate :
    (l : List ℕ) (o x : ℕ) → x ≡ get_or (entries l 3 576 outputs_at) o 0 → x ≡ gate_at_output (net l) o
unfolding gate_at_output net
output_gate l o x e = e

-- ---- values by kind and content

values_over :
    (a b : ℕ → ℕ) (xs : List ℕ) (i : ℕ) → value_of (get_or (map a xs) i 0) (get_or (map b xs) i 0) ≡ get_or (map (λ j. value_of (a j) (b j)) xs) i Nothing
unfolding value_of
values_over a b [] i = refl
values_over a b (x ∷ xs) zero = refl
values_over a b (x ∷ xs) (suc i) = values_over a b xs i

value_at :
    (n : ℕ) (a b : ℕ → ℕ) (i k c : ℕ) (r : Value) → k ≡ get_or (listed n a) i 0 → c ≡ get_or (listed n b) i 0 → r ≡ value_of k c →
    r ≡ get_or (listed n (λ j. value_of (a j) (b j))) i Nothing
unfolding listed
value_at n a b i k c r ek ec e = e ∙ ap₂ value_of ek ec ∙ values_over a b (from 0 n) i

pub input_stored :
    (l : List ℕ) (i k c : ℕ) (r : Value) → k ≡ get_or (entries l 2 640 stored_kinds_at) i 0 →
    c ≡ get_or (entries l 2 640 stored_contents_at) i 0 → r ≡ value_of k c → r ≡ stored_in (net l) i
unfolding stored_in net
input_stored l i k c r ek ec e = value_at (min (cell l 2) 640) _ _ i k c r ek ec e

pub gate_setting : (l : List ℕ) (g p i : ℕ) (r : Value) → (i ≡ input (net l) g p) × (i < 131072) → r ≡ stored_in (net l) i → r ≡ setting (net l) g p
unfolding setting
gate_setting l g p i r e h = h ∙ ap (stored_in (net l)) e.0

pub constant_none : (l : List ℕ) (k : ℕ) → k ≡ 0 → Nothing ≡ get_or (net l).constants k Nothing
unfolding net
constant_none l k e = rw e refl

pub constant_some :
    (l : List ℕ) (k x c : ℕ) (r : Value) → (k ≡ 0 → ⊥) → x ≡ get_or (entries l 1 64 constant_kinds_at) (k - 1) 0 →
    c ≡ get_or (entries l 1 64 constant_contents_at) (k - 1) 0 → r ≡ value_of x c → r ≡ get_or (net l).constants k Nothing
unfolding net
constant_some l zero x c r h ex ec e = absurd (h refl)
constant_some l (suc k) x c r h ex ec e =
    let q : suc k - 1 ≡ k = omega arith in
    value_at (min (cell l 1) 64) _ _ k x c r (rw q at ex) (rw q at ec) e

-- ---- what an input and an output is

digit_two : (x : ℕ) → x / 4294967296 % 65536 ≡ digit 2 x
unfolding digit
digit_two x = refl

digit_three : (x : ℕ) → x / 281474976710656 % 65536 ≡ digit 3 x
unfolding digit
digit_three x = refl

module _ (l : List ℕ) (i n : ℕ) where
  pub pin_none : (n ≡ length (net l).pins) × (n ≤ 640) → n ≤ i → value ≡ get_or (net l).pins i value
  pin_none e h = sym (get_or-eq_default (net l).pins value {n = i} (omega (arith, e.0)))

  pub pin_some :
      (x e p : ℕ) (r : In) → (n ≡ length (net l).pins) × (n ≤ 640) → i < n →
      x ≡ get_or (entries l 2 640 inputs_at) i 0 → e ≡ cell l (gates_at + x % 65536) → p ≡ i - e / 4294967296 % 65536 % 1024 →
      r ≡ get_or (kind_at (e % 65536 % 256)).ins p value → r ≡ get_or (net l).pins i value
  unfolding net kind_in kind_digit gate_first gate_digit input_digit
  pin_some x e p r en h ex ee ep er =
      let m : n ≡ min (cell l 2) 640 = en.0 ∙ listed_length _ _ in
      let k : i < min (cell l 2) 640 = omega arith in
      let q : x ≡ cell l (inputs_at + i) = ex ∙ listed_in (min (cell l 2) 640) (λ j. cell l (inputs_at + j)) i 0 k in
      let g : e ≡ cell l (gates_at + digit 0 (cell l (inputs_at + i))) = ee ∙ ap (λ y. cell l (gates_at + y)) (first_digit x ∙ ap (digit 0) q) in
      er
      ∙ ap₂ (λ a b. get_or (kind_at (a % 256)).ins b value) (first_digit e ∙ ap (digit 0) g) (ep ∙ ap (λ y. i - y % 1024) (digit_two e ∙ ap (digit 2) g))
      ∙ sym (listed_in (min (cell l 2) 640) _ i value k)

  pub out_none : (n ≡ length (net l).outputs) × (n ≤ 576) → n ≤ i → fires ≡ get_or (net l).outputs i fires
  out_none e h = sym (get_or-eq_default (net l).outputs fires {n = i} (omega (arith, e.0)))

  pub out_some :
      (x e p : ℕ) (r : Out) → (n ≡ length (net l).outputs) × (n ≤ 576) → i < n → x ≡ gate_at_output (net l) i → e ≡ cell l (gates_at + x) →
      p ≡ i - e / 281474976710656 % 65536 → r ≡ get_or (kind_at (e % 65536 % 256)).outs p fires → r ≡ get_or (net l).outputs i fires
  unfolding net kind_in kind_digit gate_digit gate_at_output
  out_some x e p r en h ex ee ep er =
      let m : n ≡ min (cell l 3) 576 = en.0 ∙ listed_length _ _ in
      let k : i < min (cell l 3) 576 = omega arith in
      let q : x ≡ cell l (outputs_at + i) = ex ∙ listed_in (min (cell l 3) 576) (λ j. cell l (outputs_at + j)) i 0 k in
      let g : e ≡ cell l (gates_at + cell l (outputs_at + i)) = ee ∙ ap (λ y. cell l (gates_at + y)) q in
      er
      ∙ ap₂ (λ a b. get_or (kind_at (a % 256)).outs b fires) (first_digit e ∙ ap (digit 0) g) (ep ∙ ap (λ y. i - y) (digit_three e ∙ ap (digit 3) g))
      ∙ sym (listed_in (min (cell l 3) 576) _ i fires k)

-- ---- readers and calls, row by row

map_from_on : {A : Type 0} (f : ℕ → A) (a b n : ℕ) → map (λ k. f (a + k)) (from b n) ≡ map f (from (a + b) n)
unfolding from
map_from_on f a b zero = refl
map_from_on f a b (suc n) =
    let q : a + suc b ≡ suc (a + b) = omega arith in
    ap (λ ys. f (a + b) ∷ ys) (map_from_on f a (suc b) n ∙ ap (λ k. map f (from k n)) q)

-- so many, from the a-th on
pub listed_from : {A : Type 0} (f : ℕ → A) (a n : ℕ) → listed n (λ k. f (a + k)) ≡ map f (from a n)
unfolding listed
listed_from f a n = map_from_on f a 0 n ∙ ap (λ k. map f (from k n)) (omega arith)

-- what is done with each of a list that is worked out of another
pub each_map : {A B C : Type 0} (f : B → C → B) (h : A → C) (b : B) (xs : List A) → each f b (map h xs) ≡ each (λ b x. f b (h x)) b xs
unfolding each
each_map f h b [] = refl
each_map f h b (x ∷ xs) = each_map f h (f b (h x)) xs

module _ (l : List ℕ) (o : ℕ) where
  row_known : (n : ℕ) → digit n 0 ≡ 0 → row_at l n o ≡ digit n (get_or (entries l 3 576 rows_at) o 0)
  unfolding row_at row_digit
  row_known n z =
      ap (λ d. get_or (listed (min (cell l 3) 576) (λ j. digit n (cell l (rows_at + j)))) o d) (sym z)
      ∙ sym (listed_over (digit n) (min (cell l 3) 576) (λ j. cell l (rows_at + j)) o 0 _ refl)

  -- the readers of output o
  pub readers_row : readers_of (net l) o ≡ map (reader_at l) (from (first_reader l o) (reader_count l o))
  unfolding readers_of net row_digit digit listed first_reader reader_count from
  readers_row =
      let x = get_or (entries l 3 576 rows_at) o 0 in
      sym (listed_over (λ y. listed (digit 1 y) (λ k. cell l (readers_at + (digit 0 y + k)))) (min (cell l 3) 576) (λ j. cell l (rows_at + j)) o 0 x refl)
      ∙ listed_from (reader_at l) (digit 0 x) (digit 1 x)
      ∙ ap₂ (λ a n. map (reader_at l) (from a n)) (sym (row_known 0 refl)) (sym (row_known 1 refl))

  -- the calls of output o
  pub calls_row : calls_of (net l) o ≡ map (λ k. call_of (target l k)) (from (first_call l o) (call_count l o))
  unfolding calls_of net row_digit digit listed first_call call_count from
  calls_row =
      let x = get_or (entries l 3 576 rows_at) o 0 in
      sym (listed_over (λ y. listed (digit 3 y) (λ k. call_of (cell l (calls_at + (digit 2 y + k))))) (min (cell l 3) 576) (λ j. cell l (rows_at + j)) o 0 x refl)
      ∙ listed_from (λ k. call_of (target l k)) (digit 2 x) (digit 3 x)
      ∙ ap₂ (λ a n. map (λ k. call_of (target l k)) (from a n)) (sym (row_known 2 refl)) (sym (row_known 3 refl))

  pub reader_count_is : reader_count l o ≡ length (readers_of (net l) o)
  reader_count_is =
      let xs = from (first_reader l o) (reader_count l o) in
      sym (ap (λ (ys : List ℕ). length ys) readers_row ∙ length-map xs (reader_at l) ∙ from_length (first_reader l o) (reader_count l o))

  pub call_count_is : call_count l o ≡ length (calls_of (net l) o)
  call_count_is =
      let xs = from (first_call l o) (call_count l o) in
      sym (ap (λ (ys : List Call). length ys) calls_row ∙ length-map xs (λ k. call_of (target l k)) ∙ from_length (first_call l o) (call_count l o))

-- ---- words of gates

module _ (l : List ℕ) where
  pub time_sources_of : gates_of_word (cell l 4) ≡ (net l).time_sources
  unfolding net
  time_sources_of = refl

  pub buffers_of : gates_of_word (cell l 5) ≡ (net l).buffers
  unfolding net
  buffers_of = refl

  pub clocks_of : gates_of_word (cell l 6) ≡ (net l).clocks
  unfolding net
  clocks_of = refl

  pub stopwatches_of : gates_of_word (cell l 7) ≡ (net l).stopwatches
  unfolding net
  stopwatches_of = refl

  pub receivers_of : gates_of_word (cell l 8) ≡ (net l).receivers
  unfolding net
  receivers_of = refl
