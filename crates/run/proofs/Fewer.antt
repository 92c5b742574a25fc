-- What is known of a call that is not refused: its sizes.
use Prim.Native.Nat.{ℕ, zero, suc, ◌+◌, ◌*◌, ◌≤◌, max}
use mathlib.Core.Path.{◌≡◌}
use mathlib.Core.Bool.{Bool, true, ◌&&◌}
use mathlib.Core.List.{List, [], ◌∷◌, map}
use mathlib.Core.Option.{Option, some}
use native.Mathlib.Omega.{arith}
use lib.Dec.{leb, eqb}
use borrow.Author.Tests.{leb-true, eqb-true}
use lib.ListN.{length, get_or, take, drop, length-map}
use Rattle.words.specs.Words.{words}
use Rattle.words.proofs.Laws.{lengths}
use Rattle.model.specs.Base.{all, keep, both, from, sum}
use Rattle.model.specs.Value.{value_of}
use Rattle.model.specs.Circuit.{Listed, Circuit, circuit, part, word_at, listed_call, calls_from, calls_of, kind_of_gate}
use Rattle.model.specs.Questions.{Areas, within, good_length, names_constant, queues, question_7, question_9, question_10}
use Rattle.model.proofs.Asked.{Accepted}
use Rattle.model.proofs.Lists.{both_true, if_both}
use Rattle.model.proofs.Sizes.{sizes}
use Rattle.circuit.proofs.Sized.{script_sized}
use Rattle.run.specs.Running.{GoodScript}

keep_most : {A : Type 0} (p : A → Bool) (l : List A) → length (keep p l) ≤ length l
unfolding keep
keep_most p [] = omega arith
keep_most p (x ∷ l) = let i = keep_most p l in if_both (λ (k : List _). length k ≤ suc (length l)) (p x) (omega arith) (omega arith)

both_most : {A B C : Type 0} (f : A → B → C) (xs : List A) (ys : List B) → length (both f xs ys) ≤ length xs
unfolding both
both_most f [] [] = omega arith
both_most f [] (y ∷ ys) = omega arith
both_most f (x ∷ xs) [] = omega arith
both_most f (x ∷ xs) (y ∷ ys) = let i = both_most f xs ys in omega arith

take_most : {A : Type 0} (n : ℕ) (l : List A) → length (take n l) ≤ n
take_most zero l = omega arith
take_most (suc n) [] = omega arith
take_most (suc n) (x ∷ l) = let i = take_most n l in omega arith

-- an element of a list of lists, each of which is short
each_short : {A : Type 0} (f : ℕ → List A) (m : ℕ) → ((n : ℕ) → length (f n) ≤ m) → (l : List ℕ) (o : ℕ) → length (get_or (map f l) o []) ≤ m
each_short f m h [] o = omega arith
each_short f m h (x ∷ l) zero = h x
each_short f m h (x ∷ l) (suc o) = each_short f m h l o

part_most : (ws : List ℕ) (a n : ℕ) → length (part ws a n) ≤ n
unfolding part
part_most ws a n = take_most n (drop a ws)

few_from : (o : ℕ) (ws : List ℕ) (a b n : ℕ) → length (calls_from o (both listed_call (part ws a n) (part ws b n))) ≤ n
unfolding calls_from
few_from o ws a b n =
    let ls : List Listed = both listed_call (part ws a n) (part ws b n) in
    let m = length-map (keep (λ (l : Listed). eqb l.out o) ls) (λ (l : Listed). l.call) in
    let k = keep_most (λ (l : Listed). eqb l.out o) ls in
    let i = both_most listed_call (part ws a n) (part ws b n) in
    let j = part_most ws a n in
    omega arith

module _ (areas : Option Areas) (cb sb : List ℕ) (yes : Accepted areas cb sb) where
  abbrev c : Circuit
  c = circuit (words cb)

  -- the sizes that question 1 lets through
  record Few : Type 0 where
    pub gates : word_at (words cb) 0 ≤ 64
    pub constants : word_at (words cb) 1 ≤ 64
    pub calls : word_at (words cb) 3 ≤ 256

  few : Few
  unfolding word_at
  few = let z = sizes cb (words cb) yes.sizes in record { gates = z.gates; constants = z.constants; calls = z.calls }

  -- an output has at most as many calls as the circuit
  pub few_calls : (o : ℕ) → length (calls_of c o) ≤ 256
  unfolding calls_of circuit
  few_calls o = each_short _ 256 (λ n. let h = few_from n (words cb) (4 + 2 * word_at (words cb) 1 + 2 * word_at (words cb) 0 + 2 * word_at (words cb) 2) (4 + 2 * word_at (words cb) 1 + 2 * word_at (words cb) 0 + 2 * word_at (words cb) 2 + word_at (words cb) 3) (word_at (words cb) 3) in let y = few.calls in omega arith) (from 0 _) o

  -- the sizes of its tables
  pub few_gates : length c.kinds ≤ 64
  unfolding circuit
  few_gates = let i = part_most (words cb) (4 + 2 * word_at (words cb) 1) (word_at (words cb) 0) in let y = few.gates in omega arith

  pub few_constants : length c.constants ≤ 65
  unfolding circuit
  few_constants =
      let i = both_most value_of (part (words cb) 4 (word_at (words cb) 1)) (part (words cb) (4 + word_at (words cb) 1) (word_at (words cb) 1)) in
      let j = part_most (words cb) 4 (word_at (words cb) 1) in
      let y = few.constants in
      omega arith

  pub good_script : GoodScript c (words sb)
  unfolding question_9 question_10 word_at
  good_script =
      let y = script_sized sb yes.script_sizes in
      let n = lengths sb in
      let ws = words sb in
      let T = word_at ws 0 in
      let S = word_at ws 1 in
      let q = both_true (all good_length (part ws 2 T) && all (within 0 64) (part ws (2 + T) T)) (eqb (sum (part ws (2 + T) T)) S) yes.ticks in
      let p = both_true (all (λ g. eqb (kind_of_gate c g) 28) (part ws (2 + 2 * T) S)) (all (names_constant c) (part ws (2 + 2 * T + S) S)) yes.stimuli in
      record {
        ticks = y.ticks;
        words = (let x = y.bytes in omega arith);
        counts = eqb-true _ _ q.1;
        gates = p.0;
        constants = p.1;
        few_gates = few_gates;
        few_constants = few_constants;
      }

-- the areas are large enough
pub record Large (a : Areas) (c : Circuit) : Type 0 where
  pub few_queues : queues c ≤ 8
  pub values : 65536 ≤ a.values
  pub units : 65536 ≤ a.units
  pub delays : 65536 * max 1 (queues c) ≤ a.delays

pub large : (a : Areas) (c : Circuit) → question_7 (some a) c ≡ true → Large a c
unfolding question_7
large a c e =
    let h₁ = both_true (leb (queues c) 8 && leb 65536 a.values && leb 65536 a.units) (leb (65536 * max 1 (queues c)) a.delays) e in
    let h₂ = both_true (leb (queues c) 8 && leb 65536 a.values) (leb 65536 a.units) h₁.0 in
    let h₃ = both_true (leb (queues c) 8) (leb 65536 a.values) h₂.0 in
    record { few_queues = leb-true _ _ h₃.0; values = leb-true _ _ h₃.1; units = leb-true _ _ h₂.1; delays = leb-true _ _ h₁.1 }
