-- Question 6 by words of gates: the word of what a gate reads, and the rounds as an instance of `Unplaced`.
use Prim.Native.Nat.{ℕ, suc, ◌+◌, ◌≤◌, ◌<◌}
use mathlib.Core.Path.{◌≡◌, refl, sym, ap, ◌∙◌}
use mathlib.Core.Bool.{Bool, true, false, not, ◌||◌, not-not}
use mathlib.Core.List.{List, [], ◌∷◌, map}
use mathlib.Core.Option.{Option, none, some}
use native.Mathlib.Nat.{zero-add, add-zero}
use native.Mathlib.Omega.{arith}
use lib.Bits.{bit_and}
use lib.Dec.{eqb}
use lib.ListN.{length, get_or}
use borrow.Author.Tests.{not-true, not-false}
use Rattle.model.specs.Base.{if◌then◌otherwise◌, all, each, from}
use Rattle.model.specs.Kinds.{kind_at, pure}
use Rattle.model.specs.Circuit.{Circuit, kind_of_gate, input, inputs_of, source, gate_at_output, gates}
use Rattle.model.specs.Questions.{source_placed, place, place_on, question_6}
use Rattle.model.proofs.Placing.{placed, place_on_suc, placed_length}
use Rattle.std.specs.Prelude.{Option as Perhaps, Some, None}
use Rattle.words.specs.Options.{option_of}
use Rattle.circuit.specs.Gates.{word_of_bits, gates_where, gate_bit, source_bit, with_source, awaited, waits}
use Rattle.circuit.proofs.Unplaced.{unplaced, gate_apart, all_apart, rounds_next, rounds_over, rounds_last}

-- ---- lists

either_yes : (a : Bool) {b : Bool} → b ≡ true → (a || b) ≡ true
either_yes true h = refl
either_yes false h = h

each_yes : (p : ℕ → Bool) → ((x : ℕ) → p x ≡ true) → (xs : List ℕ) → all p xs ≡ true
unfolding all
each_yes p h [] = refl
each_yes p h (x ∷ xs) = rw (h x) (each_yes p h xs)

-- a list, by its places
pub row_places :
    {A : Type 0} (f : ℕ → A) (ks : List ℕ) (F : ℕ → A) (k : ℕ) → ((i : ℕ) → F (k + i) ≡ f (get_or ks i 0)) → map F (from k (length ks)) ≡ map f ks
unfolding from
row_places f [] F k h = refl
row_places f (x ∷ ks) F k h =
    λ j. (ap F (sym (add-zero k)) ∙ h 0) j
    ∷ row_places f ks F (suc k) (λ i. let e : suc k + i ≡ k + suc i = omega arith in ap F e ∙ h (suc i)) j

module _ (c : Circuit) where
  -- ---- the word of what a gate reads, beside the word of the gates that are not placed

  source_apart : (bs : List Bool) (i : ℕ) → length bs ≤ 64 → eqb (bit_and (source_bit c i) (unplaced bs)) 0 ≡ source_placed c bs i
  unfolding source_bit source_placed
  source_apart bs i h = go (source c i) refl
    where
      go : (s : Option ℕ) → source c i ≡ s → eqb (bit_and (source_bit c i) (unplaced bs)) 0 ≡ source_placed c bs i
      go none e = rw (e, source_bit, source_placed)
      go (some o) e = rw (e, source_bit, source_placed) (gate_apart bs (gate_at_output c o) h)

  -- whether gate g is placed in a round
  unfoldable pub ready : List Bool → ℕ → Bool
  ready bs g = not (pure (kind_of_gate c g)) || all (source_placed c bs) (inputs_of c g)

  awaited_apart : (bs : List Bool) (g : ℕ) → length bs ≤ 64 → eqb (bit_and (awaited c g) (unplaced bs)) 0 ≡ ready bs g
  unfolding awaited ready if◌then◌otherwise◌ with_source
  awaited_apart bs g h = go (pure (kind_of_gate c g))
    where
      go : (b : Bool) → eqb (bit_and (if b then each (with_source c) 0 (inputs_of c g) otherwise 0) (unplaced bs)) 0 ≡ (not b || all (source_placed c bs) (inputs_of c g))
      go false = refl
      go true = all_apart (source_bit c) (source_placed c bs) bs (inputs_of c g) (λ i. source_apart bs i h)

  -- ---- the code's ways to these words

  pub source_some :
      (i o h b : ℕ) (r : Perhaps ℕ) → option_of r ≡ source c i → r ≡ Some o → h ≡ gate_at_output c o → b ≡ gate_bit h → b ≡ source_bit c i
  unfolding source_bit
  source_some i o h b r e er eh eb =
      let q : source c i ≡ some o = sym e ∙ ap option_of er in
      rw (q, source_bit) (eb ∙ ap gate_bit eh)

  pub source_none : (i : ℕ) (r : Perhaps ℕ) → option_of r ≡ source c i → r ≡ None → 0 ≡ source_bit c i
  unfolding source_bit
  source_none i r e er =
      let q : source c i ≡ none = sym e ∙ ap option_of er in
      rw (q, source_bit)

  pub awaited_none : (g k : ℕ) (t : Bool) → k ≡ kind_of_gate c g → t ≡ pure k → not t ≡ true → 0 ≡ awaited c g
  unfolding awaited if◌then◌otherwise◌
  awaited_none g k t ek et h =
      let q : pure (kind_of_gate c g) ≡ false = ap pure (sym ek) ∙ sym et ∙ not-true t h in
      rw q

  pub awaited_some :
      (g k a n w : ℕ) (t : Bool) → k ≡ kind_of_gate c g → t ≡ pure k → not t ≡ false → a ≡ input c g 0 → n ≡ length (kind_at k).ins →
      w ≡ each (with_source c) 0 (from a n) → w ≡ awaited c g
  unfolding awaited if◌then◌otherwise◌ inputs_of
  awaited_some g k a n w t ek et h ea en ew =
      let q : pure (kind_of_gate c g) ≡ true = ap pure (sym ek) ∙ sym et ∙ not-false t h in
      rw (q, ← ek, ← ea, ← en) ew

  -- ---- the rounds

  -- before the first round: the pure gates
  pub pure_first : (n w : ℕ) → n ≡ length c.kinds → w ≡ gates_where (λ g. pure (kind_of_gate c g)) n → w ≡ unplaced (placed c 0)
  unfolding unplaced placed place_on gates_where kind_of_gate
  pure_first n w en e =
      rw (e, en)
      (ap word_of_bits (row_places pure c.kinds (λ g. pure (get_or c.kinds g 0)) 0 (λ i. ap (λ g. pure (get_or c.kinds g 0)) (zero-add i)) ∙ twice c.kinds))
    where
      twice : (ks : List ℕ) → map pure ks ≡ map not (map (λ k. not (pure k)) ks)
      twice [] = refl
      twice (k ∷ ks) = λ j. sym (not-not (pure k)) j ∷ twice ks j

  round_is : (k : ℕ) → placed c (suc k) ≡ map (ready (placed c k)) (from 0 (length c.kinds))
  unfolding placed place gates ready
  round_is k = place_on_suc c k (map (λ k. not (pure k)) c.kinds)

  -- one round, where `words` has the word of each gate
  pub pure_next :
      (n k w v : ℕ) (words : List ℕ) → n ≡ length c.kinds → n ≤ 64 → ((g : ℕ) → g < n → get_or words g 0 ≡ awaited c g) →
      w ≡ unplaced (placed c k) → v ≡ gates_where (waits words w) n → v ≡ unplaced (placed c (k + 1))
  pure_next n k w v words en l a ew ev =
      let b : length (placed c k) ≤ 64 = omega (arith, placed_length c k) in
      rounds_next (length c.kinds) ready (placed c) round_is k w v words
      (λ g m. ap (λ (x : ℕ). eqb (bit_and x (unplaced (placed c k))) 0) (a g (omega arith)) ∙ awaited_apart (placed c k) g b) ew (rw en at ev)

  all_ready : (bs : List Bool) → ((i : ℕ) → get_or bs i true ≡ true) → (g : ℕ) → ready bs g ≡ true
  unfolding ready source_placed
  all_ready bs h g = either_yes (not (pure (kind_of_gate c g))) (each_yes (source_placed c bs) (λ i. go (source c i)) (inputs_of c g))
    where
      go : (s : Option ℕ) → (elim s as (λ _. Bool) [ none ↦ true | some o ↦ get_or bs (gate_at_output c o) true ]) ≡ true
      go none = refl
      go (some o) = h (gate_at_output c o)

  -- before all, where none is left
  pub pure_over : (n k w : ℕ) → n ≡ length c.kinds → k < n → w ≡ unplaced (placed c k) → w ≡ 0 → true ≡ question_6 c
  unfolding question_6 placed
  pure_over n k w en l e z = sym (rounds_over (length c.kinds) ready (placed c) round_is all_ready k w (omega arith) e z)

  -- after all
  pub pure_last : (n k w : ℕ) → n ≡ length c.kinds → k ≤ n → n ≤ k → w ≡ unplaced (placed c k) → eqb w 0 ≡ question_6 c
  unfolding question_6 placed
  pure_last n k w en l m e = rounds_last (length c.kinds) ready (placed c) round_is k w (omega arith) e
