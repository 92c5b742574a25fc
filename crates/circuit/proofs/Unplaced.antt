-- Rounds by words of gates: where each gate has the word of what it waits for, a round of the code leaves the gates that a round of a definition does not place.
use Prim.Native.Nat.{ℕ, zero, suc, ◌+◌, ◌-◌, ◌%◌, ◌*◌, ◌^◌, ◌≤◌, ◌<◌}
use mathlib.Core.Path.{◌≡◌, refl, sym, ap, ◌∙◌}
use mathlib.Core.Bool.{Bool, true, false, not, ◌&&◌, and-true, and_assoc}
use mathlib.Core.List.{List, [], ◌∷◌, map, map-map}
use native.Mathlib.Nat.{add-zero}
use native.Mathlib.Numerals.{add-one}
use native.Mathlib.Omega.{arith}
use lib.Bits.{bit_and, bit_or}
use lib.Dec.{ltb, eqb}
use lib.ListN.{length, get_or, get_or-eq_default}
use borrow.Author.Tests.{ltb-false, lt-ltb, le-ltb}
use Rattle.floats.proofs.Bits.{unit_is}
use Rattle.model.specs.Base.{if◌then◌otherwise◌, all, each, from}
use Rattle.model.specs.Questions.{yes_all}
use Rattle.model.proofs.Lists.{all_places, places_all, from_same}
use Rattle.circuit.specs.Gates.{word_of_bits, gates_where, gate_bit, with_gate, waits}
use Rattle.circuit.proofs.Digits.{apart_or, word_most, word_none, word_apart}

map_yes : (f : ℕ → Bool) → ((x : ℕ) → f x ≡ true) → (xs : List ℕ) (i : ℕ) → get_or (map f xs) i true ≡ true
map_yes f h [] i = refl
map_yes f h (x ∷ xs) zero = h x
map_yes f h (x ∷ xs) (suc i) = map_yes f h xs i

-- ---- one gate

pub gate_in : (g : ℕ) → g < 64 → 1 * 2 ^ g % 2 ^ 64 ≡ gate_bit g
unfolding gate_bit if◌then◌otherwise◌
gate_in g h = rw (lt-ltb g 64 h) (unit_is g h)

pub gate_out : (g : ℕ) → 64 ≤ g → 0 ≡ gate_bit g
unfolding gate_bit if◌then◌otherwise◌
gate_out g h = rw (le-ltb g 64 h)

-- ---- words beside the word of the gates that are not placed

unfoldable pub unplaced : List Bool → ℕ
unplaced placed = word_of_bits (map not placed)

pub gate_apart : (placed : List Bool) (g : ℕ) → length placed ≤ 64 → eqb (bit_and (gate_bit g) (unplaced placed)) 0 ≡ get_or placed g true
unfolding gate_bit if◌then◌otherwise◌ unplaced
gate_apart placed g h = go (ltb g 64) refl
  where
    go : (b : Bool) → ltb g 64 ≡ b → eqb (bit_and (if b then 2 ^ g otherwise 0) (unplaced placed)) 0 ≡ get_or placed g true
    go true e = word_apart placed g
    go false e = sym (get_or-eq_default placed true (omega (arith, ltb-false g 64 e)))

-- where it is 0 all are placed
pub none_left : (placed : List Bool) (w : ℕ) → w ≡ unplaced placed → w ≡ 0 → (i : ℕ) → get_or placed i true ≡ true
unfolding unplaced
none_left placed w e z = all_places placed (sym (word_none placed) ∙ ap (λ (x : ℕ). eqb x 0) (sym e ∙ z))

-- words put together, one for each member of a list
module _ {A : Type 0} (f : A → ℕ) where
  words_apart :
      (k u w : ℕ) (xs : List A) → u < 2 ^ k →
      eqb (bit_and (each (λ v x. bit_or v (f x)) w xs) u) 0 ≡ (eqb (bit_and w u) 0 && all (λ x. eqb (bit_and (f x) u) 0) xs)
  unfolding each all
  words_apart k u w [] h = sym (and-true (eqb (bit_and w u) 0))
  words_apart k u w (x ∷ xs) h =
      words_apart k u (bit_or w (f x)) xs h
      ∙ ap (λ (b : Bool). b && all (λ y. eqb (bit_and (f y) u) 0) xs) (apart_or k w (f x) u h)
      ∙ and_assoc (eqb (bit_and w u) 0) (eqb (bit_and (f x) u) 0) (all (λ y. eqb (bit_and (f y) u) 0) xs)

  -- where p tells of each member whether all of its word is placed
  pub all_apart :
      (p : A → Bool) (placed : List Bool) (xs : List A) → ((x : A) → eqb (bit_and (f x) (unplaced placed)) 0 ≡ p x) →
      eqb (bit_and (each (λ v x. bit_or v (f x)) 0 xs) (unplaced placed)) 0 ≡ all p xs
  unfolding unplaced
  all_apart p placed xs h =
      words_apart (length (map not placed)) (unplaced placed) 0 xs (word_most (map not placed)) ∙ ap (λ (q : A → Bool). all q xs) (λ j x. h x j)

-- what some gates wait for, as one word
pub gates_apart :
    (placed : List Bool) (gs : List ℕ) → length placed ≤ 64 → eqb (bit_and (each with_gate 0 gs) (unplaced placed)) 0 ≡ all (λ g. get_or placed g true) gs
unfolding with_gate
gates_apart placed gs h = all_apart gate_bit (λ g. get_or placed g true) placed gs (λ g. gate_apart placed g h)

-- ---- rounds over n gates, in each of which those are placed that are ready

module _ (n : ℕ) (ready : List Bool → ℕ → Bool) (placed : ℕ → List Bool) (round_is : (k : ℕ) → placed (suc k) ≡ map (ready (placed k)) (from 0 n)) where
  -- one round, where `words` has the word of what each gate waits for
  pub rounds_next :
      (k w v : ℕ) (words : List ℕ) → ((g : ℕ) → g < n → eqb (bit_and (get_or words g 0) (unplaced (placed k))) 0 ≡ ready (placed k) g) →
      w ≡ unplaced (placed k) → v ≡ gates_where (waits words w) n → v ≡ unplaced (placed (k + 1))
  unfolding unplaced gates_where waits
  rounds_next k w v words a ew ev =
      rw (ev, ew, add-one, round_is k)
      (ap word_of_bits (from_same _ _ 0 n (λ g o m. ap not (a g (omega arith))) ∙ sym (map-map not _ (from 0 n))))

  -- after all
  pub rounds_last : (k w : ℕ) → k ≡ n → w ≡ unplaced (placed k) → eqb w 0 ≡ yes_all (placed n)
  unfolding unplaced yes_all
  rounds_last k w q e = rw (e, q) (word_none (placed n))

  -- Once all gates are placed they stay so, if nothing is left to wait for.
  module _ (all_ready : (bs : List Bool) → ((i : ℕ) → get_or bs i true ≡ true) → (g : ℕ) → ready bs g ≡ true) where
    stay_on : (k j : ℕ) → ((i : ℕ) → get_or (placed k) i true ≡ true) → (i : ℕ) → get_or (placed (k + j)) i true ≡ true
    stay_on k zero h i = rw (add-zero k) (h i)
    stay_on k (suc j) h i =
        let e : k + suc j ≡ suc (k + j) = omega arith in
        rw (e, round_is (k + j)) (map_yes _ (all_ready (placed (k + j)) (stay_on k j h)) (from 0 n) i)

    -- before all, where none is left
    pub rounds_over : (k w : ℕ) → k ≤ n → w ≡ unplaced (placed k) → w ≡ 0 → yes_all (placed n) ≡ true
    unfolding yes_all
    rounds_over k w l e z =
        let q : k + (n - k) ≡ n = omega arith in
        places_all _ (rw q at (stay_on k (n - k) (none_left (placed k) w e z)))
