-- The gates that a round places: those that were unplaced before it and are not any more, as the difference of two words.
use Prim.Native.Nat.{ℕ, zero, suc, ◌+◌, ◌-◌, ◌/◌, ◌%◌, ◌^◌, ◌≤◌, ◌<◌}
use mathlib.Core.Path.{◌≡◌, refl, sym, ap, ◌∙◌}
use mathlib.Core.Bool.{Bool, true, false, not, ◌&&◌}
use mathlib.Core.List.{List, [], ◌∷◌}
use native.Mathlib.Nat.{zero-add, pow-succ', zero-div, div-one, div-div-eq-div-mul}
use native.Mathlib.Omega.{arith}
use lib.Dec.{eqb}
use lib.ListN.{length, get_or}
use Rattle.model.specs.Base.{all, keep, among, from}
use Rattle.model.specs.Value.{bit}
use Rattle.model.proofs.Lists.{all_keep, among_keep, among_from, bit_most, clash}
use Rattle.links.specs.Links.{gates_of_word}
use Rattle.circuit.specs.Gates.{word_of_bits}
use Rattle.circuit.proofs.Unplaced.{unplaced}

-- what is true stays so
abbrev pub Stays : List Bool → List Bool → Type 0
Stays bs cs = (i : ℕ) → get_or bs i true ≡ true → get_or cs i true ≡ true

-- placed in cs and not in bs
abbrev pub newly : List Bool → List Bool → ℕ → Bool
newly bs cs g = not (get_or bs g true) && get_or cs g true

bits_fewer : (b c : Bool) → (b ≡ true → c ≡ true) → bit (not b) ≡ bit (not c) + bit (not b && c)
unfolding bit
bits_fewer true true h = refl
bits_fewer true false h = clash (h refl) refl
bits_fewer false true h = refl
bits_fewer false false h = refl

pub words_fewer : (bs cs : List Bool) → length bs ≡ length cs → Stays bs cs → unplaced cs ≤ unplaced bs
unfolding unplaced word_of_bits
words_fewer [] [] l h = omega arith
words_fewer [] (c ∷ cs) l h = absurd (omega arith)
words_fewer (b ∷ bs) [] l h = absurd (omega arith)
words_fewer (b ∷ bs) (c ∷ cs) l h = omega (arith, words_fewer bs cs (omega arith) (λ i. h (suc i)), bits_fewer b c (h 0))

difference : (bs cs : List Bool) (g : ℕ) → length bs ≡ length cs → Stays bs cs → (unplaced bs - unplaced cs) / 2 ^ g % 2 ≡ bit (newly bs cs g)
unfolding unplaced word_of_bits bit
difference [] [] g l h = ap (λ (y : ℕ). y % 2) (zero-div (2 ^ g))
difference [] (c ∷ cs) g l h = absurd (omega arith)
difference (b ∷ bs) [] g l h = absurd (omega arith)
difference (b ∷ bs) (c ∷ cs) zero l h =
    let a = words_fewer bs cs (omega arith) (λ i. h (suc i)) in
    omega (arith, a, bits_fewer b c (h 0), bit_most (not b && c), div-one (unplaced (b ∷ bs) - unplaced (c ∷ cs)))
difference (b ∷ bs) (c ∷ cs) (suc g) l h =
    let d = unplaced (b ∷ bs) - unplaced (c ∷ cs) in
    let a = words_fewer bs cs (omega arith) (λ i. h (suc i)) in
    let e : d / 2 ≡ unplaced bs - unplaced cs = omega (arith, a, bits_fewer b c (h 0), bit_most (not b), bit_most (not b && c)) in
    ap (λ (y : ℕ). d / y % 2) (pow-succ' 2 g) ∙ ap (λ (y : ℕ). y % 2) (sym (div-div-eq-div-mul d 2 (2 ^ g))) ∙ rw e (difference bs cs g (omega arith) (λ i. h (suc i)))

bit_is : (b : Bool) → eqb (bit b) 1 ≡ b
unfolding bit
bit_is true = refl
bit_is false = refl

module _ (bs cs : List Bool) (l : length bs ≡ length cs) (h : Stays bs cs) where
  gates_are : gates_of_word (unplaced bs - unplaced cs) ≡ keep (newly bs cs) (from 0 64)
  unfolding gates_of_word
  gates_are = ap (λ (p : ℕ → Bool). keep p (from 0 64)) (λ j g. (ap (λ (x : ℕ). eqb x 1) (difference bs cs g l h) ∙ bit_is (newly bs cs g)) j)

  -- each of them was placed by this round
  pub all_newly : all (newly bs cs) (gates_of_word (unplaced bs - unplaced cs)) ≡ true
  all_newly = ap (all (newly bs cs)) gates_are ∙ all_keep (newly bs cs) (from 0 64)

  -- and each that this round placed is among them
  pub among_newly : (g : ℕ) → g < 64 → newly bs cs g ≡ true → among g (gates_of_word (unplaced bs - unplaced cs)) ≡ true
  among_newly g k e =
      ap (among g) gates_are ∙ among_keep (newly bs cs) g (from 0 64) (ap (λ (x : ℕ). among x (from 0 64)) (sym (zero-add g)) ∙ among_from 0 64 g k) e
