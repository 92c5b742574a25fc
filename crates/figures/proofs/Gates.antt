-- The steps of a gate, without a ring: one, and those of all that it passes on to.
use mathlib.Core.Path.{◌≡◌, refl, sym, ap, subst, ◌∙◌}
use mathlib.Core.Logic.{◌⊎◌, inl, inr}
use mathlib.Core.Bool.{true}
use mathlib.Core.List.{List, [], ◌∷◌, map, map-map}
use Prim.Native.Nat.{ℕ, suc, ◌+◌, ◌≤◌, ◌<◌}
use native.Mathlib.Nat.{zero-add}
use native.Mathlib.Omega.{arith}
use lib.ListN.{length, get_or, length-map}
use Rattle.model.specs.Base.{from, sum, among}
use Rattle.model.specs.Circuit.{Circuit, Call, output, gate_at_input, calls_of, gates}
use Rattle.model.specs.Questions.{yes_all}
use Rattle.model.proofs.Lists.{clash, all_places, places_all, among_either, map_from, from_length}
use Rattle.figures.specs.Figures.{placed, counted, entered_from, passed_on, all_passed_on, no_ring, steps_of_gate, steps_of_input, steps_of_output}
use Rattle.figures.specs.Adding.{AddsUp}
use Rattle.figures.proofs.Falling.{down_placed}
use Rattle.figures.proofs.Rounds.{gate_steps as placed_steps}

module _ (c : Circuit) where
  passed_length : length (all_passed_on c) ≡ length c.kinds
  unfolding all_passed_on gates
  passed_length = length-map (from 0 (length c.kinds)) (passed_on c) ∙ from_length 0 (length c.kinds)

  passed_at : (g : ℕ) → g < length c.kinds → get_or (all_passed_on c) g [] ≡ passed_on c g
  unfolding all_passed_on gates
  passed_at g l = map_from (passed_on c) 0 (length c.kinds) g [] l ∙ ap (passed_on c) (zero-add g)

  -- what document 02 says of the first figure: the step itself, and the steps of all that the gate passes on to
  pub gate_steps : no_ring c ≡ true → (g : ℕ) → g < length c.kinds → steps_of_gate c g ≡ suc (sum (map (steps_of_gate c) (passed_on c g)))
  unfolding steps_of_gate no_ring yes_all
  gate_steps h g l =
      let n = length c.kinds in
      let e = all_places (placed (all_passed_on c) n) h g in
      placed_steps (all_passed_on c) n g (omega (arith, l, passed_length)) e
      ∙ ap (λ (gs : List ℕ). suc (sum (map (λ g. get_or (counted (all_passed_on c) n) g 0) gs))) (passed_at g l)

  -- what is one of several is at most their sum
  one_of : (f : ℕ → ℕ) (xs : List ℕ) (x : ℕ) → among x xs ≡ true → f x ≤ sum (map f xs)
  unfolding sum among
  one_of f [] x a = clash a refl
  one_of f (y ∷ xs) x a = go (among_either x y xs a) (λ b. one_of f xs x b)
    where
      go : (x ≡ y) ⊎ (among x xs ≡ true) → (among x xs ≡ true → f x ≤ sum (map f xs)) → f x ≤ f y + sum (map f xs)
      go (inl e) rec = omega (arith, ap f e)
      go (inr b) rec = omega (arith, rec b)

  pub adds_up : AddsUp c
  unfolding no_ring yes_all
  adds_up =
      record {
        steps = gate_steps;
        falls = λ h g x l a. omega (arith, gate_steps h g l, one_of (steps_of_gate c) (passed_on c g) x a);
        no_ring = λ number down.
            let n = length c.kinds in
            places_all (placed (all_passed_on c) n)
            (subst (λ (m : ℕ). (g : ℕ) → get_or (placed (all_passed_on c) m) g true ≡ true) passed_length
            (down_placed (all_passed_on c) number (λ g x l a. let m : g < n = omega (arith, l, passed_length) in down g x m (subst (λ (gs : List ℕ). among x gs ≡ true) (passed_at g m) a))));
      }

  -- ---- the weight of an input: the steps that come of entering it

  -- what an output's calls weigh
  pub output_weighs : (o : ℕ) → sum (map (steps_of_input c) (map (λ (k : Call). k.to) (calls_of c o))) ≡ steps_of_output c o
  unfolding steps_of_output steps_of_input entered_from
  output_weighs o = ap sum (map-map (steps_of_input c) (λ (k : Call). k.to) (calls_of c o) ∙ sym (map-map (steps_of_gate c) (λ (k : Call). gate_at_input c k.to) (calls_of c o)))
