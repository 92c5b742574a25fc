-- The loop in which each gate of a word gets its number.
use Prim.Native.Nat.{ℕ, ◌≤◌, ◌<◌}
use mathlib.Core.Path.{◌≡◌, sym, ap, ◌∙◌}
use mathlib.Core.List.{List}
use lib.ListN.{get_or, set, drop}
use Rattle.model.specs.Base.{each}
use Rattle.model.specs.Circuit.{Circuit}
use Rattle.links.specs.Links.{gates_of_word}
use Rattle.links.proofs.Walking.{gates_next, gates_over}
use Rattle.figures.specs.Figures.{passed_on}
use Rattle.size.specs.Numbers.{with_number, numbered}

module _ (c : Circuit) (ns xs : List ℕ) (d g : ℕ) (e : g ≡ get_or (gates_of_word d) 0 64) where
  pub walk_next :
      (v r : ℕ) → g < 64 → v ≡ each (with_number ns) 1 (passed_on c g) → gates_of_word r ≡ drop 1 (gates_of_word d) →
      each (numbered c) ns (gates_of_word d) ≡ xs → each (numbered c) (set ns g v) (gates_of_word r) ≡ xs
  unfolding numbered
  walk_next v r l ev er h =
      ap (λ (x : ℕ). each (numbered c) (set ns g x) (gates_of_word r)) ev ∙ sym (gates_next (numbered c) ns d g e r l er) ∙ h

  pub walk_last : 64 ≤ g → each (numbered c) ns (gates_of_word d) ≡ xs → ns ≡ xs
  walk_last l h = sym (gates_over (numbered c) ns d g e l) ∙ h
