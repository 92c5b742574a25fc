-- What the steps of a gate are, and when there is no ring, in words that need no rounds.
use Rattle.std.specs.Prelude.{ℕ, suc, ◌<◌, ◌≡◌, true, map, length}
use Rattle.model.specs.Base.{sum, among}
use Rattle.model.specs.Circuit.{Circuit}
use Rattle.figures.specs.Figures.{passed_on, no_ring, steps_of_gate}

-- each gate has a greater number than all that it passes on to
abbrev pub EachCallDown : Circuit → (ℕ → ℕ) → Type 0
EachCallDown c number = (g x : ℕ) → g < length c.kinds → among x (passed_on c g) ≡ true → number x < number g

pub record AddsUp (c : Circuit) : Type 0 where
  -- without a ring entering a gate takes one step, and the steps of all that it passes on to
  pub steps : no_ring c ≡ true → (g : ℕ) → g < length c.kinds → steps_of_gate c g ≡ suc (sum (map (steps_of_gate c) (passed_on c g)))
  -- the calls form no ring exactly where gates have numbers that fall from each gate to what it passes on to: then the steps are such numbers
  pub falls : no_ring c ≡ true → EachCallDown c (steps_of_gate c)
  pub no_ring : (number : ℕ → ℕ) → EachCallDown c number → no_ring c ≡ true
