-- How code works the first figure out: each gate gets a number, its steps, in sums that stop at 50,000,001.
use Rattle.std.specs.Prelude.{ℕ, suc, ◌+◌, min, ◌≡◌, List, map, get_or, set}
use Rattle.model.specs.Base.{each}
use Rattle.model.specs.Circuit.{Circuit, gate_at_input}
use Rattle.model.specs.Run.{most_steps}
use Rattle.links.specs.Links.{call_of, target, net}
use Rattle.figures.specs.Figures.{greatest, entered_from, passed_on, steps_of_gate, exec_inputs, exec_outputs}

-- a number, or 50,000,001 where it is above 50,000,000
unfoldable pub cap : ℕ → ℕ
cap n = min (suc most_steps) n

-- the gate that call k of all enters
unfoldable pub entered : List ℕ → ℕ → ℕ
entered l k = gate_at_input (net l) (call_of (target l k)).to

-- the number of gate g, 0 where it has none, added to t
unfoldable pub with_number : List ℕ → ℕ → ℕ → ℕ
with_number ns t g = cap (t + get_or ns g 0)

module _ (c : Circuit) where
  -- gate g gets its number: one, and those of all that it passes on to
  unfoldable pub numbered : List ℕ → ℕ → List ℕ
  numbered ns g = set ns g (each (with_number ns) 1 (passed_on c g))

  -- each number is that of the gate's steps
  abbrev pub Numbers : List ℕ → Type 0
  Numbers ns = (g : ℕ) → get_or ns g 0 ≡ cap (steps_of_gate c g)

  -- the greatest number of an E's gate, and the greatest sum of an exec output
  unfoldable pub most_of_inputs : List ℕ → ℕ
  most_of_inputs ns = greatest (map (λ i. get_or ns (gate_at_input c i) 0) (exec_inputs c))

  unfoldable pub most_of_outputs : List ℕ → ℕ
  most_of_outputs ns = greatest (map (λ o. each (with_number ns) 0 (entered_from c o)) (exec_outputs c))

unfoldable pub numbers_opened : ℕ
unfolding cap entered with_number numbered most_of_inputs most_of_outputs
numbers_opened = 0
