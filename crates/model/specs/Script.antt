-- A script, as it is read from its words: what it gives to each tick.
use Rattle.std.specs.Prelude.{ℕ, ◌+◌, ◌*◌, List, [], ◌∷◌, eqb, get_or, take, drop}
use Rattle.model.specs.declared.Value.{Value}
use Rattle.model.specs.declared.Value.TheVariants.{Nothing}
use Rattle.model.specs.Base.{if◌then◌otherwise◌, both}
use Rattle.model.specs.Circuit.{part, word_at}
use Rattle.model.specs.State.{Act, form-World}

-- the ticks of a script at the most
abbrev pub most_ticks : ℕ
most_ticks = 100000

-- the length of a tick, as f64 bits, and its stimuli in order
pub record Given : Type 0 where
  pub dt : ℕ
  pub stimuli : List Act

-- a WorldEvent fires, and brings its constant; constant 0 only fires
unfoldable pub stimulus : List Value → ℕ → ℕ → Act
stimulus constants g k = record { gate = g; form = form-World; row = if eqb k 0 then [] otherwise get_or constants k Nothing ∷ [] }

-- each tick takes the next so many stimuli
unfoldable pub given : List ℕ → List ℕ → List Act → List Given
given [] [] acts = []
given [] (n ∷ ns) acts = []
given (d ∷ ds) [] acts = []
given (d ∷ ds) (n ∷ ns) acts = record { dt = d; stimuli = take n acts } ∷ given ds ns (drop n acts)

-- Sizes T S; tick lengths and stimulus counts, T each; gates and constants, S each.
unfoldable pub script : List Value → List ℕ → List Given
script constants ws =
    let T = word_at ws 0 in
    let S = word_at ws 1 in
    let stimuli = 2 + 2 * T in
    given (part ws 2 T) (part ws (2 + T) T) (both (stimulus constants) (part ws stimuli S) (part ws (stimuli + S) S))

unfoldable pub script_opened : ℕ
unfolding stimulus given script
script_opened = 0
