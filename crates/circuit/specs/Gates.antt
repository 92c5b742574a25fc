-- Words of gates: gate g is bit g. Question 6 works with them, and crate `size`.
use Rattle.std.specs.Prelude.{ℕ, ◌+◌, ◌*◌, ◌^◌, Bool, not, List, [], ◌∷◌, map, ltb, eqb, get_or}
use Rattle.std.proofs.Math.Option.{none, some}
use Rattle.std.specs.Int.Bits.{bit_and, bit_or}
use Rattle.model.specs.Base.{if◌then◌otherwise◌, each, from}
use Rattle.model.specs.Value.{bit}
use Rattle.model.specs.Kinds.{pure}
use Rattle.model.specs.Circuit.{Circuit, kind_of_gate, inputs_of, source, gate_at_output}

-- the word whose bits are these, bit 0 first
unfoldable pub word_of_bits : List Bool → ℕ
word_of_bits [] = 0
word_of_bits (b ∷ bs) = word_of_bits bs * 2 + bit b

-- the word of those of n gates that pass the test
unfoldable pub gates_where : (ℕ → Bool) → ℕ → ℕ
gates_where p n = word_of_bits (map p (from 0 n))

-- gate h alone; none for a number above 63, for which a word has no bit
unfoldable pub gate_bit : ℕ → ℕ
gate_bit h = if ltb h 64 then 2 ^ h otherwise 0

-- gate h, and those of the word w
unfoldable pub with_gate : ℕ → ℕ → ℕ
with_gate w h = bit_or w (gate_bit h)

module _ (c : Circuit) where
  -- the gate that input i reads
  unfoldable pub source_bit : ℕ → ℕ
  source_bit i = elim (source c i) [ none ↦ 0 | some o ↦ gate_bit (gate_at_output c o) ]

  -- the gate that input i reads, and those of the word w
  unfoldable pub with_source : ℕ → ℕ → ℕ
  with_source w i = bit_or w (source_bit i)

  -- the gates that gate g waits for: those that it reads, if it is pure
  unfoldable pub awaited : ℕ → ℕ
  awaited g = if pure (kind_of_gate c g) then each with_source 0 (inputs_of c g) otherwise 0

-- whether gate g waits for one of `unplaced`, where `words` has what each gate waits for
unfoldable pub waits : List ℕ → ℕ → ℕ → Bool
waits words unplaced g = not (eqb (bit_and (get_or words g 0) unplaced) 0)

unfoldable pub gates_opened : ℕ
unfolding word_of_bits gates_where gate_bit with_gate source_bit with_source awaited waits
gates_opened = 0
