-- What holds of the wiring of a circuit that is not refused.
use mathlib.Core.Path.{◌≡◌}
use mathlib.Core.Bool.{true, false}
use mathlib.Core.Option.{some}
use Prim.Native.Nat.{ℕ, ◌<◌}
use lib.Dec.{eqb}
use lib.ListN.{length}
use Rattle.model.specs.Base.{all, among}
use Rattle.model.specs.Kinds.{pure, time_source, receiving}
use Rattle.model.specs.Circuit.{Circuit, kind_of_gate, entry_of_loop, output, inputs_of, gate_at_input, source, stored_in, gate_at_output, readers_of}
use Rattle.model.specs.Exec.{var}
use Rattle.model.proofs.Laid.{Laid}
use Rattle.model.proofs.Placing.{Heights}
use Rattle.model.proofs.Roomy.{Few}
use Rattle.model.proofs.Reals.{Real}

pub record Wired (c : Circuit) : Type 0 where
  pub laid : Laid c
  pub heights : Heights c
  pub few : Few c
  -- the readers of an output are the inputs that read it
  pub reader : (i o : ℕ) → source c i ≡ some o → among i (readers_of c o) ≡ true
  pub read_by : (i o : ℕ) → among i (readers_of c o) ≡ true → source c i ≡ some o
  -- an input that reads is one of the circuit's, and so is the output that it reads
  pub source_at : (i o : ℕ) → source c i ≡ some o → i < length c.pins
  pub source_in : (i o : ℕ) → source c i ≡ some o → o < length c.outputs
  -- each input is one of its gate's, which is no time source: these have no inputs
  pub own_input : (i : ℕ) → i < length c.pins → among i (inputs_of c (gate_at_input c i)) ≡ true
  pub fed : (i : ℕ) → i < length c.pins → time_source (kind_of_gate c (gate_at_input c i)) ≡ false
  -- a pure gate has one output
  pub one_output : (o : ℕ) → o < length c.outputs → pure (kind_of_gate c (gate_at_output c o)) ≡ true → o ≡ output c (gate_at_output c o) 0
  -- lists of gates by kind
  pub timed : (g : ℕ) → time_source (kind_of_gate c g) ≡ true → among g c.time_sources ≡ true
  pub stopwatches : all (λ g. eqb (kind_of_gate c g) 15) c.stopwatches ≡ true
  pub receivers : all (λ g. receiving (kind_of_gate c g)) c.receivers ≡ true
  -- what a VarSet writes is no output of a pure gate
  pub var_other : (g : ℕ) → eqb (kind_of_gate c g) 19 ≡ true → pure (kind_of_gate c (gate_at_output c (var c g))) ≡ false
  -- nor is the Index of a Loop's entry
  pub entry_other : (g : ℕ) → eqb (kind_of_gate c g) 29 ≡ true → pure (kind_of_gate c (gate_at_output c (output c (entry_of_loop c g) 1))) ≡ false
  -- no stored value is a NaN
  pub stored : (i : ℕ) → Real (stored_in c i)
