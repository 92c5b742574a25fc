-- What holds of states: of the wires (Wires.antt), of what is under way, and of the events sent.
use mathlib.Core.Path.{◌≡◌}
use mathlib.Core.Bool.{true}
use Prim.Native.Nat.{ℕ, ◌≤◌}
use Rattle.model.specs.declared.Value.{Value}
use Rattle.model.specs.Base.{from}
use Rattle.model.specs.Circuit.{Circuit, input}
use Rattle.model.specs.State.{Wires, Delay, State, wires≔}
use Rattle.model.specs.Wires.{ready}
use Rattle.model.specs.Exec.{set_output, readied, read, read_row}
use Rattle.model.specs.Questions.{value_output}
use Rattle.model.proofs.Lists.{each_keeps}
use Rattle.model.proofs.Underway.{Row, Held, StateHeld, read_row_held}
use Rattle.promises.proofs.Times.{Time}
use Rattle.promises.proofs.Values.{Proper}
use Rattle.promises.proofs.Shape.{Shaped}
use Rattle.promises.proofs.Wires.{Tells, set_out_tells, ready_tells, look_proper}

-- what a gate has under way
abbrev pub DelayProper : Delay → Type 0
DelayProper = Held Proper Time

module _ (c : Circuit) where
  abbrev pub Holds : State → Type 0
  Holds = StateHeld (Tells c) Proper Time

  pub wires_holds : {s : State} {w : Wires} → Holds s → Tells c w → Holds (wires≔ s w)
  unfolding wires≔
  wires_holds z f = record { wires = f; delays = z.delays; outbox = z.outbox }

  pub set_output_holds : {s : State} (o : ℕ) (v : Value) → value_output c o ≡ true → Proper v → Holds s → Holds (set_output c s o v)
  unfolding set_output
  set_output_holds {s} o v u r z = wires_holds z (set_out_tells c s.wires o v u r z.wires)

  module _ (Z : Shaped c) where
    pub readied_holds : {s : State} (g p n : ℕ) → Holds s → Holds (readied c s g p n)
    unfolding readied
    readied_holds {s} g p n z = wires_holds z (each_keeps (Tells c) (ready c) (ready_tells c Z) s.wires (from (input c g p) n) z.wires)

    pub read_proper : (s : State) (g p : ℕ) → Holds s → Proper (read c s g p)
    unfolding read
    read_proper s g p z = look_proper c Z s.wires (input c g p) z.wires

    pub read_row_proper : (s : State) (g p n : ℕ) → n ≤ 8 → Holds s → Row Proper (read_row c s g p n)
    read_row_proper s g p n l z = read_row_held c s g p n l (λ i. look_proper c Z s.wires i z.wires)
