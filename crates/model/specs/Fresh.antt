-- What a unit sees when it begins: reading any value output gives what the pure gates give when they are worked out afresh.
use Rattle.std.specs.Prelude.{◌≡◌, true, false, List, [], ◌++◌, ℕ, zero, suc, eqb, length}
use Rattle.std.proofs.Math.Option.{none, some}
use Rattle.words.specs.Words.{words}
use Rattle.schedule.specs.Schedule.{numbered, Turn}
use Rattle.schedule.specs.Promise.{All}
use Rattle.model.specs.declared.Value.{Value}
use Rattle.model.specs.declared.Value.TheVariants.{Nothing, Float}
use Rattle.model.specs.Base.{if◌then◌otherwise◌}
use Rattle.model.specs.Value.{truthy, same}
use Rattle.model.specs.Kinds.{Select, Reroute, DeltaTime, pure}
use Rattle.model.specs.Circuit.{Circuit, circuit, kind_of_gate, input, source, stored_in, gate_at_output}
use Rattle.model.specs.State.{Wires, Act}
use Rattle.model.specs.Wires.{shown, refresh}
use Rattle.model.specs.Loops.{run_chain}
use Rattle.model.specs.Unit.{World, begin, enter}
use Rattle.model.specs.Run.{ticks_get, machine}
use Rattle.model.specs.Questions.{value_output}
use Rattle.model.specs.Order.{NumberedTick, numbered_ticks}

module _ (c : Circuit) where
  -- What reading output o gives: its gate is refreshed, with all that it reads, then looked at. An input that is wired to o reads the same (`input_reads`).
  unfoldable pub read_output : Wires → ℕ → Value
  read_output w o = shown (refresh c w (gate_at_output c o)) o

  -- What a pure gate of kind k gives, where `at p` stands at its input p: a Select InputB where bSelectB is true, else InputA, a Reroute what comes to it,
  -- DeltaTime the tick's length, ServerUptime the uptime.
  unfoldable pub gives : Wires → ℕ → (ℕ → Value) → Value
  gives w k at =
      if eqb k Select then (if truthy (at 0) then at 2 otherwise at 1)
      otherwise if eqb k Reroute then at 0
      otherwise if eqb k DeltaTime then Float w.dt
      otherwise Float w.uptime

  -- Output o worked out afresh: of a pure gate what it gives, where at each of its inputs stands what its source comes to, worked out afresh too, or else the value
  -- stored in it; of any other gate, Vars among them, what it shows. What pure gates show does not matter (`of_others`). The first argument bounds how deep
  -- sources go: one that is too small gives Nothing.
  unfoldable pub afresh_to : ℕ → Wires → ℕ → Value
  afresh_to zero w o = Nothing
  afresh_to (suc deep) w o =
      elim (pure (kind_of_gate c (gate_at_output c o))) [
        | true ↦
            gives w (kind_of_gate c (gate_at_output c o)) (λ p.
            let i = input c (gate_at_output c o) p in
            elim (source c i) [ none ↦ stored_in c i | some q ↦ afresh_to deep w q ])
        | false ↦ shown w o
      ]

  -- One more than there are gates is deep enough, since pure gates form no ring (question 6): `afresh_is` says the same of it without a depth.
  unfoldable pub afresh : Wires → ℕ → Value
  afresh w o = afresh_to (suc (length c.kinds)) w o

  -- Reading a value output gives what is worked out afresh: in every bit, and so equal, as value.rs compares, since it is no NaN.
  pub record ReadAfresh (w : Wires) (o : ℕ) : Type 0 where
    pub exact : read_output w o ≡ afresh w o
    pub equal : same (read_output w o) (afresh w o) ≡ true

  -- of every value output
  abbrev pub Fresh : Wires → Type 0
  Fresh w = (o : ℕ) → value_output c o ≡ true → ReadAfresh w o

  -- A unit that begins in the world w and runs a.
  pub record BeginsFresh (w : World) (a : Act) : Type 0 where
    -- at that moment
    pub begun : Fresh w.state.wires
    -- when the values that it brings stand on its outputs
    pub entered : Fresh (enter c w.state a).wires
    -- and after any number of steps of its chain and forks, as long as it has set no Var
    pub until_set : (steps : ℕ) → let v = (run_chain c steps (begin c a) (enter c w.state a)).state.wires in v.written ≡ [] → Fresh v

  unfoldable pub fresh_opened : ℕ
  unfolding read_output gives afresh_to afresh
  fresh_opened = 0

-- every unit of a tick, of its late pass and of its main pass
abbrev pub TickFresh : (c : Circuit) → NumberedTick c → Type 0
TickFresh c t = All (λ (u : Turn (numbered (machine c))). BeginsFresh c u.from u.unit.act) (t.late ++ t.main)

-- every unit begun in the run of a call, with a log of so many bytes; a stopped tick's too
abbrev pub WholeRunFresh : ℕ → List ℕ → List ℕ → Type 0
WholeRunFresh room circuit_bytes script_bytes =
    let c = circuit (words circuit_bytes) in
    All (TickFresh c) (numbered_ticks c room (ticks_get c (words script_bytes)))
