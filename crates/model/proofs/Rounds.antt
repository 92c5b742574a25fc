-- The bounds of the definition never show. Marking, refreshing and settling are written with a number of rounds, so that they end; here it stands that these
-- numbers always suffice, any number more gives the same: `bounds_suffice`, for every circuit that is not refused and every state that has its sizes. So
-- has each world of a run in which a unit begins or a tick has ended: `run_has`. Chains are written with a number of rounds too, and with how deep bodies nest:
-- `steps_suffice`, in every state, and `nesting_suffices`, for every circuit that is not refused. The proofs are in the files that the headings name.
use mathlib.Core.Path.{◌≡◌}
use mathlib.Core.Bool.{Bool, true, false}
use mathlib.Core.List.{List, [], ◌∷◌}
use mathlib.Core.Option.{Option}
use Prim.Native.Nat.{ℕ, suc, ◌+◌}
use lib.ListN.{length}
use Rattle.words.specs.Words.{words}
use Rattle.schedule.specs.Schedule.{plain}
use Rattle.schedule.specs.Promise.{All}
use Rattle.schedule.specs.Keeping.{DidKeep, TickKeeps}
use Rattle.model.specs.declared.Value.{Value}
use Rattle.model.specs.Circuit.{Circuit, circuit}
use Rattle.model.specs.Script.{Given}
use Rattle.model.specs.State.{Wires, State, Act, wires≔}
use Rattle.model.specs.Wires.{refresh_to, refresh, refresh_all, mark_on, mark_readers_for, set_out}
use Rattle.model.specs.Exec.{exec_gate}
use Rattle.model.specs.Chain.{Calls, no_calls, Chained, chained, run_calls}
use Rattle.model.specs.Loops.{operate, run_nested, run_body, run_chain}
use Rattle.model.specs.Settle.{calm, check_on, most_checks, publish_writes, settle}
use Rattle.model.specs.Opening.{start, open_tick}
use Rattle.model.specs.Unit.{World, run_unit, finish_chain}
use Rattle.model.specs.Closing.{read_outputs}
use Rattle.model.specs.Run.{Allowed, machine, ticks_of}
use Rattle.model.specs.Questions.{Areas, question_1, question_3, question_6, refusal}
use Rattle.model.proofs.Laid.{Laid, laid, Full, filled}
use Rattle.model.proofs.Asked.{Accepted, accepted}
use Rattle.model.proofs.Sized.{SizedWires, Sized, refresh_sized, mark_readers_for_sized, set_out_sized}
use Rattle.model.proofs.Kept.{SettledSized, OpenedSized, exec_gate_sized, run_chain_sized, publish_writes_sized, settle_sized, start_sized, open_tick_sized, read_outputs_sized}
use Rattle.model.proofs.Roomy.{Roomy, few, few_roomy}
use Rattle.model.proofs.Worlds.{finish_chain_sized, run_sized}
use Rattle.model.proofs.Marking.{marking_never_runs_out}
use Rattle.model.proofs.Placing.{Ordered, ordered, order_suffices}
use Rattle.model.proofs.Refreshing.{refreshing_never_runs_out}
use Rattle.model.proofs.Settling.{settling_never_runs_out, settled}
use Rattle.model.proofs.Running.{operate_falls}
use Rattle.model.proofs.Chains.{rounds_suffice, chain_ended, unit_ended, finish_stop}
use Rattle.model.proofs.Deep.{none_too_deep}

-- ---- the layout (Laid): of the circuit of any words

-- Lists by gate, by input and by output have their lengths; each gate's inputs and outputs are its own.
pub circuit_laid : (ws : List ℕ) → Laid (circuit ws)
circuit_laid = laid

-- and where questions 1 and 3 are answered yes, so have sources, stored values, watches, ranks, bodies and entries
pub circuit_filled : (bytes ws : List ℕ) → question_1 bytes ws ≡ true → question_3 ws (circuit ws) ≡ true → Full (circuit ws)
circuit_filled = filled

-- ---- the questions (Asked): a call that is not refused was answered yes each time

pub call_accepted :
    (areas : Option Areas) (circuit_bytes script_bytes : List ℕ) → refusal areas circuit_bytes script_bytes ≡ 0 → Accepted areas circuit_bytes script_bytes
call_accepted = accepted

-- ---- question 6 (Placing): answered yes exactly where pure gates can be ordered

pub order_of : (c : Circuit) → question_6 c ≡ true → Ordered c
order_of = ordered

pub order_enough : (c : Circuit) → Ordered c → question_6 c ≡ true
order_enough = order_suffices

-- ---- marking, refreshing and settling (Marking, Refreshing, Settling)

-- What holds of a circuit's bounds, each with any number more.
pub record BoundsSuffice (c : Circuit) : Type 0 where
  -- marking, in as many rounds as there are gates, and one
  pub marking :
      (late : Bool) (w : Wires) → SizedWires c w → (o more : ℕ) →
      mark_on c (suc (length c.kinds) + more) (record { wires = w; work = o ∷ []; late = late }) ≡ mark_readers_for c late w o
  -- refreshing, as deep as there are gates
  pub refreshing : (w : Wires) → SizedWires c w → (g more : ℕ) → refresh_to c (length c.kinds + more) w g ≡ refresh c w g
  -- settling, in rounds by the numbers of inputs and outputs; and at its end no input waits
  pub settling :
      (s : State) → Sized c s → (more : ℕ) →
      check_on c (most_checks c + more) (calm (wires≔ s (refresh_all c s.wires))) ≡ settle c s
  pub nothing_waits : (s : State) → Sized c s → (settle c s).state.wires.to_check ≡ []

pub circuit_suffices : (c : Circuit) → Laid c → question_6 c ≡ true → BoundsSuffice c
circuit_suffices c l q =
    record {
      marking = marking_never_runs_out c;
      refreshing = refreshing_never_runs_out c q;
      settling = λ s z. settling_never_runs_out c l s z.wires;
      nothing_waits = λ s z. settled c l s z.wires;
    }

pub bounds_suffice :
    (areas : Option Areas) (circuit_bytes script_bytes : List ℕ) → refusal areas circuit_bytes script_bytes ≡ 0 → BoundsSuffice (circuit (words circuit_bytes))
bounds_suffice areas cb sb h = circuit_suffices (circuit (words cb)) (laid (words cb)) (accepted areas cb sb h).order

-- ---- room (Once, Roomy): the tests of room in `watch`, `write_once` and `exec-SendEvent` are never met

pub roomy :
    (areas : Option Areas) (circuit_bytes script_bytes : List ℕ) → refusal areas circuit_bytes script_bytes ≡ 0 → Roomy (circuit (words circuit_bytes))
roomy areas cb sb h = let a = accepted areas cb sb h in few_roomy (circuit (words cb)) (few cb (words cb) a.sizes a.gates)

-- ---- nesting (Nesting, Deep): bodies form no ring, so a chain that may nest them as deep as there are gates nests none too deep; deeper gives the same

pub nesting_suffices :
    (areas : Option Areas) (circuit_bytes script_bytes : List ℕ) → refusal areas circuit_bytes script_bytes ≡ 0 →
    let c = circuit (words circuit_bytes) in
    (left : ℕ) (q : Calls) (s : State) (more : ℕ) → run_nested c (run_body c (length c.kinds + more)) false 0 (chained s left 0 q) ≡ run_chain c left q s
nesting_suffices areas cb sb h = let a = accepted areas cb sb h in none_too_deep cb (words cb) a.sizes a.bodies

module _ (c : Circuit) where
  -- ---- chains (Chains): the rounds of a run, as many as steps are left and one, suffice; without a stop, all calls are made

  pub steps_suffice :
      (deep : ℕ) (inside : Bool) (under : ℕ) (r : Chained) (more : ℕ) →
      run_calls (operate c (run_body c deep) inside) inside under (suc r.left + more) r ≡ run_nested c (run_body c deep) inside under r
  unfolding run_nested
  steps_suffice deep inside under = rounds_suffice (operate c (run_body c deep) inside) (operate_falls c deep inside) inside under

  pub chain_done : (left : ℕ) (q : Calls) (s : State) → (run_chain c left q s).stop ≡ 0 → (run_chain c left q s).calls ≡ no_calls
  chain_done = chain_ended c

  pub unit_done : (w : World) (a : Act) → (run_unit c w a).stop ≡ 0 → (run_unit c w a).calls ≡ no_calls
  unit_done = unit_ended c

  pub same_stop : (w : World) (r : Chained) → (finish_chain c w r).stop ≡ r.stop
  same_stop = finish_stop c

  -- ---- sizes (Sized, Kept, Worlds): the start has them, each operation keeps them, and so each world of a run has them

  pub start_has : Sized c (start c)
  start_has = start_sized c

  pub refresh_keeps : (w : Wires) (g : ℕ) → SizedWires c w → SizedWires c (refresh c w g)
  refresh_keeps = refresh_sized c

  pub mark_readers_keeps : (late : Bool) (w : Wires) (o : ℕ) → SizedWires c w → SizedWires c (mark_readers_for c late w o)
  mark_readers_keeps = mark_readers_for_sized c

  pub set_out_keeps : (w : Wires) (o : ℕ) (v : Value) → SizedWires c w → SizedWires c (set_out c w o v)
  set_out_keeps = set_out_sized c

  pub exec_gate_keeps : (inside : Bool) (s : State) (i : ℕ) → Sized c s → Sized c (exec_gate c inside s i).state
  exec_gate_keeps = exec_gate_sized c

  pub run_chain_keeps : (left : ℕ) (q : Calls) (s : State) → Sized c s → Sized c (run_chain c left q s).state
  run_chain_keeps = run_chain_sized c

  pub publish_writes_keeps : (w : Wires) → SizedWires c w → SizedWires c (publish_writes c w)
  publish_writes_keeps = publish_writes_sized c

  -- with the states in which it raises
  pub settle_keeps : (s : State) → Sized c s → SettledSized c (settle c s)
  settle_keeps = settle_sized c

  pub open_tick_keeps : Laid c → (s : State) (given : Given) → Sized c s → OpenedSized c (open_tick c s given)
  open_tick_keeps = open_tick_sized c

  pub finish_chain_keeps : (w : World) (r : Chained) → Sized c r.state → DidKeep (λ v. Sized c v.state) (finish_chain c w r)
  finish_chain_keeps = finish_chain_sized c

  pub read_outputs_keeps : (s : State) (stop : ℕ) → Sized c s → Sized c (read_outputs c s stop)
  read_outputs_keeps = read_outputs_sized c

  -- wherever a unit begins and after each tick, of any script, whatever the steps that a tick may make and the room of the log
  pub run_has : Laid c → (room : ℕ) (is : List Allowed) → All (TickKeeps (plain (machine c)) (λ w. Sized c w.state)) (ticks_of c room is)
  run_has = run_sized c
