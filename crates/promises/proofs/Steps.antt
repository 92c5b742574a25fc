-- A step of a chain, and a chain with its forks and Loops, keep what holds of states.
use mathlib.Core.Path.{◌≡◌, refl, sym, ◌∙◌}
use mathlib.Core.Bool.{Bool, true}
use mathlib.Core.List.{List}
use Prim.Native.Nat.{ℕ}
use native.Mathlib.Omega.{arith}
use lib.Dec.{eqb}
use lib.ListN.{length, get_or, length-set, length-map}
use borrow.Author.Tests.{eqb-true}
use Rattle.schedule.specs.Promise.{[·], ◌∷·◌}
use Rattle.schedule.proofs.Members.{all_append}
use Rattle.model.specs.declared.Value.{Value}
use Rattle.model.specs.Base.{snoc}
use Rattle.model.specs.Kinds.{fires, kind_at, kinds_opened}
use Rattle.model.specs.Circuit.{Circuit, kind_of_gate, output}
use Rattle.model.specs.State.{State, unions_passed≔, wires≔}
use Rattle.model.specs.Exec.{Stepped, fires_next, ends, set_output, var, exec-Buffer, exec-Stopwatch, exec-Queue, exec-VarGet, exec-VarSet, exec-Branch, exec-Union, exec-Toggle, exec-Cycle, exec-SendEvent}
use Rattle.model.specs.Chain.{Calls}
use Rattle.model.specs.Loops.{no_unions, unions_of, runs_left_to, break_set, show_loop, run_chain}
use Rattle.model.proofs.Lists.{if_both}
use Rattle.model.proofs.Kept.{named}
use Rattle.model.proofs.Running.{KindsKeep, exec_gate_keeps, StepsKeep, run_chain_keeps}
use Rattle.model.proofs.Underway.{fires_held, pressed_held, queue_held, delay_held, outbox_held, count_held, delay_of}
use Rattle.promises.proofs.Times.{time_zero}
use Rattle.promises.proofs.Values.{Proper, time_proper}
use Rattle.promises.proofs.Shape.{shows_value, Shaped, value_at}
use Rattle.promises.proofs.Wires.{show_tells, shown_proper, passed_tells, breaking_tells, runs_tells, write_tells}
use Rattle.promises.proofs.States.{Holds, wires_holds, set_output_holds, readied_holds, read_proper, read_row_proper}

module _ (c : Circuit) (Z : Shaped c) where
  -- ---- a step, by kind

  abbrev SteppedHolds : Stepped → Type 0
  SteppedHolds d = Holds c d.state

  -- output p of a gate of kind k gets a value
  out_holds : (s : State) (g k p : ℕ) (v : Value) → kind_of_gate c g ≡ k → shows_value (get_or (kind_at k).outs p fires) ≡ true → Proper v → Holds c s → Holds c (set_output c s (output c g p) v)
  out_holds s g k p v e q r z = set_output_holds c _ v (value_at c Z.wired.laid g k p e q) r z

  passed_holds : (s : State) (x : List Bool) → length x ≡ length s.wires.unions_passed → Holds c s → Holds c (wires≔ s (unions_passed≔ s.wires x))
  passed_holds s x e z = wires_holds c z (passed_tells c s.wires x e z.wires)

  break_holds : (s : State) (b : Bool) → Holds c s → Holds c (break_set b s)
  unfolding break_set
  break_holds s b z = wires_holds c z (breaking_tells c s.wires b z.wires)

  kinds_hold : KindsKeep c (Holds c)
  unfolding exec-Buffer exec-Stopwatch exec-Queue exec-VarGet exec-VarSet exec-Branch exec-Union exec-Toggle exec-Cycle exec-SendEvent fires_next ends snoc kinds_opened
  kinds_hold =
      record {
        Buffer = λ s g z. let y = count_held _ z in if_both SteppedHolds _ (delay_held c g _ (fires_held _ (delay_of c _ y g)) y) y;
        Stopwatch = λ s g p k z.
            let y = delay_held c g _ (pressed_held time_zero p (delay_of c s z g)) z in
            if_both (Holds c) _ (out_holds _ g 15 0 _ k refl (time_proper 0 time_zero) y) y;
        Queue = λ s g k z.
            let y = readied_holds c Z g 1 9 z in
            count_held _ (delay_held c g _ (queue_held _ _ (read_row_proper c Z _ g 1 8 (omega arith) y) (delay_of c _ y g)) y);
        VarGet = λ s g k z. out_holds s g 18 1 _ k refl (shown_proper c Z s.wires (var c g) z.wires) z;
        VarSet = λ inside s g e z.
            let y = readied_holds c Z g 2 1 z in
            let f = show_tells c _ (var c g) _ (Z.var_shows g e) (read_proper c Z _ g 2 y) y.wires in
            wires_holds c y (write_tells c inside _ g (named c (kind_of_gate c g) 19 (omega arith) e) f);
        Branch = λ s g z. readied_holds c Z g 1 1 z;
        Union = λ s g z. if_both SteppedHolds _ z (passed_holds s _ (length-set s.wires.unions_passed g true) z);
        Toggle = λ s g k z. out_holds s g 22 1 _ k refl tt z;
        Cycle = λ s g p k z. out_holds _ g 23 2 _ k refl tt (readied_holds c Z g 2 1 z);
        SendEvent = λ s g _ z.
            let y = readied_holds c Z g 2 8 z in
            if_both (Holds c) _ y (outbox_held _ (all_append y.outbox (◌∷·◌ (read_row_proper c Z _ g 2 8 (omega arith) y) [·])) y);
        Break = λ s z. break_holds s true z;
      }

  -- ---- a chain, and the Loops that it runs

  loop_holds : (s : State) (g p : ℕ) (v : Value) → eqb (kind_of_gate c g) 29 ≡ true → shows_value (get_or (kind_at 29).outs p fires) ≡ true → Proper v → Holds c s → Holds c (set_output c s (output c g p) v)
  loop_holds s g p v k q r z = out_holds s g 29 p v (eqb-true (kind_of_gate c g) 29 k) q r z

  steps_hold : StepsKeep c (Holds c)
  unfolding no_unions unions_of runs_left_to show_loop kinds_opened
  steps_hold =
      record {
        step = λ inside n s i z. exec_gate_keeps c (Holds c) kinds_hold inside s i z;
        loop_step = λ n s z. z;
        inputs_read = λ n s g z. readied_holds c Z g 1 3 z;
        broken = λ n s b z. break_holds s b z;
        counted = λ n s m z. wires_holds c z (runs_tells c s.wires m z.wires);
        index_shown = λ n s g i k z. set_output_holds c _ _ (Z.entry_shows g k) tt z;
        body_entered = λ n s z. passed_holds s _ (length-map s.wires.unions_passed _) z;
        body_left = λ m n s t z y. passed_holds t _ (z.wires.sized.memory.passed ∙ sym y.wires.sized.memory.passed) y;
        loop_shown = λ n s g done aborted k z. loop_holds _ g 3 _ k refl tt (loop_holds _ g 2 _ k refl tt (loop_holds s g 1 _ k refl tt z));
      }

  pub run_chain_holds : (left : ℕ) (q : Calls) (s : State) → Holds c s → Holds c (run_chain c left q s).state
  run_chain_holds = run_chain_keeps c (Holds c) steps_hold
