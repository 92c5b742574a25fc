-- A step of a chain, and a chain with its forks, keep a state sound; a VarSet adds to what is not published.
use mathlib.Core.Path.{◌≡◌, refl, sym, ap, subst, ◌∙◌}
use mathlib.Core.Bool.{Bool, true, false, ◌||◌, true≢false, or-true}
use mathlib.Core.List.{List, [], ◌∷◌}
use Prim.Native.Nat.{ℕ, ◌<◌}
use native.Mathlib.Omega.{arith}
use lib.Dec.{eqb}
use lib.ListN.{length, set, length-set, length-map}
use borrow.Author.Tests.{eqb-true}
use Rattle.schedule.specs.Promise.{[·], ◌∷·◌}
use Rattle.schedule.proofs.Members.{all_append}
use Rattle.model.specs.declared.Value.{Value}
use Rattle.model.specs.Base.{if◌then◌otherwise◌, snoc, among}
use Rattle.model.specs.Kinds.{kinds_opened}
use Rattle.model.specs.Circuit.{Circuit, kind_of_gate, output, gate_at_output}
use Rattle.model.specs.State.{Wires, State, outs≔, written≔, written_outside≔, unions_passed≔, breaking≔, runs_left≔, wires≔}
use Rattle.model.specs.Wires.{shown, show}
use Rattle.model.specs.Exec.{Stepped, fires_next, ends, set_output, var, write_once, record_write, exec-Buffer, exec-Stopwatch, exec-Queue, exec-VarGet, exec-VarSet, exec-Branch, exec-Union, exec-Toggle, exec-Cycle, exec-SendEvent}
use Rattle.model.specs.Chain.{Calls}
use Rattle.model.specs.Loops.{no_unions, unions_of, runs_left_to, break_set, show_loop, run_chain}
use Rattle.model.proofs.Lists.{if_both, among_first}
use Rattle.model.proofs.Sized.{SizedWires, show_sized}
use Rattle.model.proofs.Running.{KindsKeep, exec_gate_keeps, StepsKeep, run_chain_keeps}
use Rattle.model.proofs.Kept.{outside_sized, passed_sized, break_sized, runs_sized, write_once_sized, named}
use Rattle.model.proofs.Roomy.{few_roomy}
use Rattle.model.proofs.Reals.{Real, truth_real, int_real, zero_real}
use Rattle.model.proofs.Wired.{Wired}
use Rattle.model.proofs.Right.{Except, Other, alike, excused, show_late}
use Rattle.model.proofs.Fine.{Fine, fine_aside, set_real}
use Rattle.model.proofs.Underway.{fires_held, pressed_held, queue_held, delay_held, outbox_held, count_held, delay_of}
use Rattle.model.proofs.Sound.{Sound, other_output, wires_sound, set_output_sound, readied_sound, read_is_real, read_row_fine}

among_snoc : (x : ℕ) (xs : List ℕ) (y : ℕ) → among x xs ≡ true → among x (snoc xs y) ≡ true
unfolding among snoc
among_snoc x (z ∷ xs) y e = go (eqb x z) e (λ h. among_snoc x xs y h)
  where
    go : (b : Bool) → (b || among x xs) ≡ true → (among x xs ≡ true → among x (snoc xs y) ≡ true) → (b || among x (snoc xs y)) ≡ true
    go true e rec = refl
    go false e rec = rec e
among_snoc x [] y e = absurd (true≢false (sym e))

among_last : (xs : List ℕ) (y : ℕ) → among y (snoc xs y) ≡ true
unfolding among snoc
among_last [] y = among_first y []
among_last (x ∷ xs) y = rw (among_last xs y, or-true)

module _ (c : Circuit) (W : Wired c) where
  -- sound, with some Vars not published
  pub record Going (t : Except) (s : State) : Type 0 where
    pub late : List ℕ
    pub sound : Sound c t late s

  -- ---- a Var written

  show_fine : (t : Except) (late : List ℕ) (w : Wires) (o : ℕ) (v : Value) → among o late ≡ true → Other c o → Real v → Fine c t late w → Fine c t late (show w o v)
  unfolding show outs≔ shown
  show_fine t late w o v a u r f =
      record {
        sized = show_sized c w o v f.sized;
        written = f.written;
        pulses = f.pulses;
        real = set_real w.outs o v r f.real;
        length_finite = f.length_finite;
        uptime_real = f.uptime_real;
        right = show_late c W t late w o v a u f.right;
      }

  module _ (t : Except) where
    -- of a gate g of kind 19, the wires after its write
    write_fine :
        (late : List ℕ) (w : Wires) (g : ℕ) (v : Value) → eqb (kind_of_gate c g) 19 ≡ true → Real v → Fine c t late w →
        (more : List ℕ) × Fine c t more (write_once c (show w (var c g) v) (var c g))
    unfolding show outs≔ written≔ shown if◌then◌otherwise◌
    write_fine late w g v e r f = go (among o w.written) refl
      where
        o : ℕ
        o = var c g

        h : eqb (kind_of_gate c g) 0 ≡ false
        h = named c (kind_of_gate c g) 19 (omega arith) e

        u : Other c (var c g)
        u = W.var_other g e

        z : SizedWires c (show w (var c g) v)
        z = show_sized c w (var c g) v f.sized

        is : write_once c (show w (var c g) v) (var c g) ≡ (if among (var c g) w.written then show w (var c g) v otherwise written≔ (show w (var c g) v) (snoc w.written (var c g)))
        is = (few_roomy c W.few).writing (show w (var c g) v) g h z

        go : (b : Bool) → among (var c g) w.written ≡ b → (more : List ℕ) × Fine c t more (write_once c (show w (var c g) v) (var c g))
        go true q =
            let a : write_once c (show w (var c g) v) (var c g) ≡ show w (var c g) v = is ∙ rw q in
            (late, subst (Fine c t late) (sym a) (show_fine t late w (var c g) v (subst (λ l. among (var c g) l ≡ true) f.written q) u r f))
        go false q =
            let v₁ = written≔ (show w (var c g) v) (snoc w.written (var c g)) in
            let more = snoc late (var c g) in
            let a : write_once c (show w (var c g) v) (var c g) ≡ v₁ = is ∙ rw q in
            let x = show_late c W t more w (var c g) v (among_last late (var c g)) u (excused c t (λ n k. among_snoc n late (var c g) k) f.right) in (
              more,
              subst (Fine c t more) (sym a) (record {
                sized = subst (SizedWires c) a (write_once_sized c g h z);
                written = ap (λ (l : List ℕ). snoc l (var c g)) f.written;
                pulses = f.pulses;
                real = set_real w.outs (var c g) v r f.real;
                length_finite = f.length_finite;
                uptime_real = f.uptime_real;
                right = alike c t more [] (show w (var c g) v) v₁ refl refl refl refl refl x;
              }),
            )

    outside_fine : (late : List ℕ) (w : Wires) (g : ℕ) → Fine c t late w → Fine c t late (written_outside≔ w (set w.written_outside g true))
    unfolding written_outside≔
    outside_fine late w g f = fine_aside c w _ refl refl refl refl refl refl refl (outside_sized c _ (length-set w.written_outside g true) f.sized) f

    recorded_fine :
        (inside : Bool) (late : List ℕ) (w : Wires) (g : ℕ) (v : Value) → eqb (kind_of_gate c g) 19 ≡ true → Real v → Fine c t late w →
        (more : List ℕ) × Fine c t more (record_write c inside (show w (var c g) v) (var c g))
    unfolding record_write show outs≔ written_outside≔ if◌then◌otherwise◌
    recorded_fine true late w g v e r f = write_fine late w g v e r f
    recorded_fine false late w g v e r f = write_fine late _ g v e r (outside_fine late w (gate_at_output c (var c g)) f)

    -- ---- what a Loop notes of its runs

    passed_fine : (late : List ℕ) (w : Wires) (x : List Bool) → length x ≡ length w.unions_passed → Fine c t late w → Fine c t late (unions_passed≔ w x)
    unfolding unions_passed≔
    passed_fine late w x e f = fine_aside c w _ refl refl refl refl refl refl refl (passed_sized c x e f.sized) f

    break_fine : (late : List ℕ) (w : Wires) (b : Bool) → Fine c t late w → Fine c t late (breaking≔ w b)
    unfolding breaking≔
    break_fine late w b f = fine_aside c w _ refl refl refl refl refl refl refl (break_sized c b f.sized) f

    runs_fine : (late : List ℕ) (w : Wires) (n : ℕ) → Fine c t late w → Fine c t late (runs_left≔ w n)
    unfolding runs_left≔
    runs_fine late w n f = fine_aside c w _ refl refl refl refl refl refl refl (runs_sized c n f.sized) f

    -- ---- a step, by kind

    abbrev SteppedGoing : Stepped → Type 0
    SteppedGoing d = Going t d.state

    going : {late : List ℕ} {s : State} → Sound c t late s → Going t s
    going {late} z = record { late = late; sound = z }

    passed_length : {s : State} → Going t s → length s.wires.unions_passed ≡ length c.kinds
    passed_length z = z.sound.wires.sized.memory.passed

    passed_going : (s : State) (x : List Bool) → length x ≡ length s.wires.unions_passed → Going t s → Going t (wires≔ s (unions_passed≔ s.wires x))
    passed_going s x e z = going (wires_sound c z.sound (passed_fine z.late s.wires x e z.sound.wires))

    break_going : (s : State) (b : Bool) → Going t s → Going t (break_set b s)
    unfolding break_set
    break_going s b z = going (wires_sound c z.sound (break_fine z.late s.wires b z.sound.wires))

    kinds_going : KindsKeep c (Going t)
    unfolding exec-Buffer exec-Stopwatch exec-Queue exec-VarGet exec-VarSet exec-Branch exec-Union exec-Toggle exec-Cycle exec-SendEvent fires_next ends snoc kinds_opened
    kinds_going =
        record {
          Buffer = λ s g z. let y = count_held _ z.sound in if_both SteppedGoing _ (going (delay_held c g _ (fires_held _ (delay_of c _ y g)) y)) (going y);
          Stopwatch = λ s g p k z.
              let y = delay_held c g _ (pressed_held zero_real p (delay_of c s z.sound g)) z.sound in
              if_both (Going t) _ (going (set_output_sound c W _ _ (other_output c W.laid g 15 0 k refl (omega arith)) zero_real y)) (going y);
          Queue = λ s g k z.
              let y = readied_sound c W g 1 9 z.sound in
              going (count_held _ (delay_held c g _ (queue_held _ _ (read_row_fine c W _ g 1 8 (omega arith) y) (delay_of c _ y g)) y));
          VarGet = λ s g k z. going (set_output_sound c W _ _ (other_output c W.laid g 18 1 k refl (omega arith)) (z.sound.wires.real (var c g)) z.sound);
          VarSet = λ inside s g e z.
              let y = readied_sound c W g 2 1 z.sound in
              going (wires_sound c y (recorded_fine inside z.late _ g _ e (read_is_real c W _ g 2 y) y.wires).1);
          Branch = λ s g z. going (readied_sound c W g 1 1 z.sound);
          Union = λ s g z. if_both SteppedGoing _ z (passed_going s _ (length-set s.wires.unions_passed g true) z);
          Toggle = λ s g k z. going (set_output_sound c W _ _ (other_output c W.laid g 22 1 k refl (omega arith)) (truth_real _) z.sound);
          Cycle = λ s g p k z. going (set_output_sound c W _ _ (other_output c W.laid g 23 2 k refl (omega arith)) (int_real _) (readied_sound c W g 2 1 z.sound));
          SendEvent = λ s g _ z.
              let y = readied_sound c W g 2 8 z.sound in
              if_both (Going t) _ (going y) (going (outbox_held _ (all_append y.outbox (◌∷·◌ (read_row_fine c W _ g 2 8 (omega arith) y) [·])) y));
          Break = λ s z. break_going s true z;
        }

    -- ---- a chain, and the Loops that it runs

    shown_going : (s : State) (g p : ℕ) (v : Value) → eqb (kind_of_gate c g) 29 ≡ true → p < 4 → Real v → Going t s → Going t (set_output c s (output c g p) v)
    unfolding kinds_opened
    shown_going s g p v k l r z = going (set_output_sound c W _ _ (other_output c W.laid g 29 p (eqb-true _ 29 k) refl l) r z.sound)

    steps_going : StepsKeep c (Going t)
    unfolding no_unions unions_of runs_left_to show_loop
    steps_going =
        record {
          step = λ inside n s i z. exec_gate_keeps c (Going t) kinds_going inside s i z;
          loop_step = λ n s z. z;
          inputs_read = λ n s g z. going (readied_sound c W g 1 3 z.sound);
          broken = λ n s b z. break_going s b z;
          counted = λ n s m z. going (wires_sound c z.sound (runs_fine z.late s.wires m z.sound.wires));
          index_shown = λ n s g i k z. going (set_output_sound c W _ _ (W.entry_other g k) (int_real i) z.sound);
          body_entered = λ n s z. passed_going s _ (length-map s.wires.unions_passed _) z;
          body_left = λ m n s u z y. passed_going u _ (passed_length z ∙ sym (passed_length y)) y;
          loop_shown = λ n s g done aborted k z.
              shown_going _ g 3 _ k (omega arith) (truth_real false)
              (shown_going _ g 2 _ k (omega arith) (truth_real aborted) (shown_going _ g 1 _ k (omega arith) (int_real done) z));
        }

    pub run_chain_going : (left : ℕ) (q : Calls) (s : State) → Going t s → Going t (run_chain c left q s).state
    run_chain_going = run_chain_keeps c (Going t) steps_going
