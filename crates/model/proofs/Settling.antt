-- Settling never runs out of its rounds: more of them change nothing, and at its end no input waits.
use mathlib.Core.Path.{◌≡◌, refl, sym, ap, ◌∙◌}
use mathlib.Core.Bool.{Bool, true, false, not, ◌&&◌}
use mathlib.Core.List.{List, [], ◌∷◌}
use mathlib.Core.Option.{Option}
use Prim.Native.Nat.{ℕ, zero, suc, ◌+◌, ◌*◌, ◌≤◌, ◌<◌}
use native.Mathlib.Nat.{zero-add, mul-suc, mul-le-mul_left}
use native.Mathlib.Omega.{arith}
use lib.ListN.{length, get_or, set}
use Rattle.schedule.specs.Schedule.{When}
use Rattle.model.specs.declared.Value.{Value}
use Rattle.model.specs.declared.Value.TheVariants.{Nothing, Bool as Truth}
use Rattle.model.specs.Value.{bit, same}
use Rattle.model.specs.Kinds.{kind_at, pure}
use Rattle.model.specs.Circuit.{Circuit, kind_of_gate, output, gate_at_input, gate_at_output}
use Rattle.model.specs.State.{Wires, State, outs≔, dirty≔, to_check≔, late_checks≔, last≔, pulses≔, wires≔, delays≔, changed≔}
use Rattle.model.specs.Wires.{shown, show, soil, clean, watch, compute, recompute, ready, refresh_all, mark_readers, set_out}
use Rattle.model.specs.Exec.{count_changed, delay≔}
use Rattle.model.specs.Settle.{Settled, calm, raise, taken, pulse, detect, compared, check, check_on, most_checks, settle}
use Rattle.model.proofs.Lists.{if_both, if_by, count, count_most, count_set, steady}
use Rattle.model.proofs.Laid.{Laid}
use Rattle.model.proofs.Walks.{checked}
use Rattle.model.proofs.Kept.{last_sized, pulses_sized}
use Rattle.model.proofs.Checks.{pulses_up, pure_kind, detect_keeps}
use Rattle.model.proofs.Sized.{Pure, taken_sized, SizedWires, marks, show_sized, recompute_sized, ready_keeps, refresh_all_sized, mark_readers_keeps, mark_readers_sized}

module _ (c : Circuit) where
  -- ---- the rounds that settling may still take

  -- an output that a pulse may raise
  unfoldable detects : ℕ → Bool
  detects o = pulses_up (kind_of_gate c (gate_at_output c o))

  -- those of them that are not up
  unfoldable down : List Value → ℕ
  down vs = count (λ o v. detects o && not (same v (Truth true))) 0 vs

  -- each may go up once and then bring every input to wait
  unfoldable rounds : Wires → ℕ
  rounds w = suc (length c.pins) * down w.outs + length w.to_check

  down_same : (vs : List Value) (o : ℕ) (v : Value) → o < length vs → detects o ≡ false → down (set vs o v) ≡ down vs
  unfolding down bit
  down_same vs o v l e = omega (arith, rw (zero-add o, e) at (count_set (λ o v. detects o && not (same v (Truth true))) 0 vs o v Nothing l))

  down_rise :
      (vs : List Value) (o : ℕ) → o < length vs → detects o ≡ true → same (get_or vs o Nothing) (Truth true) ≡ false →
      suc (down (set vs o (Truth true))) ≡ down vs
  unfolding down bit same
  down_rise vs o l e f = omega (arith, rw (zero-add o, e, f) at (count_set (λ o v. detects o && not (same v (Truth true))) 0 vs o (Truth true) Nothing l))

  rounds_same : (v w : Wires) → down v.outs ≡ down w.outs → length v.to_check ≡ length w.to_check → rounds v ≡ rounds w
  unfolding rounds
  rounds_same v w e f = rw (e, f)

  -- marking shows nothing else
  marked_outs : (w : Wires) (o : ℕ) → (mark_readers c w o).outs ≡ w.outs
  unfolding soil watch dirty≔ to_check≔
  marked_outs w o =
      mark_readers_keeps c (λ v. v.outs ≡ w.outs) (λ v g p e. e) (λ v i q e. if_both (λ (u : Wires). u.outs ≡ w.outs) _ e e) w o refl

  waiting_most : (w : Wires) → SizedWires c w → length w.to_check ≤ length c.pins
  unfolding marks
  waiting_most w z = omega (arith, z.waiting, z.queued, count_most (λ _ b. b) 0 w.queued)

  -- no more than n rounds are left
  record Within (n : ℕ) (w : Wires) : Type 0 where
    sized : SizedWires c w
    few : rounds w ≤ n

  module _ (laid : Laid c) (n : ℕ) where
    -- refreshing shows nothing new at a detector
    recompute_within : (w : Wires) (g : ℕ) → pure (kind_of_gate c g) ≡ true → Within n w → Within n (recompute c w g)
    unfolding recompute show clean outs≔ dirty≔ detects
    recompute_within w g p z =
        let k = pure_kind (kind_of_gate c g) p in
        let l : output c g 0 < length w.outs = omega (arith, laid.output_in g 0 k.0, z.sized.outs) in
        let e : detects (output c g 0) ≡ false = rw (laid.output_of g 0 k.0) k.1 in
        record {
          sized = recompute_sized c w g z.sized;
          few = omega (arith, z.few, rounds_same (recompute c w g) w (down_same w.outs (output c g 0) (compute c w g) l e) refl);
        }

    ready_within : (w : Wires) (i : ℕ) → Within n w → Within n (ready c w i)
    ready_within = ready_keeps c (Within n) (Pure c) (λ w z. z.sized.stale) recompute_within

    -- an output that goes up leaves rounds for all that may wait then
    up_within : (w : Wires) (o : ℕ) → detects o ≡ true → o < length c.outputs → Within n w → Within n (set_out c w o (Truth true))
    unfolding set_out shown show outs≔ rounds
    up_within w o d l z =
        if_by (Within n) (same (shown w o) (Truth true)) (λ _. z) λ e.
        let y = mark_readers_sized c (show w o (Truth true)) o (show_sized c w o (Truth true) z.sized) in
        let r = down_rise w.outs o (omega (arith, z.sized.outs)) d e in
        let I = length c.pins in
        let x = ap down (marked_outs (show w o (Truth true)) o) in
        record {
          sized = y;
          few =
              rw x
              (omega (arith, z.few, waiting_most _ y, mul-suc (suc I) (down (set w.outs o (Truth true))), ap (λ k. suc I * k) r));
        }

    -- what is remembered takes no rounds
    raised_within : {w : Wires} (o : ℕ) → Within n w → Within n (pulses≔ w (set w.pulses o w.tick))
    unfolding pulses≔ rounds
    raised_within {w} o z = record { sized = pulses_sized c o _ z.sized; few = z.few }

    noted_within : {w : Wires} (i : ℕ) (v : Option Value) → Within n w → Within n (last≔ w (set w.last i v))
    unfolding last≔ rounds
    noted_within {w} i v z = record { sized = last_sized c i v z.sized; few = z.few }

    -- an output of kind 7 or 8 is such a one
    detector :
        (g o k : ℕ) → kind_of_gate c g ≡ k → pulses_up k ≡ true → o < length (kind_at k).outs →
        (detects (output c g o) ≡ true) × (output c g o < length c.outputs)
    unfolding detects
    detector g o k e u l =
        let m : o < length (kind_at (kind_of_gate c g)).outs = rw e l in
        (rw (laid.output_of g o m, e) u, laid.output_in g o m)

    pulse_within :
        (w : Wires) (g o k : ℕ) → kind_of_gate c g ≡ k → pulses_up k ≡ true → o < length (kind_at k).outs →
        Within n w → Within n (pulse c w (output c g o))
    unfolding pulse
    pulse_within w g o k e u l z = let d = detector g o k e u l in raised_within (output c g o) (up_within w (output c g o) d.0 d.1 z)

    -- ---- one check

    abbrev Fine : Settled → Type 0
    Fine z = Within n z.state.wires

    detect_within : (when : When) (s : State) (g p : ℕ) (was now : Value) → Within n s.wires → Fine (detect c (kind_of_gate c g) when s g p was now)
    unfolding calm raise delay≔ delays≔ wires≔ count_changed changed≔
    detect_within when s g p was now z = detect_keeps c Fine s g z (λ _ _. z) (λ o k e u l. pulse_within s.wires g o k e u l z) (λ _ _. z) when p was now

    check_within : (when : When) (s : State) (i : ℕ) → Within n s.wires → Fine (check c when s i)
    unfolding check compared wires≔ calm
    check_within when s i z = let y = noted_within i _ (ready_within s.wires i z) in if_both Fine _ y (detect_within when _ (gate_at_input c i) _ _ _ y)

  -- ---- the rounds

  taken_within : (n : ℕ) (w : Wires) (i : ℕ) (is : List ℕ) → w.to_check ≡ i ∷ is → Within (suc n) w → Within n (taken w i is)
  unfolding taken to_check≔ late_checks≔ rounds
  taken_within n w i is e z =
      record { sized = taken_sized c w i is e z.sized; few = omega (arith, z.few, ap length e) }

  none_waits : (n : ℕ) (z : Settled) → z.state.wires.to_check ≡ [] → check_on c n z ≡ z
  unfolding check_on
  none_waits zero z e = refl
  none_waits (suc n) z e = go z.state.wires.to_check e
    where
      go : (q : List ℕ) → q ≡ [] → ◌≡◌ {A = Settled} (elim q [ [] ↦ z | (i ∷ is) ↦ check_on c n (checked c z i is) ]) z
      go [] e = refl
      go (i ∷ is) e = cc

  pub one_waits : (n : ℕ) (z : Settled) (i : ℕ) (is : List ℕ) → z.state.wires.to_check ≡ i ∷ is → check_on c (suc n) z ≡ check_on c n (checked c z i is)
  unfolding check_on
  one_waits n z i is e = go z.state.wires.to_check e
    where
      go : (q : List ℕ) → q ≡ i ∷ is → ◌≡◌ {A = Settled} (elim q [ [] ↦ z | (j ∷ js) ↦ check_on c n (checked c z j js) ]) (check_on c n (checked c z i is))
      go [] e = cc
      go (j ∷ js) e =
          let a : j ≡ i = cc in
          let b : js ≡ is = cc in
          λ t. check_on c n (checked c z (a t) (b t))

  -- so many rounds end with none waiting, and one more changes nothing
  abbrev Ends : ℕ → Settled → Type 0
  Ends n z = (check_on c (suc n) z ≡ check_on c n z) × ((check_on c n z).state.wires.to_check ≡ [])

  none_ends : (n : ℕ) (z : Settled) → z.state.wires.to_check ≡ [] → Ends n z
  none_ends n z e = (none_waits (suc n) z e ∙ sym (none_waits n z e), ap (λ (y : Settled). y.state.wires.to_check) (none_waits n z e) ∙ e)

  module _ (laid : Laid c) where
    checked_within :
        (n : ℕ) (z : Settled) (i : ℕ) (is : List ℕ) → z.state.wires.to_check ≡ i ∷ is → Within (suc n) z.state.wires → Within n (checked c z i is).state.wires
    unfolding wires≔
    checked_within n z i is e y = check_within laid n _ _ i (taken_within n z.state.wires i is e y)

    settle_ends : (n : ℕ) (z : Settled) → Within n z.state.wires → Ends n z
    unfolding rounds
    settle_ends zero z y = go z.state.wires.to_check refl
      where
        go : (q : List ℕ) → z.state.wires.to_check ≡ q → Ends 0 z
        go [] e = none_ends 0 z e
        go (i ∷ is) e = absurd (omega (arith, y.few, ap length e))
    settle_ends (suc n) z y = go z.state.wires.to_check refl (λ r x. settle_ends n r x)
      where
        go : (q : List ℕ) → z.state.wires.to_check ≡ q → ((r : Settled) → Within n r.state.wires → Ends n r) → Ends (suc n) z
        go [] e rec = none_ends (suc n) z e
        go (i ∷ is) e rec =
            let r = rec (checked c z i is) (checked_within n z i is e y) in
            let a = one_waits n z i is e in
            (one_waits (suc n) z i is e ∙ r.0 ∙ sym a, ap (λ (y : Settled). y.state.wires.to_check) a ∙ r.1)

    -- ---- from the start of settling

    begun :
        (s : State) → SizedWires c s.wires → (n : ℕ) → most_checks c ≤ n →
        Within n (calm (wires≔ s (refresh_all c s.wires))).state.wires
    unfolding calm wires≔ rounds down
    begun s z n l =
        let w = refresh_all c s.wires in
        let y = refresh_all_sized c s.wires z in
        let I = length c.pins in
        let O = length c.outputs in
        let d : down w.outs ≤ O = omega (arith, y.outs, count_most (λ o v. detects o && not (same v (Truth true))) 0 w.outs) in
        record { sized = y; few = omega (arith, waiting_most w y, mul-suc (suc I) O, mul-le-mul_left (suc I) d) }

    -- with as many rounds as are taken, and any number more
    pub settling_never_runs_out :
        (s : State) → SizedWires c s.wires → (k : ℕ) →
        check_on c (most_checks c + k) (calm (wires≔ s (refresh_all c s.wires))) ≡ settle c s
    unfolding settle
    settling_never_runs_out s z k =
        steady (λ n. check_on c n (calm (wires≔ s (refresh_all c s.wires)))) (most_checks c)
        (λ n l. (settle_ends n _ (begun s z n l)).0) k

    -- no input waits when it ends
    pub settled : (s : State) → SizedWires c s.wires → (settle c s).state.wires.to_check ≡ []
    unfolding settle
    settled s z = let n = most_checks c in (settle_ends n _ (begun s z n (omega arith))).1
