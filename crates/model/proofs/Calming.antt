-- Publishing leaves no Var unpublished; it and settling keep a state sound, and what settling raises brings nothing.
use mathlib.Core.Path.{◌≡◌, refl, sym, ap, subst, ◌∙◌}
use mathlib.Core.Bool.{true, false}
use mathlib.Core.List.{List, [], ◌∷◌}
use mathlib.Core.Option.{Option, some}
use Prim.Native.Nat.{ℕ, ◌<◌}
use native.Mathlib.Omega.{arith}
use lib.Dec.{eqb}
use lib.ListN.{get_or, set}
use lib.Seq.{get_or-set_other}
use borrow.Author.Tests.{eqb-true}
use Rattle.schedule.specs.Schedule.{Raise, When}
use Rattle.schedule.specs.Promise.{All, [·], ◌∷·◌}
use Rattle.schedule.proofs.Members.{all_append}
use Rattle.model.specs.declared.Value.{Value}
use Rattle.model.specs.declared.Value.TheVariants.{Nothing, Float, Bool as Truth}
use Rattle.model.specs.Base.{each}
use Rattle.model.specs.Kinds.{kinds_opened}
use Rattle.model.specs.Circuit.{Circuit, kind_of_gate, gate_at_input}
use Rattle.model.specs.State.{Wires, State, Act, to_check≔, late_checks≔, last≔, pulses≔, written≔, written_outside≔, wires≔}
use Rattle.model.specs.Wires.{shown, look, ready, refresh_all, set_out}
use Rattle.model.specs.Settle.{Settled, calm, raise, taken, none_written, publish_write, publish_writes, pulse, edge, detect, compared, check, check_on, settle}
use Rattle.model.specs.Questions.{finite}
use Rattle.model.proofs.Lists.{places_set, if_both, if_by, each_keeps, among_neither}
use Rattle.model.proofs.Sized.{SizedWires, mark_readers_for_sized, taken_sized}
use Rattle.model.proofs.Walks.{check_on_keeps}
use Rattle.model.proofs.Kept.{last_sized, pulses_sized, publish_writes_sized}
use Rattle.model.proofs.Reals.{Real, truth_real}
use Rattle.model.proofs.Wired.{Wired}
use Rattle.model.proofs.Right.{Except, taking, all_fresh, Other, AllRight, alike_but, alike, to_mark, mark_readers_for_right}
use Rattle.model.proofs.Fine.{Fine, fine_aside, Alike, alike_itself, alike_again, marked_for_alike, set_out_fine, refresh_all_fine, refreshed_clean, clean_fine, read_fine, read_real}
use Rattle.model.proofs.Underway.{buffer_held, delay_held, count_held, delay_of}
use Rattle.model.proofs.Sound.{Sound, Brings, brings_none, other_output, wires_sound}
use Rattle.model.proofs.Stepping.{Going}

pub set_pulses :
    (P : ℕ → Type 0) (ps : List ℕ) (i n : ℕ) → (0 < n → P i) → ((o : ℕ) → 0 < get_or ps o 0 → P o) → (o : ℕ) → 0 < get_or (set ps i n) o 0 → P o
set_pulses P ps i n q k = places_set (λ o m. 0 < m → P o) ps i n 0 q k

module _ (c : Circuit) (W : Wired c) where
  -- ---- publishing

  publish_right : (t : Except) (os : List ℕ) (w : Wires) → SizedWires c w → AllRight c t os [] w → AllRight c t [] [] (each (publish_write c) w os)
  unfolding each publish_write
  publish_right t [] w z r = r
  publish_right t (o ∷ os) w z r =
      publish_right t os (publish_write c w o) (mark_readers_for_sized c _ w o z) (mark_readers_for_right c W t os _ w o z (to_mark c t os o r))

  pub publish_fine : (t : Except) (late : List ℕ) (w : Wires) → Fine c t late w → Fine c t [] (publish_writes c w)
  unfolding publish_writes publish_write none_written written≔ written_outside≔ shown
  publish_fine t late w f =
      let v = each (publish_write c) w w.written in
      let a = each_keeps (Alike w) (publish_write c) (λ u o b. alike_again b (marked_for_alike c _ u o)) w w.written (alike_itself w) in
      let r = publish_right t w.written w f.sized (subst (λ l. AllRight c t l [] w) (sym f.written) f.right) in
      record {
        sized = publish_writes_sized c w f.sized;
        written = refl;
        pulses = λ o l. f.pulses o (subst (λ (ps : List ℕ). 0 < get_or ps o 0) a.apart.pulses l);
        real = λ o. subst (λ (vs : List Value). Real (get_or vs o Nothing)) (sym a.outs) (f.real o);
        length_finite = ap finite a.apart.dt ∙ f.length_finite;
        uptime_real = subst (λ x. Real (Float x)) (sym a.apart.uptime) f.uptime_real;
        right = alike c t [] [] v (none_written v) refl refl refl refl refl r;
      }

  module _ (t : Except) (late : List ℕ) where
    -- ---- a pulse

    pulse_fine : (w : Wires) (o : ℕ) → Other c o → Fine c t late w → Fine c t late (pulse c w o)
    unfolding pulse pulses≔ shown
    pulse_fine w o u f =
        let v = set_out c w o (Truth true) in
        let y = set_out_fine c W t late w o (Truth true) u (truth_real true) f in
        record {
          sized = pulses_sized c o v.tick y.sized;
          written = y.written;
          pulses = set_pulses (Other c) v.pulses o v.tick (λ _. u) y.pulses;
          real = y.real;
          length_finite = y.length_finite;
          uptime_real = y.uptime_real;
          right = alike c t late [] v (pulses≔ v (set v.pulses o v.tick)) refl refl refl refl refl y.right;
        }

    noted_fine : (w : Wires) (i : ℕ) (v : Option Value) → Fine c t late w → Fine c t late (last≔ w (set w.last i v))
    unfolding last≔
    noted_fine w i v f = fine_aside c w _ refl refl refl refl refl refl refl (last_sized c i v f.sized) f

    taken_fine : (w : Wires) (i : ℕ) (is : List ℕ) → w.to_check ≡ i ∷ is → Fine c t late w → Fine c (taking i t) late (taken w i is)
    unfolding taken to_check≔ late_checks≔ shown
    taken_fine w i is e f =
        record {
          sized = taken_sized c w i is e f.sized;
          written = f.written;
          pulses = f.pulses;
          real = f.real;
          length_finite = f.length_finite;
          uptime_real = f.uptime_real;
          right =
              alike_but c t (taking i t) late [] w (taken w i is) refl refl refl refl refl refl
              (λ j n. let a = among_neither j i t.taken n in (a.1, λ e. get_or-set_other w.queued i j false true a.0 ∙ e)) f.right;
        }

    -- ---- a check

    pub record SettledSound (z : Settled) : Type 0 where
      pub state : Sound c t late z.state
      pub raises : All (λ (r : Raise State Act When). Brings c r.act) z.raises

    calm_sound : {s : State} → Sound c t late s → SettledSound (calm s)
    unfolding calm
    calm_sound z = record { state = z; raises = [·] }

    raise_sound : {s : State} (when : When) (g form : ℕ) → Sound c t late s → SettledSound (raise when s g form)
    unfolding raise
    raise_sound when g form z = record { state = z; raises = ◌∷·◌ (brings_none c g form) [·] }

    edge_sound : {s : State} (was now : Value) (hit : State → ℕ → Settled) → Sound c t late s → SettledSound (hit s 0) → SettledSound (hit s 1) → SettledSound (edge c s was now hit)
    unfolding edge
    edge_sound was now hit z a b = if_both SettledSound _ a (if_both SettledSound _ b (calm_sound z))

    pulsed_sound : {s : State} (o : ℕ) → Other c o → Sound c t late s → SettledSound (calm (wires≔ s (pulse c s.wires o)))
    pulsed_sound {s} o u z = calm_sound (wires_sound c z (pulse_fine s.wires o u z.wires))

    detect_sound : (when : When) (s : State) (g p : ℕ) (was now : Value) → Real now → Sound c t late s → SettledSound (detect c (kind_of_gate c g) when s g p was now)
    unfolding detect kinds_opened
    detect_sound when s g p was now r z =
        let k = kind_of_gate c g in
        if_both SettledSound _ (raise_sound _ g 0 z)
        (if_by SettledSound (eqb k 7)
        (λ e. edge_sound was now _ z
        (pulsed_sound _ (other_output c W.laid g 7 0 (eqb-true k 7 e) refl (omega arith)) z)
        (pulsed_sound _ (other_output c W.laid g 7 1 (eqb-true k 7 e) refl (omega arith)) z))
        λ _. if_by SettledSound (eqb k 8)
        (λ e. pulsed_sound _ (other_output c W.laid g 8 0 (eqb-true k 8 e) refl (omega arith)) z)
        λ _. if_both SettledSound _ (edge_sound was now _ z (raise_sound _ g _ z) (raise_sound _ g _ z))
        (if_both SettledSound _ (calm_sound (count_held _ (delay_held c g _ (buffer_held _ now _ r (delay_of c s z g)) z)))
        (if_both SettledSound _ (raise_sound _ g _ z) (calm_sound z))))

    -- of an input that was taken
    check_sound : (when : When) (s : State) (i : ℕ) → Sound c (taking i t) late s → SettledSound (check c when s i)
    unfolding check compared wires≔
    check_sound when s i z =
        let f = read_fine c W t late s.wires i z.wires in
        let r = read_real c W t late (ready c s.wires i) f i in
        let y = wires_sound c (wires_sound c z f) (noted_fine (ready c s.wires i) i (some (look c (ready c s.wires i) i)) f) in
        if_both SettledSound _ (calm_sound y) (detect_sound when _ (gate_at_input c i) _ _ _ r y)

    check_on_sound : (n : ℕ) (z : Settled) → SettledSound z → SettledSound (check_on c n z)
    check_on_sound =
        check_on_keeps c SettledSound λ z i is e y.
        let x = check_sound _ _ i (wires_sound c y.state (taken_fine z.state.wires i is e y.state.wires)) in
        record { state = x.state; raises = all_append y.raises x.raises }

  -- from its start on no gate is stale but those that a pulse makes so
  pub settle_sound : (t : Except) (late : List ℕ) (s : State) → Sound c t late s → SettledSound (all_fresh t) late (settle c s)
  unfolding settle
  settle_sound t late s z =
      let f = refresh_all_fine c W t late s.wires z.wires in
      check_on_sound (all_fresh t) late _ _
      (calm_sound (all_fresh t) late (wires_sound c z (clean_fine c W t late (refresh_all c s.wires) (refreshed_clean c W t late s.wires z.wires) f)))

  -- ---- the end of a chain

  pub published_sound : (t : Except) (s : State) → Going c W t s → SettledSound (all_fresh t) [] (settle c (wires≔ s (publish_writes c s.wires)))
  published_sound t s z = settle_sound t [] _ (wires_sound c z.sound (publish_fine t z.late s.wires z.sound.wires))
