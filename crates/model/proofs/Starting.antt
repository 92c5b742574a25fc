-- The start of a run is sound, and the opening of a tick keeps a state sound; what it raises brings values only to outputs of gates that are not pure.
use mathlib.Core.Path.{◌≡◌, refl, sym, ap, subst, ◌∙◌}
use mathlib.Core.Logic.{◌⊎◌, inl, inr}
use mathlib.Core.Bool.{Bool, true, false, ◌&&◌, ◌||◌}
use mathlib.Core.List.{List, [], ◌∷◌, map}
use mathlib.Core.Option.{Option, none, some}
use Prim.Native.Nat.{ℕ, zero, suc, ◌+◌, ◌≤◌, ◌<◌}
use native.Mathlib.Nat.{zero-add}
use native.Mathlib.Omega.{arith}
use lib.Dec.{leb, ltb, eqb}
use lib.ListN.{length, get_or, set, replicate, length-map, get_or-map}
use borrow.Author.Tests.{eqb-true, eqb-false, leb-true, ltb-true}
use Rattle.schedule.specs.Schedule.{Raise, Place, to_late, to_delivered}
use Rattle.schedule.specs.Promise.{All, [·], ◌∷·◌}
use Rattle.schedule.proofs.Members.{all_append}
use Rattle.model.specs.declared.Value.{Value}
use Rattle.model.specs.declared.Value.TheVariants.{Nothing, Bool as Truth}
use Rattle.model.specs.Base.{if◌then◌otherwise◌, each, keep, all, joined, from}
use Rattle.model.specs.Value.{value_opened}
use Rattle.model.specs.Kinds.{pure, time_source, receiving, kinds_opened}
use Rattle.model.specs.Circuit.{Circuit, kind_of_gate, input, output, source, setting, watching, gates_of}
use Rattle.model.specs.Script.{Given}
use Rattle.model.specs.State.{Wires, State, Act, Send, idle, times≔, dirty≔, to_check≔, pulses≔, unions_passed≔, runs_left≔}
use Rattle.model.specs.Wires.{shown, is_dirty, soil, watch, look, compute, invalidate}
use Rattle.model.specs.Delays.{Moved}
use Rattle.model.specs.Opening.{wires_stale, wires_fresh, wires_at_start, start, Opened, raised_to, fire, next_tick, begin_tick, delivered, lower, advanced, advance_buffer, advance_clock, advance_timer, open_tick}
use Rattle.model.specs.Run.{Allowed}
use Rattle.model.specs.Questions.{finite}
use Rattle.model.proofs.Lists.{if_both, if_by, both_true, each_keeps, each_keeps_all, all_keep, map_all, all_same, among_from, not_so, clash, among_none, neither_among, mark_kept, either_false, either_true}
use Rattle.model.proofs.Sized.{SizedWires, mark_readers_keeps}
use Rattle.model.proofs.Placing.{pure_in}
use lib.Seq.{get_or-set_same}
use Rattle.model.proofs.Kept.{stale_sized, pulses_sized, passed_sized, runs_sized, times_sized, time_pure, invalidate_sized}
use Rattle.model.proofs.Stale.{if_same}
use Rattle.model.proofs.Reals.{Real, nothing_real, truth_real, zero_real, plus_real, as_float_real}
use Rattle.model.proofs.Wired.{Wired}
use Rattle.model.proofs.Right.{Except, no_exception, until_timed, Other, alike, invalidate_right}
use Rattle.model.proofs.Fine.{set_real, Fine, Alike, alike_itself, alike_again, fine_as, soil_alike, marked_alike, watch_fine, set_out_fine, set_outs_fine, refresh_all_fine, refreshed_clean, clean_fine}
use Rattle.model.proofs.Underway.{Row, idle_held, advance_flight_held, advance_fires_held, advance_records_held, advance_elapsed_held, advance_time_held, delay_held, outbox_held, changed_held, count_held, delay_of, SendsHeld}
use Rattle.model.proofs.Sound.{DelayFine, MovedFine, Sound, Brings, brings_none, other_outputs, wires_sound, readied_sound, read_is_real}
use Rattle.model.proofs.Calming.{set_pulses, settle_sound}
use Rattle.model.proofs.Scripts.{GivenSo}

zero_finite : finite 0 ≡ true
unfolding finite value_opened
zero_finite = refl

-- what the script gives to a tick: a length that is finite, and stimuli that bring values only where they may
abbrev pub GivenFine : Circuit → Given → Type 0
GivenFine c = GivenSo (λ dt. finite dt ≡ true) (Brings c)

abbrev pub AllowedFine : Circuit → Allowed → Type 0
AllowedFine c i = GivenFine c i.given

module _ (c : Circuit) (W : Wired c) where
  -- ---- the start

  setting_real : (g p : ℕ) → Real (setting c g p)
  unfolding setting
  setting_real g p = W.stored (input c g p)

  -- before all is refreshed, every pure gate is stale, and no input waits
  abbrev all_stale : Except
  all_stale = record { unsure = []; soiled = c.time_sources; taken = from 0 (length c.pins) }

  stale_fine : Fine c all_stale [] (wires_stale c)
  unfolding shown is_dirty pure kind_of_gate
  stale_fine =
      record {
        sized = stale_sized c;
        written = refl;
        pulses = λ o l. absurd (omega (arith, l, all_same {A = ℕ} (length c.outputs) o 0));
        real =
            each_keeps (λ (vs : List Value). (o : ℕ) → Real (get_or vs o Nothing)) _ (λ vs g k. set_real vs (output c g 0) (setting c g 0) (setting_real g 0) k)
            (replicate (length c.outputs) Nothing) (gates_of c (λ k. eqb k 5))
            (λ o. subst (λ v. Real v) (sym (all_same (length c.outputs) o Nothing)) nothing_real);
        length_finite = zero_finite;
        uptime_real = zero_real;
        right =
            record {
              gates = λ g p d n. clash (get_or-map pure c.kinds g 0 ∙ p) d;
              inputs = λ i n a b o e s. clash (rw zero-add at (among_from 0 (length c.pins) i (W.source_at i o e))) n;
              times = λ g e s. W.timed g e;
            };
      }

  wires_fresh_fine : Fine c no_exception [] (wires_fresh c)
  unfolding wires_fresh
  wires_fresh_fine =
      clean_fine c W all_stale [] _ (refreshed_clean c W all_stale [] (wires_stale c) stale_fine) (refresh_all_fine c W all_stale [] (wires_stale c) stale_fine)

  wires_at_start_fine : Fine c no_exception [] (wires_at_start c)
  unfolding wires_at_start
  wires_at_start_fine = each_keeps_all (Fine c no_exception []) (watching c) watch (watch_fine c W no_exception []) _ _ (all_keep (watching c) _) wires_fresh_fine

  pub start_sound : Sound c no_exception [] (start c)
  unfolding start
  start_sound =
      record {
        wires = wires_at_start_fine;
        delays = λ g. subst DelayFine (sym (all_same (length c.kinds) g idle)) (idle_held zero_real);
        outbox = [·];
      }

  -- ---- the next tick: of the time sources nothing is said until they are stale

  untimed : (v w : Wires) (g : ℕ) → v.outs ≡ w.outs → pure (kind_of_gate c g) ≡ true → time_source (kind_of_gate c g) ≡ false → compute c v g ≡ compute c w g
  unfolding compute look shown pure time_source
  untimed v w g e p t =
      if_same (eqb k 1) (λ _. rw (at (input c g 0), at (input c g 1), at (input c g 2))) λ a.
      if_same (eqb k 2) (λ _. at (input c g 0)) λ b. absurd (neither a b)
    where
      k : ℕ
      k = kind_of_gate c g

      at : (i : ℕ) → look c v i ≡ look c w i
      at i = go (source c i) refl
        where
          go : (x : Option ℕ) → source c i ≡ x → look c v i ≡ look c w i
          go none q = rw (q, look)
          go (some o) q = rw (q, look) (ap (λ (vs : List Value). get_or vs o Nothing) e)

      neither : eqb (kind_of_gate c g) 1 ≡ false → eqb (kind_of_gate c g) 2 ≡ false → ⊥
      neither a b =
          let q = both_true (leb 1 (kind_of_gate c g)) (leb (kind_of_gate c g) 4) p in
          let r = either_false (eqb (kind_of_gate c g) 3) (eqb (kind_of_gate c g) 4) t in
          four (kind_of_gate c g) (leb-true 1 _ q.0) (leb-true _ 4 q.1) (eqb-false _ 1 a) (eqb-false _ 2 b) (eqb-false _ 3 r.0) (eqb-false _ 4 r.1)
        where
          four : (n : ℕ) → 1 ≤ n → n ≤ 4 → (n ≡ 1 → ⊥) → (n ≡ 2 → ⊥) → (n ≡ 3 → ⊥) → (n ≡ 4 → ⊥) → ⊥
          four zero l m a b d e = omega arith
          four (suc zero) l m a b d e = a refl
          four (suc (suc zero)) l m a b d e = b refl
          four (suc (suc (suc zero))) l m a b d e = d refl
          four (suc (suc (suc (suc zero)))) l m a b d e = e refl
          four (suc (suc (suc (suc (suc n))))) l m a b d e = omega arith

  module _ (late : List ℕ) where
    abbrev T : Except
    T = until_timed c

    pub next_tick_fine : (w : Wires) (dt : ℕ) → finite dt ≡ true → Fine c no_exception late w → Fine c T late (next_tick w dt)
    unfolding next_tick times≔ unions_passed≔ runs_left≔ shown is_dirty
    next_tick_fine w dt q f =
        record {
          sized = runs_sized c _ (passed_sized c _ (length-map w.unions_passed _) (times_sized c w _ _ _ f.sized));
          written = f.written;
          pulses = f.pulses;
          real = f.real;
          length_finite = q;
          uptime_real = plus_real w.uptime dt f.uptime_real q;
          right =
              record {
                gates = λ g p d n.
                    let y = f.right.gates g p d (among_none g) in
                    record {
                      sources = y.sources;
                      shows = λ h. y.shows h ∙ sym (untimed (next_tick w dt) w g refl p (not_so _ λ e. clash (W.timed g e) n));
                    };
                inputs = f.right.inputs;
                times = f.right.times;
              };
        }

    pub begin_tick_sound : (s : State) (dt : ℕ) → finite dt ≡ true → Sound c no_exception late s → Sound c T late (begin_tick s dt)
    unfolding begin_tick
    begin_tick_sound s dt q z = changed_held _ (outbox_held [] [·] (wires_sound c z (next_tick_fine s.wires dt q z.wires)))

    -- ---- what came

    pub raised_brings : (p : Place) (s : State) (acts : List Act) → All (Brings c) acts → All (λ (r : Raise State Act Place). Brings c r.act) (raised_to p s acts)
    unfolding raised_to
    raised_brings p s acts a = map_all (λ (r : Raise State Act Place). Brings c r.act) _ a

    -- of those that pass another test too
    pub kept_all :
        {A : Type 0} (P : A → Type 0) (f : ℕ → A) (q p : ℕ → Bool) → ((x : ℕ) → q x ≡ true → P (f x)) → (xs : List ℕ) → all q xs ≡ true → All P (map f (keep p xs))
    unfolding keep all if◌then◌otherwise◌
    kept_all P f q p k [] h = [·]
    kept_all P f q p k (x ∷ xs) h =
        let t = both_true (q x) (all q xs) h in
        go (p x) (k x t.0) (kept_all P f q p k xs t.1)
      where
        go : (b : Bool) → P (f x) → All P (map f (keep p xs)) → All P (map f (if b then x ∷ keep p xs otherwise keep p xs))
        go true r a = ◌∷·◌ r a
        go false r a = a

    receiver_others : (g : ℕ) → receiving (kind_of_gate c g) ≡ true → (i : ℕ) → i < 8 → Other c (output c g 1 + i)
    unfolding receiving kinds_opened
    receiver_others g e = go (either_true (eqb (kind_of_gate c g) 26) _ e)
      where
        go : (eqb (kind_of_gate c g) 26 ≡ true) ⊎ (eqb (kind_of_gate c g) 27 ≡ true) → (i : ℕ) → i < 8 → Other c (output c g 1 + i)
        go (inl h) = other_outputs c W.laid g 26 1 8 (eqb-true _ 26 h) refl (omega arith)
        go (inr h) = other_outputs c W.laid g 27 1 8 (eqb-true _ 27 h) refl (omega arith)

    delivered_brings : (m : Send) → Row Real m.row → All (Brings c) (delivered c m)
    unfolding delivered
    delivered_brings m r =
        kept_all (Brings c) _ (λ g. receiving (kind_of_gate c g)) _
        (λ g e. record { others = λ k l. receiver_others g e k (omega (arith, r.few)); real = r.each }) c.receivers W.receivers

    pub all_delivered : (ms : List Send) → SendsHeld Real ms → All (Brings c) (joined (map (delivered c) ms))
    unfolding joined
    all_delivered [] [·] = [·]
    all_delivered (m ∷ ms) (◌∷·◌ r a) = all_append (delivered_brings m r) (all_delivered ms a)

    -- ---- ended pulses

    pub lowered_fine : (w : Wires) (o : ℕ) → Other c o → Fine c T late w → Fine c T late (pulses≔ w (set w.pulses o 0))
    unfolding pulses≔ shown
    lowered_fine w o u f =
        record {
          sized = pulses_sized c o 0 f.sized;
          written = f.written;
          pulses = set_pulses (Other c) w.pulses o 0 (λ _. u) f.pulses;
          real = f.real;
          length_finite = f.length_finite;
          uptime_real = f.uptime_real;
          right = alike c T late [] w (pulses≔ w (set w.pulses o 0)) refl refl refl refl refl f.right;
        }

    -- a pulse is noted at outputs of gates that are not pure alone
    pub lowers_other : (w : Wires) (o : ℕ) → Fine c T late w → (ltb 0 (get_or w.pulses o 0) && leb (get_or w.pulses o 0 + 2) w.tick) ≡ true → Other c o
    lowers_other w o f e = f.pulses o (ltb-true 0 _ (both_true (ltb 0 (get_or w.pulses o 0)) _ e).0)

    pub lower_fine : (w : Wires) (o : ℕ) → Fine c T late w → Fine c T late (lower c w o)
    unfolding lower
    lower_fine w o f =
        if_by (Fine c T late) (ltb 0 (get_or w.pulses o 0) && leb (get_or w.pulses o 0 + 2) w.tick)
        (λ e. let u = lowers_other w o f e in set_out_fine c W T late _ o (Truth false) u (truth_real false) (lowered_fine w o u f)) (λ _. f)

    -- ---- what moves on

    pub record OpenedSound (t : Except) (z : Opened) : Type 0 where
      pub state : Sound c t late z.state
      pub raises : All (λ (r : Raise State Act Place). Brings c r.act) z.raises

    fires_bring : (n g : ℕ) → All (Brings c) (fire n g)
    unfolding fire
    fires_bring zero g = [·]
    fires_bring (suc n) g = ◌∷·◌ (brings_none c g 0) (fires_bring n g)

    advanced_sound :
        (z : Opened) (s : State) (place : Place) (g p n : ℕ) (m : Moved) → OpenedSound T z → Sound c T late s → MovedFine n m →
        ((i : ℕ) → i < n → Other c (output c g p + i)) → OpenedSound T (advanced c z s place g p m)
    unfolding advanced
    advanced_sound z s place g p n m y x f k =
        record {
          state =
              count_held m.changed (wires_sound c (delay_held c g m.state f.state x)
              (set_outs_fine c W T late m.row s.wires (output c g p) (λ i l. k i (omega (arith, f.few))) f.each x.wires));
          raises = all_append y.raises (raised_brings place _ (fire m.fires g) (fires_bring m.fires g));
        }

    -- the outputs that a value buffer and a Queue hand out to
    pub buffer_other : (g : ℕ) → (eqb (kind_of_gate c g) 10 || eqb (kind_of_gate c g) 12) ≡ true → (i : ℕ) → i < 1 → Other c (output c g 0 + i)
    unfolding kinds_opened
    buffer_other g e = go (either_true (eqb (kind_of_gate c g) 10) _ e)
      where
        go : (eqb (kind_of_gate c g) 10 ≡ true) ⊎ (eqb (kind_of_gate c g) 12 ≡ true) → (i : ℕ) → i < 1 → Other c (output c g 0 + i)
        go (inl h) = other_outputs c W.laid g 10 0 1 (eqb-true _ 10 h) refl (omega arith)
        go (inr h) = other_outputs c W.laid g 12 0 1 (eqb-true _ 12 h) refl (omega arith)

    pub queue_others : (g : ℕ) → (eqb (kind_of_gate c g) 16 || eqb (kind_of_gate c g) 17) ≡ true → (i : ℕ) → i < 8 → Other c (output c g 1 + i)
    unfolding kinds_opened
    queue_others g e = go (either_true (eqb (kind_of_gate c g) 16) _ e)
      where
        go : (eqb (kind_of_gate c g) 16 ≡ true) ⊎ (eqb (kind_of_gate c g) 17 ≡ true) → (i : ℕ) → i < 8 → Other c (output c g 1 + i)
        go (inl h) = other_outputs c W.laid g 16 1 8 (eqb-true _ 16 h) refl (omega arith)
        go (inr h) = other_outputs c W.laid g 17 1 8 (eqb-true _ 17 h) refl (omega arith)

    pub advance_buffer_sound : (dt : ℕ) (z : Opened) (g : ℕ) → OpenedSound T z → OpenedSound T (advance_buffer c dt z g)
    unfolding advance_buffer kinds_opened
    advance_buffer_sound dt z g y =
        let k = kind_of_gate c g in
        let s = y.state in
        let d = delay_of c z.state s g in
        if_by (OpenedSound T) (eqb k 10 || eqb k 12)
        (λ e. advanced_sound z _ _ g 0 1 _ y s (advance_flight_held _ dt _ d) (buffer_other g e))
        λ _. if_both (OpenedSound T) _
        (advanced_sound z _ _ g 0 0 _ y s (advance_fires_held dt _ d) (λ i l. absurd (omega arith)))
        (if_by (OpenedSound T) (eqb k 16 || eqb k 17)
        (λ e. advanced_sound z _ _ g 1 8 _ y s (advance_records_held dt _ d) (queue_others g e))
        λ _. y)

    pub advance_clock_sound : (z : Opened) (g : ℕ) → OpenedSound T z → OpenedSound T (advance_clock c z g)
    unfolding advance_clock
    advance_clock_sound z g y =
        let s = readied_sound c W g 0 2 y.state in
        let d = delay_of c _ s g in
        advanced_sound z _ _ g 0 0 _ y s (advance_elapsed_held zero_real _ _ _ _ (plus_real _ _ d.elapsed s.wires.length_finite) d) (λ i l. absurd (omega arith))

    pub advance_timer_sound : (z : Opened) (g : ℕ) → eqb (kind_of_gate c g) 15 ≡ true → OpenedSound T z → OpenedSound T (advance_timer c z g)
    unfolding advance_timer kinds_opened
    advance_timer_sound z g e y =
        let s = readied_sound c W g 3 1 y.state in
        let d = delay_of c _ s g in
        advanced_sound z _ _ g 0 1 _ y s
        (advance_time_held _ _ _ (λ _. as_float_real _ (read_is_real c W _ g 3 s)) (plus_real _ _ d.elapsed s.wires.length_finite) (λ _ r. r) d)
        (other_outputs c W.laid g 15 0 1 (eqb-true _ 15 e) refl (omega arith))

    -- ---- the time sources become stale

    invalidated_stale : (w : Wires) (g : ℕ) → SizedWires c w → pure (kind_of_gate c g) ≡ true → is_dirty (invalidate c w g) g ≡ true
    unfolding invalidate soil watch dirty≔ to_check≔ is_dirty
    invalidated_stale w g z p =
        mark_readers_keeps c (λ v. get_or v.dirty g false ≡ true) (λ v h _ e. mark_kept false v.dirty h g e)
        (λ v i q e. if_both (λ (u : Wires). get_or u.dirty g false ≡ true) _ e e) (soil w g) (output c g 0)
        (get_or-set_same w.dirty g true false (omega (arith, pure_in c g p, z.dirty)))

    pub invalidate_alike : (w : Wires) (g : ℕ) → Alike w (invalidate c w g)
    unfolding invalidate
    invalidate_alike w g = alike_again (soil_alike w g) (marked_alike c (soil w g) (output c g 0))

    -- while they become stale, those of gs are left
    abbrev soiling : List ℕ → Except
    soiling gs = record { unsure = gs; soiled = c.time_sources; taken = [] }

    invalidate_fine : (w : Wires) (g : ℕ) (gs : List ℕ) → time_source (kind_of_gate c g) ≡ true → Fine c (soiling (g ∷ gs)) late w → Fine c (soiling gs) late (invalidate c w g)
    invalidate_fine w g gs e f =
        let p = time_pure c (kind_of_gate c g) e in
        let r = invalidate_right c W (soiling (g ∷ gs)) late w g f.sized p (W.timed g e) f.right in
        fine_as c (invalidate_alike w g) refl (invalidate_sized c w g e f.sized)
        (record {
          gates = λ h q d n. r.gates h q d (neither_among h g gs (λ s. clash (subst (λ x. is_dirty (invalidate c w g) x ≡ true) (sym s) (invalidated_stale w g f.sized p)) d) n);
          inputs = r.inputs;
          times = r.times;
        }) f

    invalidate_each :
        (gs : List ℕ) (w : Wires) → all (λ g. time_source (kind_of_gate c g)) gs ≡ true → Fine c (soiling gs) late w → Fine c (soiling []) late (each (invalidate c) w gs)
    unfolding each all
    invalidate_each [] w h f = f
    invalidate_each (g ∷ gs) w h f =
        let t = both_true (time_source (kind_of_gate c g)) (all (λ g. time_source (kind_of_gate c g)) gs) h in
        invalidate_each gs (invalidate c w g) t.1 (invalidate_fine w g gs t.0 f)

    pub invalidate_all : (w : Wires) → Fine c T late w → Fine c (soiling []) late (each (invalidate c) w c.time_sources)
    invalidate_all w f =
        let r = f.right in
        invalidate_each c.time_sources w W.laid.times
        (fine_as c (alike_itself w) refl f.sized
        (record { gates = r.gates; inputs = r.inputs; times = λ g e s. W.timed g e }) f)

    -- ---- all of it

    pub open_tick_sound : (s : State) (given : Given) → GivenFine c given → Sound c no_exception late s → OpenedSound no_exception (open_tick c s given)
    unfolding open_tick
    open_tick_sound s given q z =
        let z₁ = begin_tick_sound s given.dt q.length z in
        let came = all_append (raised_brings to_delivered _ _ (all_delivered s.outbox z.outbox)) (raised_brings to_late _ given.stimuli q.stimuli) in
        let z₂ = wires_sound c z₁ (each_keeps (Fine c T late) (lower c) lower_fine _ (from 0 (length c.outputs)) z₁.wires) in
        let b = each_keeps (OpenedSound T) (advance_buffer c _) (advance_buffer_sound _) _ c.buffers (record { state = z₂; raises = came }) in
        let k = each_keeps (OpenedSound T) (advance_clock c) advance_clock_sound _ c.clocks b in
        let t = each_keeps_all (OpenedSound T) (λ g. eqb (kind_of_gate c g) 15) (advance_timer c) advance_timer_sound _ c.stopwatches W.stopwatches k in
        let x = settle_sound c W (soiling []) late _ (wires_sound c t.state (invalidate_all _ t.state.wires)) in
        record { state = x.state; raises = all_append t.raises (map_all (λ (r : Raise State Act Place). Brings c r.act) _ x.raises) }
