-- Two wires in the opening of a tick, before its time sources are stale, that differ at most in which pure gates are stale and in what pure gates show: twins.
-- What is read of one is read of the other, what changes one changes the other alike, and at rest they are the same.
use mathlib.Core.Path.{◌≡◌, refl, sym, ap, subst, ◌∙◌}
use mathlib.Core.Logic.{◌⊎◌, inl, inr}
use mathlib.Core.Bool.{Bool, true, false, ◌||◌, ◌&&◌}
use mathlib.Core.List.{List, [], ◌∷◌, map}
use Prim.Native.Nat.{ℕ, zero, suc, ◌+◌, ◌<◌}
use native.Mathlib.Nat.{add-zero}
use native.Mathlib.Omega.{arith}
use lib.Dec.{leb, ltb}
use lib.ListN.{length, get_or, set}
use Rattle.schedule.specs.Promise.{All, [·], ◌∷·◌}
use Rattle.model.specs.declared.Value.{Value}
use Rattle.model.specs.declared.Value.TheVariants.{Nothing, Bool as Truth}
use Rattle.model.specs.Base.{all, each, among}
use Rattle.model.specs.Value.{plus64, same}
use Rattle.model.specs.Kinds.{pure, time_source}
use Rattle.model.specs.Circuit.{Circuit, kind_of_gate, output, gate_at_input, gate_at_output, readers_of, watching}
use Rattle.model.specs.State.{Wires, outs≔, dirty≔, to_check≔, times≔, pulses≔, unions_passed≔, runs_left≔}
use Rattle.model.specs.Wires.{shown, show, is_dirty, soil, watch, look, refresh_all, ready, mark_readers, invalidate, set_out, set_outs}
use Rattle.model.specs.Opening.{next_tick, lower}
use Rattle.model.specs.Questions.{finite}
use Rattle.model.proofs.Lists.{if_both, if_alike, both_true, each_keeps, all_among, set_same, not_so, clash, among_none}
use Rattle.model.proofs.Sized.{SizedWires, show_sized, soil_sized, mark_readers_keeps, refresh_all_sized}
use Rattle.model.proofs.Kept.{time_pure, invalidate_sized}
use Rattle.model.proofs.Stale.{all_clean, output_own}
use Rattle.model.proofs.Reals.{Real}
use Rattle.model.proofs.Wired.{Wired}
use Rattle.model.proofs.Right.{Except, no_exception, until_timed, Other}
use Rattle.model.proofs.Fine.{Apart, apart_on, apart_back, Alike, alike_itself, alike_again, Fine, marked_alike, set_out_fine, ready_fine, refresh_all_fine}
use Rattle.model.proofs.Silent.{Silent, Besides, soil_silent, soil_besides, mark_readers_silent, mark_readers_besides}
use Rattle.model.proofs.Rested.{Aside, aside_on, aside_back, rest_aside, rest_shown, readied_each, look_rests, rests_same}
use Rattle.model.proofs.Starting.{next_tick_fine, lowered_fine, lowers_other, lower_fine, invalidate_alike, invalidate_all}

-- marks of two lists, of which one has none
none_besides : (bs ds : List Bool) → length bs ≡ length ds → ((g : ℕ) → get_or ds g false ≡ false) → (g : ℕ) → get_or bs g true ≡ (get_or ds g true || get_or bs g false)
none_besides [] [] l k g = refl
none_besides [] (d ∷ ds) l k g = absurd (omega arith)
none_besides (b ∷ bs) [] l k g = absurd (omega arith)
none_besides (b ∷ bs) (d ∷ ds) l k zero = rw (k 0) refl
none_besides (b ∷ bs) (d ∷ ds) l k (suc g) = none_besides bs ds (omega arith) (λ n. k (suc n)) g

module _ (c : Circuit) (W : Wired c) where
  abbrev T : Except
  T = until_timed c

  -- an output of a gate that is not pure, or of a time source
  abbrev Known : ℕ → Type 0
  Known o = Other c o ⊎ (among (gate_at_output c o) c.time_sources ≡ true)

  -- wires that differ at most in which pure gates are stale, and in what pure gates show that are no time sources
  pub record Near (w v : Wires) : Type 0 where
    pub aside : Aside w v
    pub shown : (o : ℕ) → Known o → shown v o ≡ shown w o

  pub record Twin (w v : Wires) : Type 0 where
    pub first : Fine c T [] w
    pub second : Fine c T [] v
    pub near : Near w v

  -- ---- at rest

  timed_source : (g : ℕ) → among g c.time_sources ≡ true → time_source (kind_of_gate c g) ≡ true
  timed_source g e = all_among (λ h. time_source (kind_of_gate c h)) c.time_sources W.laid.times g e

  other_clean : (w : Wires) → SizedWires c w → (o : ℕ) → Other c o → is_dirty w (gate_at_output c o) ≡ false
  other_clean w z o e = not_so _ λ s. clash (z.stale (gate_at_output c o) s) e

  -- no time source is stale
  abbrev TimesClean : Wires → Type 0
  TimesClean w = (g : ℕ) → time_source (kind_of_gate c g) ≡ true → is_dirty w g ≡ true → among g [] ≡ true

  known_clean : (w : Wires) → SizedWires c w → TimesClean w → (o : ℕ) → Known o → is_dirty w (gate_at_output c o) ≡ false
  known_clean w z k o (inl e) = other_clean w z o e
  known_clean w z k o (inr e) = let g = gate_at_output c o in not_so _ λ s. clash (k g (timed_source g e) s) (among_none g)

  pub twin_rests : {w v : Wires} → Twin w v → refresh_all c v ≡ refresh_all c w
  twin_rests {w} {v} t =
      let z = t.first.sized in
      let y = t.second.sized in
      let a = aside_on (aside_back (rest_aside c W w z)) (aside_on t.near.aside (rest_aside c W v y)) in
      rests_same c W T (refresh_all c w) (refresh_all c v) (refresh_all_fine c W T [] w t.first) (refresh_all_fine c W T [] v t.second)
      (all_clean c W.heights w z) (all_clean c W.heights v y) a.apart
      (λ o k. rest_shown c W v y o (known_clean v y t.second.right.times o k) ∙ t.near.shown o k ∙ sym (rest_shown c W w z o (known_clean w z t.first.right.times o k)))
      a.to_check a.queued a.late

  -- wires that come to the same rest are twins
  rests_near : (w v : Wires) → Fine c T [] w → Fine c T [] v → refresh_all c v ≡ refresh_all c w → Near w v
  rests_near w v f h e =
      record {
        aside = aside_on (rest_aside c W w f.sized) (aside_back (subst (Aside v) e (rest_aside c W v h.sized)));
        shown = λ o k.
            sym (rest_shown c W v h.sized o (known_clean v h.sized h.right.times o k)) ∙ ap (λ (u : Wires). shown u o) e ∙ rest_shown c W w f.sized o (known_clean w f.sized f.right.times o k);
      }

  -- wires that were read for a record, and the same unread
  pub read_near : (w : Wires) → Fine c no_exception [] w → Near (refresh_all c w) w
  read_near w f =
      record {
        aside = aside_back (rest_aside c W w f.sized);
        shown = λ o k. sym (rest_shown c W w f.sized o (known_clean w f.sized f.right.times o k));
      }

  -- ---- marking goes as it does at rest

  fine_silent : (w v : Wires) → Fine c T [] w → v.queued ≡ w.queued → Silent c (is_dirty w) v
  fine_silent w v f q = record { gates = gates; inputs = inputs }
    where
      -- the output that a reader reads is stale
      reads_stale : (g : ℕ) → is_dirty w g ≡ true → is_dirty w (gate_at_output c (output c g 0)) ≡ true
      reads_stale g d = ap (is_dirty w) (output_own c W.laid g (output c g 0) (f.sized.stale g d) refl) ∙ d

      gates :
          (g i : ℕ) → is_dirty w g ≡ true → among i (readers_of c (output c g 0)) ≡ true → pure (kind_of_gate c (gate_at_input c i)) ≡ true →
          is_dirty w (gate_at_input c i) ≡ true
      gates g i d m p = go (is_dirty w (gate_at_input c i)) refl
        where
          go : (b : Bool) → is_dirty w (gate_at_input c i) ≡ b → is_dirty w (gate_at_input c i) ≡ true
          go true e = e
          go false e =
              let s = W.read_by i (output c g 0) m in
              let l = W.source_at i (output c g 0) s in
              let n = not_so _ λ u. clash (timed_source (gate_at_input c i) u) (W.fed i l) in
              clash ((f.right.gates (gate_at_input c i) p e n).sources i (output c g 0) (W.own_input i l) s (reads_stale g d)) (among_none (output c g 0))

      inputs :
          (g i : ℕ) → is_dirty w g ≡ true → among i (readers_of c (output c g 0)) ≡ true → pure (kind_of_gate c (gate_at_input c i)) ≡ false →
          watching c i ≡ true → get_or v.queued i true ≡ true
      inputs g i d m p a = rw q (go (f.right.inputs i (among_none i) a p (output c g 0) (W.read_by i (output c g 0) m) (reads_stale g d)))
        where
          go : (get_or w.queued i true ≡ true) ⊎ (among (output c g 0) [] ≡ true) → get_or w.queued i true ≡ true
          go (inl e) = e
          go (inr e) = clash e (among_none (output c g 0))

  -- wires, and the same at rest
  rest_besides : (w : Wires) → SizedWires c w → Besides c (is_dirty w) (refresh_all c w) w
  unfolding is_dirty
  rest_besides w z =
      let r = refresh_all c w in
      let y = refresh_all_sized c w z in
      let a = rest_aside c W w z in
      record {
        stale = none_besides w.dirty r.dirty (z.dirty ∙ sym y.dirty) (all_clean c W.heights w z);
        to_check = sym a.to_check;
        queued = sym a.queued;
      }

  -- the same inputs wait
  pub record SameWaits (w v : Wires) : Type 0 where
    pub to_check : v.to_check ≡ w.to_check
    pub queued : v.queued ≡ w.queued

  -- what is done to wires and to the same at rest makes the same inputs wait, so it does in twins
  twins_wait : {w v : Wires} (f : Wires → Wires) → ((u : Wires) → Fine c T [] u → SameWaits (f (refresh_all c u)) (f u)) → Twin w v → SameWaits (f w) (f v)
  twins_wait {w} {v} f k t =
      let a = k w t.first in
      let b = k v t.second in
      let e = twin_rests t in
      record {
        to_check = b.to_check ∙ ap (λ (u : Wires). (f u).to_check) e ∙ sym a.to_check;
        queued = b.queued ∙ ap (λ (u : Wires). (f u).queued) e ∙ sym a.queued;
      }

  shown_waits : (o : ℕ) (x : Value) (w : Wires) → Fine c T [] w → SameWaits (mark_readers c (show (refresh_all c w) o x) o) (mark_readers c (show w o x) o)
  unfolding show outs≔
  shown_waits o x w f =
      let r = refresh_all c w in
      let b = rest_besides w f.sized in
      let m =
      mark_readers_besides c (is_dirty w) (show r o x) (show w o x) o (show_sized c r o x (refresh_all_sized c w f.sized)) (show_sized c w o x f.sized)
      (fine_silent w (show r o x) f (sym b.queued))
      (record { stale = b.stale; to_check = b.to_check; queued = b.queued }) in
      record { to_check = m.to_check; queued = m.queued }

  -- ---- what is kept by marking

  show_apart : (w : Wires) (o : ℕ) (x : Value) → Apart w (show w o x)
  unfolding show outs≔
  show_apart w o x = record { tick = refl; dt = refl; uptime = refl; last = refl; pulses = refl; written = refl; outside = refl; passed = refl; breaking = refl; runs = refl }

  -- no input is marked for a late check
  marked_late : (w : Wires) (o : ℕ) → (mark_readers c w o).late_checks ≡ w.late_checks
  unfolding soil watch dirty≔ to_check≔
  marked_late w o =
      mark_readers_keeps c (λ v. v.late_checks ≡ w.late_checks) (λ v g p e. e)
      (λ v i q e. if_both (λ (u : Wires). u.late_checks ≡ w.late_checks) _ e e) w o refl

  -- ---- an output gets a value

  shown_near : {w v : Wires} (o : ℕ) (x : Value) → Twin w v → Near (mark_readers c (show w o x) o) (mark_readers c (show v o x) o)
  unfolding shown show outs≔
  shown_near {w} {v} o x t =
      let s = twins_wait (λ u. mark_readers c (show u o x) o) (shown_waits o x) t in
      let to : (u : Wires) → Apart u (mark_readers c (show u o x) o) = λ u. apart_on (show_apart u o x) (marked_alike c (show u o x) o).apart in
      record {
        aside =
            record {
              apart = apart_on (apart_back (to w)) (apart_on t.near.aside.apart (to v));
              to_check = s.to_check;
              queued = s.queued;
              late = marked_late (show v o x) o ∙ t.near.aside.late ∙ sym (marked_late (show w o x) o);
            };
        shown = λ q k.
            ap (λ (vs : List Value). get_or vs q Nothing) (marked_alike c (show v o x) o).outs
            ∙ set_same v.outs w.outs o q x Nothing (t.second.sized.outs ∙ sym t.first.sized.outs) (t.near.shown q k)
            ∙ sym (ap (λ (vs : List Value). get_or vs q Nothing) (marked_alike c (show w o x) o).outs);
      }

  set_out_near : {w v : Wires} (o : ℕ) (x : Value) → Other c o → Twin w v → Near (set_out c w o x) (set_out c v o x)
  unfolding set_out
  set_out_near {w} {v} o x u t =
      if_alike Near (same (shown w o) x) (same (shown v o) x) (ap (λ (y : Value). same y x) (sym (t.near.shown o (inl u)))) (λ _. t.near) (λ _. shown_near o x t)

  pub set_out_twin : {w v : Wires} (o : ℕ) (x : Value) → Other c o → Real x → Twin w v → Twin (set_out c w o x) (set_out c v o x)
  set_out_twin {w} {v} o x u r t =
      record { first = set_out_fine c W T [] w o x u r t.first; second = set_out_fine c W T [] v o x u r t.second; near = set_out_near o x u t }

  pub set_outs_twin :
      (xs : List Value) {w v : Wires} (o : ℕ) → ((k : ℕ) → k < length xs → Other c (o + k)) → All Real xs → Twin w v → Twin (set_outs c w o xs) (set_outs c v o xs)
  unfolding set_outs
  set_outs_twin [] o k [·] t = t
  set_outs_twin (x ∷ xs) o k (◌∷·◌ r rs) t =
      set_outs_twin xs (suc o) (λ n l. subst (Other c) (omega arith) (k (suc n) (omega arith))) rs (set_out_twin o x (subst (Other c) (add-zero o) (k 0 (omega arith))) r t)

  -- ---- a pulse ends

  lowered_twin : {w v : Wires} (o : ℕ) → Other c o → Twin w v → Twin (pulses≔ w (set w.pulses o 0)) (pulses≔ v (set v.pulses o 0))
  unfolding pulses≔ shown
  lowered_twin {w} {v} o u t =
      let a = t.near.aside in
      record {
        first = lowered_fine c W [] w o u t.first;
        second = lowered_fine c W [] v o u t.second;
        near =
            record {
              aside =
                  record {
                    apart =
                        record {
                          tick = a.apart.tick;
                          dt = a.apart.dt;
                          uptime = a.apart.uptime;
                          last = a.apart.last;
                          pulses = ap (λ (ps : List ℕ). set ps o 0) a.apart.pulses;
                          written = a.apart.written;
                          outside = a.apart.outside;
                          passed = a.apart.passed;
                          breaking = a.apart.breaking;
                          runs = a.apart.runs;
                        };
                    to_check = a.to_check;
                    queued = a.queued;
                    late = a.late;
                  };
              shown = t.near.shown;
            };
      }

  pub lower_twin : {w v : Wires} (o : ℕ) → Twin w v → Twin (lower c w o) (lower c v o)
  unfolding lower
  lower_twin {w} {v} o t =
      let a = t.near.aside.apart in
      record {
        first = lower_fine c W [] w o t.first;
        second = lower_fine c W [] v o t.second;
        near =
            if_alike Near (ltb 0 (get_or w.pulses o 0) && leb (get_or w.pulses o 0 + 2) w.tick) (ltb 0 (get_or v.pulses o 0) && leb (get_or v.pulses o 0 + 2) v.tick)
            (sym (λ j. ltb 0 (get_or (a.pulses j) o 0) && leb (get_or (a.pulses j) o 0 + 2) (a.tick j)))
            (λ e. let u = lowers_other c W [] w o t.first e in set_out_near o (Truth false) u (lowered_twin o u t)) (λ _. t.near);
      }

  -- ---- the next tick

  pub next_tick_twin :
      {w v : Wires} (dt : ℕ) → finite dt ≡ true → Fine c no_exception [] w → Fine c no_exception [] v → Near w v → Twin (next_tick w dt) (next_tick v dt)
  unfolding next_tick times≔ unions_passed≔ runs_left≔ shown
  next_tick_twin {w} {v} dt q f h n =
      let a = n.aside in
      record {
        first = next_tick_fine c W [] w dt q f;
        second = next_tick_fine c W [] v dt q h;
        near =
            record {
              aside =
                  record {
                    apart =
                        record {
                          tick = ap suc a.apart.tick;
                          dt = refl;
                          uptime = ap (λ x. plus64 x dt) a.apart.uptime;
                          last = a.apart.last;
                          pulses = a.apart.pulses;
                          written = a.apart.written;
                          outside = a.apart.outside;
                          passed = ap (λ (bs : List Bool). map (λ _. false) bs) a.apart.passed;
                          breaking = a.apart.breaking;
                          runs = refl;
                        };
                    to_check = a.to_check;
                    queued = a.queued;
                    late = a.late;
                  };
              shown = n.shown;
            };
      }

  -- ---- reading

  pub record ReadTwins (is : List ℕ) (w v : Wires) : Type 0 where
    pub twin : Twin w v
    pub looks : (i : ℕ) → among i is ≡ true → look c v i ≡ look c w i

  pub readied_twins : (is : List ℕ) {w v : Wires} → Twin w v → ReadTwins is (each (ready c) w is) (each (ready c) v is)
  readied_twins is {w} {v} t =
      let a = readied_each c W is w t.first.sized in
      let b = readied_each c W is v t.second.sized in
      let e = twin_rests t in
      let f = each_keeps (Fine c T []) (ready c) (ready_fine c W T []) w is t.first in
      let h = each_keeps (Fine c T []) (ready c) (ready_fine c W T []) v is t.second in
      record {
        twin = record { first = f; second = h; near = rests_near (each (ready c) w is) (each (ready c) v is) f h (b.rests ∙ e ∙ sym a.rests) };
        looks = λ i m.
            look_rests c W v (each (ready c) v is) is b i m ∙ ap (λ (u : Wires). look c u i) e ∙ sym (look_rests c W w (each (ready c) w is) is a i m);
      }

  -- ---- the time sources become stale

  invalidate_besides :
      (D : ℕ → Bool) (gs : List ℕ) → all (λ g. time_source (kind_of_gate c g)) gs ≡ true → (r w : Wires) → SizedWires c r → SizedWires c w → Silent c D r → Besides c D r w →
      Besides c D (each (invalidate c) r gs) (each (invalidate c) w gs)
  unfolding each all invalidate
  invalidate_besides D [] h r w y z s b = b
  invalidate_besides D (g ∷ gs) h r w y z s b =
      let e = both_true (time_source (kind_of_gate c g)) (all (λ g. time_source (kind_of_gate c g)) gs) h in
      let p = time_pure c (kind_of_gate c g) e.0 in
      invalidate_besides D gs e.1 (invalidate c r g) (invalidate c w g) (invalidate_sized c r g e.0 y) (invalidate_sized c w g e.0 z)
      (mark_readers_silent c D (soil r g) (output c g 0) (soil_silent c D r g s))
      (mark_readers_besides c D (soil r g) (soil w g) (output c g 0) (soil_sized c r g p y) (soil_sized c w g p z) (soil_silent c D r g s) (soil_besides c D r w g b))

  invalidated : Wires → Wires
  invalidated w = each (invalidate c) w c.time_sources

  timed_waits : (w : Wires) → Fine c T [] w → SameWaits (invalidated (refresh_all c w)) (invalidated w)
  unfolding invalidated
  timed_waits w f =
      let r = refresh_all c w in
      let b = rest_besides w f.sized in
      let m = invalidate_besides (is_dirty w) c.time_sources W.laid.times r w (refresh_all_sized c w f.sized) f.sized (fine_silent w r f (sym b.queued)) b in
      record { to_check = m.to_check; queued = m.queued }

  invalidated_alike : (w : Wires) → Alike w (invalidated w)
  unfolding invalidated
  invalidated_alike w = each_keeps (Alike w) (invalidate c) (λ v g a. alike_again a (invalidate_alike c W [] v g)) w c.time_sources (alike_itself w)

  invalidated_late : (w : Wires) → (invalidated w).late_checks ≡ w.late_checks
  unfolding invalidated invalidate soil dirty≔
  invalidated_late w =
      each_keeps (λ (v : Wires). v.late_checks ≡ w.late_checks) (invalidate c) (λ v g e. marked_late (soil v g) (output c g 0) ∙ e) w c.time_sources refl

  -- so at rest they are the same again
  pub invalidated_same : {w v : Wires} → Twin w v → refresh_all c (each (invalidate c) v c.time_sources) ≡ refresh_all c (each (invalidate c) w c.time_sources)
  unfolding invalidated shown
  invalidated_same {w} {v} t =
      let f = invalidate_all c W [] w t.first in
      let h = invalidate_all c W [] v t.second in
      let s = twins_wait invalidated timed_waits t in
      let n : Aside (invalidated w) (invalidated v) =
      record {
        apart = apart_on (apart_back (invalidated_alike w).apart) (apart_on t.near.aside.apart (invalidated_alike v).apart);
        to_check = s.to_check;
        queued = s.queued;
        late = invalidated_late v ∙ t.near.aside.late ∙ sym (invalidated_late w);
      } in
      let a = aside_on (aside_back (rest_aside c W (invalidated w) f.sized)) (aside_on n (rest_aside c W (invalidated v) h.sized)) in
      rests_same c W (record { unsure = []; soiled = c.time_sources; taken = [] }) (refresh_all c (invalidated w)) (refresh_all c (invalidated v))
      (refresh_all_fine c W _ [] (invalidated w) f) (refresh_all_fine c W _ [] (invalidated v) h)
      (all_clean c W.heights (invalidated w) f.sized) (all_clean c W.heights (invalidated v) h.sized) a.apart shown_same a.to_check a.queued a.late
    where
      shown_same : (o : ℕ) → Other c o ⊎ (among (gate_at_output c o) [] ≡ true) → shown (refresh_all c (invalidated v)) o ≡ shown (refresh_all c (invalidated w)) o
      shown_same o (inr e) = clash e (among_none (gate_at_output c o))
      shown_same o (inl e) =
          let f = invalidate_all c W [] w t.first in
          let h = invalidate_all c W [] v t.second in
          rest_shown c W (invalidated v) h.sized o (other_clean (invalidated v) h.sized o e)
          ∙ ap (λ (vs : List Value). get_or vs o Nothing) (invalidated_alike v).outs ∙ t.near.shown o (inl e) ∙ sym (ap (λ (vs : List Value). get_or vs o Nothing) (invalidated_alike w).outs)
          ∙ sym (rest_shown c W (invalidated w) f.sized o (other_clean (invalidated w) f.sized o e))
