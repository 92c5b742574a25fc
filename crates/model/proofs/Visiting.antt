-- An input that waits and was never read, until settling checks it: nothing but a check takes it off the queue, and its turn comes when those before it have been checked.
use mathlib.Core.Path.{◌≡◌, refl, sym, ap, subst, ◌∙◌}
use mathlib.Core.Logic.{◌≢◌}
use mathlib.Core.Bool.{Bool, true, false}
use mathlib.Core.List.{List, [], ◌∷◌, ◌++◌, append_assoc, append-nil}
use mathlib.Core.Option.{Option, none, some}
use Prim.Native.Nat.{ℕ, zero, suc, ◌<◌}
use native.Mathlib.Omega.{arith}
use lib.Dec.{ltb, eqb}
use lib.ListN.{length, get_or, set, length-append, length-set}
use lib.Seq.{get_or-set_same, get_or-set_other, set_out as set_past}
use borrow.Author.Tests.{ltb-true, ltb-false, eqb-true, eqb-false}
use Rattle.schedule.specs.Schedule.{Raise, When}
use Rattle.schedule.specs.Promise.{All, ◌∷·◌}
use Rattle.model.specs.declared.Value.{Value}
use Rattle.model.specs.Base.{snoc}
use Rattle.model.specs.Circuit.{Circuit, gate_at_input}
use Rattle.model.specs.Script.{Given}
use Rattle.model.specs.State.{Wires, State, Delay, Act, outs≔, dirty≔, to_check≔, late_checks≔, times≔, last≔, pulses≔, unions_passed≔, runs_left≔, wires≔, delays≔, outbox≔, changed≔}
use Rattle.model.specs.Wires.{show, soil, clean, watch, look, recompute, refresh_all, ready, invalidate, set_out}
use Rattle.model.specs.Exec.{count_changed, delay≔}
use Rattle.model.specs.Settle.{Settled, calm, raise, taken, pulse, compared, when_checked, check, check_on, settle}
use Rattle.model.specs.Opening.{next_tick, begin_tick, lower, before_settling}
use Rattle.model.proofs.Lists.{if_both, all_pass}
use Rattle.model.proofs.Checks.{detect_keeps}
use Rattle.model.proofs.Walks.{checked, check_on_keeps, before_settling_keeps}
use Rattle.model.proofs.Sized.{refresh_all_keeps, ready_keeps, mark_readers_keeps, set_out_keeps, set_outs_keeps}
use Rattle.model.proofs.Settling.{one_waits}

module _ (c : Circuit) (i : ℕ) (pre : List ℕ) where
  -- ---- input i waits, behind these, and was never read

  pub record Unread (w : Wires) : Type 0 where
    pub more : List ℕ
    pub waits : w.to_check ≡ pre ++ (i ∷ more)
    pub known : i < length w.last
    pub unread : get_or w.last i none ≡ none

  show_unread : (w : Wires) (o : ℕ) (v : Value) → Unread w → Unread (show w o v)
  unfolding show outs≔
  show_unread w o v u = record { more = u.more; waits = u.waits; known = u.known; unread = u.unread }

  soil_unread : (w : Wires) (g : ℕ) → Unread w → Unread (soil w g)
  unfolding soil dirty≔
  soil_unread w g u = record { more = u.more; waits = u.waits; known = u.known; unread = u.unread }

  watch_unread : (w : Wires) (j : ℕ) → Unread w → Unread (watch w j)
  unfolding watch to_check≔ snoc
  watch_unread w j u =
      if_both Unread _ u
      (record {
        more = u.more ++ (j ∷ []);
        waits = ap (λ js. js ++ (j ∷ [])) u.waits ∙ append_assoc pre (i ∷ u.more) (j ∷ []);
        known = u.known;
        unread = u.unread;
      })

  recompute_unread : (w : Wires) (g : ℕ) → Unread w → Unread (recompute c w g)
  unfolding recompute clean dirty≔
  recompute_unread w g u = let v = show_unread w _ _ u in record { more = v.more; waits = v.waits; known = v.known; unread = v.unread }

  pulses_unread : {w : Wires} (ps : List ℕ) → Unread w → Unread (pulses≔ w ps)
  unfolding pulses≔
  pulses_unread ps u = record { more = u.more; waits = u.waits; known = u.known; unread = u.unread }

  refresh_all_unread : (w : Wires) → Unread w → Unread (refresh_all c w)
  refresh_all_unread = refresh_all_keeps c Unread (λ _. Unit {0}) (λ _ _ _ _. tt) (λ w g _ u. recompute_unread w g u)

  ready_unread : (w : Wires) (j : ℕ) → Unread w → Unread (ready c w j)
  ready_unread = ready_keeps c Unread (λ _. Unit {0}) (λ _ _ _ _. tt) (λ w g _ u. recompute_unread w g u)

  set_out_unread : (w : Wires) (o : ℕ) (v : Value) → Unread w → Unread (set_out c w o v)
  set_out_unread = set_out_keeps c Unread (λ w g _ u. soil_unread w g u) (λ w j _ u. watch_unread w j u) show_unread

  lower_unread : (w : Wires) (o : ℕ) → Unread w → Unread (lower c w o)
  unfolding lower
  lower_unread w o u = if_both Unread _ (set_out_unread _ o _ (pulses_unread _ u)) u

  invalidate_unread : (w : Wires) (g : ℕ) → Unread w → Unread (invalidate c w g)
  unfolding invalidate
  invalidate_unread w g u = mark_readers_keeps c Unread (λ w g _ u. soil_unread w g u) (λ w j _ u. watch_unread w j u) _ _ (soil_unread w g u)

  -- ---- of a state

  abbrev pub Waiting : State → Type 0
  Waiting s = Unread s.wires

  put_waiting : (s : State) (w : Wires) → Unread w → Waiting (wires≔ s w)
  unfolding wires≔
  put_waiting s w u = u

  delay_waiting : (s : State) (g : ℕ) (d : Delay) → Waiting s → Waiting (delay≔ c s g d)
  unfolding delay≔ delays≔
  delay_waiting s g d u = u

  count_waiting : (s : State) (changed : Bool) → Waiting s → Waiting (count_changed s changed)
  unfolding count_changed changed≔
  count_waiting s changed u = u

  begin_waiting : (s : State) (dt : ℕ) → Waiting s → Waiting (begin_tick s dt)
  unfolding begin_tick next_tick outbox≔ wires≔ times≔ unions_passed≔ runs_left≔ changed≔
  begin_waiting s dt u = record { more = u.more; waits = u.waits; known = u.known; unread = u.unread }

  -- ---- settling: another input is checked

  pulse_unread : (w : Wires) (o : ℕ) → Unread w → Unread (pulse c w o)
  unfolding pulse
  pulse_unread w o u = pulses_unread _ (set_out_unread w o _ u)

  abbrev StillWaiting : Settled → Type 0
  StillWaiting z = Waiting z.state

  other_waiting : (when : When) (s : State) (j : ℕ) → i ≢ j → Waiting s → StillWaiting (check c when s j)
  unfolding check compared wires≔ last≔ calm raise
  other_waiting when s j n u =
      let v = ready_unread s.wires j u in
      let y : Waiting (wires≔ s (last≔ (ready c s.wires j) (set (ready c s.wires j).last j (some (look c (ready c s.wires j) j))))) =
      record {
        more = v.more;
        waits = v.waits;
        known = omega (arith, v.known, length-set (ready c s.wires j).last j (some (look c (ready c s.wires j) j)));
        unread = get_or-set_other (ready c s.wires j).last j i _ none n ∙ v.unread;
      } in
      if_both StillWaiting _ y
      (detect_keeps c StillWaiting _ (gate_at_input c j) y (λ _ _. y) (λ o k e p l. pulse_unread _ _ y) (λ d b. count_waiting _ b (delay_waiting _ _ d y)) when _ _ _)

  -- ---- the opening up to its settling

  pub opening_waits : (s : State) (given : Given) → Waiting s → Waiting (before_settling c s given).state
  opening_waits s given u =
      (before_settling_keeps c {P = Waiting} {Q = Unread} {timed = λ _. true} (record {
        of = λ u. u;
        put = λ _ u. put_waiting _ _ u;
        delay = λ g d u. delay_waiting _ g d u;
        count = λ b u. count_waiting _ b u;
        ready = ready_unread;
        set_outs = set_outs_keeps c Unread (λ w g _ u. soil_unread w g u) (λ w j _ u. watch_unread w j u) show_unread;
        lower = lower_unread;
        invalidate = λ w g _ u. invalidate_unread w g u;
      }) (all_pass c.time_sources) s given (begin_waiting s given.dt u)).state

module _ (c : Circuit) (i : ℕ) where
  -- ---- it is checked

  -- a check notes what it read, and nothing else is noted
  ready_last : (w : Wires) (j : ℕ) → (ready c w j).last ≡ w.last
  ready_last w j =
      ready_keeps c (λ v. v.last ≡ w.last) (λ _. Unit {0}) (λ _ _ _ _. tt) (λ v g _ e. unfold recompute clean show outs≔ dirty≔ in e) w j refl

  pulse_last : (w : Wires) (o : ℕ) → (pulse c w o).last ≡ w.last
  unfolding pulse pulses≔ soil watch show outs≔ dirty≔ to_check≔
  pulse_last w o =
      set_out_keeps c (λ v. v.last ≡ w.last) (λ v g _ e. e) (λ v j _ e. if_both (λ (u : Wires). u.last ≡ w.last) _ e e) (λ v o x e. e) w o _ refl

  check_last : (when : When) (s : State) (j : ℕ) → (check c when s j).state.wires.last ≡ set s.wires.last j (some (look c (ready c s.wires j) j))
  unfolding check compared wires≔ last≔ calm raise delay≔ delays≔ count_changed changed≔
  check_last when s j =
      let v = some (look c (ready c s.wires j) j) in
      let now = set s.wires.last j v in
      let e : set (ready c s.wires j).last j v ≡ now = ap (λ ls. set ls j v) (ready_last s.wires j) in
      if_both (λ (z : Settled). z.state.wires.last ≡ now) _ e
      (detect_keeps c (λ (z : Settled). z.state.wires.last ≡ now) _ (gate_at_input c j) e (λ _ _. e) (λ o k x p l. pulse_last _ _ ∙ e) (λ d b. e) when _ _ _)

  -- input i has been read
  abbrev pub Read : List (Option Value) → Type 0
  Read ls = (v : Value) × (get_or ls i none ≡ some v)

  read_now : (ls : List (Option Value)) (j : ℕ) (x : Value) → i ≡ j → i < length ls → Read (set ls j (some x))
  read_now ls j x q l = subst (λ k. Read (set ls k (some x))) q (x, get_or-set_same ls i (some x) none l)

  read_kept : (ls : List (Option Value)) (j : ℕ) (x : Value) → Read ls → Read (set ls j (some x))
  read_kept ls j x r = go (eqb i j) refl (ltb i (length ls)) refl
    where
      go : (b : Bool) → eqb i j ≡ b → (k : Bool) → ltb i (length ls) ≡ k → Read (set ls j (some x))
      go true e true l = read_now ls j x (eqb-true i j e) (ltb-true i _ l)
      go true e false l = subst (λ k. Read (set ls k (some x))) (eqb-true i j e) (subst Read (sym (set_past ls i (some x) (ltb-false i _ l))) r)
      go false e k l = (r.0, get_or-set_other ls j i (some x) none (eqb-false i j e) ∙ r.1)

  read_on : (n : ℕ) (z : Settled) → Read z.state.wires.last → Read (check_on c n z).state.wires.last
  unfolding wires≔ taken to_check≔ late_checks≔
  read_on =
      check_on_keeps c (λ (z : Settled). Read z.state.wires.last) λ z j is e r.
      subst Read (sym (check_last (when_checked z.state.wires j) (wires≔ z.state (taken z.state.wires j is)) j)) (read_kept z.state.wires.last j _ r)

  -- settling raises more and more
  raises_on : (y : Settled) (n : ℕ) → (after : List (Raise State Act When)) × ((check_on c n y).raises ≡ y.raises ++ after)
  raises_on y n =
      check_on_keeps c (λ (z : Settled). (after : List (Raise State Act When)) × (z.raises ≡ y.raises ++ after))
      (λ z j is e k.
      let r = (check c (when_checked z.state.wires j) (wires≔ z.state (taken z.state.wires j is)) j).raises in
      (k.0 ++ r, ap (λ rs. rs ++ r) k.1 ∙ append_assoc y.raises k.0 r)) n y ([], sym (append-nil y.raises))

  -- the state in which it is checked, where it is the first of those that wait
  abbrev pub due : Settled → List ℕ → State
  due z rest = wires≔ z.state (taken z.state.wires i rest)

  -- it was its turn in a, and settling came to b
  pub record Visited (a b : Settled) : Type 0 where
    pub rest : List ℕ
    pub turn : a.state.wires.to_check ≡ i ∷ rest
    pub unread : get_or a.state.wires.last i none ≡ none
    pub after : List (Raise State Act When)
    pub raised : b.raises ≡ a.raises ++ ((check c (when_checked a.state.wires i) (due a rest) i).raises ++ after)
    pub read : Read b.state.wires.last

  -- its turn comes when those before it have been checked
  visited :
      (m : ℕ) (pre : List ℕ) (z : Settled) → All (λ p. i ≢ p) pre → Unread c i pre z.state.wires → (check_on c m z).state.wires.to_check ≡ [] →
      Visited (check_on c (length pre) z) (check_on c m z)
  unfolding check_on wires≔ taken to_check≔ late_checks≔
  visited zero pre z n u h = absurd (omega (arith, ap length (sym u.waits ∙ h), length-append pre (i ∷ u.more)))
  visited (suc m) [] z n u h =
      let o = one_waits c m z i u.more u.waits in
      let y = checked c z i u.more in
      let g = raises_on y m in
      record {
        rest = u.more;
        turn = u.waits;
        unread = u.unread;
        after = g.0;
        raised = ap (λ (x : Settled). x.raises) o ∙ g.1 ∙ append_assoc z.raises _ g.0;
        read =
            subst (λ (x : Settled). Read x.state.wires.last) (sym o)
            (read_on m y (subst Read (sym (check_last (when_checked z.state.wires i) (due z u.more) i)) (read_now z.state.wires.last i _ refl u.known)));
      }
  visited (suc m) (p ∷ ps) z (◌∷·◌ n ns) u h =
      let o : (k : ℕ) → check_on c (suc k) z ≡ check_on c k (checked c z p (ps ++ (i ∷ u.more))) = λ k. one_waits c k z p (ps ++ (i ∷ u.more)) u.waits in
      let v = other_waiting c i ps (when_checked z.state.wires p) (wires≔ z.state (taken z.state.wires p (ps ++ (i ∷ u.more)))) p n
      (record { more = u.more; waits = refl; known = u.known; unread = u.unread }) in
      let k = visited m ps (checked c z p (ps ++ (i ∷ u.more))) ns v (ap (λ (x : Settled). x.state.wires.to_check) (sym (o m)) ∙ h) in
      subst (λ (x : Settled). Visited x (check_on c (suc m) z)) (sym (o (length ps)))
      (subst (λ (x : Settled). Visited (check_on c (length ps) (checked c z p (ps ++ (i ∷ u.more)))) x) (sym (o m)) k)

  -- where settling of s begins
  abbrev pub refreshed : State → Settled
  refreshed s = calm (wires≔ s (refresh_all c s.wires))

  pub settle_visits :
      (pre : List ℕ) (s : State) → All (λ p. i ≢ p) pre → Unread c i pre s.wires → (settle c s).state.wires.to_check ≡ [] →
      Visited (check_on c (length pre) (refreshed s)) (settle c s)
  unfolding settle calm wires≔
  settle_visits pre s n u h = visited _ pre (refreshed s) n (refresh_all_unread c i pre s.wires u) h
