-- What a tick is said to have raised is what its opening and its units' bodies raised, and each unit and each tick begins in the world that the one before it left.
use mathlib.Core.Path.{◌≡◌, refl, sym, ap, ◌∙◌}
use mathlib.Core.List.{List, [], ◌∷◌, ◌++◌}
use mathlib.Core.Bool.{Bool}
use Prim.Native.Nat.{ℕ, zero, suc}
use native.Mathlib.Omega.{arith}
use lib.Dec.{eqb}
use Rattle.schedule.specs.Schedule.{When, list_full, most_units, Setup, Took, empty, took, Filed, LateQ, MainQ, OpenQ, Activation, push_all, activate_open, activate_late, activate_main, next_late, next_main, Raising, raise_all, pass_on, pass, no_turn, turning, Turn, Passed, late_pass, main_pass, Tick, outcome, tick, go_on, run_on, run}
use Rattle.schedule.specs.Promise.{All, [·], ◌∷·◌, RaisedAsTold, Follow, left_by, Opens, Follows, script_over, stopped, next}
use Rattle.schedule.proofs.Members.{all_append}
use Rattle.schedule.proofs.Steps.{Passes, broke, done, turn, raise_steps, pass_steps}
use Rattle.schedule.proofs.Ticks.{fitted, Ticked, passes_from}

module _ (S : Setup) where
  open S use {Tag}
  open S.machine use {W, In, opening, body, closing}

  -- ---- raised as told

  -- of a pass in a tick that has no stop where the pass has none
  module _ {Q : Type 0} (next_of : Q → Took (Activation S) Q) (activate : Activation S → When → Activation S → Q → Filed Q) (x : ℕ) where
    passes_told : {t t₁ : Tag} {q q₁ : Q} {s s₁ : ℕ} {us : List (Turn S)} → Passes S next_of activate t q s us t₁ q₁ s₁ → (x ≡ 0 → s₁ ≡ 0) → All (RaisedAsTold S x) us
    passes_told broke h = [·]
    passes_told (done e) h = [·]
    passes_told (turn e k b j r) h = let m = j.1 in ◌∷·◌ (m.0, m.1, λ z. m.2 (passes_from S next_of activate r (h z))) (passes_told r h)

  pub tick_told : {c : List (Activation S)} {t₀ : Tag} {k : Tick S} → Ticked S c t₀ k → All (RaisedAsTold S k.stop) (k.late ++ k.main)
  tick_told {k = k} T =
      all_append
      (passes_told (next_late S) (activate_late S) k.stop T.late (λ h. passes_from S (next_main S) (activate_main S) T.main (T.stopped h)))
      (passes_told (next_main S) (activate_main S) k.stop T.main T.stopped)

  -- ---- the worlds

  -- the units follow v, and without a stop the pass ends in the world that they leave
  record PassFollows {Q : Type 0} (v : W) (k : Passed S Q) : Type 0 where
    units : Follow S v k.turns
    world : k.stop ≡ 0 → k.world ≡ left_by S v k.turns

  module _ {Q : Type 0} (next_of : Q → Took (Activation S) Q) (activate : Activation S → When → Activation S → Q → Filed Q) where
    -- one unit, and the pass after it
    turn_on : ℕ → Tag → W → Activation S → Q → Passed S Q
    turn_on n t w u q =
        let d = body w u.act in
        let k = raise_all S (activate u) d.raises t q d.world d.stop in
        turning S u w k.raised (eqb d.stop 0) (pass S next_of activate n k.next k.queue k.world k.stop)

    -- a pass that begins in the world v, unless there was a stop before
    pass_follows : (n : ℕ) (t : Tag) (q : Q) (w : W) (s : ℕ) (v : W) → (s ≡ 0 → w ≡ v) → PassFollows v (pass S next_of activate n t q w s)
    unfolding pass turn_on
    pass_follows zero t q w zero v e = go (next_of q)
      where
        go : (x : Took (Activation S) Q) → PassFollows v (pass_on S x (no_turn S zero t q w 0) (λ u q'. no_turn S zero t q w list_full))
        go empty = record { units = tt; world = e }
        go (took u q') = record { units = tt; world = λ z. e refl }
    pass_follows zero t q w (suc s) v e = record { units = tt; world = e }
    pass_follows (suc n) t q w zero v e = go (next_of q) (λ t₁ q₁ w₁ s₁ v₁ e₁. pass_follows n t₁ q₁ w₁ s₁ v₁ e₁)
      where
        go :
            (x : Took (Activation S) Q) →
            ((t₁ : Tag) (q₁ : Q) (w₁ : W) (s₁ : ℕ) (v₁ : W) → (s₁ ≡ 0 → w₁ ≡ v₁) → PassFollows v₁ (pass S next_of activate n t₁ q₁ w₁ s₁)) →
            PassFollows v (pass_on S x (no_turn S (suc n) t q w 0) (turn_on n t w))
        go empty rec = record { units = tt; world = e }
        go (took u q') rec =
            let d = body w u.act in
            let k = raise_steps S (activate u) d.raises t q' d.world d.stop in
            let r = rec _ _ _ _ (body v u.act).world (λ z. k.world z ∙ ap (λ (w : W). (body w u.act).world) (e refl)) in
            record { units = (e refl, r.units); world = r.world }
    pass_follows (suc n) t q w (suc s) v e = record { units = tt; world = e }

  follow_append : (v : W) (us vs : List (Turn S)) → Follow S v us → Follow S (left_by S v us) vs → Follow S v (us ++ vs)
  follow_append v [] vs a b = b
  follow_append v (u ∷ us) vs a b = (a.0, follow_append (body v u.unit.act).world us vs a.1 b)

  left_append : (v : W) (us vs : List (Turn S)) → left_by S v (us ++ vs) ≡ left_by S (left_by S v us) vs
  left_append v [] vs = refl
  left_append v (u ∷ us) vs = left_append (body v u.unit.act).world us vs

  -- so of both passes of a tick
  pub record PassesFollow (v : W) (l : Passed S (LateQ (Activation S))) (m : Passed S (MainQ (Activation S))) : Type 0 where
    pub units : Follow S v (l.turns ++ m.turns)
    pub world : m.stop ≡ 0 → m.world ≡ left_by S v (l.turns ++ m.turns)

  -- the passes after an opening that left the world v, unless there was a stop in it
  pub passes_follow :
      (o : Raising S (OpenQ (Activation S))) (v : W) → (o.stop ≡ 0 → o.world ≡ v) →
      let l = late_pass S most_units o.next o.queue.lateq o.world o.stop in
      let m = main_pass S l.left l.next (record { pending = o.queue.pending; carried = [] }) l.world l.stop in
      PassesFollow v l m
  unfolding late_pass main_pass
  passes_follow o v h =
      let l = pass S (next_late S) (activate_late S) most_units o.next o.queue.lateq o.world o.stop in
      let a = pass_follows (next_late S) (activate_late S) most_units o.next o.queue.lateq o.world o.stop v h in
      let q : MainQ (Activation S) = record { pending = o.queue.pending; carried = [] } in
      let m = pass S (next_main S) (activate_main S) l.left l.next q l.world l.stop in
      let b = pass_follows (next_main S) (activate_main S) l.left l.next q l.world l.stop (left_by S v l.turns) a.world in
      record {
        units = follow_append v l.turns m.turns a.units b.units;
        world = λ z. b.world z ∙ sym (left_append v l.turns m.turns);
      }

  pub tick_opens : (w : W) (i : In) (came : List (Activation S)) (t : Tag) → Opens S w i (tick S w i came t)
  unfolding tick late_pass main_pass
  tick_opens w i came t =
      let d = opening w i in
      let q₀ : OpenQ (Activation S) = record { lateq = record { late = push_all S came []; delivered = [] }; pending = [] } in
      let o = raise_all S (activate_open S) d.raises t q₀ d.world d.stop in
      let a = raise_steps S (activate_open S) d.raises t q₀ d.world d.stop in
      let l = pass S (next_late S) (activate_late S) most_units o.next o.queue.lateq o.world o.stop in
      let q : MainQ (Activation S) = record { pending = o.queue.pending; carried = [] } in
      let m = pass S (next_main S) (activate_main S) l.left l.next q l.world l.stop in
      let b = passes_follow o d.world a.world in
      let late = pass_steps S (next_late S) (activate_late S) most_units o.next o.queue.lateq o.world o.stop in
      let main = pass_steps S (next_main S) (activate_main S) l.left l.next q l.world l.stop in
      let f : Bool = (closing m.world i (outcome S l.turns m.turns m.queue.carried m.stop)).fits in
      let from : m.stop ≡ 0 → o.stop ≡ 0 = λ h. passes_from S (next_late S) (activate_late S) late.steps (passes_from S (next_main S) (activate_main S) main.steps h) in
      record {
        opened = (a.told.0, a.told.1, λ h. a.told.2 (from (fitted f m.stop h)));
        units = b.units;
        leaves =
            λ h.
            let z : m.stop ≡ 0 = fitted f m.stop h in
            λ j. (closing (b.world z j) i (outcome S l.turns m.turns m.queue.carried (z j))).world;
      }

  -- ---- the ticks of a run

  follows_on : (is : List In) (w : W) (came : List (Activation S)) (t : Tag) → Follows S is w (run_on S is w came t)
  unfolding run_on
  follows_on [] w came t = script_over
  follows_on (i ∷ is) w came t =
      let k = tick S w i came t in
      go k.stop refl (follows_on is k.world k.carried k.next)
    where
      go :
          (s : ℕ) → (tick S w i came t).stop ≡ s → {ts : List (Tick S)} → Follows S is (tick S w i came t).world ts →
          Follows S (i ∷ is) w (tick S w i came t ∷ go_on S s ts)
      go zero e r = next (tick_opens w i came t) e r
      go (suc s) e r = stopped (tick_opens w i came t) (omega (arith, e))

  pub follows : (is : List In) (w : W) → Follows S is w (run S is w)
  unfolding run
  follows is w = follows_on is w [] S.first
