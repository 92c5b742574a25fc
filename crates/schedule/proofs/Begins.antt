-- What opening, body and closing keep as long as there is no stop holds wherever a unit begins, and what holds of all that is raised holds of each unit begun.
-- After a stop nothing begins, so nothing has to be kept there.
use mathlib.Core.Path.{◌≡◌, refl, sym, subst}
use mathlib.Core.Bool.{Bool, true, false, cond}
use mathlib.Core.List.{List, [], ◌∷◌, ◌++◌}
use Prim.Native.Nat.{ℕ, zero, suc}
use native.Mathlib.Omega.{arith}
use lib.Dec.{eqb, leb}
use Rattle.schedule.specs.Schedule.{When, Raise, Outcome, Setup, Place, to_late, to_delivered, to_pending, Took, empty, took, Filed, full, filed, room, Activation, rank_of, push, push_all, raise_on, raise_all, Passed, turning, no_turn, pass_on, pass, activate_open, next_late, next_late', activate_late, next_main, next_main', activate_main, carries, most_units, most_waiting, most_delivered, LateQ, MainQ, OpenQ, late_pass, main_pass, outcome, Tick, tick, go_on, run_on, run, list_full}
use Rattle.schedule.specs.Promise.{All, [·], ◌∷·◌, left_by}
use Rattle.schedule.specs.Keeping.{DidBring, TurnBegins, TickBegins}
use Rattle.schedule.proofs.Steps.{room_is, raise_steps}
use Rattle.schedule.proofs.Ticks.{fitted}
use Rattle.schedule.proofs.Members.{all_append}
use Rattle.schedule.proofs.Told.{passes_follow}

module _ (S : Setup) where
  open S use {Tag, after}
  open S.machine use {W, In, Act, opening as opens, body as runs, closing as closes}

  module _ (P : W → Type 0) (Q : Act → Type 0) where
    -- ---- lists of what waits

    -- Q holds of what each of a list is to run
    abbrev pub Waits : List (Activation S) → Type 0
    Waits l = All (λ (e : Activation S). Q e.act) l

    push_waits : (e : Activation S) (l : List (Activation S)) → Q e.act → Waits l → Waits (push S e l)
    unfolding push
    push_waits e [] q [·] = ◌∷·◌ q [·]
    push_waits e (x ∷ l) q (◌∷·◌ h a) = go (leb (rank_of S x) (rank_of S e)) (push_waits e l q a)
      where
        go : (b : Bool) → Waits (push S e l) → Waits (cond b (x ∷ push S e l) (e ∷ x ∷ l))
        go true r = ◌∷·◌ h r
        go false r = ◌∷·◌ q (◌∷·◌ h a)

    push_all_waits : (es l : List (Activation S)) → Waits es → Waits l → Waits (push_all S es l)
    unfolding push_all
    push_all_waits [] l [·] b = b
    push_all_waits (e ∷ es) l (◌∷·◌ q a) b = push_all_waits es (push S e l) a (push_waits e l q b)

    record LateWaits (q : LateQ (Activation S)) : Type 0 where
      late : Waits q.late
      delivered : Waits q.delivered

    record MainWaits (q : MainQ (Activation S)) : Type 0 where
      pending : Waits q.pending
      carried : Waits q.carried

    record OpenWaits (q : OpenQ (Activation S)) : Type 0 where
      lateq : LateWaits q.lateq
      pending : Waits q.pending

    -- what the tick k hands on, which began in the world w with what the script gave it
    pub record HandsOn (w : W) (i : In) (k : Tick S) : Type 0 where
      pub begins : TickBegins S P Q k
      pub carried : Waits k.carried
      pub world : k.stop ≡ 0 → P k.world
      -- without a stop P holds in the world that its units left, before its record was written
      pub left : k.stop ≡ 0 → P (left_by S (opens w i).world (k.late ++ k.main))

    -- ---- raising

    -- without a stop P holds, and H of the queue
    record Goes {Qu : Type 0} (H : Qu → Type 0) (q : Qu) (w : W) (s : ℕ) : Type 0 where
      queue : H q
      world : s ≡ 0 → P w

    module _ {Pl Qu : Type 0} (H : Qu → Type 0) (activate : Pl → Activation S → Qu → Filed Qu)
        (puts : (p : Pl) (e : Activation S) (q q₁ : Qu) → Q e.act → H q → activate p e q ≡ filed q₁ → H q₁) where
      raise_all_goes :
          (rs : List (Raise W Act Pl)) (t : Tag) (q : Qu) (w : W) (s : ℕ) → All (λ r. Q r.act) rs → Goes H q w s →
          let k = raise_all S activate rs t q w s in Goes H k.queue k.world k.stop
      unfolding raise_all
      raise_all_goes [] t q w s a g = g
      raise_all_goes (r ∷ rs) t q w s (◌∷·◌ h a) g =
          go (activate r.place (record { act = r.act; tag = t }) q) refl (λ q₁ g₁. raise_all_goes rs (after t) q₁ w s a g₁)
        where
          go :
              (x : Filed Qu) → activate r.place (record { act = r.act; tag = t }) q ≡ x →
              ((q₁ : Qu) → Goes H q₁ w s → let k = raise_all S activate rs (after t) q₁ w s in Goes H k.queue k.world k.stop) →
              let k = raise_on S x (record { act = r.act; tag = t })
              (record { raised = []; queue = q; next = t; world = r.at; stop = list_full })
              (λ q₁. raise_all S activate rs (after t) q₁ w s) in
              Goes H k.queue k.world k.stop
          go full e rec = record { queue = g.queue; world = λ z. absurd (omega arith) }
          go (filed q₁) e rec = rec q₁ (record { queue = puts r.place (record { act = r.act; tag = t }) q q₁ h g.queue e; world = g.world })

    -- ---- what opening and body keep
    module _ (R : In → Type 0) (opened : (w : W) (i : In) → R i → P w → DidBring P Q (opens w i)) (ran : (w : W) (a : Act) → Q a → P w → DidBring P Q (runs w a)) where
      module _ {Qu : Type 0} (H : Qu → Type 0) (next : Qu → Took (Activation S) Qu) (activate : Activation S → When → Activation S → Qu → Filed Qu)
          (takes : (q : Qu) (u : Activation S) (q₁ : Qu) → H q → next q ≡ took u q₁ → Q u.act × H q₁)
          (puts : (u : Activation S) (p : When) (e : Activation S) (q q₁ : Qu) → Q e.act → H q → activate u p e q ≡ filed q₁ → H q₁) where
        record PassGoes (k : Passed S Qu) : Type 0 where
          turns : All (TurnBegins S P Q) k.turns
          goes : Goes H k.queue k.world k.stop

        turn : ℕ → Tag → W → Activation S → Qu → Passed S Qu
        turn n t w u q =
            let d = runs w u.act in
            let k = raise_all S (activate u) d.raises t q d.world d.stop in
            turning S u w k.raised (eqb d.stop 0) (pass S next activate n k.next k.queue k.world k.stop)

        pass_goes : (n : ℕ) (t : Tag) (q : Qu) (w : W) (s : ℕ) → Goes H q w s → PassGoes (pass S next activate n t q w s)
        unfolding pass turn
        pass_goes zero t q w zero g = go (next q)
          where
            go : (x : Took (Activation S) Qu) → PassGoes (pass_on S x (no_turn S zero t q w 0) (λ u q'. no_turn S zero t q w list_full))
            go empty = record { turns = [·]; goes = g }
            go (took u q') = record { turns = [·]; goes = record { queue = g.queue; world = λ z. absurd (omega arith) } }
        pass_goes zero t q w (suc s) g = record { turns = [·]; goes = g }
        pass_goes (suc n) t q w zero g = go (next q) refl (λ t₁ q₁ w₁ s₁ g₁. pass_goes n t₁ q₁ w₁ s₁ g₁)
          where
            go :
                (x : Took (Activation S) Qu) → next q ≡ x →
                ((t₁ : Tag) (q₁ : Qu) (w₁ : W) (s₁ : ℕ) → Goes H q₁ w₁ s₁ → PassGoes (pass S next activate n t₁ q₁ w₁ s₁)) →
                PassGoes (pass_on S x (no_turn S (suc n) t q w 0) (turn n t w))
            go empty e rec = record { turns = [·]; goes = g }
            go (took u q') e rec =
                let h = takes q u q' g.queue e in
                let d = ran w u.act h.0 (g.world refl) in
                let r = rec _ _ _ _ (raise_all_goes H (activate u) (puts u) _ t q' _ _ d.raises (record { queue = h.1; world = d.world })) in
                record { turns = ◌∷·◌ (record { from = g.world refl; act = h.0 }) r.turns; goes = r.goes }
        pass_goes (suc n) t q w (suc s) g = record { turns = [·]; goes = g }

      -- ---- the queues

      late_takes : (q : LateQ (Activation S)) (u : Activation S) (q₁ : LateQ (Activation S)) → LateWaits q → next_late S q ≡ took u q₁ → Q u.act × LateWaits q₁
      unfolding next_late
      late_takes q u q₁ h e = go q.late q.delivered h.late h.delivered e
        where
          go : (l d : List (Activation S)) → Waits l → Waits d → next_late' S l d ≡ took u q₁ → Q u.act × LateWaits q₁
          go [] [] a b e = let z : ◌≡◌ {A = ℕ} 0 1 = cc in let y : ⊥ = omega arith in absurd y
          go [] (x ∷ d) a (◌∷·◌ p b) e =
              let hu : x ≡ u = cc in
              let hq : record { late = []; delivered = d } ≡ q₁ = cc in
              (subst (λ (y : Activation S). Q y.act) hu p, subst LateWaits hq (record { late = [·]; delivered = b }))
          go (x ∷ l) d (◌∷·◌ p a) b e =
              let hu : x ≡ u = cc in
              let hq : record { late = l; delivered = d } ≡ q₁ = cc in
              (subst (λ (y : Activation S). Q y.act) hu p, subst LateWaits hq (record { late = a; delivered = b }))

      late_puts : (u : Activation S) (w : When) (e : Activation S) (q q₁ : LateQ (Activation S)) → Q e.act → LateWaits q → activate_late S u w e q ≡ filed q₁ → LateWaits q₁
      unfolding activate_late
      late_puts u w e q q₁ p h f =
          subst LateWaits (sym (room_is q.late most_waiting f).0) (record { late = push_waits e q.late p h.late; delivered = h.delivered })

      main_takes : (q : MainQ (Activation S)) (u : Activation S) (q₁ : MainQ (Activation S)) → MainWaits q → next_main S q ≡ took u q₁ → Q u.act × MainWaits q₁
      unfolding next_main
      main_takes q u q₁ h e = go q.pending q.carried h.pending h.carried e
        where
          go : (l d : List (Activation S)) → Waits l → Waits d → next_main' S l d ≡ took u q₁ → Q u.act × MainWaits q₁
          go [] d a b e = let z : ◌≡◌ {A = ℕ} 0 1 = cc in let y : ⊥ = omega arith in absurd y
          go (x ∷ l) d (◌∷·◌ p a) b e =
              let hu : x ≡ u = cc in
              let hq : record { pending = l; carried = d } ≡ q₁ = cc in
              (subst (λ (y : Activation S). Q y.act) hu p, subst MainWaits hq (record { pending = a; carried = b }))

      main_puts : (u : Activation S) (w : When) (e : Activation S) (q q₁ : MainQ (Activation S)) → Q e.act → MainWaits q → activate_main S u w e q ≡ filed q₁ → MainWaits q₁
      unfolding activate_main
      main_puts u w e q q₁ p h f = go (carries S (rank_of S u) w e) f
        where
          go :
              (b : Bool) →
              cond b
              (room q.carried most_waiting (record { pending = q.pending; carried = q.carried ++ (e ∷ []) }))
              (room q.pending most_waiting (record { pending = push S e q.pending; carried = q.carried }))
              ≡ filed q₁ →
              MainWaits q₁
          go true f = subst MainWaits (sym (room_is q.carried most_waiting f).0) (record { pending = h.pending; carried = all_append h.carried (◌∷·◌ p [·]) })
          go false f = subst MainWaits (sym (room_is q.pending most_waiting f).0) (record { pending = push_waits e q.pending p h.pending; carried = h.carried })

      open_puts : (place : Place) (e : Activation S) (q q₁ : OpenQ (Activation S)) → Q e.act → OpenWaits q → activate_open S place e q ≡ filed q₁ → OpenWaits q₁
      unfolding activate_open
      open_puts to_late e q q₁ p h f =
          subst OpenWaits (sym (room_is q.lateq.late most_waiting f).0)
          (record { lateq = record { late = push_waits e q.lateq.late p h.lateq.late; delivered = h.lateq.delivered }; pending = h.pending })
      open_puts to_delivered e q q₁ p h f =
          subst OpenWaits (sym (room_is q.lateq.delivered most_delivered f).0)
          (record { lateq = record { late = h.lateq.late; delivered = all_append h.lateq.delivered (◌∷·◌ p [·]) }; pending = h.pending })
      open_puts to_pending e q q₁ p h f =
          subst OpenWaits (sym (room_is q.pending most_waiting f).0) (record { lateq = h.lateq; pending = push_waits e q.pending p h.pending })

      -- ---- what closing keeps too
      module _ (closed : (w : W) (i : In) (o : Outcome Act) → P w → P (closes w i o).world) where
        pub tick_begins : (w : W) (i : In) (came : List (Activation S)) (t : Tag) → R i → Waits came → P w → HandsOn w i (tick S w i came t)
        unfolding tick late_pass main_pass
        tick_begins w i came t r a p =
            let d = opens w i in
            let h = opened w i r p in
            let q₀ : OpenQ (Activation S) = record { lateq = record { late = push_all S came []; delivered = [] }; pending = [] } in
            let o = raise_all S (activate_open S) d.raises t q₀ d.world d.stop in
            let g₀ = raise_all_goes OpenWaits (activate_open S) open_puts d.raises t q₀ d.world d.stop h.raises
            (record { queue = record { lateq = record { late = push_all_waits came [] a [·]; delivered = [·] }; pending = [·] }; world = h.world }) in
            let l = pass S (next_late S) (activate_late S) most_units o.next o.queue.lateq o.world o.stop in
            let g₁ = pass_goes LateWaits (next_late S) (activate_late S) late_takes late_puts most_units o.next o.queue.lateq o.world o.stop
            (record { queue = g₀.queue.lateq; world = g₀.world }) in
            let q : MainQ (Activation S) = record { pending = o.queue.pending; carried = [] } in
            let m = pass S (next_main S) (activate_main S) l.left l.next q l.world l.stop in
            let g₂ = pass_goes MainWaits (next_main S) (activate_main S) main_takes main_puts l.left l.next q l.world l.stop
            (record { queue = record { pending = g₀.queue.pending; carried = [·] }; world = g₁.goes.world }) in
            let z = outcome S l.turns m.turns m.queue.carried m.stop in
            let f = passes_follow S o d.world (raise_steps S (activate_open S) d.raises t q₀ d.world d.stop).world in
            let ended : (tick S w i came t).stop ≡ 0 → m.stop ≡ 0 = fitted (closes m.world i z).fits m.stop in
            record {
              begins = record { late = g₁.turns; main = g₂.turns };
              carried = g₂.goes.queue.carried;
              world = λ e. closed m.world i z (g₂.goes.world (ended e));
              left = λ e. subst P (f.world (ended e)) (g₂.goes.world (ended e));
            }

        run_on_begins : (is : List In) (w : W) (came : List (Activation S)) (t : Tag) → All R is → Waits came → P w → All (TickBegins S P Q) (run_on S is w came t)
        unfolding run_on
        run_on_begins [] w came t [·] a p = [·]
        run_on_begins (i ∷ is) w came t (◌∷·◌ r rs) a p =
            let k = tick S w i came t in
            let h = tick_begins w i came t r a p in
            ◌∷·◌ h.begins (go k.stop refl (λ q. run_on_begins is k.world k.carried k.next rs h.carried q) h.world)
          where
            go :
                (s : ℕ) → (tick S w i came t).stop ≡ s → {ts : List (Tick S)} → (P (tick S w i came t).world → All (TickBegins S P Q) ts) →
                ((tick S w i came t).stop ≡ 0 → P (tick S w i came t).world) → All (TickBegins S P Q) (go_on S s ts)
            go zero e k q = k (q e)
            go (suc s) e k q = [·]

        pub run_begins : (is : List In) (w : W) → All R is → P w → All (TickBegins S P Q) (run S is w)
        unfolding run
        run_begins is w rs p = run_on_begins is w [] _ rs [·] p
