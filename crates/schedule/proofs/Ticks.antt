-- A tick as its three parts: what it keeps, and that without a stop nothing waits at its end and all that it began has run.
use mathlib.Core.Path.{◌≡◌, refl, ap, ap₂}
use mathlib.Core.List.{List, [], ◌∷◌, ◌++◌}
use mathlib.Core.Bool.{Bool, true, false, cond}
use mathlib.Core.Logic.{◌⊎◌, inl, inr}
use Prim.Native.Nat.{ℕ, ◌+◌, ◌≤◌, ◌<◌}
use native.Mathlib.Omega.{arith}
use lib.ListN.{length}
use Rattle.schedule.specs.Schedule.{Setup, Raise, Took, empty, Filed, most_units, most_waiting, log_full, LateQ, MainQ, OpenQ, Place, When, Activation, push, push_all, activate_late, activate_main, activate_open, raise_all, next_late, next_late', next_main, next_main', late_pass, main_pass, Turn, Tick, outcome, tick}
use Rattle.schedule.specs.Promise.{total, units, ended, raised_by, begun, has_run, raised}
use Rattle.schedule.proofs.Steps.{activate_open_is, Raises, none, one, Passes, broke, done, turn, raise_steps, pass_steps}
use Rattle.schedule.proofs.Weigh.{total_append, push_weigh, push_all_weigh, late_weigh, open_weigh, raises_weigh, activate_open_weigh, late_passes_weigh, main_passes_weigh}

pub fitted : (b : Bool) (s : ℕ) → cond b s log_full ≡ 0 → s ≡ 0
fitted true s h = h
fitted false s h = omega arith

module _ (S : Setup) where
  open S use {Tag}
  open S.machine use {W, In, Act, opening, closing}

  -- a tick k into which c was carried and which gives identities from t₀ on: its parts, with the queues, identities and stops in between
  pub record Ticked (c : List (Activation S)) (t₀ : Tag) (k : Tick S) : Type 0 where
    pub o : OpenQ (Activation S)
    pub l : LateQ (Activation S)
    pub m : MainQ (Activation S)
    pub t₁ : Tag
    pub t₂ : Tag
    pub s₁ : ℕ
    pub s₂ : ℕ
    pub s₃ : ℕ
    pub rs : List (Raise W Act Place)
    pub opened : Raises S (activate_open S) rs t₀ (record { lateq = record { late = push_all S c []; delivered = [] }; pending = [] }) k.opened t₁ o
    pub late : Passes S (next_late S) (activate_late S) t₁ o.lateq s₁ k.late t₂ l s₂
    pub main : Passes S (next_main S) (activate_main S) t₂ (record { pending = o.pending; carried = [] }) s₂ k.main k.next m s₃
    pub came : k.came ≡ c
    pub waiting : k.waiting ≡ m.pending
    pub carried : k.carried ≡ m.carried
    pub stopped : k.stop ≡ 0 → s₃ ≡ 0
    pub units : length k.late + length k.main ≤ most_units

  pub ticked : (w : W) (i : In) (c : List (Activation S)) (t : Tag) → Ticked c t (tick S w i c t)
  unfolding tick late_pass main_pass
  ticked w i c t =
      let d = opening w i in
      let o = raise_all S (activate_open S) d.raises t (record { lateq = record { late = push_all S c []; delivered = [] }; pending = [] }) d.world d.stop in
      let l = late_pass S most_units o.next o.queue.lateq o.world o.stop in
      let m = main_pass S l.left l.next (record { pending = o.queue.pending; carried = [] }) l.world l.stop in
      let late = pass_steps S (next_late S) (activate_late S) most_units o.next o.queue.lateq o.world o.stop in
      let main = pass_steps S (next_main S) (activate_main S) l.left l.next (record { pending = o.queue.pending; carried = [] }) l.world l.stop in
      record {
        o = o.queue;
        l = l.queue;
        m = m.queue;
        t₁ = o.next;
        t₂ = l.next;
        s₁ = o.stop;
        s₂ = l.stop;
        s₃ = m.stop;
        rs = d.raises;
        opened = (raise_steps S (activate_open S) d.raises t _ d.world d.stop).steps;
        late = late.steps;
        main = main.steps;
        came = refl;
        waiting = refl;
        carried = refl;
        stopped = fitted (closing m.world i (outcome S l.turns m.turns m.queue.carried m.stop)).fits m.stop;
        units = omega (arith, late.units, main.units);
      }

  -- ---- a pass that ended without a stop began without one, nothing waits, and its units have run
  module _ {Q : Type 0} (next : Q → Took (Activation S) Q) (activate : Activation S → When → Activation S → Q → Filed Q) where
    pub passes_from : {t t₁ : Tag} {q q₁ : Q} {s s₁ : ℕ} {us : List (Turn S)} → Passes S next activate t q s us t₁ q₁ s₁ → s₁ ≡ 0 → s ≡ 0
    passes_from broke h = omega arith
    passes_from (done k) h = refl
    passes_from (turn k f b e r) h = refl

    pub passes_end : {t t₁ : Tag} {q q₁ : Q} {s s₁ : ℕ} {us : List (Turn S)} → Passes S next activate t q s us t₁ q₁ s₁ → s₁ ≡ 0 → next q₁ ≡ empty
    passes_end broke h = let z : ⊥ = omega arith in absurd z
    passes_end (done k) h = k
    passes_end (turn k f b e r) h = passes_end r h

    passes_ran : {t t₁ : Tag} {q q₁ : Q} {s s₁ : ℕ} {us : List (Turn S)} → Passes S next activate t q s us t₁ q₁ s₁ → s₁ ≡ 0 → ended S us ≡ units S us
    passes_ran broke h = refl
    passes_ran (done k) h = refl
    passes_ran (turn {u = u} k f b e r) h = rw (b (passes_from r h), passes_ran r h)

  pub tick_ran : {c : List (Activation S)} {t₀ : Tag} {k : Tick S} → Ticked c t₀ k → k.stop ≡ 0 → has_run S k ≡ begun S k
  tick_ran T h =
      let h₃ : T.s₃ ≡ 0 = T.stopped h in
      ap₂ ◌++◌
      (passes_ran (next_late S) (activate_late S) T.late (passes_from (next_main S) (activate_main S) T.main h₃))
      (passes_ran (next_main S) (activate_main S) T.main h₃)

  module _ (m : Activation S → ℕ) where
    late_none : (q : LateQ (Activation S)) → next_late S q ≡ empty → late_weigh S m q ≡ 0
    unfolding next_late
    late_none q h = go q.late q.delivered h
      where
        go : (l d : List (Activation S)) → next_late' S l d ≡ empty → total m l + total m d ≡ 0
        go [] [] h = refl
        go [] (e ∷ d) h = cc
        go (e ∷ l) d h = cc

    pub main_none : (q : MainQ (Activation S)) → next_main S q ≡ empty → total m q.pending ≡ 0
    unfolding next_main
    main_none q h = go q.pending q.carried h
      where
        go : (l c : List (Activation S)) → next_main' S l c ≡ empty → total m l ≡ 0
        go [] c h = refl
        go (e ∷ l) c h = cc

    -- what is pending after the opening was raised in it
    raises_pending :
        {rs : List (Raise W Act Place)} {t t₁ : Tag} {q q₁ : OpenQ (Activation S)} {es : List (Activation S)} → Raises S (activate_open S) rs t q es t₁ q₁ →
        total m q₁.pending ≤ total m q.pending + total m es
    raises_pending none = omega arith
    raises_pending (one {q = q} {q₁ = q₁} {e = e} p x h r) = omega (arith, step (activate_open_is S p.place e q q₁ h), raises_pending r)
      where
        step : (q₁.pending ≡ q.pending) ⊎ ((q₁.pending ≡ push S e q.pending) × (length q.pending < most_waiting)) → total m q₁.pending ≤ total m q.pending + m e
        step (inl h) = omega (arith, ap (total m) h)
        step (inr h) = omega (arith, ap (total m) h.0, push_weigh S m e q.pending)

    module _ {c : List (Activation S)} {t₀ : Tag} {k : Tick S} (T : Ticked c t₀ k) where
      -- the main pass: what it began, left and carried was raised in the opening or by its own units
      pub main_keeps : total m (units S k.main) + (total m k.waiting + total m k.carried) ≤ total m k.opened + total m (raised_by S k.main)
      main_keeps = omega (arith, main_passes_weigh S m T.main, raises_pending T.opened, ap (total m) T.carried, ap (total m) T.waiting)

      -- the whole tick
      pub tick_keeps :
          total m (begun S k) + (late_weigh S m T.l + (total m k.waiting + total m k.carried)) ≡ total m (raised S k) + total m c
      tick_keeps =
          omega (
            arith,
            main_passes_weigh S m T.main,
            late_passes_weigh S m T.late,
            raises_weigh S m (activate_open S) (open_weigh S m) (activate_open_weigh S m) T.opened,
            ap (total m) T.carried,
            ap (total m) T.waiting,
            push_all_weigh S m c [],
            total_append m (units S k.late) (units S k.main),
            total_append m k.opened (raised_by S k.late ++ raised_by S k.main),
            total_append m (raised_by S k.late) (raised_by S k.main),
          )

      -- without a stop: begun or carried is exactly what was raised in the tick or carried into it
      pub kept : k.stop ≡ 0 → total m (begun S k) + total m k.carried ≡ total m (raised S k) + total m c
      kept h =
          let h₃ : T.s₃ ≡ 0 = T.stopped h in
          omega (
            arith,
            tick_keeps,
            ap (total m) T.waiting,
            main_none T.m (passes_end (next_main S) (activate_main S) T.main h₃),
            late_none T.l (passes_end (next_late S) (activate_late S) T.late (passes_from (next_main S) (activate_main S) T.main h₃)),
          )
