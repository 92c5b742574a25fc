-- A tick of the code is the scheduler's tick.
use Prim.Native.Nat.{ℕ, ◌+◌, ◌-◌, ◌*◌, ◌≤◌, ◌<◌}
use mathlib.Core.Path.{◌≡◌, refl, sym, ap, ◌∙◌, subst}
use mathlib.Core.Bool.{Bool, true, false, cond}
use mathlib.Core.List.{List, [], ◌++◌, map, append-nil}
use native.Mathlib.Omega.{arith}
use borrow.Author.Tests.{leb-true, leb-false, le-leb, lt-leb}
use lib.Dec.{eqb, leb}
use lib.ListN.{length, take, drop, length-map, take-append-drop}
use Rattle.words.specs.Words.{words}
use Rattle.words.proofs.Laws.{lengths}
use Rattle.schedule.specs.Schedule.{Setup, Activation, LateQ, MainQ, OpenQ, log_full, Passed, main_pass, acts, outcome, tick, Closed}
use Rattle.model.specs.Base.{if◌then◌otherwise◌}
use Rattle.model.specs.Circuit.{Circuit}
use Rattle.model.specs.Script.{Given}
use Rattle.model.specs.State.{State}
use Rattle.model.specs.Unit.{World, state≔}
use Rattle.model.specs.Record.{Listed, LogRecord, record_words}
use Rattle.model.specs.Closing.{steps, as_listed, log_record, write, close, read_outputs}
use Rattle.model.specs.Run.{Allowed, closing}
use Rattle.areas.specs.Areas.{Contents, Kept, with_state, with_went}
use Rattle.chain.specs.declared.Ran.{Ran}
use Rattle.opening.specs.Opening.{opened_into, reopened, opened}
use Rattle.unit.specs.Unit.{stop_of}
use Rattle.passes.specs.Waiting.{bare, waiting, for_late, for_main, for_both}
use Rattle.passes.specs.Passes.{units_left, Passes}
use Rattle.passes.proofs.Kept.{opening_carries}
use Rattle.logging.specs.declared.Head.{Head}
use Rattle.logging.specs.Log.{record_of, fits, Writes}
use Rattle.ticks.specs.Ticks.{Ticks}
use Rattle.ticks.proofs.Parts.{late_from, main_from, closed_from, TickOf, tick_is, record_is}

-- two tests that say the same
leb_same : (i j k n : ℕ) → (i ≤ j → k ≤ n) → (k ≤ n → i ≤ j) → leb i j ≡ leb k n
leb_same i j k n f g = go (leb i j) refl
  where
    go : (t : Bool) → leb i j ≡ t → leb i j ≡ leb k n
    go true h = h ∙ sym (le-leb k n (f (leb-true i j h)))
    go false h = h ∙ sym (lt-leb k n (other (leb k n) refl))
      where
        other : (t : Bool) → leb k n ≡ t → n < k
        other true y = let z = leb-false i j h in let x = g (leb-true k n y) in absurd (omega arith)
        other false y = leb-false k n y

module _ (c : Circuit) where
  abbrev S : Setup
  S = bare c

  -- nothing is carried as the passes begin
  pub carries_nothing : (a : Contents) (given : Given) → (opened c a given).lists.carried ≡ []
  unfolding opened opened_into reopened
  carries_nothing a given = opening_carries c _ _ _

  module _ (w : World) (i : Allowed) (a a₁ a₂ a₃ : Contents) (r₁ r₂ : Ran) (came : a₁ ≡ with_went (reopened c a) (opened c a i.given)) where
    abbrev q : OpenQ (Activation S)
    q = for_both c a₁.lists

    abbrev v : World
    v = state≔ w i.limit a₁.state

    abbrev s : ℕ
    s = stop_of (opened c a i.given).answer

    -- the main pass, from what the late pass left
    main_is :
        Passes c (for_late c) a₁ a₂ r₁ v (late_from c q v s) → a₂.lists.pending ≡ a₁.lists.pending → a₂.lists.carried ≡ a₁.lists.carried →
        main_from c q v s ≡ main_pass S (units_left a₂) tt (for_main c a₂.lists) (state≔ v r₁.left a₂.state) r₁.stop
    main_is p e f =
        let none : a₂.lists.carried ≡ [] = f ∙ ap (λ (x : Contents). x.lists.carried) came ∙ carries_nothing a i.given in
        rw (p.left, p.world, p.stop, e, none) refl

    -- ---- the record
    module _ (same : w.state ≡ a.state) (late : Passes c (for_late c) a₁ a₂ r₁ v (late_from c q v s)) (e : a₂.lists.pending ≡ a₁.lists.pending) (f : a₂.lists.carried ≡ a₁.lists.carried)
        (main : Passes c (for_main c) a₂ a₃ r₂ (state≔ v r₁.left a₂.state) (main_pass S (units_left a₂) tt (for_main c a₂.lists) (state≔ v r₁.left a₂.state) r₁.stop))
        (h : Head) (ended : State) (reads : ended ≡ read_outputs c a₃.state r₂.stop) (h₁ : h.tick ≡ ended.wires.tick) (h₂ : h.steps ≡ i.limit - r₂.left + (if eqb r₂.stop 11 then 1 otherwise 0))
        (h₃ : h.late ≡ length a₂.kept.begun) (h₄ : h.stop ≡ r₂.stop) (h₅ : h.changed ≡ ended.changed) where
      abbrev l : Passed S (LateQ (Activation S))
      l = late_from c q v s

      abbrev m : Passed S (MainQ (Activation S))
      m = main_pass S (units_left a₂) tt (for_main c a₂.lists) (state≔ v r₁.left a₂.state) r₁.stop

      begun₂ : a₂.kept.begun ≡ map as_listed (acts S l.turns)
      unfolding reopened
      begun₂ = ap (λ (k : Kept). k.begun) late.kept ∙ ap (λ (x : Contents). x.kept.begun ++ map as_listed (acts S l.turns)) came

      begun₃ : a₃.kept.begun ≡ map as_listed (acts S l.turns) ++ map as_listed (acts S m.turns)
      begun₃ = ap (λ (k : Kept). k.begun) main.kept ∙ ap (λ (b : List Listed). b ++ map as_listed (acts S m.turns)) begun₂

      -- the world whose record is written
      abbrev u : World
      u = state≔ w r₂.left ended

      -- its words
      abbrev rs : List ℕ
      rs = record_words (record_of h a₃.kept.begun (map as_listed a₃.lists.carried) ended.wires.outs)

      closed_is : closed_from c i q v s ≡ write u rs
      unfolding closing close state≔ steps if◌then◌otherwise◌
      closed_is =
          ap (λ (x : Passed S (MainQ (Activation S))). closing c x.world i (outcome S l.turns x.turns x.queue.carried x.stop)) (main_is late e f)
          ∙ rw (main.world, main.queue, main.stop) (ap (λ (x : State). write (state≔ w r₂.left x) (record_words (log_record i.limit (state≔ w r₂.left x) (outcome S l.turns m.turns (map (waiting c) a₃.lists.carried) r₂.stop)))) (sym reads))
          ∙ ap (λ (r : LogRecord). write u (record_words r)) (record_is c i.limit u l.turns m.turns a₃.lists.carried r₂.stop h a₃.kept.begun
          h₁ h₂ (h₃ ∙ ap length begun₂ ∙ length-map (acts S l.turns) as_listed) h₄ h₅ begun₃)

      -- ---- the tick
      module _ (before after : List ℕ) (at : ℕ) (room : w.room ≡ length before - 8 * at) (inside : 8 * at ≤ length before) (kept : Writes before after at rs) where
        abbrev b : Contents
        b = with_state a₃ ended

        t_of : TickOf c i (tick S w i (map (waiting c) a.lists.carried) tt) q v s
        t_of =
            subst (λ (x : Contents). TickOf c i (tick S w i (map (waiting c) a.lists.carried) tt) (for_both c x.lists) (state≔ w i.limit x.state) s) (sym came) (tick_is c w i a same)

        same_fit : leb (8 * length rs) u.room ≡ fits before at rs
        unfolding fits state≔
        same_fit = leb_same (8 * length rs) w.room (at + length rs) (length (words before)) (λ y. let i = lengths before in let x = room in omega arith) (λ y. let i = lengths before in let x = room in omega arith)

        -- it fits
        pub ticks_fit :
            fits before at rs ≡ true →
            Ticks c a b before after at (length rs) r₂.stop w (tick S w i (map (waiting c) a.lists.carried) tt)
        unfolding write if◌then◌otherwise◌ state≔
        ticks_fit y =
            let z = t_of in
            let n : leb (8 * length rs) u.room ≡ true = same_fit ∙ y in
            let k : closed_from c i q v s ≡ record { world = record { state = ended; left = r₂.left; room = w.room - 8 * length rs; logged = rs }; fits = true } = closed_is ∙ rw n in
            let g = z.world ∙ ap (λ (x : Closed World). x.world) k in
            record {
              stopped = z.stop ∙ ap (λ (x : Closed World). cond x.fits (main_from c q v s).stop log_full) k ∙ ap (λ (x : Passed S (MainQ (Activation S))). x.stop) (main_is late e f) ∙ main.stop;
              carried = z.carried ∙ ap (λ (x : Passed S (MainQ (Activation S))). x.queue.carried) (main_is late e f) ∙ ap (λ (x : MainQ (Activation S)). x.carried) main.queue;
              state = ap (λ (x : World). x.state) g;
              room = ap (λ (x : World). x.room + 8 * length rs) g ∙ (let j = leb-true (8 * length rs) w.room n in omega arith);
              logged = ap (λ (x : World). length x.logged) g;
              log = kept.words ∙ rw y (ap (λ (x : World). take at (words before) ++ x.logged ++ drop (at + length rs) (words before)) (sym g));
              behind = kept.tail;
            }

        -- it does not fit
        pub ticks_full :
            fits before at rs ≡ false →
            Ticks c a b before after at 0 log_full w (tick S w i (map (waiting c) a.lists.carried) tt)
        unfolding write if◌then◌otherwise◌ state≔
        ticks_full y =
            let z = t_of in
            let n : leb (8 * length rs) u.room ≡ false = same_fit ∙ y in
            let k : closed_from c i q v s ≡ record { world = record { state = ended; left = r₂.left; room = w.room; logged = [] }; fits = false } = closed_is ∙ rw n in
            let g = z.world ∙ ap (λ (x : Closed World). x.world) k in
            record {
              stopped = z.stop ∙ ap (λ (x : Closed World). cond x.fits (main_from c q v s).stop log_full) k;
              carried = z.carried ∙ ap (λ (x : Passed S (MainQ (Activation S))). x.queue.carried) (main_is late e f) ∙ ap (λ (x : MainQ (Activation S)). x.carried) main.queue;
              state = ap (λ (x : World). x.state) g;
              room = ap (λ (x : World). x.room + 8 * 0) g ∙ (omega arith);
              logged = ap (λ (x : World). length x.logged) g;
              log = kept.words ∙ rw y (sym (take-append-drop at (words before)) ∙ whole) ∙ ap (λ (x : World). take at (words before) ++ x.logged ++ drop (at + 0) (words before)) (sym g);
              behind = kept.tail;
            }
          where
            whole : take at (words before) ++ drop at (words before) ≡ take at (words before) ++ [] ++ drop (at + 0) (words before)
            whole =
                ap (λ (x : List ℕ). x ++ drop at (words before)) (sym (append-nil (take at (words before))))
                ∙ ap (λ (i : ℕ). take at (words before) ++ [] ++ drop i (words before)) (let x : at ≡ at + 0 = omega arith in x)
