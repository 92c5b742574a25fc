-- A run, tick by tick.
use Prim.Native.Nat.{ℕ, zero, suc, ◌+◌}
use mathlib.Core.Path.{◌≡◌, refl, sym, ap, ◌∙◌}
use mathlib.Core.List.{List, [], ◌∷◌, ◌++◌, map, append_assoc, append-nil}
use native.Mathlib.Nat.{zero-add}
use native.Mathlib.Omega.{arith}
use borrow.Author.Tests.{ne_eqb}
use lib.ListN.{length, take, drop, length-append}
use lib.Seq.{take_at, drop_at, drop-drop}
use Rattle.words.specs.Words.{words, tail}
use Rattle.schedule.specs.Schedule.{Setup, Activation, Tick, tick, go_on, run, run_on}
use Rattle.model.specs.Base.{if◌then◌otherwise◌, keep, joined}
use Rattle.model.specs.Circuit.{Circuit}
use Rattle.model.specs.Unit.{World}
use Rattle.model.specs.Run.{Played, Allowed, last_stop, seen}
use Rattle.areas.specs.Areas.{Contents}
use Rattle.passes.specs.Waiting.{bare, waiting}
use Rattle.ticks.specs.Ticks.{Ticks}
use Rattle.run.specs.Running.{more, Running, Logged}

-- what stands behind the first records, a new one before it
log_grows : (xs ys ws log : List ℕ) (at size : ℕ) → length xs ≡ at → log ≡ xs ++ drop at ws →
    take at log ++ ys ++ drop (at + size) log ≡ (xs ++ ys) ++ drop (at + size) ws
log_grows xs ys ws log at size n e =
    ap (λ (l : List ℕ). take at l ++ ys ++ drop (at + size) l) e
    ∙ ap (λ (l : List ℕ). l ++ ys ++ drop (at + size) (xs ++ drop at ws)) (take_at xs (drop at ws) at n)
    ∙ ap (λ (l : List ℕ). xs ++ ys ++ l) (sym (drop-drop size at (xs ++ drop at ws)) ∙ ap (drop size) (drop_at xs (drop at ws) at n) ∙ drop-drop size at ws)

module _ (c : Circuit) where
  abbrev S : Setup
  S = bare c

  -- ---- what is seen, tick by tick

  -- a tick without a stop
  seen_on : (t : Tick S) (ts : List (Tick S)) → t.stop ≡ 0 → seen c (t ∷ go_on S t.stop ts) ≡ more t.world.logged 1 (seen c ts)
  unfolding seen last_stop joined keep if◌then◌otherwise◌ more
  seen_on t ts e = rw e (ap (λ (n : ℕ). record { log = t.world.logged ++ (seen c ts).log; stop = (seen c ts).stop; ticks = n }) (let x : suc (seen c ts).ticks ≡ 1 + (seen c ts).ticks = omega arith in x))

  -- a stop
  seen_stop : (t : Tick S) (ts : List (Tick S)) → (t.stop ≡ 0 → ⊥) → seen c (t ∷ go_on S t.stop ts) ≡ record { log = t.world.logged; stop = t.stop; ticks = 0 }
  unfolding seen last_stop joined keep if◌then◌otherwise◌
  seen_stop t ts e = rw (none t.stop e, ne_eqb t.stop 0 e) (ap (λ (l : List ℕ). record { log = l; stop = t.stop; ticks = 0 }) (append-nil t.world.logged))
    where
      none : (s : ℕ) → (s ≡ 0 → ⊥) → go_on S s ts ≡ []
      none zero f = absurd (f refl)
      none (suc s) f = refl

  more_more : (l k : List ℕ) (n m : ℕ) (p : Played) → more l n (more k m p) ≡ more (l ++ k) (n + m) p
  unfolding more
  more_more l k n m p = rw (append_assoc l k p.log, (let e : n + (m + p.ticks) ≡ n + m + p.ticks = omega arith in e)) refl

  nothing_before : (p : Played) → more [] 0 p ≡ p
  unfolding more
  nothing_before p = ap (λ (n : ℕ). record { log = p.log; stop = p.stop; ticks = n }) (zero-add p.ticks)

  -- ---- a run under way
  module _ (is : List Allowed) (w : World) (before : List ℕ) where
    -- its start
    pub running_first : (a : Contents) (log : List ℕ) → log ≡ before → w.state ≡ a.state → w.room ≡ length before → a.lists.carried ≡ [] → Running c is w 0 a before log 0
    unfolding more run
    running_first a log same e f g =
        record {
          world = w;
          state = e;
          room = f ∙ (omega arith);
          records = [];
          size = refl;
          words = ap words same;
          tail = ap tail same;
          seen = rw g (sym (nothing_before (seen c (run S is w))));
        }

    module _ (k : ℕ) (a : Contents) (log : List ℕ) (at : ℕ) (r : Running c is w k a before log at) where
      -- the next tick
      abbrev pub ticked : Allowed → Tick S
      ticked i = tick S r.world i (map (waiting c) a.lists.carried) tt

      next_tick :
          (i : Allowed) → drop k is ≡ i ∷ drop (k + 1) is →
          seen c (run_on S (drop k is) r.world (map (waiting c) a.lists.carried) tt)
          ≡ seen c (ticked i ∷ go_on S (ticked i).stop (run_on S (drop (k + 1) is) (ticked i).world (ticked i).carried tt))
      unfolding run_on
      next_tick i e = ap (λ (js : List Allowed). seen c (run_on S js r.world (map (waiting c) a.lists.carried) tt)) e

      -- it came to no stop
      pub running_on :
          (i : Allowed) (b : Contents) (after : List ℕ) (size : ℕ) → drop k is ≡ i ∷ drop (k + 1) is → Ticks c a b log after at size 0 r.world (ticked i) →
          Running c is w (k + 1) b before after (at + size)
      running_on i b after size e t =
          record {
            world = (ticked i).world;
            state = t.state;
            room = (let x = t.room in let y = r.room in omega arith);
            records = r.records ++ (ticked i).world.logged;
            size = length-append r.records (ticked i).world.logged ∙ (let x = r.size in let y = t.logged in omega arith);
            words = t.log ∙ log_grows r.records (ticked i).world.logged (words before) (words log) at size r.size r.words;
            tail = t.behind ∙ r.tail;
            seen = r.seen ∙ ap (more r.records k) (next_tick i e ∙ seen_on (ticked i) _ t.stopped) ∙ more_more r.records (ticked i).world.logged k 1 _ ∙ ap (λ (x : List (Activation S)). more (r.records ++ (ticked i).world.logged) (k + 1) (seen c (run_on S (drop (k + 1) is) (ticked i).world x tt))) t.carried;
          }

      -- it came to a stop, which ends the run
      pub running_stop :
          (i : Allowed) (b : Contents) (after : List ℕ) (size stop : ℕ) → drop k is ≡ i ∷ drop (k + 1) is → (stop ≡ 0 → ⊥) → Ticks c a b log after at size stop r.world (ticked i) →
          Logged (seen c (run S is w)) before after (at + size) stop k
      unfolding more
      running_stop i b after size stop e f t =
          let p : seen c (run S is w) ≡ more r.records k (record { log = (ticked i).world.logged; stop = (ticked i).stop; ticks = 0 })
          = r.seen ∙ ap (more r.records k) (next_tick i e ∙ seen_stop (ticked i) _ (λ y. f (sym t.stopped ∙ y))) in
          record {
            stop = ap (λ (x : Played). x.stop) p ∙ t.stopped;
            ticks = ap (λ (x : Played). x.ticks) p ∙ (omega arith);
            size = ap (λ (x : Played). length x.log) p ∙ length-append r.records (ticked i).world.logged ∙ (let x = r.size in let y = t.logged in omega arith);
            words = t.log ∙ log_grows r.records (ticked i).world.logged (words before) (words log) at size r.size r.words ∙ ap (λ (x : Played). x.log ++ drop (at + size) (words before)) (sym p);
            tail = t.behind ∙ r.tail;
          }

      -- the script has ended
      pub running_end : drop k is ≡ [] → Logged (seen c (run S is w)) before log at 0 k
      unfolding more run_on seen last_stop joined keep
      running_end e =
          let p : seen c (run S is w) ≡ more r.records k (record { log = []; stop = 0; ticks = 0 })
          = r.seen ∙ ap (λ (js : List Allowed). more r.records k (seen c (run_on S js r.world (map (waiting c) a.lists.carried) tt))) e in
          let q : (seen c (run S is w)).log ≡ r.records = ap (λ (x : Played). x.log) p ∙ append-nil r.records in
          record {
            stop = ap (λ (x : Played). x.stop) p;
            ticks = ap (λ (x : Played). x.ticks) p ∙ (omega arith);
            size = ap length q ∙ r.size;
            words = r.words ∙ ap (λ (x : List ℕ). x ++ drop at (words before)) (sym q);
            tail = r.tail;
          }
