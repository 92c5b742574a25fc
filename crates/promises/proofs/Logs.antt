-- The log of a run is the words of good records.
use mathlib.Core.Path.{◌≡◌, refl, sym, ap, subst, ◌∙◌}
use mathlib.Core.Logic.{◌⊎◌, inl, inr}
use mathlib.Core.Bool.{Bool, true, false, cond}
use mathlib.Core.List.{List, [], ◌∷◌, ◌++◌, map}
use Prim.Native.Nat.{ℕ, zero, suc, ◌+◌, ◌*◌, ◌^◌, ◌≤◌, ◌<◌}
use native.Mathlib.Omega.{arith}
use lib.ListN.{length, length-map}
use Rattle.schedule.specs.Schedule.{most_units, log_full, Setup, plain, Activation, Turn, Tick, Outcome, Closed, acts, outcome, tick, go_on, run_on, run}
use Rattle.schedule.specs.Promise.{All, [·], ◌∷·◌}
use Rattle.schedule.specs.Keeping.{TurnBegins}
use Rattle.schedule.proofs.Erase.{map_append}
use Rattle.schedule.proofs.Ticks.{ticked}
use Rattle.schedule.proofs.Keeps.{tick_spends}
use Rattle.schedule.proofs.Begins.{HandsOn, tick_begins}
use Rattle.schedule.proofs.Limits.{tick_limited}
use Rattle.model.specs.Base.{joined}
use Rattle.model.specs.Circuit.{Circuit}
use Rattle.model.specs.Script.{most_ticks}
use Rattle.model.specs.State.{Act}
use Rattle.model.specs.Settle.{most_checks}
use Rattle.model.specs.Unit.{World, state≔}
use Rattle.model.specs.Record.{LogRecord, record_words}
use Rattle.model.specs.Closing.{steps, log_record, write, close}
use Rattle.model.specs.Run.{most_steps, Allowed, closing, machine, world_at_start, ticks_of}
use Rattle.model.specs.Counted.{most_counted}
use Rattle.model.proofs.Lists.{if_both, map_all}
use Rattle.model.proofs.Walks.{moving}
use Rattle.model.proofs.Ends.{Ended, tick_ended}
use Rattle.model.proofs.Counted.{Spare, one_spared, body_spares, opening_spares, closing_spares}
use Rattle.records.specs.Records.{log_words}
use Rattle.records.specs.Good.{GoodLog, nothing_follows}
use Rattle.promises.proofs.Values.{as_word}
use Rattle.promises.proofs.Shape.{Shaped}
use Rattle.promises.proofs.Settles.{Fitting}
use Rattle.promises.proofs.Worlds.{WorldHolds, Gets, start_world_holds, opening_brings, body_brings, closing_holds}
use Rattle.promises.proofs.Numbers.{start_number, tick_numbered}
use Rattle.promises.proofs.Made.{Stop, read_back, Makes, made_good, made_words}

-- how a tick was closed: its record was written, or it did not fit
data ClosedAs (i : Allowed) (o : Outcome Act) (k : Closed World) : Type 0 where
  written : k.world.logged ≡ record_words (log_record i.limit k.world o) → k.fits ≡ true → ClosedAs i o k
  full : k.world.logged ≡ [] → k.fits ≡ false → ClosedAs i o k

closed : (c : Circuit) (w : World) (i : Allowed) (o : Outcome Act) → ClosedAs i o (closing c w i o)
unfolding closing close write state≔ log_record steps
closed c w i o = if_both (ClosedAs i o) _ (written refl refl) (full refl refl)

module _ (c : Circuit) (Z : Shaped c) where
  abbrev S : Setup
  S = plain (machine c)

  -- the records of some ticks
  abbrev pub log_of : List (Tick S) → List ℕ
  log_of ts = joined (map (λ (t : Tick S). t.world.logged) ts)

  -- what all that waits is to run
  abbrev Waiting : List (Activation S) → Type 0
  Waiting es = All (λ (e : Activation S). Fitting c e.act) es

  acts_length : (us : List (Turn S)) → length (acts S us) ≡ length us
  acts_length [] = refl
  acts_length (u ∷ us) = ap suc (acts_length us)

  acts_fit : {us : List (Turn S)} → All (TurnBegins S (WorldHolds c) (Fitting c)) us → All (Fitting c) (acts S us)
  acts_fit [·] = [·]
  acts_fit (◌∷·◌ f a) = ◌∷·◌ f.act (acts_fit a)

  -- ---- a tick

  -- what the record of tick k is made of
  abbrev outcome_of : Tick S → Outcome Act
  outcome_of k = outcome S k.late k.main k.carried k.stop

  -- what tick t wrote: a record of good parts, or none that fits, which is a stop
  data Wrote (t : ℕ) (i : Allowed) (k : Tick S) : Type 0 where
    one : k.world.logged ≡ record_words (log_record i.limit k.world (outcome_of k)) → Makes c t i.limit k.world (outcome_of k) → Wrote t i k
    none : k.world.logged ≡ [] → k.stop ≡ log_full → Wrote t i k

  few_changed : (w : World) (i : Allowed) (came : List (Activation S)) → i.limit ≤ most_steps → (tick S w i came tt).world.state.changed < 2 ^ 63
  few_changed w i came l =
      let b = most_counted in
      let m : 1 + moving c (most_checks c) + i.limit + most_units * most_checks c ≤ b = omega (arith, l, Z.few_counted) in
      let T = tick_spends S (Spare c b 1) (Spare c b) (one_spared c b) (body_spares c b) w i came tt (opening_spares c b w i m) in
      let e = closing_spares c b T.left T.before i T.done T.holds in
      omega (arith, e.few, ap (λ (v : World). v.state.changed) T.world)

  record TickWrote (t : ℕ) (i : Allowed) (k : Tick S) : Type 0 where
    wrote : Wrote t i k
    carried : Waiting k.carried
    world : k.stop ≡ 0 → WorldHolds c k.world

  tick_wrote :
      (n : ℕ) (w : World) (i : Allowed) (came : List (Activation S)) → w.state.wires.tick ≡ n → Gets c i → Waiting came → WorldHolds c w →
      TickWrote (suc n) i (tick S w i came tt)
  tick_wrote n w i came e q a p = record { wrote = go (closed c d.before i o); carried = h.carried; world = h.world }
    where
      k : Tick S
      k = tick S w i came tt

      d : Ended Stop (inl refl) (inr (inl refl)) (inr (inr refl)) c i (tick S w i came tt)
      d = tick_ended Stop (inl refl) (inr (inl refl)) (inr (inr refl)) c w i came tt

      o : Outcome Act
      o = outcome S k.late k.main k.carried d.reached

      h : HandsOn S (WorldHolds c) (Fitting c) w i (tick S w i came tt)
      h = tick_begins S (WorldHolds c) (Fitting c) (Gets c) (opening_brings c Z) (body_brings c Z) (closing_holds c Z) w i came tt q a p

      go : ClosedAs i o (closing c d.before i o) → Wrote (suc n) i k
      go (written x y) =
          let s : k.stop ≡ d.reached = d.stop ∙ ap (λ (b : Bool). cond b d.reached log_full) y in
          let f = tick_limited S (ticked S w i came tt) in
          one
          (ap (λ (v : World). v.logged) d.world ∙ x ∙ (λ j. record_words (log_record i.limit (sym d.world j) (outcome S k.late k.main k.carried (sym s j)))))
          (record {
            tick = tick_numbered c w i came tt ∙ ap suc e;
            allowed = q.limit;
            late = acts_fit h.begins.late;
            main = acts_fit h.begins.main;
            carried = map_all (Fitting c) _ h.carried;
            units = omega (arith, f.units, acts_length k.late, acts_length k.main);
            waits = omega (arith, f.carried, length-map k.carried (λ (e : Activation S). e.act));
            changed = few_changed w i came q.limit;
            stop = subst Stop (sym s) d.stops;
            holds = h.world;
          })
      go (full x y) = none (ap (λ (v : World). v.logged) d.world ∙ x) (d.stop ∙ ap (λ (b : Bool). cond b d.reached log_full) y)

  -- ---- a run

  -- the log of some ticks after tick n, as it is read back
  pub record Logged (n most : ℕ) (ws : List ℕ) : Type 0 where
    pub records : List LogRecord
    pub words : map as_word ws ≡ log_words records
    pub good : GoodLog c (suc n) records
    pub few : length records ≤ most

  nothing_logged : (n most : ℕ) → Logged n most []
  unfolding log_words joined
  nothing_logged n most = record { records = []; words = refl; good = tt; few = omega arith }

  -- a tick without a stop, or the last one
  next_logged :
      (n most : ℕ) (i : Allowed) (k : Tick S) (ws : List ℕ) → suc n < 2 ^ 64 → Wrote (suc n) i k → (m : Logged (suc n) most ws) →
      (k.stop ≡ 0) ⊎ (nothing_follows m.records ≡ true) → (k.stop ≡ log_full → ws ≡ []) → Logged n (suc most) (k.world.logged ++ ws)
  unfolding log_words joined
  next_logged n most i k ws l (one e g) m s f =
      let w = k.world in
      let r = log_record i.limit w (outcome_of k) in
      record {
        records = read_back r ∷ m.records;
        words =
            map_append as_word w.logged ws
            ∙ (λ j. (ap (λ (x : List ℕ). map as_word x) e ∙ made_words c Z.wired.few.gates (suc n) i.limit w (outcome_of k) l g) j ++ m.words j);
        good = (made_good c (suc n) i.limit (nothing_follows m.records) w (outcome_of k) g s, m.good);
        few = omega (arith, m.few);
      }
  next_logged n most i k ws l (none e z) m s f = subst (Logged n (suc most)) (λ j. sym e j ++ sym (f z) j) (nothing_logged n (suc most))

  log_on :
      (is : List Allowed) (w : World) (came : List (Activation S)) (n : ℕ) → n + length is ≤ most_ticks → w.state.wires.tick ≡ n → All (Gets c) is →
      Waiting came → WorldHolds c w → Logged n (length is) (log_of (run_on S is w came tt))
  unfolding run_on joined nothing_logged
  log_on [] w came n l e a f p = nothing_logged n 0
  log_on (i ∷ is) w came n l e (◌∷·◌ q a) f p =
      let k = tick S w i came tt in
      let y = tick_wrote n w i came e q f p in
      go k.stop refl y.wrote (run_on S is k.world k.carried tt) (λ z. log_on is k.world k.carried (suc n) (omega (arith, l)) (tick_numbered c w i came tt ∙ ap suc e) a y.carried (y.world z))
    where
      go :
          (s : ℕ) → (tick S w i came tt).stop ≡ s → Wrote (suc n) i (tick S w i came tt) → (ts : List (Tick S)) →
          ((tick S w i came tt).stop ≡ 0 → Logged (suc n) (length is) (log_of ts)) → Logged n (suc (length is)) ((tick S w i came tt).world.logged ++ log_of (go_on S s ts))
      go zero z x ts rec = next_logged n (length is) i (tick S w i came tt) (log_of ts) (omega (arith, l)) x (rec z) (inl z) (λ y. absurd (omega (arith, y, z)))
      go (suc s) z x ts rec = next_logged n (length is) i (tick S w i came tt) [] (omega (arith, l)) x (nothing_logged (suc n) (length is)) (inr refl) (λ _. refl)

  -- of a whole run
  pub run_logged : (room : ℕ) (is : List Allowed) → length is ≤ most_ticks → All (Gets c) is → Logged 0 (length is) (log_of (ticks_of c room is))
  unfolding ticks_of run
  run_logged room is l a = log_on is (world_at_start c room) [] 0 (omega (arith, l)) (start_number c room) a [·] (start_world_holds c Z room)
