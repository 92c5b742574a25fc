-- Reading for the record cannot be seen: what a run answers is the same where each tick begins in the state that the last unit of the one before left. Between two ticks
-- nothing is read but by the opening of the next one, and that comes to the same state (Openings.antt).
use mathlib.Core.Path.{◌≡◌, refl, sym, ap, subst, ◌∙◌}
use mathlib.Core.Bool.{Bool, true, false, cond}
use mathlib.Core.List.{List, [], ◌∷◌, ◌++◌, map}
use mathlib.Core.Option.{some}
use Prim.Native.Nat.{ℕ, zero, suc, ◌+◌, ◌-◌, ◌*◌}
use lib.Dec.{leb, eqb}
use lib.ListN.{length}
use Rattle.words.specs.Words.{words}
use Rattle.schedule.specs.Schedule.{list_full, log_full, Raise, Closed, Setup, plain, Activation, Turn, Tick, outcome, tick, go_on, run_on, run}
use Rattle.schedule.specs.Promise.{All, [·], ◌∷·◌, left_by}
use Rattle.schedule.specs.Keeping.{TurnBegins, TickBegins, RaisesAlike, alike_none, alike_next, DidAlike, CutAt, TicksAlike, same, cut}
use Rattle.schedule.proofs.Theorems.{tick_alike}
use Rattle.schedule.proofs.Members.{all_map, all_append}
use Rattle.schedule.proofs.Told.{tick_opens}
use Rattle.schedule.proofs.Begins.{Waits, tick_begins}
use Rattle.model.specs.Base.{if◌then◌otherwise◌, keep, joined}
use Rattle.model.specs.Circuit.{Circuit, circuit}
use Rattle.model.specs.State.{State, Act, wires≔}
use Rattle.model.specs.Wires.{refresh_all}
use Rattle.model.specs.Opening.{start}
use Rattle.model.specs.Unit.{World, state≔, raises_in}
use Rattle.model.specs.Record.{record_words, record_opened}
use Rattle.model.specs.Closing.{read_outputs, log_record, write, close, closing_opened}
use Rattle.model.specs.Run.{Allowed, ticks_get, opening, closing, machine, world_at_start, ticks_of, last_stop, seen}
use Rattle.model.specs.Questions.{Areas, refusal}
use Rattle.model.specs.Answer.{played, play, answer}
use Rattle.model.specs.Fresh.{BeginsFresh}
use Rattle.model.specs.Unread.{unread, unread_on, unread_ticks, play_unread, UnreadRunFresh}
use Rattle.model.proofs.Lists.{if_both, if_alike}
use Rattle.model.proofs.Asked.{accepted}
use Rattle.model.proofs.InOrder.{write_fits, write_over, answer_is}
use Rattle.model.proofs.Wired.{Wired}
use Rattle.model.proofs.Right.{no_exception}
use Rattle.model.proofs.Sound.{Sound, Brings}
use Rattle.model.proofs.Starting.{AllowedFine, start_sound}
use Rattle.model.proofs.Twins.{read_near}
use Rattle.model.proofs.Openings.{SameHead, StateNear, itself_near, open_tick_alike}
use Rattle.model.proofs.Beginning.{Ready, opening_brings, body_brings, closing_ready, unit_fresh}
use Rattle.model.proofs.Wiring.{wired, gets_fine}

module _ (c : Circuit) (W : Wired c) where
  abbrev S : Setup
  S = plain (machine c)

  -- ---- a tick, from two worlds of which one was read

  -- in worlds that write the same record where their tick is stopped
  record SameRecord (x y : World) : Type 0 where
    tick : x.state.wires.tick ≡ y.state.wires.tick
    left : x.left ≡ y.left
    room : x.room ≡ y.room
    changed : x.state.changed ≡ y.state.changed

  -- before a tick
  record WorldsNear (w v : World) : Type 0 where
    first : Ready c W w
    second : Ready c W v
    near : StateNear c W w.state v.state
    room : w.room ≡ v.room
    logged : w.logged ≡ v.logged

  in_worlds :
      {P : Type 0} (left : ℕ) (w v : World) → w.room ≡ v.room → {rs us : List (Raise State Act P)} → RaisesAlike SameHead rs us →
      RaisesAlike SameRecord (raises_in w left rs) (raises_in v left us)
  unfolding raises_in state≔
  in_worlds left w v e alike_none = alike_none
  in_worlds left w v e (alike_next t a p r) = alike_next (record { tick = sym t.tick; left = refl; room = e; changed = sym t.changed }) a p (in_worlds left w v e r)

  opening_alike : (w v : World) (i : Allowed) → AllowedFine c i → WorldsNear w v → DidAlike SameRecord (opening c w i) (opening c v i)
  unfolding opening state≔
  opening_alike w v i q n =
      let o = open_tick_alike c W i.given w.state v.state q n.first n.second n.near in
      record {
        world = λ j. record { state = o.state j; left = i.limit; room = n.room j; logged = n.logged j };
        raises = in_worlds i.limit w v n.room o.raises;
        stop = refl;
      }

  -- what is seen of a tick
  record SeenAlike (k k' : Tick S) : Type 0 where
    logged : k.world.logged ≡ k'.world.logged
    stop : k.stop ≡ k'.stop

  -- what writing a record comes to
  record WroteAlike (r r' : List ℕ) (w v : World) : Type 0 where
    fits : (write w r).fits ≡ (write v r').fits
    logged : (write w r).world.logged ≡ (write v r').world.logged

  wrote_alike : (r r' : List ℕ) (w v : World) → r ≡ r' → w.room ≡ v.room → WroteAlike r r' w v
  wrote_alike r r' w v e m = go (leb (8 * length r) w.room) refl
    where
      go : (b : Bool) → leb (8 * length r) w.room ≡ b → WroteAlike r r' w v
      go true h =
          let a = write_fits w r h in
          let d = write_fits v r' (sym (λ j. leb (8 * length (e j)) (m j)) ∙ h) in
          record { fits = a.1 ∙ sym d.1; logged = a.0 ∙ e ∙ sym d.0 }
      go false h =
          let a = write_over w r h in
          let d = write_over v r' (sym (λ j. leb (8 * length (e j)) (m j)) ∙ h) in
          record { fits = a.1 ∙ sym d.1; logged = a.0 ∙ sym d.0 }

  cut_record : (limit : ℕ) (x y : World) → SameRecord x y → record_words (log_record limit x (outcome S [] [] [] list_full)) ≡ record_words (log_record limit y (outcome S [] [] [] list_full))
  unfolding record_opened closing_opened if◌then◌otherwise◌
  cut_record limit x y e = λ j. e.tick j ∷ (limit - e.left j + 0) ∷ 0 ∷ 0 ∷ 0 ∷ list_full ∷ e.changed j ∷ []

  cut_closing :
      (i : Allowed) (x y : World) → SameRecord x y →
      let o = outcome S [] [] [] list_full in
      ((closing c x i o).fits ≡ (closing c y i o).fits) × ((closing c x i o).world.logged ≡ (closing c y i o).world.logged)
  unfolding closing close read_outputs state≔ if◌then◌otherwise◌
  cut_closing i x y e = let a = wrote_alike _ _ x y (cut_record i.limit x y e) e.room in (a.fits, a.logged)

  alike_seen : (i : Allowed) {k k' : Tick S} → TicksAlike S SameRecord i k k' → SeenAlike k k'
  alike_seen i (same e) = record { logged = ap (λ (k : Tick S). k.world.logged) e; stop = ap (λ (k : Tick S). k.stop) e }
  alike_seen i (cut x y r a b) =
      let z = cut_closing i x y r in
      record {
        logged = ap (λ (w : World). w.logged) a.world ∙ z.1 ∙ sym (ap (λ (w : World). w.logged) b.world);
        stop = a.stop ∙ ap (λ (f : Bool). cond f list_full log_full) z.0 ∙ sym b.stop;
      }

  -- ---- between two ticks

  write_state : (w : World) (r : List ℕ) → (write w r).world.state ≡ w.state
  unfolding write
  write_state w r = if_both (λ (k : Closed World). k.world.state ≡ w.state) _ refl refl

  -- the state that a tick without a stop hands on is the one that its last unit left, read
  closed_state : (w : World) (i : Allowed) (late main : List (Turn S)) (carried : List (Activation S)) → (closing c w i (outcome S late main carried 0)).world.state ≡ wires≔ w.state (refresh_all c w.state.wires)
  unfolding closing close read_outputs state≔ if◌then◌otherwise◌
  closed_state w i late main carried = write_state _ _

  read_state_near : (s : State) → Sound c no_exception [] s → StateNear c W (wires≔ s (refresh_all c s.wires)) s
  unfolding wires≔
  read_state_near s z = record { wires = read_near c W s.wires z.wires; delays = refl; outbox = refl; changed = refl }

  -- the world after a tick that began in v, and the same unread
  after_near :
      (v : World) (i : Allowed) (came : List (Activation S)) → AllowedFine c i → Waits S (Ready c W) (Brings c) came → Ready c W v →
      let k = tick S v i came tt in k.stop ≡ 0 → WorldsNear k.world (unread c v i k) × Waits S (Ready c W) (Brings c) k.carried
  unfolding unread
  after_near v i came q a z e =
      let k = tick S v i came tt in
      let h = tick_begins S (Ready c W) (Brings c) (AllowedFine c) (opening_brings c W) (body_brings c W) (closing_ready c W) v i came tt q a z in
      let u = left_by S (opening c v i).world (k.late ++ k.main) in
      let s : k.world.state ≡ wires≔ u.state (refresh_all c u.state.wires) =
      ap (λ (w : World). w.state) ((tick_opens S v i came tt).leaves e) ∙ closed_state u i k.late k.main k.carried in (
        record {
          first = h.world e;
          second = h.left e;
          near = subst (λ (x : State). StateNear c W x u.state) (sym s) (read_state_near u.state (h.left e));
          room = refl;
          logged = refl;
        },
        h.carried,
      )

  -- ---- the ticks of a run

  data RunsAlike : List (Tick S) → List (Tick S) → Type 0 where
    over : RunsAlike [] []
    on : {k k' : Tick S} {ks us : List (Tick S)} → SeenAlike k k' → RunsAlike ks us → RunsAlike (k ∷ ks) (k' ∷ us)

  -- the ticks that follow k in a run, and those that follow it unread, where it began in v
  abbrev rest : List Allowed → Tick S → List (Tick S)
  rest is k = go_on S k.stop (run_on S is k.world k.carried tt)

  abbrev rest_unread : List Allowed → World → Allowed → Tick S → List (Tick S)
  rest_unread is v i k = go_on S k.stop (unread_on c is (unread c v i k) k.carried)

  -- a tick that was cut short is the last one
  none_follows : {i : Allowed} {x : World} {k : Tick S} → CutAt S i x k → (ks : List (Tick S)) → go_on S k.stop ks ≡ []
  none_follows {i} {x} {k} d ks = go (closing c x i (outcome S [] [] [] list_full)).fits d.stop
    where
      go : (f : Bool) → k.stop ≡ cond f list_full log_full → go_on S k.stop ks ≡ []
      go true e = rw e
      go false e = rw e

  abbrev AlikeFrom : List Allowed → Type 0
  AlikeFrom is =
      (w v : World) (came : List (Activation S)) → Waits S (Ready c W) (Brings c) came → WorldsNear w v → RunsAlike (run_on S is w came tt) (unread_on c is v came)

  rests_alike :
      (is : List Allowed) (v : World) (i : Allowed) {k k' : Tick S} → TicksAlike S SameRecord i k k' →
      (k'.stop ≡ 0 → WorldsNear k'.world (unread c v i k') × Waits S (Ready c W) (Brings c) k'.carried) → AlikeFrom is →
      RunsAlike (rest is k) (rest_unread is v i k')
  rests_alike is v i {k} {k'} (same e) h rec = subst (λ (x : Tick S). RunsAlike (rest is x) (rest_unread is v i k')) (sym e) (go k'.stop refl)
    where
      go : (s : ℕ) → k'.stop ≡ s → RunsAlike (go_on S s (run_on S is k'.world k'.carried tt)) (go_on S s (unread_on c is (unread c v i k') k'.carried))
      go zero z = let m = h z in rec k'.world (unread c v i k') k'.carried m.1 m.0
      go (suc s) z = over
  rests_alike is v i {k} {k'} (cut x y r d b) h rec =
      let e : rest is k ≡ [] = none_follows d (run_on S is k.world k.carried tt) in
      let f : rest_unread is v i k' ≡ [] = none_follows b (unread_on c is (unread c v i k') k'.carried) in
      rw (e, f) over

  runs_alike : (is : List Allowed) → All (AllowedFine c) is → AlikeFrom is
  unfolding run_on unread_on
  runs_alike [] [·] w v came a n = over
  runs_alike (i ∷ is) (◌∷·◌ q qs) w v came a n =
      let t = tick_alike S SameRecord w v i came tt (opening_alike w v i q n) in
      on (alike_seen i t) (rests_alike is v i t (after_near v i came q a n.second) (runs_alike is qs))

  -- ---- what is seen of it

  logs_alike : {ks us : List (Tick S)} → RunsAlike ks us → joined (map (λ (t : Tick S). t.world.logged) ks) ≡ joined (map (λ (t : Tick S). t.world.logged) us)
  unfolding joined
  logs_alike over = refl
  logs_alike (on s r) = λ j. s.logged j ++ logs_alike r j

  stops_alike : {ks us : List (Tick S)} → RunsAlike ks us → last_stop c ks ≡ last_stop c us
  unfolding last_stop
  stops_alike over = refl
  stops_alike (on s r) = λ j. if eqb (s.stop j) 0 then stops_alike r j otherwise s.stop j

  kept_alike : {ks us : List (Tick S)} → RunsAlike ks us → length (keep (λ (t : Tick S). eqb t.stop 0) ks) ≡ length (keep (λ (t : Tick S). eqb t.stop 0) us)
  unfolding keep
  kept_alike over = refl
  kept_alike (on {k} {k'} {ks} {us} s r) = go (eqb k.stop 0) (eqb k'.stop 0) (ap (λ x. eqb x 0) s.stop) (kept_alike r)
    where
      go :
          (b d : Bool) → b ≡ d → length (keep (λ (t : Tick S). eqb t.stop 0) ks) ≡ length (keep (λ (t : Tick S). eqb t.stop 0) us) →
          length (if b then k ∷ keep (λ (t : Tick S). eqb t.stop 0) ks otherwise keep (λ (t : Tick S). eqb t.stop 0) ks)
          ≡ length (if d then k' ∷ keep (λ (t : Tick S). eqb t.stop 0) us otherwise keep (λ (t : Tick S). eqb t.stop 0) us)
      go b d e h = if_alike (λ (x y : List (Tick S)). length x ≡ length y) b d e (λ _. ap suc h) (λ _. h)

  seen_alike : {ks us : List (Tick S)} → RunsAlike ks us → seen c ks ≡ seen c us
  unfolding seen
  seen_alike r = λ j. record { log = logs_alike r j; stop = stops_alike r j; ticks = kept_alike r j }

  start_near : (room : ℕ) → WorldsNear (world_at_start c room) (world_at_start c room)
  unfolding world_at_start
  start_near room =
      let z = start_sound c W in
      record { first = z; second = z; near = itself_near c W (start c); room = refl; logged = refl }

  pub unread_same : (room : ℕ) (is : List Allowed) → All (AllowedFine c) is → seen c (ticks_of c room is) ≡ seen c (unread_ticks c room is)
  unfolding ticks_of unread_ticks run
  unread_same room is q = seen_alike (runs_alike is q (world_at_start c room) (world_at_start c room) [] [·] (start_near room))

  -- ---- its units

  unread_begins :
      (is : List Allowed) → All (AllowedFine c) is → (v : World) (came : List (Activation S)) → Waits S (Ready c W) (Brings c) came → Ready c W v →
      All (TickBegins S (Ready c W) (Brings c)) (unread_on c is v came)
  unfolding unread_on
  unread_begins [] [·] v came a z = [·]
  unread_begins (i ∷ is) (◌∷·◌ q qs) v came a z =
      let k = tick S v i came tt in
      let h = tick_begins S (Ready c W) (Brings c) (AllowedFine c) (opening_brings c W) (body_brings c W) (closing_ready c W) v i came tt q a z in
      ◌∷·◌ h.begins (go k.stop refl (λ m. unread_begins is qs (unread c v i k) k.carried m.1 m.0.second) (after_near v i came q a z))
    where
      go :
          (s : ℕ) → (tick S v i came tt).stop ≡ s → {N : Type 0} {ts : List (Tick S)} → (N → All (TickBegins S (Ready c W) (Brings c)) ts) →
          ((tick S v i came tt).stop ≡ 0 → N) → All (TickBegins S (Ready c W) (Brings c)) (go_on S s ts)
      go zero e k q = k (q e)
      go (suc s) e k q = [·]

  unread_units_fresh :
      (room : ℕ) (is : List Allowed) → All (AllowedFine c) is →
      All (λ (t : Tick S). All (λ (u : Turn S). BeginsFresh c u.from u.unit.act) (t.late ++ t.main)) (unread_ticks c room is)
  unfolding unread_ticks world_at_start
  unread_units_fresh room is q =
      all_map (λ k b. all_append (all_map sees b.late) (all_map sees b.main)) (unread_begins is q (world_at_start c room) [] [·] (start_sound c W))
    where
      sees : (u : Turn S) → TurnBegins S (Ready c W) (Brings c) u → BeginsFresh c u.from u.unit.act
      sees u b = unit_fresh c W u.from u.unit.act b.act b.from

-- For every circuit and script that are not refused, the answer is the same where reading for the record changes nothing,
pub reading_unseen :
    (areas : Areas) (room : ℕ) (cb sb : List ℕ) → refusal (some areas) cb sb ≡ 0 → answer areas room cb sb ≡ played (play_unread room (circuit (words cb)) (words sb))
unfolding play play_unread
reading_unseen areas room cb sb h =
    let a = accepted (some areas) cb sb h in
    let c = circuit (words cb) in
    answer_is areas room cb sb h ∙ ap played (unread_same c (wired (some areas) cb sb a) room (ticks_get c (words sb)) (gets_fine (some areas) cb sb a))

-- and each of its units reads what is worked out afresh.
pub unread_fresh : (areas : Areas) (room : ℕ) (cb sb : List ℕ) → refusal (some areas) cb sb ≡ 0 → UnreadRunFresh room cb sb
unread_fresh areas room cb sb h =
    let a = accepted (some areas) cb sb h in
    let c = circuit (words cb) in
    unread_units_fresh c (wired (some areas) cb sb a) room (ticks_get c (words sb)) (gets_fine (some areas) cb sb a)
