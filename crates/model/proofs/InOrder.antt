-- The order promise of `schedule` holds of every run of this machine, and its counts are the record's.
use mathlib.Core.Path.{◌≡◌, refl, sym, ap, ◌∙◌}
use mathlib.Core.Bool.{Bool, true, false, cond}
use mathlib.Core.List.{List, [], ◌∷◌, ◌++◌, map, map-map, append-nil}
use mathlib.Core.Option.{some}
use mathlib.Core.Logic.{◌⊎◌, inl, inr}
use Prim.Native.Nat.{ℕ, ◌*◌}
use native.Mathlib.Omega.{arith}
use lib.Dec.{leb, eqb}
use lib.ListN.{length}
use borrow.Author.Tests.{eqb-true}
use Rattle.words.specs.Words.{words}
use Rattle.schedule.specs.Schedule.{most_units, log_full, Outcome, Setup, numbered, plain, Activation, push_all, activate_open, raise_all, late_pass, main_pass, Turn, Tick, outcome, tick, run}
use Rattle.schedule.specs.Promise.{All, Along, RanAsTold}
use Rattle.schedule.proofs.Theorems.{order, follows, erasure, ran_as_told}
use Rattle.schedule.proofs.Whole.{comes_in}
use Rattle.schedule.proofs.Every.{each_given}
use Rattle.schedule.proofs.Members.{all_map}
use Rattle.model.specs.Base.{if◌then◌otherwise◌}
use Rattle.model.specs.Circuit.{Circuit, circuit}
use Rattle.model.specs.State.{Act}
use Rattle.model.specs.Unit.{World, state≔, run_unit}
use Rattle.model.specs.Record.{record_words, record_at}
use Rattle.model.specs.Closing.{read_outputs, steps, outputs_shown, as_listed, log_record, write, close}
use Rattle.model.specs.Run.{Allowed, ticks_get, opening, body, closing, machine, world_at_start, ticks_of, seen}
use Rattle.model.specs.Questions.{Areas, refusal}
use Rattle.model.specs.Answer.{played, play, answer_to, answer}
use Rattle.model.specs.Order.{record_of, Recorded, ReadBack, ShowsWhatWaits, Ended, WholeRunInOrder}
use Rattle.model.proofs.Laid.{Laid, laid}
use Rattle.model.proofs.Worlds.{WorldSized, run_from_sized, start_world_sized}
use Rattle.model.proofs.ReadBack.{carried_back, parts_back}
use Rattle.model.proofs.Chains.{unit_ended, finish_stop}

-- ---- writing a record

pub write_fits : (w : World) (r : List ℕ) → leb (8 * length r) w.room ≡ true → ((write w r).world.logged ≡ r) × ((write w r).fits ≡ true)
unfolding write if◌then◌otherwise◌
write_fits w r h = (rw h, rw h)

pub write_over : (w : World) (r : List ℕ) → leb (8 * length r) w.room ≡ false → ((write w r).world.logged ≡ []) × ((write w r).fits ≡ false)
unfolding write if◌then◌otherwise◌
write_over w r h = (rw h, rw h)

-- a record is the same after it was written
written : (limit : ℕ) (w : World) (r : List ℕ) (o : Outcome Act) → log_record limit (write w r).world o ≡ log_record limit w o
unfolding write if◌then◌otherwise◌ log_record steps outputs_shown
written limit w r o = go (leb (8 * length r) w.room) refl
  where
    go : (b : Bool) → leb (8 * length r) w.room ≡ b → log_record limit (write w r).world o ≡ log_record limit w o
    go true h = rw h refl
    go false h = rw h refl

module _ (c : Circuit) where
  abbrev S : Setup
  S = numbered (machine c)

  -- ---- a unit that has run
  ended_of : (u : Turn S) → RanAsTold S u → Ended c u
  unfolding body
  ended_of u h r =
      unit_ended c u.from u.unit.act
      (sym (finish_stop c u.from (run_unit c u.from u.unit.act)) ∙ eqb-true _ 0 (sym h ∙ r))

  pub all_ended : (is : List Allowed) (w : World) → All (λ t. All (Ended c) t.late × All (Ended c) t.main) (run S is w)
  all_ended is w = all_map (λ t a. (all_map ended_of a.0, all_map ended_of a.1)) (ran_as_told S is w)

  -- ---- the record

  -- what closing a tick came to: its record, or none that fits
  closed_as :
      (w : World) (i : Allowed) (late main : List (Turn S)) (carried : List (Activation S)) (stop : ℕ) →
      let z = closing c w i (outcome S late main carried stop) in
      let k = cond z.fits stop log_full in
      (z.world.logged ≡ record_words (log_record i.limit z.world (outcome S late main carried k))) ⊎ ((k ≡ log_full) × (z.world.logged ≡ []))
  unfolding closing close
  closed_as w i late main carried stop = go (leb (8 * length r) v.room) refl
    where
      o : Outcome Act
      o = outcome S late main carried stop

      v : World
      v = state≔ w w.left (read_outputs c w.state o.stop)

      r : List ℕ
      r = record_words (log_record i.limit v o)

      go :
          (b : Bool) → leb (8 * length r) v.room ≡ b →
          let z = write v r in
          let k = cond z.fits stop log_full in
          (z.world.logged ≡ record_words (log_record i.limit z.world (outcome S late main carried k))) ⊎ ((k ≡ log_full) × (z.world.logged ≡ []))
      go true h = let e = write_fits v r h in inl (rw e.1 (e.0 ∙ sym (ap record_words (written i.limit v r o))))
      go false h = let e = write_over v r h in inr (rw e.1 refl, e.0)

  tick_recorded : (w : World) (i : Allowed) (came : List (Activation S)) (t : ℕ) → Recorded c i (tick S w i came t)
  unfolding tick
  tick_recorded w i came t =
      let d = opening c w i in
      let o = raise_all S (activate_open S) d.raises t (record { lateq = record { late = push_all S came []; delivered = [] }; pending = [] }) d.world d.stop in
      let l = late_pass S most_units o.next o.queue.lateq o.world o.stop in
      let m = main_pass S l.left l.next (record { pending = o.queue.pending; carried = [] }) l.world l.stop in
      closed_as m.world i l.turns m.turns m.queue.carried m.stop

  pub all_recorded : (is : List Allowed) (w : World) → Along (Recorded c) is (run S is w)
  all_recorded is w = each_given S (Recorded c) tick_recorded is w

  -- it shows all outputs, or none, so it can be read back
  shows_all : (limit : ℕ) (w : World) (o : Outcome Act) → WorldSized c w → length (log_record limit w o).outs ≡ (if eqb (log_record limit w o).stop 0 then length c.outputs otherwise 0)
  unfolding log_record outputs_shown if◌then◌otherwise◌
  shows_all limit w o z = go (eqb o.stop 0)
    where
      go : (b : Bool) → length (if b then w.state.wires.outs otherwise []) ≡ (if b then length c.outputs otherwise 0)
      go true = z.wires.outs
      go false = refl

  sized_back : (t : Tick S) → WorldSized c t.world → ReadBack c t
  sized_back t z i e rest =
      ap (λ (ws : List ℕ). record_at (length c.outputs) (ws ++ rest)) e
      ∙ parts_back (record_of c i t) rest (length c.outputs) (shows_all i.limit t.world (outcome S t.late t.main t.carried t.stop) z)

  pub all_back : Laid c → (is : List Allowed) (w : World) → WorldSized c w → All (ReadBack c) (run S is w)
  all_back laid is w z = all_map (λ t k. sized_back t k.world) (run_from_sized c laid is w z)

  -- ---- what waits

  record_in : (pre : List (Tick S)) (t : Tick S) (post : List (Tick S)) {is : List Allowed} → Along (Recorded c) is (pre ++ (t ∷ post)) → (i : Allowed) × Recorded c i t
  record_in [] t post (Along.◌∷·◌ {a = i} r a) = (i, r)
  record_in (p ∷ pre) t post (Along.◌∷·◌ r a) = record_in pre t post a

  -- a tick without a stop has a record, which lists what it carries
  lists :
      (t : Tick S) (i : Allowed) → t.stop ≡ 0 → Recorded c i t → (record_at (length c.outputs) t.world.logged).carried ≡ map (λ (e : Activation S). as_listed e.act) t.carried
  unfolding log_record
  lists t i h (inl l) =
      ap (λ (ws : List ℕ). (record_at (length c.outputs) ws).carried) (l ∙ sym (append-nil (record_words (record_of c i t))))
      ∙ carried_back (record_of c i t) [] (length c.outputs)
      ∙ map-map as_listed (λ (e : Activation S). e.act) t.carried
  lists t i h (inr l) = let x = l.0 in absurd (omega arith)

  pub all_shown : (is : List Allowed) (w : World) → ShowsWhatWaits c (run S is w)
  all_shown is w pre t u post e =
      let r = record_in pre t (u ∷ post) (rw e at (all_recorded is w)) in
      let f = comes_in (machine c) pre t u post (rw e at (order (machine c) is w).each) in
      lists t r.0 f.0 r.1 ∙ ap (map (λ (e : Activation S). as_listed e.act)) (sym f.1)

-- ---- the whole promise

pub answer_is : (areas : Areas) (room : ℕ) (cb sb : List ℕ) → refusal (some areas) cb sb ≡ 0 → answer areas room cb sb ≡ played (play room (circuit (words cb)) (words sb))
unfolding answer answer_to
answer_is areas room cb sb h = rw h

-- For every circuit and script that are not refused, the whole run is in order.
pub in_order : (areas : Areas) (room : ℕ) (cb sb : List ℕ) → refusal (some areas) cb sb ≡ 0 → WholeRunInOrder areas room cb sb
unfolding play ticks_of
in_order areas room cb sb h =
    let c = circuit (words cb) in
    let is = ticks_get c (words sb) in
    let w = world_at_start c room in
    record {
      order = order (machine c) is w;
      follows = follows (numbered (machine c)) is w;
      recorded = all_recorded c is w;
      read_back = all_back c (laid (words cb)) is w (start_world_sized c room);
      shows_what_waits = all_shown c is w;
      ended = all_ended c is w;
      answered = answer_is areas room cb sb h ∙ ap (λ (ts : List (Tick (plain (machine c)))). played (seen c ts)) (erasure (numbered (machine c)) is w);
    }
