-- A tick by its parts.
use Prim.Native.Nat.{ℕ}
use mathlib.Core.Path.{◌≡◌, refl, sym, ap, ap₂, ◌∙◌, subst}
use mathlib.Core.Bool.{cond}
use mathlib.Core.List.{List, [], ◌∷◌, ◌++◌, map}
use lib.Dec.{eqb}
use lib.ListN.{length, take, drop, length-map}
use lib.Seq.{take-append_seam, drop-append_seam}
use Rattle.schedule.specs.Schedule.{Setup, Activation, LateQ, MainQ, OpenQ, most_units, log_full, push_all, activate_open, Raising, raise_all, Turn, Passed, late_pass, main_pass, Tick, acts, outcome, tick, Closed}
use Rattle.model.specs.Base.{if◌then◌otherwise◌}
use Rattle.model.specs.Circuit.{Circuit}
use Rattle.model.specs.State.{Act, State}
use Rattle.model.specs.Opening.{open_tick}
use Rattle.model.specs.Unit.{World, state≔, raises_in}
use Rattle.model.specs.Record.{Listed}
use Rattle.model.specs.Closing.{steps, outputs_shown, as_listed, log_record}
use Rattle.model.specs.Run.{Allowed, opening, closing}
use Rattle.areas.specs.Areas.{Contents}
use Rattle.opening.specs.Opening.{put_to, opened_into, reopened, opened}
use Rattle.unit.specs.Unit.{stop_of}
use Rattle.passes.specs.Waiting.{bare, waiting, for_both}
use Rattle.passes.proofs.Filing.{push_all_by_rank, open_files, Raised, raised_as}
use Rattle.logging.specs.declared.Head.{Head}
use Rattle.logging.specs.Log.{record_of}

module _ (c : Circuit) where
  abbrev S : Setup
  S = bare c

  -- what waits as a tick begins
  abbrev queue_at_start : List Act → OpenQ (Activation S)
  queue_at_start came = record { lateq = record { late = push_all S (map (waiting c) came) []; delivered = [] }; pending = [] }

  -- the opening raises as the areas file
  abbrev opens : World → Allowed → List Act → Raising S (OpenQ (Activation S))
  opens w i came =
      let d = opening c w i in raise_all S (activate_open S) d.raises tt (queue_at_start came) d.world d.stop

  opening_raises :
      (w : World) (i : Allowed) (a : Contents) → w.state ≡ a.state →
      Raised c (for_both c) (activate_open S) (put_to c) (open_files c) w i.limit (opens w i a.lists.carried) (opened c a i.given)
  unfolding opening opened opened_into reopened
  opening_raises w i a e =
      let z = open_tick c w.state i.given in
      subst
      (λ (x : State). Raised c (for_both c) (activate_open S) (put_to c) (open_files c) w i.limit (opens w i a.lists.carried) (opened_into c (open_tick c x i.given) (reopened c a).lists))
      e
      (subst
      (λ (x : List (Activation S)). Raised c (for_both c) (activate_open S) (put_to c) (open_files c) w i.limit (raise_all S (activate_open S) (raises_in w i.limit z.raises) tt (record { lateq = record { late = x; delivered = [] }; pending = [] }) (state≔ w i.limit z.state) 0) (opened_into c z (reopened c a).lists))
      (sym (push_all_by_rank c a.lists.carried []))
      (raised_as c (for_both c) (activate_open S) (put_to c) (open_files c) w i.limit z.raises (reopened c a).lists z.state))

  -- what follows the opening: the late pass, the main pass, the record
  abbrev pub late_from : OpenQ (Activation S) → World → ℕ → Passed S (LateQ (Activation S))
  late_from q v s = late_pass S most_units tt q.lateq v s

  abbrev pub main_from : OpenQ (Activation S) → World → ℕ → Passed S (MainQ (Activation S))
  main_from q v s = let l = late_from q v s in main_pass S l.left tt (record { pending = q.pending; carried = [] }) l.world l.stop

  abbrev pub closed_from : Allowed → OpenQ (Activation S) → World → ℕ → Closed World
  closed_from i q v s =
      let l = late_from q v s in
      let m = main_from q v s in
      closing c m.world i (outcome S l.turns m.turns m.queue.carried m.stop)

  -- a tick is its passes and its closing, from what its opening came to
  pub record TickOf (i : Allowed) (t : Tick S) (q : OpenQ (Activation S)) (v : World) (s : ℕ) : Type 0 where
    pub carried : t.carried ≡ (main_from q v s).queue.carried
    pub world : t.world ≡ (closed_from i q v s).world
    pub stop : t.stop ≡ cond (closed_from i q v s).fits (main_from q v s).stop log_full

  tick_opens :
      (w : World) (i : Allowed) (came : List Act) →
      let k = opens w i came in
      TickOf i (tick S w i (map (waiting c) came) tt) k.queue k.world k.stop
  unfolding tick
  tick_opens w i came = record { carried = refl; world = refl; stop = refl }

  pub tick_is :
      (w : World) (i : Allowed) (a : Contents) → w.state ≡ a.state →
      let o = opened c a i.given in
      TickOf i (tick S w i (map (waiting c) a.lists.carried) tt) (for_both c o.lists) (state≔ w i.limit o.state) (stop_of o.answer)
  tick_is w i a e =
      let r = opening_raises w i a e in
      let t = tick S w i (map (waiting c) a.lists.carried) tt in
      let k = opens w i a.lists.carried in
      let o = opened c a i.given in
      subst (λ (x : OpenQ (Activation S)). TickOf i t x (state≔ w i.limit o.state) (stop_of o.answer)) r.queue
      (subst (λ (x : World). TickOf i t k.queue x (stop_of o.answer)) r.world
      (subst (λ (x : ℕ). TickOf i t k.queue k.world x) r.stop (tick_opens w i a.lists.carried)))

  -- ---- the record

  -- what waits, the tags left out
  acts_waiting : (l : List Act) → map (λ (e : Activation S). e.act) (map (waiting c) l) ≡ l
  acts_waiting [] = refl
  acts_waiting (a ∷ l) = ap (λ (r : List Act). a ∷ r) (acts_waiting l)

  -- the record of a tick, by what the areas hold
  pub record_is :
      (limit : ℕ) (v : World) (late : List (Turn S)) (main : List (Turn S)) (carried : List Act) (stop : ℕ) (h : Head) (begun : List Listed) →
      h.tick ≡ v.state.wires.tick → h.steps ≡ steps limit v stop → h.late ≡ length (acts S late) → h.stop ≡ stop → h.changed ≡ v.state.changed →
      begun ≡ map as_listed (acts S late) ++ map as_listed (acts S main) →
      log_record limit v (outcome S late main (map (waiting c) carried) stop) ≡ record_of h begun (map as_listed carried) v.state.wires.outs
  unfolding log_record outputs_shown record_of
  record_is limit v late main carried stop h begun e₁ e₂ e₃ e₄ e₆ e₅ =
      let n : h.late ≡ length (map as_listed (acts S late)) = e₃ ∙ sym (length-map (acts S late) as_listed) in
      let l : take h.late begun ≡ map as_listed (acts S late) = ap₂ take n e₅ ∙ take-append_seam (map as_listed (acts S late)) (map as_listed (acts S main)) in
      let m : drop h.late begun ≡ map as_listed (acts S main) = ap₂ drop n e₅ ∙ drop-append_seam (map as_listed (acts S late)) (map as_listed (acts S main)) in
      λ j.
      record {
        tick = sym e₁ j;
        steps = sym e₂ j;
        late = sym l j;
        main = sym m j;
        carried = map as_listed (acts_waiting carried j);
        stop = sym e₄ j;
        changed = sym e₆ j;
        outs = if eqb (sym e₄ j) 0 then v.state.wires.outs otherwise [];
      }
