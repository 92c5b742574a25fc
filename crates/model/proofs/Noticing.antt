-- What is in place at the start is noticed in tick 1: the watched inputs wait, ascending, until settling checks each for the first time; what this raises begins in the
-- main pass.
use mathlib.Core.Path.{◌≡◌, refl, sym, ap, ◌∙◌}
use mathlib.Core.Logic.{◌≢◌}
use mathlib.Core.Bool.{Bool, true, false, cond}
use mathlib.Core.List.{List, [], ◌∷◌, ◌++◌, map, append_assoc, append-nil}
use mathlib.Core.Option.{Option, none, some}
use Prim.Native.Nat.{ℕ, zero, suc, ◌+◌, ◌-◌, ◌≤◌, ◌<◌}
use native.Mathlib.Nat.{zero-add}
use native.Mathlib.Omega.{arith}
use lib.ListN.{length, get_or, set, replicate, length-replicate}
use lib.Seq.{get_or-set_other}
use borrow.Author.Tests.{eq-eqb}
use Rattle.words.specs.Words.{words}
use Rattle.schedule.specs.Schedule.{Raise, Place, When, Setup, numbered, Activation, acts, tick, run_on, run}
use Rattle.schedule.specs.Promise.{All, [·], ◌∷·◌, total}
use Rattle.schedule.specs.Pending.{pends, for_main}
use Rattle.schedule.proofs.Erase.{map_append}
use Rattle.schedule.proofs.Theorems.{begins_pending}
use Rattle.model.specs.declared.Value.{Value}
use Rattle.model.specs.declared.Value.TheVariants.{Nothing}
use Rattle.model.specs.Base.{if◌then◌otherwise◌, each, keep, snoc, from}
use Rattle.model.specs.Circuit.{Circuit, circuit, kind_of_gate, input, gate_at_input, watching}
use Rattle.model.specs.Script.{Given}
use Rattle.model.specs.State.{Wires, State, Act, outs≔, dirty≔, to_check≔, late_checks≔, last≔, wires≔}
use Rattle.model.specs.Wires.{show, clean, watch, look, recompute, ready}
use Rattle.model.specs.Settle.{raise, last_value, unchanged, taken, detect, compared, when_checked, check, check_on, settle}
use Rattle.model.specs.Opening.{wires_stale, wires_fresh, wires_at_start, start, pending, fire, before_settling, open_tick}
use Rattle.model.specs.Unit.{World, state≔, raises_in}
use Rattle.model.specs.Run.{Allowed, opening, machine, world_at_start}
use Rattle.model.specs.Questions.{Areas, refusal}
use Rattle.model.specs.Order.{NumberedTick, numbered_ticks}
use Rattle.model.specs.Noticed.{WaitsAtStart, tick_1, opening_1, before_check, fire_of, BeginsFirst, StartNoticed}
use Rattle.model.proofs.Lists.{if_both, each_keeps, all_same, from_append, keep_append}
use Rattle.model.proofs.Laid.{Laid, laid}
use Rattle.model.proofs.Asked.{accepted}
use Rattle.model.proofs.Sized.{SizedWires, refresh_all_keeps, watch_sized}
use Rattle.model.proofs.Kept.{before_settling_sized, wires_fresh_sized, start_sized}
use Rattle.model.proofs.Settling.{settled}
use Rattle.model.proofs.Roomy.{Few, few, few_roomy}
use Rattle.model.proofs.Visiting.{opening_waits, due, Visited, refreshed, settle_visits}

-- ---- the start

module _ (c : Circuit) (f : Few c) where
  -- one that does not wait is queued last
  watch_new : (w : Wires) (j : ℕ) → SizedWires c w → get_or w.queued j true ≡ false → watch w j ≡ to_check≔ w (snoc w.to_check j) (set w.queued j true)
  unfolding if◌then◌otherwise◌
  watch_new w j z e = (few_roomy c f).watching w j z ∙ rw e refl

  -- inputs from a on, none of which waits, are queued one behind the other
  watch_each :
      (k a : ℕ) (w : Wires) → SizedWires c w → ((j : ℕ) → a ≤ j → j < a + k → get_or w.queued j true ≡ false) →
      (each watch w (keep (watching c) (from a k))).to_check ≡ w.to_check ++ keep (watching c) (from a k)
  unfolding each keep from if◌then◌otherwise◌ to_check≔ snoc
  watch_each zero a w z u = sym (append-nil w.to_check)
  watch_each (suc k) a w z u = go (watching c a) refl (watch_each k (suc a))
    where
      go :
          (b : Bool) → watching c a ≡ b →
          ((v : Wires) → SizedWires c v → ((j : ℕ) → suc a ≤ j → j < suc a + k → get_or v.queued j true ≡ false) →
          (each watch v (keep (watching c) (from (suc a) k))).to_check ≡ v.to_check ++ keep (watching c) (from (suc a) k)) →
          (each watch w (if b then a ∷ keep (watching c) (from (suc a) k) otherwise keep (watching c) (from (suc a) k))).to_check
          ≡ w.to_check ++ (if b then a ∷ keep (watching c) (from (suc a) k) otherwise keep (watching c) (from (suc a) k))
      go true e rec =
          let q = watch_new w a z (u a (omega arith) (omega arith)) in
          rec (watch w a) (watch_sized c w a e z)
          (λ j h l. ap (λ (v : Wires). get_or v.queued j true) q ∙ get_or-set_other w.queued a j true true (λ p. omega arith) ∙ u j (omega arith) (omega arith))
          ∙ ap (λ (v : Wires). v.to_check ++ keep (watching c) (from (suc a) k)) q ∙ append_assoc w.to_check (a ∷ []) _
      go false e rec = rec w z (λ j h l. u j (omega arith) (omega arith))

  fresh_queue : ((wires_fresh c).queued ≡ replicate (length c.pins) false) × ((wires_fresh c).to_check ≡ [])
  unfolding wires_fresh
  fresh_queue =
      refresh_all_keeps c (λ w. (w.queued ≡ replicate (length c.pins) false) × (w.to_check ≡ [])) (λ _. Unit {0}) (λ _ _ _ _. tt)
      (λ w g _ k. unfold recompute clean show outs≔ dirty≔ in k) (wires_stale c) (refl, refl)

  fresh_last : (wires_fresh c).last ≡ replicate (length c.pins) none
  unfolding wires_fresh
  fresh_last =
      refresh_all_keeps c (λ w. w.last ≡ replicate (length c.pins) none) (λ _. Unit {0}) (λ _ _ _ _. tt)
      (λ w g _ k. unfold recompute clean show outs≔ dirty≔ in k) (wires_stale c) refl

  pub waits_at_start : WaitsAtStart c
  unfolding start wires_at_start watch to_check≔
  waits_at_start =
      let q = fresh_queue in
      record {
        queue =
            watch_each (length c.pins) 0 (wires_fresh c) (wires_fresh_sized c)
            (λ j _ l. ap (λ (bs : List Bool). get_or bs j true) q.0 ∙ unmarked (length c.pins) j (omega (arith, l)))
            ∙ ap (λ (is : List ℕ). is ++ keep (watching c) (from 0 (length c.pins))) q.1;
        last =
            each_keeps (λ w. w.last ≡ replicate (length c.pins) none) watch (λ w j e. if_both (λ (v : Wires). v.last ≡ replicate (length c.pins) none) _ e e) _ _
            fresh_last;
      }
    where
      unmarked : (n j : ℕ) → j < n → get_or (replicate n false) j true ≡ false
      unmarked zero j l = absurd (omega arith)
      unmarked (suc n) zero l = refl
      unmarked (suc n) (suc j) l = unmarked n j (omega arith)

  none_left : Laid c → (given : Given) → (settle c (before_settling c (start c) given).state).state.wires.to_check ≡ []
  none_left laid given = settled c laid _ (before_settling_sized c laid (start c) given (start_sized c)).state.wires

  -- those that wait before input i at the start
  abbrev below : ℕ → List ℕ
  below i = keep (watching c) (from 0 i)

  below_others : (k a i : ℕ) → a + k ≤ i → All (λ p. i ≢ p) (keep (watching c) (from a k))
  unfolding keep from if◌then◌otherwise◌
  below_others zero a i l = [·]
  below_others (suc k) a i l = go (watching c a) (below_others k (suc a) i (omega arith))
    where
      go : (b : Bool) → All (λ p. i ≢ p) (keep (watching c) (from (suc a) k)) → All (λ p. i ≢ p) (if b then a ∷ keep (watching c) (from (suc a) k) otherwise keep (watching c) (from (suc a) k))
      go true r = ◌∷·◌ (λ (q : i ≡ a). omega (arith, q, l)) r
      go false r = r

  -- the queue at the start, cut at a watched input
  start_cut :
      (i : ℕ) → i < length c.pins → watching c i ≡ true →
      (start c).wires.to_check ≡ below i ++ (i ∷ keep (watching c) (from (suc i) (length c.pins - suc i)))
  start_cut i l q =
      let n = length c.pins in
      let e : n ≡ i + suc (n - suc i) = omega arith in
      waits_at_start.queue
      ∙ ap (λ k. keep (watching c) (from 0 k)) e
      ∙ ap (keep (watching c)) (from_append 0 i (suc (n - suc i)) ∙ ap (λ a. from 0 i ++ from a (suc (n - suc i))) (zero-add i))
      ∙ keep_append (watching c) (from 0 i) (from i (suc (n - suc i)))
      ∙ ap (λ js. below i ++ js) (unfold from keep if◌then◌otherwise◌ in (rw q refl))

  start_visits :
      Laid c → (given : Given) (i : ℕ) → i < length c.pins → watching c i ≡ true →
      Visited c i (check_on c (length (below i)) (refreshed c i (before_settling c (start c) given).state)) (settle c (before_settling c (start c) given).state)
  start_visits laid given i l q =
      let s = waits_at_start in
      settle_visits c i (below i) _ (below_others i 0 i (omega arith))
      (opening_waits c i (below i) (start c) given
      (record {
        more = _;
        waits = start_cut i l q;
        known = omega (arith, l, ap length s.last, length-replicate {A = Option Value} (length c.pins) none);
        unread = ap (λ (ls : List (Option Value)). get_or ls i none) s.last ∙ all_same (length c.pins) i none;
      }))
      (none_left laid given)

-- ---- what was raised for the main pass

module _ (c : Circuit) (m : Act → ℕ) where
  abbrev S : Setup
  S = numbered (machine c)

  for_main_append : (rs qs : List (Raise World Act Place)) → total m (for_main S (rs ++ qs)) ≡ total m (for_main S rs) + total m (for_main S qs)
  for_main_append [] qs = omega arith
  for_main_append (r ∷ rs) qs = go (pends r.place) (for_main_append rs qs)
    where
      go :
          (b : Bool) → total m (for_main S (rs ++ qs)) ≡ total m (for_main S rs) + total m (for_main S qs) →
          total m (cond b (r.act ∷ for_main S (rs ++ qs)) (for_main S (rs ++ qs))) ≡ total m (cond b (r.act ∷ for_main S rs) (for_main S rs)) + total m (for_main S qs)
      go true h = omega arith
      go false h = h

  -- all that settling raised is
  pending_all : (w : World) (n : ℕ) (rs : List (Raise State Act When)) → for_main S (raises_in w n (pending rs)) ≡ map (λ (r : Raise State Act When). r.act) rs
  unfolding raises_in
  pending_all w n [] = refl
  pending_all w n (r ∷ rs) = ap (λ (l : List Act). r.act ∷ l) (pending_all w n rs)

  raised_begins :
      (w : World) (i : Allowed) (came : List (Activation S)) (t : ℕ) (before : List (Raise State Act Place)) (rs : List (Raise State Act When)) (after : List (Raise State Act Place)) →
      (open_tick c w.state i.given).raises ≡ before ++ (pending rs ++ after) → (tick S w i came t).stop ≡ 0 →
      total m (map (λ (r : Raise State Act When). r.act) rs) ≤ total m (acts S (tick S w i came t).main)
  unfolding opening raises_in
  raised_begins w i came t before rs after q h =
      let f : Raise State Act Place → Raise World Act Place = λ r. record { at = state≔ w i.limit r.at; act = r.act; place = r.place } in
      let e : raises_in w i.limit (open_tick c w.state i.given).raises ≡ map f before ++ (map f (pending rs) ++ map f after) =
      ap (map f) q ∙ map_append f before _ ∙ ap (λ qs. map f before ++ qs) (map_append f (pending rs) after) in
      omega (
        arith,
        begins_pending S w i came t h m,
        ap (λ qs. total m (for_main S qs)) e,
        for_main_append (map f before) (map f (pending rs) ++ map f after),
        for_main_append (map f (pending rs)) (map f after),
        ap (total m) (pending_all w i.limit rs),
      )

-- ---- what a first check does

module _ (c : Circuit) (when : When) (s : State) (i : ℕ) (e : get_or s.wires.last i none ≡ none) where
  -- what it reads is acted on as a change from nothing, whatever it is
  abbrev read_first : State
  read_first = let w = ready c s.wires i in wires≔ s (last≔ w (set w.last i (some (look c w i))))

  pub as_change :
      let g = gate_at_input c i in
      check c when s i ≡ detect c (kind_of_gate c g) when read_first g (i - input c g 0) Nothing (look c (ready c s.wires i) i)
  unfolding check compared unchanged last_value wires≔ last≔ if◌then◌otherwise◌
  as_change = rw e refl

  -- so a ChangeDetector fires, though it reads nothing
  detector_fires : kind_of_gate c (gate_at_input c i) ≡ 6 → map (λ (r : Raise State Act When). r.act) (check c when s i).raises ≡ fire 1 (gate_at_input c i)
  unfolding detect raise fire if◌then◌otherwise◌
  detector_fires k = rw (as_change, k) refl

-- ---- the theorems

-- At the start every watched input waits, ascending; it has its first check as tick 1 opens; what this raises begins in the main pass; none is left to be checked in a pass.
pub noticed : (areas : Option Areas) (circuit_bytes script_bytes : List ℕ) → refusal areas circuit_bytes script_bytes ≡ 0 → StartNoticed (circuit (words circuit_bytes))
unfolding world_at_start open_tick
noticed areas cb sb h =
    let ws = words cb in
    let c = circuit ws in
    let a = accepted areas cb sb h in
    let f = few cb ws a.sizes a.gates in
    record {
      at_start = waits_at_start c f;
      in_tick_1 = λ room i.
          record {
            each = λ j l q.
                let t = before_settling c (start c) i.given in
                let k = start_visits c f (laid ws) i.given j l q in
                let rs = (check c (when_checked (before_check c i j).state.wires j) (due c j (before_check c i j) k.rest) j).raises in
                let before = t.raises ++ pending (before_check c i j).raises in
                let e : (opening_1 c i).raises ≡ before ++ (pending rs ++ pending k.after) =
                ap (λ rs. t.raises ++ pending rs) k.raised
                ∙ ap (λ rs. t.raises ++ rs) (map_append _ (before_check c i j).raises _ ∙ ap (λ qs. pending (before_check c i j).raises ++ qs) (map_append _ rs k.after))
                ∙ sym (append_assoc t.raises (pending (before_check c i j).raises) _) in
                record {
                  rest = k.rest;
                  turn = k.turn;
                  unread = k.unread;
                  after = pending k.after;
                  raised = e;
                  begins = λ s m. raised_begins c m (world_at_start c room) i [] 0 before rs (pending k.after) e s;
                  read = k.read;
                };
            none_left = none_left c f (laid ws) i.given;
          };
    }

-- K2 of the ChangeDetectors, in one sentence
pub begins_first :
    (areas : Option Areas) (circuit_bytes script_bytes : List ℕ) → refusal areas circuit_bytes script_bytes ≡ 0 →
    let c = circuit (words circuit_bytes) in
    (room : ℕ) (i : Allowed) (j : ℕ) → j < length c.pins → watching c j ≡ true → BeginsFirst c room i j
unfolding fire_of fire if◌then◌otherwise◌ wires≔ taken to_check≔ late_checks≔
begins_first areas cb sb h room i j l q k e =
    let c = circuit (words cb) in
    let z = ((noticed areas cb sb h).in_tick_1 room i).each j l q in
    let g = gate_at_input c j in
    let one : total (fire_of g) (fire 1 g) ≡ 1 = rw (eq-eqb g g refl) refl in
    let s = due c j (before_check c i j) z.rest in
    omega (arith, z.begins e (fire_of g), ap (total (fire_of g)) (detector_fires c (when_checked (before_check c i j).state.wires j) s j z.unread k), one)

-- Tick 1 is the first tick of the run of which the order promise speaks.
pub first_of_run : (c : Circuit) (room : ℕ) (i : Allowed) (is : List Allowed) → (ts : List (NumberedTick c)) × (numbered_ticks c room (i ∷ is) ≡ tick_1 c room i ∷ ts)
unfolding run run_on
first_of_run c room i is = (_, refl)
