-- A run over the areas, tick by tick, as code plays it.
use Prim.Native.Nat.{ℕ, ◌+◌, ◌-◌, ◌*◌, ◌≤◌, ◌<◌}
use mathlib.Core.Path.{◌≡◌, refl, sym, ap, ◌∙◌, subst}
use mathlib.Core.List.{List, [], ◌∷◌, map}
use native.Mathlib.Omega.{arith}
use lib.ListN.{length, get_or, drop, replicate}
use Rattle.words.specs.Words.{words}
use Rattle.words.proofs.Laws.{lengths}
use Rattle.schedule.specs.Schedule.{tick}
use Rattle.model.specs.Base.{sum}
use Rattle.model.specs.Circuit.{Circuit, part, word_at}
use Rattle.model.specs.State.{idle, Delay}
use Rattle.model.specs.Unit.{World}
use Rattle.model.specs.Opening.{start, wires_at_start}
use Rattle.model.specs.Run.{Allowed, allow, gets, world_at_start}
use Rattle.wires.specs.View.{Values}
use Rattle.units.specs.View.{Units}
use Rattle.units.specs.Calls.{empty}
use Rattle.areas.specs.Areas.{Contents}
use Rattle.opening.specs.Opening.{stimuli_of}
use Rattle.passes.specs.Waiting.{bare, waiting}
use Rattle.ticks.specs.Ticks.{Ticks}
use Rattle.run.specs.Running.{Running, Logged, GoodScript, seen_of}
use Rattle.run.proofs.Turns.{running_first, running_on, running_stop, running_end}
use Rattle.run.proofs.Scripts.{used, script_next, gets_next, gets_over, used_fits, used_by_next, script_length}
use Rattle.run.proofs.Counting.{tick_by_one, start_at_zero}

-- ---- the start of the areas

pub started :
    (c : Circuit) (v : Values) (u : Units) (ds : List Delay) (n : ℕ) (r s : List ℕ) → v ≡ record { wires = wires_at_start c; rest = r } → u ≡ empty s →
    ds ≡ replicate (length c.kinds) idle → n ≡ 0 → (record { wires = v.wires; delays = ds; outbox = u.outbox; changed = n } ≡ start c) × (u.lists.carried ≡ [])
unfolding start empty
started c v u ds n r s e f g h = (rw (e, f, g, h) refl, rw f refl)

-- ---- a run under way

-- After k ticks, with so many stimuli used and so many words of records: the run so far, the number of the last tick, and that the records are in the log.
pub record Playing (c : Circuit) (limit : ℕ) (ws : List ℕ) (k taken at : ℕ) (a : Contents) (before log : List ℕ) : Type 0 where
  pub running : Running c (gets c limit ws) (world_at_start c (length before)) k a before log at
  pub number : a.state.wires.tick ≡ k
  pub taken_is : taken ≡ used (part ws (2 + word_at ws 0) (word_at ws 0)) k
  pub room : at * 8 ≤ length before

none_used : (ns : List ℕ) → 0 ≡ used ns 0
unfolding sum
none_used ns = refl

pub playing_first :
    (c : Circuit) (limit : ℕ) (ws : List ℕ) (a : Contents) (log : List ℕ) → a.state ≡ start c → a.lists.carried ≡ [] → Playing c limit ws 0 0 0 a log log
unfolding world_at_start
playing_first c limit ws a log e f =
    record {
      running = running_first c (gets c limit ws) (world_at_start c (length log)) log a log refl (sym e) refl f;
      number = rw e (start_at_zero c);
      taken_is = none_used (part ws (2 + word_at ws 0) (word_at ws 0));
      room = omega arith;
    }

-- ---- the script's words, in its bytes

pub script_head : (c : Circuit) (bs : List ℕ) → GoodScript c (words bs) → 16 ≤ length bs
script_head c bs good = let e = good.words in let n = lengths bs in omega arith

pub script_room : (c : Circuit) (bs : List ℕ) (T S : ℕ) → GoodScript c (words bs) → T ≡ get_or (words bs) 0 0 → S ≡ get_or (words bs) 1 0 → (2 + 2 * (T + S)) * 8 ≤ length bs
unfolding word_at
script_room c bs T S good eT eS = let e = good.words in let n = lengths bs in omega arith

pub few_ticks : (c : Circuit) (bs : List ℕ) (T : ℕ) → GoodScript c (words bs) → T ≡ get_or (words bs) 0 0 → T ≤ 100000
unfolding word_at
few_ticks c bs T good eT = let e = good.ticks in omega arith

-- ---- turns: T ticks, S stimuli

module _ (c : Circuit) (limit : ℕ) (ws : List ℕ) (good : GoodScript c ws) (before : List ℕ) (T S : ℕ) (eT : T ≡ get_or ws 0 0) (eS : S ≡ get_or ws 1 0) where
  -- what a tick's contract says of its areas and its log
  abbrev pub Plays : ℕ → ℕ → ℕ → ℕ → ℕ → ℕ → ℕ → Contents → Contents → List ℕ → List ℕ → Type 0
  Plays gates constants n dt at size stop a b log after =
      (w : World) → w.state ≡ a.state → w.room ≡ length log - 8 * at →
      Ticks c a b log after at size stop w (tick (bare c) w (allow limit (record { dt = dt; stimuli = stimuli_of c ws gates constants n })) (map (waiting c) a.lists.carried) tt)

  module _ (k taken at : ℕ) (a : Contents) (log : List ℕ) (p : Playing c limit ws k taken at a before log) (same : length log ≡ length before) (h : k < T) where
    at_word : k < word_at ws 0
    unfolding word_at
    at_word = omega arith

    -- what is needed of the script for the next tick
    pub fits : (n : ℕ) → n ≡ get_or ws (2 + T + k) 0 → taken + n ≤ S
    unfolding word_at
    fits n e =
        let x = used_fits c ws good k at_word in
        let y = p.taken_is in
        let z : n ≡ get_or ws (2 + get_or ws 0 0 + k) 0 = e ∙ ap (λ (m : ℕ). get_or ws (2 + m + k) 0) eT in
        omega arith

    module _ (n dt : ℕ) (en : n ≡ get_or ws (2 + T + k) 0) (ed : dt ≡ get_or ws (2 + k) 0) (size stop : ℕ) (b : Contents) (after : List ℕ)
        (t : Plays (2 + 2 * T + taken) (2 + 2 * T + S + taken) n dt at size stop a b log after) where
      abbrev i : Allowed
      i = allow limit (record { dt = dt; stimuli = stimuli_of c ws (2 + 2 * T + taken) (2 + 2 * T + S + taken) n })

      next : drop k (gets c limit ws) ≡ i ∷ drop (k + 1) (gets c limit ws)
      unfolding word_at
      next = gets_next c limit ws k _ (rw (ed, en, p.taken_is, eT, eS) (script_next c ws good k at_word))

      abbrev did : Ticks c a b log after at size stop p.running.world (tick (bare c) p.running.world i (map (waiting c) a.lists.carried) tt)
      did = t p.running.world p.running.state (p.running.room ∙ ap (λ (x : ℕ). x - 8 * at) (sym same))

      -- the record is in the log
      pub record_in : (at + size) * 8 ≤ length before
      record_in = let x = did.room in let y = p.running.room in let z = p.room in omega arith

      -- a tick without a stop
      pub playing_on : stop ≡ 0 → Playing c limit ws (k + 1) (taken + n) (at + size) b before after
      unfolding word_at
      playing_on e =
          record {
            running = running_on c (gets c limit ws) (world_at_start c (length before)) before k a log at p.running i b after size next (subst (λ (s : ℕ). Ticks c a b log after at size s p.running.world (tick (bare c) p.running.world i (map (waiting c) a.lists.carried) tt)) e did);
            number = (let x = ap (λ s. s.wires.tick) did.state in let y = tick_by_one c p.running.world i (map (waiting c) a.lists.carried) in let z = ap (λ s. s.wires.tick) p.running.state in let u = p.number in omega arith);
            taken_is = (let x = used_by_next c ws good k at_word in let y = p.taken_is in let z : n ≡ get_or ws (2 + get_or ws 0 0 + k) 0 = en ∙ ap (λ (m : ℕ). get_or ws (2 + m + k) 0) eT in omega arith);
            room = record_in;
          }

      -- a stop
      pub playing_stop : (stop ≡ 0 → ⊥) → Logged (seen_of c limit ws (length before)) before after (at + size) stop k × ((at + size) * 8 ≤ length before)
      playing_stop e = (running_stop c (gets c limit ws) (world_at_start c (length before)) before k a log at p.running i b after size stop next e did, record_in)

  -- the script's end
  pub playing_end :
      (k taken at : ℕ) (a : Contents) (log : List ℕ) → Playing c limit ws k taken at a before log → T ≤ k → k ≤ T →
      Logged (seen_of c limit ws (length before)) before log at 0 T × (at * 8 ≤ length before)
  unfolding word_at
  playing_end k taken at a log p h g =
      let e : k ≡ T = omega arith in (
        subst (λ (m : ℕ). Logged (seen_of c limit ws (length before)) before log at 0 m) e
            (running_end c (gets c limit ws) (world_at_start c (length before)) before k a log at p.running (gets_over c limit ws k (let l = script_length c ws good in omega arith))),
        p.room,
      )
