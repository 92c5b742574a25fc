-- The number of every answer: a refusal's is 1 to 10 or 19, a run's stop is 0, 11, 12 or 13.
use mathlib.Core.Path.{◌≡◌, refl, sym, subst}
use mathlib.Core.Bool.{Bool, true, false, cond}
use mathlib.Core.List.{List, [], ◌∷◌}
use mathlib.Core.Option.{Option, some}
use mathlib.Core.Logic.{◌⊎◌, inl, inr}
use Prim.Native.Nat.{ℕ, zero, suc, ◌≤◌}
use native.Mathlib.Omega.{arith}
use lib.Dec.{eqb}
use Rattle.words.specs.Words.{words}
use Rattle.schedule.specs.Schedule.{list_full, log_full, most_units, Raise, When, Setup, plain, Took, empty, took, Filed, full, filed, Activation, push_all, activate_open, activate_late, activate_main, next_late, next_main, raise_on, raise_all, pass_on, pass, no_turn, turning, late_pass, main_pass, Tick, outcome, tick}
use Rattle.schedule.specs.Promise.{All, ◌∷·◌}
use Rattle.schedule.proofs.Every.{every}
use Rattle.model.specs.Base.{if◌then◌otherwise◌, among}
use Rattle.model.specs.Circuit.{Circuit, circuit}
use Rattle.model.specs.State.{State, Act}
use Rattle.model.specs.Chain.{Calls, chained, fire_output, make_call, runaway}
use Rattle.model.specs.Loops.{run_chain}
use Rattle.model.specs.Unit.{World, run_unit}
use Rattle.model.specs.Run.{Allowed, ticks_get, opening, body, closing, machine, ticks_of, last_stop, seen}
use Rattle.model.specs.Questions.{Areas, circuit_refusal, script_refusal, or_else, refusal}
use Rattle.model.specs.Answer.{Answers, is_refused, is_played, play, answer_to, answer}
use Rattle.model.proofs.Lists.{if_both}
use Rattle.model.proofs.Running.{RunKeeps, run_chain_kept}
use Rattle.model.proofs.Chains.{finish_stop}

-- ---- a stop of the machine: one of 0, 11, 12, 13

module _ (Q : ℕ → Type 0) (z : Q 0) (r : Q runaway) (f : Q list_full) where
  by_fit : (b : Bool) → Q (if b then 0 otherwise list_full)
  by_fit b = if_both Q b z f

  stops : (c : Circuit) → RunKeeps c (λ r. Q r.stop)
  unfolding chained make_call fire_output
  stops c =
      record {
        step = λ inside i s left q t p. by_fit _;
        loop_step = λ s left q t p. z;
        no_step = λ s q t p. r;
        fired = λ o x p. by_fit _;
        inputs_read = λ g x p. p;
        broken = λ b x p. p;
        counted = λ n x p. p;
        index_shown = λ g i x k p. p;
        body_left = λ x q p y. y;
        too_deep = λ x p. f;
        loop_shown = λ g done aborted x k p. p;
      }

  chain_stop : (c : Circuit) (left : ℕ) (q : Calls) (s : State) → Q (run_chain c left q s).stop
  unfolding chained
  chain_stop c left q s = run_chain_kept c _ (stops c) left q s z

  module _ (c : Circuit) where
    abbrev S : Setup
    S = plain (machine c)

    body_stop : (w : World) (a : Act) → Q (body c w a).stop
    unfolding body run_unit
    body_stop w a = subst Q (sym (finish_stop c w (run_unit c w a))) (chain_stop c w.left _ _)

    raise_stop :
        {P T : Type 0} (activate : P → Activation S → T → Filed T) (rs : List (Raise World Act P)) (t : Unit {0}) (q : T) (w : World) (s : ℕ) → Q s →
        Q (raise_all S activate rs t q w s).stop
    unfolding raise_all
    raise_stop activate [] t q w s k = k
    raise_stop {P} {T} activate (r ∷ rs) t q w s k = go (λ q₁. raise_stop activate rs t q₁ w s k) (activate r.place (record { act = r.act; tag = t }) q)
      where
        go :
            ((q₁ : T) → Q (raise_all S activate rs t q₁ w s).stop) → (x : Filed T) →
            Q (raise_on S x (record { act = r.act; tag = t }) (record { raised = []; queue = q; next = t; world = r.at; stop = list_full }) (λ q'. raise_all S activate rs t q' w s)).stop
        go rec full = f
        go rec (filed q₁) = rec q₁

    pass_stop :
        {T : Type 0} (next : T → Took (Activation S) T) (activate : Activation S → When → Activation S → T → Filed T) (n : ℕ) (t : Unit {0}) (q : T) (w : World) (s : ℕ) → Q s →
        Q (pass S next activate n t q w s).stop
    unfolding pass
    pass_stop {T} next activate zero t q w zero k = go (next q)
      where
        go : (x : Took (Activation S) T) → Q (pass_on S x (no_turn S zero t q w 0) (λ u q'. no_turn S zero t q w list_full)).stop
        go empty = z
        go (took u q₁) = f
    pass_stop next activate zero t q w (suc s) k = k
    pass_stop {T} next activate (suc n) t q w zero k = go (λ t₁ q₁ w₁ s₁ k₁. pass_stop next activate n t₁ q₁ w₁ s₁ k₁) (next q)
      where
        go :
            ((t₁ : Unit {0}) (q₁ : T) (w₁ : World) (s₁ : ℕ) → Q s₁ → Q (pass S next activate n t₁ q₁ w₁ s₁).stop) →
            (x : Took (Activation S) T) →
            Q (pass_on S x (no_turn S (suc n) t q w 0) (λ u q'.
            let d = body c w u.act in
            let k = raise_all S (activate u) d.raises t q' d.world d.stop in
            turning S u w k.raised (eqb d.stop 0) (pass S next activate n k.next k.queue k.world k.stop))).stop
        go rec empty = z
        go rec (took u q₁) = rec _ _ _ _ (raise_stop (activate u) _ _ _ _ _ (body_stop w u.act))
    pass_stop next activate (suc n) t q w (suc s) k = k

    -- how the tick k ended: before its record was written, in which world, with which stop, and what came of it
    pub record Ended (i : Allowed) (k : Tick S) : Type 0 where
      pub before : World
      pub reached : ℕ
      pub stops : Q reached
      pub world : k.world ≡ (closing c before i (outcome S k.late k.main k.carried reached)).world
      pub stop : k.stop ≡ cond (closing c before i (outcome S k.late k.main k.carried reached)).fits reached log_full

    pub tick_ended : (w : World) (i : Allowed) (came : List (Activation S)) (t : Unit {0}) → Ended i (tick S w i came t)
    unfolding tick late_pass main_pass opening
    tick_ended w i came t =
        let d = opening c w i in
        let o = raise_all S (activate_open S) d.raises t (record { lateq = record { late = push_all S came []; delivered = [] }; pending = [] }) d.world d.stop in
        let l = late_pass S most_units o.next o.queue.lateq o.world o.stop in
        let m = main_pass S l.left l.next (record { pending = o.queue.pending; carried = [] }) l.world l.stop in
        record {
          before = m.world;
          reached = m.stop;
          stops =
              pass_stop (next_main S) (activate_main S) l.left l.next (record { pending = o.queue.pending; carried = [] }) l.world l.stop
              (pass_stop (next_late S) (activate_late S) most_units o.next o.queue.lateq o.world o.stop
              (raise_stop (activate_open S) d.raises t (record { lateq = record { late = push_all S came []; delivered = [] }; pending = [] }) d.world d.stop z));
          world = refl;
          stop = refl;
        }

    -- where a full log may stop it too
    module _ (l : Q log_full) where
      closed_stop : (b : Bool) (s : ℕ) → Q s → Q (cond b s log_full)
      closed_stop true s k = k
      closed_stop false s k = l

      tick_stop : (w : World) (i : Allowed) (came : List (Activation S)) (t : Unit {0}) → Q (tick S w i came t).stop
      tick_stop w i came t =
          let k = tick S w i came t in
          let e = tick_ended w i came t in
          subst Q (sym e.stop) (closed_stop (closing c e.before i (outcome S k.late k.main k.carried e.reached)).fits e.reached e.stops)

      last_of : (ts : List (Tick S)) → All (λ t. Q t.stop) ts → Q (last_stop c ts)
      unfolding last_stop
      last_of [] a = z
      last_of (t ∷ ts) (◌∷·◌ h a) = if_both Q (eqb t.stop 0) (last_of ts a) h

      run_stop : (room : ℕ) (is : List Allowed) → Q (seen c (ticks_of c room is)).stop
      unfolding seen ticks_of
      run_stop room is = last_of _ (every S (λ t. Q t.stop) tick_stop is _)

-- so of the run of a script
pub stop_as :
    (Q : ℕ → Type 0) → Q 0 → Q runaway → Q list_full → Q log_full → (room : ℕ) (c : Circuit) (ws : List ℕ) → Q (play room c ws).stop
unfolding play
stop_as Q z r f l room c ws = run_stop Q z r f c l room (ticks_get c ws)

-- ---- a refusal

-- 0 for none, 1 to 10, or 19
abbrev pub Asks : ℕ → Type 0
Asks n = (n ≤ 10) ⊎ (n ≡ 19)

low : {n : ℕ} → n ≤ 10 → Asks n
low = inl

circuit_number : (areas : Option Areas) (cb : List ℕ) → Asks (circuit_refusal areas cb)
unfolding circuit_refusal
circuit_number areas cb =
    if_both Asks _ (low (omega arith)) (if_both Asks _ (low (omega arith)) (if_both Asks _ (low (omega arith)) (if_both Asks _ (low (omega arith)) (if_both Asks _ (low (omega arith))
    (if_both Asks _ (inr refl)
    (if_both Asks _ (low (omega arith)) (if_both Asks _ (low (omega arith)) (low (omega arith)))))))))

script_number : (c : Circuit) (sb : List ℕ) → Asks (script_refusal c sb)
unfolding script_refusal
script_number c sb = if_both Asks _ (low (omega arith)) (if_both Asks _ (low (omega arith)) (if_both Asks _ (low (omega arith)) (low (omega arith))))

or_number : (n m : ℕ) → Asks n → Asks m → Asks (or_else n m)
unfolding or_else
or_number zero m h k = k
or_number (suc n) m h k = h

pub refusal_number : (areas : Option Areas) (cb sb : List ℕ) → Asks (refusal areas cb sb)
unfolding refusal
refusal_number areas cb sb = or_number _ _ (circuit_number areas cb) (script_number _ sb)

-- ---- both

-- every answer has one of these numbers
pub numbers : (areas : Areas) (room : ℕ) (cb sb : List ℕ) → Answers (answer areas room cb sb)
unfolding answer answer_to among
numbers areas room cb sb = go (refusal (some areas) cb sb) (refusal_number (some areas) cb sb)
  where
    go : (n : ℕ) → Asks n → Answers (answer_to n room cb sb)
    go zero h = is_played (stop_as (λ s. among s (0 ∷ 11 ∷ 12 ∷ 13 ∷ []) ≡ true) refl refl refl refl room (circuit (words cb)) (words sb))
    go (suc n) h = let one : 1 ≤ suc n = omega arith in is_refused one h
