-- The count of narrowings that changed their number never comes to its cap: `counts_all`. What it says is defined in specs/Counted.antt.
use mathlib.Core.Path.{◌≡◌, refl, sym, ap, subst}
use mathlib.Core.Bool.{Bool, true, false}
use mathlib.Core.List.{List}
use mathlib.Core.Option.{some}
use Prim.Native.Nat.{ℕ, suc, ◌+◌, ◌*◌, ◌≤◌, ◌<◌}
use native.Mathlib.Nat.{suc-mul, mul-le-mul}
use native.Mathlib.Omega.{arith}
use lib.Dec.{ltb, eqb}
use lib.ListN.{length, get_or}
use borrow.Author.Tests.{ltb-false}
use Rattle.words.specs.Words.{words}
use Rattle.schedule.specs.Schedule.{most_units, Raise, When, Outcome, Closed, Setup, numbered, plain, Activation, Turn, Tick, tick}
use Rattle.schedule.specs.Promise.{All, [·], ◌∷·◌, Along}
use Rattle.schedule.specs.Keeping.{DidKeep}
use Rattle.schedule.specs.Erasure.{bare_tick}
use Rattle.schedule.proofs.Theorems.{erasure}
use Rattle.schedule.proofs.Keeps.{tick_spends}
use Rattle.schedule.proofs.Every.{each_given}
use Rattle.schedule.proofs.Members.{all_map, all_append}
use Rattle.model.specs.Base.{if◌then◌otherwise◌, from}
use Rattle.model.specs.Value.{bit, narrow_changes}
use Rattle.model.specs.Kinds.{buffering}
use Rattle.model.specs.Circuit.{Circuit, most_gates, circuit, gates_such, gate_at_input}
use Rattle.model.specs.Script.{Given}
use Rattle.model.specs.State.{Wires, State, Delay, Act, Send, wires≔, delays≔, outbox≔, changed≔}
use Rattle.model.specs.Wires.{refresh_all}
use Rattle.model.specs.Exec.{most_changed, tally, count_changed, Stepped, fires_next, ends, delay≔, set_output, readied, exec-Buffer, exec-Stopwatch, exec-Queue, exec-VarGet, exec-VarSet, exec-Branch, exec-Union, exec-Toggle, exec-Cycle, exec-SendEvent, exec-Break, exec_kind, exec_gate}
use Rattle.model.specs.Chain.{Calls}
use Rattle.model.specs.Loops.{no_unions, unions_of, runs_left_to, break_set, show_loop, run_chain}
use Rattle.model.specs.Settle.{Settled, calm, raise, compared, check, check_on, most_checks, settle}
use Rattle.model.specs.Opening.{begin_tick, before_settling, open_tick}
use Rattle.model.specs.Unit.{World, state≔, raises_in, begin, enter, run_unit, finish_chain}
use Rattle.model.specs.Closing.{read_outputs, write, close}
use Rattle.model.specs.Run.{most_steps, Allowed, allow, allowed, ticks_get, opening, body, closing, machine, world_at_start, ticks_of}
use Rattle.model.specs.Questions.{Areas, refusal}
use Rattle.model.specs.Order.{numbered_ticks}
use Rattle.model.specs.Counted.{most_counted, SettlingCounted, UnitCounted, TickCounted, WholeRunCounted}
use Rattle.model.proofs.Lists.{if_both, keep_most, all_pass, bit_most, from_length, map_all, all_of}
use Rattle.model.proofs.Asked.{accepted}
use Rattle.model.proofs.Roomy.{Few, few}
use Rattle.model.proofs.Checks.{detect_keeps}
use Rattle.model.proofs.Running.{StepsSpend, run_chain_spends}
use Rattle.model.proofs.Walks.{check_on_spends, OpenedKeeps, OpeningSpends, moving, before_settling_spends, open_tick_spends}

-- ---- one narrowing more

-- adds one at the most, takes none away, and below the cap is counted exactly
pub tally_most : (n : ℕ) (b : Bool) → tally n b ≤ suc n
unfolding tally
tally_most n b = if_both (λ x. x ≤ suc n) _ (omega arith) (omega arith)

pub tally_grows : (n : ℕ) (b : Bool) → n ≤ tally n b
unfolding tally
tally_grows n b = if_both (λ x. n ≤ x) _ (omega arith) (omega arith)

pub tally_exact : (n : ℕ) (b : Bool) → tally n b < most_changed → tally n b ≡ n + bit b
unfolding tally if◌then◌otherwise◌ bit
tally_exact n false l = omega arith
tally_exact n true l = go (ltb n most_changed) refl l
  where
    go : (b : Bool) → ltb n most_changed ≡ b → (if b then suc n otherwise n) < most_changed → (if b then suc n otherwise n) ≡ n + 1
    go true e l = omega arith
    go false e l = absurd (omega (arith, ltb-false n most_changed e))

module _ (c : Circuit) (b : ℕ) where
  -- ---- what may still be counted

  -- with n more to come the count is b at the most
  pub record Counts (n : ℕ) (s : State) : Type 0 where
    pub few : s.changed + n ≤ b

  module _ {n : ℕ} {s : State} where
    fewer : Counts (suc n) s → Counts n s
    fewer z = record { few = omega (arith, z.few) }

    count : (changed : Bool) → Counts (suc n) s → Counts n (count_changed s changed)
    unfolding count_changed changed≔
    count x z = record { few = omega (arith, z.few, tally_most s.changed x) }

    put : (w : Wires) → Counts n s → Counts n (wires≔ s w)
    unfolding wires≔
    put w z = record { few = z.few }

    put_delay : (g : ℕ) (d : Delay) → Counts n s → Counts n (delay≔ c s g d)
    unfolding delay≔ delays≔
    put_delay g d z = record { few = z.few }

    put_outbox : (x : List Send) → Counts n s → Counts n (outbox≔ s x)
    unfolding outbox≔
    put_outbox x z = record { few = z.few }

  -- ---- a step

  abbrev SteppedCounts : ℕ → Stepped → Type 0
  SteppedCounts n d = Counts n d.state

  step : (inside : Bool) (n : ℕ) (s : State) (i : ℕ) → Counts (suc n) s → SteppedCounts n (exec_gate c inside s i)
  unfolding exec_gate exec_kind fires_next ends set_output readied exec-Buffer exec-Stopwatch exec-Queue exec-VarGet exec-VarSet exec-Branch exec-Union exec-Toggle exec-Cycle exec-SendEvent exec-Break
  step inside n s i z =
      let y = fewer z in
      let P = SteppedCounts n in
      if_both P _ y
      (if_both P _ (if_both P _ (put_delay _ _ (count _ z)) (count _ z))
      (if_both P _ (if_both (Counts n) _ (put _ (put_delay _ _ y)) (put_delay _ _ y))
      (if_both P _ (count _ (put_delay _ _ (put _ z)))
      (if_both P _ (count _ (put_delay _ _ (put _ z)))
      (if_both P _ (put _ y)
      (if_both P _ (put _ (put _ y))
      (if_both P _ (put _ y)
      (if_both P _ (if_both P _ y (put _ y))
      (if_both P _ (put _ y)
      (if_both P _ (put _ (put _ y))
      (if_both P _ (if_both (Counts n) _ (put _ y) (put_outbox _ (put _ y))) (if_both P _ (put _ y) y))))))))))))

  -- ---- a chain, and the Loops that it runs, which narrow nothing themselves

  steps : StepsSpend c Counts
  unfolding no_unions unions_of runs_left_to break_set show_loop set_output readied
  steps =
      record {
        step = λ inside n s i z. step inside n s i z;
        loop_step = λ n s z. fewer z;
        inputs_read = λ n s g z. put _ z;
        broken = λ n s b z. put _ z;
        counted = λ n s m z. put _ z;
        index_shown = λ n s g i k z. put _ z;
        body_entered = λ n s z. put _ z;
        body_left = λ m n s t z y. put _ y;
        loop_shown = λ n s g done aborted k z. put _ (put _ (put _ z));
      }

  -- ---- settling

  -- so after what was settled, and where something was raised
  record SettledCounts (n : ℕ) (z : Settled) : Type 0 where
    state : Counts n z.state
    raises : All (λ (r : Raise State Act When). Counts 0 r.at) z.raises

  none_left : (n : ℕ) (s : State) → Counts n s → Counts 0 s
  none_left n s z = record { few = omega (arith, z.few) }

  calm_counts : {n : ℕ} {s : State} → Counts n s → SettledCounts n (calm s)
  unfolding calm
  calm_counts z = record { state = z; raises = [·] }

  raise_counts : {n : ℕ} {s : State} (when : When) (g form : ℕ) → Counts n s → SettledCounts n (raise when s g form)
  unfolding raise
  raise_counts {n} {s} when g form z = record { state = z; raises = ◌∷·◌ (none_left n s z) [·] }

  check_counts : (when : When) (n : ℕ) (s : State) (i : ℕ) → Counts (suc n) s → SettledCounts n (check c when s i)
  unfolding check compared
  check_counts when n s i z =
      let x = put _ (put _ z) in
      let y = fewer x in
      if_both (SettledCounts n) _ (calm_counts y)
      (detect_keeps c (SettledCounts n) _ (gate_at_input c i) (calm_counts y) (λ when form. raise_counts when _ form y) (λ o k e u l. calm_counts (put _ y))
      (λ d changed. calm_counts (count changed (put_delay _ d x))) when _ _ _)

  -- n checks
  settling : (n : ℕ) (s : State) → Counts n s → SettledCounts 0 (check_on c n (calm (wires≔ s (refresh_all c s.wires))))
  settling n s z =
      let r = check_on_spends c SettledCounts (λ m z i is e y.
      let x = check_counts _ m _ i (put _ y.state) in
      record { state = x.state; raises = all_append y.raises x.raises }) n _ (calm_counts (put _ z)) in
      record { state = none_left _ _ r.1.state; raises = r.1.raises }

  -- ---- the opening of a tick

  opening_spends : OpeningSpends c Counts (λ _. Unit {0}) (λ _. true)
  opening_spends =
      record {
        fewer = λ z. fewer z;
        of = λ _. tt;
        put = λ z _. put _ z;
        delay = λ g d z. put_delay g d z;
        count = λ x z. count x z;
        ready = λ _ _ _. tt;
        set_outs = λ _ _ _ _. tt;
        lower = λ _ _ _. tt;
        invalidate = λ _ _ _ _. tt;
      }

  -- the tick's length is counted
  begun : (n : ℕ) (s : State) (dt : ℕ) → 1 + n ≤ b → Counts n (begin_tick s dt)
  unfolding begin_tick changed≔
  begun n s dt l = record { few = omega (arith, l, bit_most (narrow_changes dt)) }

  before : (n : ℕ) (s : State) (given : Given) → 1 + moving c n ≤ b → Counts n (before_settling c s given).state
  before n s given l = (before_settling_spends c opening_spends (all_pass c.time_sources) n s given (begun (moving c n) s given.dt l)).state

  opened : (s : State) (given : Given) → 1 + moving c (most_checks c) ≤ b → OpenedKeeps c (Counts 0) (open_tick c s given)
  unfolding settle
  opened s given l =
      let n = most_checks c in
      open_tick_spends c opening_spends (all_pass c.time_sources) (Counts 0) n (none_left n) (λ s z. let x = settling n s z in (x.state, x.raises)) s given
      (begun (moving c n) s given.dt l)

module _ (c : Circuit) where
  -- ---- a unit

  chained : (b left : ℕ) (q : Calls) (s : State) → Counts c b left s → Counts c b (run_chain c left q s).left (run_chain c left q s).state
  chained b = run_chain_spends c (Counts c b) (steps c b)

  entered : (b n : ℕ) (w : World) (a : Act) → w.state.changed + n ≤ b → Counts c b n (enter c w.state a)
  unfolding enter
  entered b n w a l = put c b _ (record { few = l })

  module _ (most : ℕ) where
    -- in a tick that counts so many at the most: its steps may still be made, and n units begin and settle
    pub record Spare (n : ℕ) (w : World) : Type 0 where
      pub few : w.state.changed + w.left + n * most_checks c ≤ most

    spared :
        {P : Type 0} (n b : ℕ) (w : World) (left : ℕ) (rs : List (Raise State Act P)) → b + left + n * most_checks c ≤ most →
        All (λ r. Counts c b 0 r.at) rs → All (λ r. Spare n r.at) (raises_in w left rs)
    unfolding raises_in state≔
    spared n b w left rs l a = map_all _ _ (all_map (λ r z. record { few = omega (arith, l, z.few) }) a)

    pub body_spares : (n : ℕ) (w : World) (a : Act) → Spare (suc n) w → DidKeep (Spare n) (body c w a)
    unfolding body finish_chain run_unit state≔ settle
    body_spares n w a z =
        let r = run_unit c w a in
        let k = chained (w.state.changed + w.left) w.left (begin c a) (enter c w.state a) (entered _ _ w a (omega arith)) in
        let b = r.state.changed + most_checks c in
        let l : b + r.left + n * most_checks c ≤ most = omega (arith, z.few, k.few, suc-mul n (most_checks c)) in
        let x : Counts c b (most_checks c) r.state = record { few = omega arith } in
        let y = settling c b (most_checks c) _ (put c b _ x) in
        if_both (DidKeep (Spare n)) _
        (record { world = record { few = omega (arith, l, y.state.few) }; raises = spared n b w r.left _ l y.raises })
        (record { world = record { few = omega (arith, l) }; raises = [·] })

    pub opening_spares : (w : World) (i : Allowed) → 1 + moving c (most_checks c) + i.limit + most_units * most_checks c ≤ most → DidKeep (Spare most_units) (opening c w i)
    unfolding opening state≔
    opening_spares w i l =
        let b = 1 + moving c (most_checks c) in
        let y = opened c b w.state i.given (omega arith) in
        record { world = record { few = omega (arith, l, y.state.few) }; raises = spared most_units b w i.limit _ l y.raises }

    pub closing_spares : (n : ℕ) (w : World) (i : Allowed) (o : Outcome Act) → Spare n w → Counts c most 0 (closing c w i o).world.state
    unfolding closing close write state≔ read_outputs
    closing_spares n w i o z =
        let x : Counts c most 0 w.state = record { few = omega (arith, z.few) } in
        let y = if_both (Counts c most 0) _ (put c most _ x) x in
        if_both (λ (k : Closed World). Counts c most 0 k.world.state) _ y y

    pub one_spared : (n : ℕ) (w : World) → Spare (suc n) w → Spare 1 w
    one_spared n w z = record { few = omega (arith, z.few, suc-mul n (most_checks c)) }

  -- ---- a tick

  settling_counted : (s : State) → s.changed + most_checks c ≤ most_counted → SettlingCounted c s
  settling_counted s l n h = omega (arith, (settling c most_counted n s (record { few = omega arith })).state.few)

  unit_counted : (w : World) (a : Act) → Spare most_counted 1 w → UnitCounted c w a
  unfolding run_unit wires≔
  unit_counted w a z =
      record {
        chain = λ n l. omega (arith, (chained most_counted n (begin c a) (enter c w.state a) (entered most_counted n w a (omega (arith, z.few)))).few);
        settling =
            let k = chained (w.state.changed + w.left) w.left (begin c a) (enter c w.state a) (entered _ _ w a (omega arith)) in
            settling_counted _ (omega (arith, z.few, k.few));
      }

  abbrev S : Setup
  S = numbered (machine c)

  tick_counted :
      (w : World) (i : Allowed) (came : List (Activation S)) (t : ℕ) → 1 + moving c (most_checks c) + i.limit + most_units * most_checks c ≤ most_counted →
      TickCounted c (tick S w i came t)
  tick_counted w i came t l =
      let b = most_counted in
      let T = tick_spends S (Spare b 1) (Spare b) (one_spared b) (body_spares b) w i came t (opening_spares b w i l) in
      let e = closing_spares b T.left T.before i T.done T.holds in
      let counted : (u : Turn S) → Spare b 1 u.from → UnitCounted c u.from u.unit.act = λ u. unit_counted u.from u.unit.act in
      record {
        units = all_append (all_map counted T.late) (all_map counted T.main);
        ended = omega (arith, e.few, ap (λ (v : World). v.state.changed) T.world);
      }

-- ---- the sizes

module _ (ws : List ℕ) (f : Few (circuit ws)) where
  pub few_checks : most_checks (circuit ws) ≤ 641 * 577
  few_checks = mul-le-mul {n₂ = 641} {m₂ = 577} (omega (arith, f.inputs)) (omega (arith, f.outputs))

  few_such : (p : ℕ → Bool) → length (gates_such p (circuit ws).kinds) ≤ most_gates
  unfolding gates_such
  few_such p = let ks = (circuit ws).kinds in omega (arith, f.gates, keep_most (λ g. p (get_or ks g 0)) (from 0 (length ks)), from_length 0 (length ks))

  pub few_moving : (n : ℕ) → moving (circuit ws) n ≤ 3 * most_gates + n
  unfolding circuit
  few_moving n = omega (arith, few_such buffering, few_such (λ k. eqb k 14), few_such (λ k. eqb k 15))

-- ---- the run

along_all : {A B : Type 0} {P : A → Type 0} {R : B → Type 0} {xs : List A} {ys : List B} → All P xs → Along (λ x y. P x → R y) xs ys → All R ys
along_all a Along.[·] = [·]
along_all (◌∷·◌ p a) (Along.◌∷·◌ k l) = ◌∷·◌ (k p) (along_all a l)

limits : (gs : List Given) → All (λ (i : Allowed). i.limit ≤ most_steps) (allowed most_steps gs)
unfolding allowed
limits gs = let z : most_steps ≤ most_steps = omega arith in map_all (λ (i : Allowed). i.limit ≤ most_steps) (allow most_steps) (all_of (λ g. z) gs)

-- For every circuit and script that are not refused, no tick counts more than `most_counted`.
pub counts_all : (areas : Areas) (room : ℕ) (cb sb : List ℕ) → refusal (some areas) cb sb ≡ 0 → WholeRunCounted room cb sb
counts_all areas room cb sb h =
    let c = circuit (words cb) in
    let a = accepted (some areas) cb sb h in
    let f = few cb (words cb) a.sizes a.gates in
    let r = few_checks (words cb) f in
    let m = few_moving (words cb) f (most_checks c) in
    record {
      openings = λ s given.
          let z = before c most_counted (most_checks c) s given (omega (arith, r, m)) in
          settling_counted c (before_settling c s given).state z.few;
      ticks =
          along_all (limits _)
          (each_given (numbered (machine c)) (λ i t. i.limit ≤ most_steps → TickCounted c t) (λ w i came t l. tick_counted c w i came t (omega (arith, l, r, m)))
          (ticks_get c (words sb)) (world_at_start c room));
    }

-- So each tick's count is below the cap in the run that the answer is made of, a stopped tick's too.
pub counts_below :
    (areas : Areas) (room : ℕ) (cb sb : List ℕ) → refusal (some areas) cb sb ≡ 0 →
    let c = circuit (words cb) in All (λ (t : Tick (plain (machine c))). t.world.state.changed < most_changed) (ticks_of c room (ticks_get c (words sb)))
unfolding ticks_of
counts_below areas room cb sb h =
    let c = circuit (words cb) in
    let S = numbered (machine c) in
    let P : Tick (plain (machine c)) → Type 0 = λ t. t.world.state.changed < most_changed in
    let a : All (λ (t : Tick S). P (bare_tick S t)) (numbered_ticks c room (ticks_get c (words sb))) =
    all_map (λ t k. omega (arith, k.ended)) (counts_all areas room cb sb h).ticks in
    subst (All P) (sym (erasure S (ticks_get c (words sb)) (world_at_start c room))) (map_all P (bare_tick S) a)
