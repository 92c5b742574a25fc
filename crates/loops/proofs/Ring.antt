-- Chains and the Loops that they run: one law for each way out of a function, and for each turn.
use Prim.Native.Nat.{ℕ, zero, suc, ◌+◌, ◌-◌, ◌≤◌, ◌<◌}
use mathlib.Core.Path.{◌≡◌, refl, sym, ap, ◌∙◌, subst}
use mathlib.Core.Bool.{Bool, true, false, not, ◌&&◌, true≢false}
use mathlib.Core.List.{List, []}
use mathlib.Core.Option.{Option, none, some}
use native.Mathlib.Omega.{arith}
use lib.Dec.{ltb, eqb}
use lib.ListN.{length, drop_of_length-le}
use borrow.Author.Tests.{eqb-true, eqb-false, eq-eqb, ne_eqb, ltb-true, ltb-false}
use Rattle.std.specs.Prelude.{Option as Found, None, Some}
use Rattle.words.specs.Words.{signed}
use Rattle.words.specs.Tables.{digits}
use Rattle.model.specs.Base.{if◌then◌otherwise◌}
use Rattle.model.specs.Circuit.{Circuit, kind_of_gate, output, gate_at_input}
use Rattle.model.specs.State.{unions_passed≔, runs_left≔, wires≔}
use Rattle.model.specs.Exec.{read}
use Rattle.model.specs.Chain.{no_calls, Popped, pop_fork, pop, Chained, chained, unless_stopped, fire_output, make_call, runaway}
use Rattle.model.specs.Loops as model
use Rattle.model.specs.Loops.{index, unions_of, runs_left_to, break_set, goes_on, begin_body, loop_on, show_loop, loop_over, run_loop, operate, run_nested, run_body, run_chain}
use Rattle.model.proofs.Lists.{both_true}
use Rattle.model.proofs.Running.{operate_falls}
use Rattle.model.proofs.Chains.{nested_stopped, nested_none, nested_over, nested_on}
use Rattle.wires.specs.View.{Values, values, with_wires}
use Rattle.units.specs.View.{Units, units}
use Rattle.units.specs.Calls as on_units
use Rattle.units.specs.Calls.{popped, calls_left}
use Rattle.units.specs.Lent.{Pops}
use Rattle.states.specs.View.{Delays, delays}
use Rattle.areas.specs.Areas.{Contents, together, areas, with_state, with_calls}
use Rattle.chain.specs.declared.Ran.{Ran}
use Rattle.chain.specs.Chain.{Runs, started}
use Rattle.chain.proofs.Runs.{lists_stay, kept_stays, runs_from, runs_after, reached}
use Rattle.loops.specs.declared.counting.Counts.{Counts}
use Rattle.loops.specs.declared.counting.Looped.{Looped}
use Rattle.loops.specs.Loops.{going_on, stays_on, looping, LoopsAs, BeginsLoop, EndsLoop}

-- ---- stops

-- whether a number is 0
decide : {A : Type 0} (n : ℕ) → (n ≡ 0 → A) → ((n ≡ 0 → ⊥) → A) → A
decide {A} n is other = go (eqb n 0) refl
  where
    go : (b : Bool) → eqb n 0 ≡ b → A
    go true e = is (eqb-true n 0 e)
    go false e = other (eqb-false n 0 e)

unless_on : (f : Chained → Chained) (r : Chained) → r.stop ≡ 0 → unless_stopped f r ≡ f r
unfolding unless_stopped
unless_on f r h = let e = eq-eqb r.stop 0 h in rw (e, unless_stopped)

unless_off : (f : Chained → Chained) (r : Chained) → (r.stop ≡ 0 → ⊥) → unless_stopped f r ≡ r
unfolding unless_stopped
unless_off f r h = let e = ne_eqb r.stop 0 h in rw (e, unless_stopped)

-- ---- tests of what is not so

pub was_not : (b : Bool) → not b ≡ true → b ≡ false
was_not true e = absurd (true≢false (sym e))
was_not false e = refl

pub was_so : (b : Bool) → not b ≡ false → b ≡ true
was_so true e = refl
was_so false e = absurd (true≢false e)

-- ---- what was taken off

was_none : (p : Option Popped) → None ≡ popped p → p ≡ none
unfolding popped
was_none none e = refl
was_none (some t) e = let z : ◌≡◌ {A = Bool} true false = cc in absurd (true≢false z)

was_some : (i : ℕ) (p : Option Popped) → Some i ≡ popped p → (t : Popped) × ((p ≡ some t) × (i ≡ t.input))
unfolding popped
was_some i none e = let z : ◌≡◌ {A = Bool} true false = cc in absurd (true≢false z)
was_some i (some t) e = (t, (refl, cc))

-- ---- a run of calls, where bodies nest so deep at the most

module _ (c : Circuit) (deep : ℕ) (inside : Bool) (under : ℕ) where
  abbrev pub nested : Chained → Chained
  nested r = run_nested c (run_body c deep) inside under r

  -- a run that goes on from another
  pub nested_after : {a b d : Contents} {r q : Ran} {k : Chained} → Runs a b r k → Runs b d q (nested (going_on b r)) → Runs a d q (nested k)
  unfolding chained
  nested_after {a} {b} {d} {r} {q} {k} p z =
      decide k.stop
      (λ e.
      let h : nested (going_on b r) ≡ nested k = ap nested ((λ j. chained b.state r.left ((p.stop ∙ e) j) b.calls) ∙ sym (reached p e)) in
      runs_after p (subst (Runs b d q) h z))
      (λ n.
      let m : (going_on b r).stop ≡ 0 → ⊥ = λ e. n (sym p.stop ∙ e) in
      let y = subst (Runs b d q) (nested_stopped c deep inside under (going_on b r) m) z in
      subst (Runs a d q) (sym (nested_stopped c deep inside under k n))
      record { state = y.state ∙ p.state; calls = λ e. absurd (n e); left = y.left ∙ p.left; stop = y.stop ∙ p.stop })

  -- it had stopped before
  pub none_run : (a : Contents) (run : Ran) → (run.stop ≡ 0 → ⊥) → Runs a a run (nested (going_on a run))
  unfolding chained
  none_run a run n =
      subst (Runs a a run) (sym (nested_stopped c deep inside under (going_on a run) n)) record { state = refl; calls = λ _. refl; left = refl; stop = refl }

  -- nothing has stopped yet
  pub run_begins : (vs us ds : List ℕ) (run : Ran) → run.stop ≡ 0 → nested (started (areas c vs us ds) run.left) ≡ nested (going_on (areas c vs us ds) run)
  unfolding chained
  run_begins vs us ds run e = λ j. nested (chained (areas c vs us ds).state run.left (sym e j) (areas c vs us ds).calls)

  -- a run under way, which comes to k
  module _ (vs₀ us₀ ds₀ vs us ds : List ℕ) (rest : ℕ) (k : Chained)
      (sl : (areas c vs us ds).lists ≡ (areas c vs₀ us₀ ds₀).lists) (sk : (areas c vs us ds).kept ≡ (areas c vs₀ us₀ ds₀).kept)
      (inv : nested (started (areas c vs us ds) rest) ≡ k) where
    abbrev a₀ : Contents
    a₀ = areas c vs₀ us₀ ds₀

    abbrev a : Contents
    a = areas c vs us ds

    module _ (us₁ : List ℕ) (top : Found ℕ) (e : Pops (units c us) (units c us₁) top (pop inside under (units c us).calls.stack (units c us).calls.forks)) where
      -- none waits
      pub nested_ended : (n : ℕ) → n ≡ rest → top ≡ None → Runs a₀ (areas c vs us₁ ds) (record { left = n; stop = 0 }) k
      unfolding calls_left chained
      nested_ended n z h =
          let p = was_none _ (sym h ∙ e.0) in
          let u : units c us₁ ≡ units c us = e.1 ∙ ap (λ (x : Option Popped). on_units.with_calls (units c us) (calls_left (units c us).calls x)) p in
          let f : started a rest ≡ k = sym (nested_none c deep inside under a.state a.calls rest p) ∙ inv in
          runs_from sl sk
          (subst (Runs a (areas c vs us₁ ds) (record { left = n; stop = 0 })) f
          record {
            state = ap (λ (x : Units). with_calls (together (values c vs) x (delays c ds)) no_calls) u;
            calls = λ _. ap (λ (x : Units). x.calls) u;
            left = z;
            stop = refl;
          })

      -- one was taken off
      taken_off : (i : ℕ) → top ≡ Some i → (t : Popped) × ((pop inside under (units c us).calls.stack (units c us).calls.forks ≡ some t) × ((i ≡ t.input) × (areas c vs us₁ ds ≡ with_calls a t.rest)))
      unfolding calls_left
      taken_off i h =
          let p = was_some i _ (sym h ∙ e.0) in
          let u = e.1 ∙ ap (λ (x : Option Popped). on_units.with_calls (units c us) (calls_left (units c us).calls x)) p.1.0 in
          (p.0, (p.1.0, (p.1.1, ap (λ (x : Units). together (values c vs) x (delays c ds)) u)))

      -- and no step was left
      pub nested_runs_away : (i : ℕ) → rest ≤ 0 → top ≡ Some i → Runs a₀ (areas c vs us₁ ds) (record { left = 0; stop = 11 }) k
      unfolding chained
      nested_runs_away i z h =
          let p = taken_off i h in
          let n : rest ≡ 0 = omega (arith, z) in
          let f : chained a.state 0 runaway p.0.rest ≡ k =
          sym (nested_over c deep inside under a.state a.calls p.0 p.1.0) ∙ ap (λ (m : ℕ). nested (started a m)) (sym n) ∙ inv in
          runs_from sl sk
          (subst (Runs a (areas c vs us₁ ds) (record { left = 0; stop = 11 })) f
          record { state = ap (λ (x : Contents). with_calls x no_calls) p.1.1.1; calls = λ y. absurd (omega (arith, y)); left = refl; stop = refl })

      -- it was made
      module _ (i : ℕ) (h : top ≡ Some i) (l : 0 < rest) (x : Contents) (ran : Ran)
          (m : Runs (areas c vs us₁ ds) x ran (operate c (run_body c deep) inside i (started (areas c vs us₁ ds) (rest - 1)))) where
        abbrev p : (t : Popped) × ((pop inside under (units c us).calls.stack (units c us).calls.forks ≡ some t) × ((i ≡ t.input) × (areas c vs us₁ ds ≡ with_calls a t.rest)))
        p = taken_off i h

        abbrev made : Chained
        made = operate c (run_body c deep) inside p.0.input (chained a.state (rest - 1) 0 p.0.rest)

        one_made : Runs a x ran made
        unfolding chained
        one_made =
            runs_from {a = a} {b = areas c vs us₁ ds} (ap (λ (y : Contents). y.lists) p.1.1.1) (ap (λ (y : Contents). y.kept) p.1.1.1)
            (subst (Runs (areas c vs us₁ ds) x ran) (λ j. operate c (run_body c deep) inside (p.1.1.0 j) (started (p.1.1.1 j) (rest - 1))) m)

        led_on : nested made ≡ k
        led_on =
            let n : suc (rest - 1) ≡ rest = omega (arith, l) in
            sym (nested_on c deep inside under a.state a.calls p.0 p.1.0 (rest - 1)) ∙ ap (λ (m : ℕ). nested (started a m)) n ∙ inv

        pub nested_stops : (ran.stop ≡ 0 → ⊥) → Runs a₀ x ran k
        nested_stops n =
            let z : made.stop ≡ 0 → ⊥ = λ f. n (one_made.stop ∙ f) in
            runs_from sl sk (subst (Runs a x ran) (sym (nested_stopped c deep inside under made z) ∙ led_on) one_made)

        pub nested_goes_on : ran.stop ≡ 0 → nested (started x ran.left) ≡ k
        nested_goes_on z = ap nested (sym (reached one_made (sym one_made.stop ∙ z))) ∙ led_on

        pub nested_lists : x.lists ≡ a₀.lists
        nested_lists = lists_stay one_made ∙ sl

        pub nested_kept : x.kept ≡ a₀.kept
        nested_kept = kept_stays one_made ∙ sk

        pub nested_falls : ran.left < rest
        nested_falls = omega (arith, l, one_made.left, operate_falls c deep inside p.0.input a.state (rest - 1) p.0.rest)

-- ---- an operation

module _ (c : Circuit) (deep : ℕ) (inside : Bool) (i g k left : ℕ) (eg : g ≡ gate_at_input c i) (ek : k ≡ kind_of_gate c g) (a : Contents) where
  abbrev entered : Chained
  entered = operate c (run_body c deep) inside i (started a left)

  kind_is : k ≡ kind_of_gate c (gate_at_input c i)
  kind_is = ek ∙ ap (kind_of_gate c) eg

  pub operate_call : (k ≡ 29 → ⊥) → (b : Contents) (r : Ran) → Runs a b r (make_call c inside i (started a left)) → Runs a b r entered
  unfolding operate if◌then◌otherwise◌
  operate_call n b r m = let e : eqb (kind_of_gate c (gate_at_input c i)) 29 ≡ false = ne_eqb _ 29 (λ z. n (kind_is ∙ z)) in subst (Runs a b r) (sym (rw (e, operate) refl)) m

  module _ (l : k ≡ 29) (b : Contents) (ran : Ran) (m : Runs a b ran (run_loop c (run_body c deep) g (started a left))) where
    abbrev looped : Chained
    looped = run_loop c (run_body c deep) g (started a left)

    entered_is : entered ≡ unless_stopped (fire_output c (output c g 0)) looped
    unfolding operate if◌then◌otherwise◌
    entered_is =
        let e : eqb (kind_of_gate c (gate_at_input c i)) 29 ≡ true = eq-eqb _ 29 (sym kind_is ∙ l) in
        let z : entered ≡ unless_stopped (fire_output c (output c (gate_at_input c i) 0)) (run_loop c (run_body c deep) (gate_at_input c i) (started a left)) = rw (e, operate) refl in
        z ∙ (λ j. unless_stopped (fire_output c (output c (sym eg j) 0)) (run_loop c (run_body c deep) (sym eg j) (started a left)))

    pub operate_stopped : (ran.stop ≡ 0 → ⊥) → Runs a b ran entered
    operate_stopped n = subst (Runs a b ran) (sym (entered_is ∙ unless_off _ looped (λ z. n (m.stop ∙ z)))) m

    pub operate_completed :
        ran.stop ≡ 0 → (o : ℕ) → o ≡ output c g 0 → (d : Contents) (r : Ran) → Runs b d r (fire_output c o (started b ran.left)) → Runs a d r entered
    operate_completed z o eo d r f =
        let s : looped.stop ≡ 0 = sym m.stop ∙ z in
        let e : fire_output c o (started b ran.left) ≡ entered =
        (λ j. fire_output c (eo j) (sym (reached m s) j)) ∙ sym (entered_is ∙ unless_on _ looped s) in
        runs_after m (subst (Runs b d r) e f)

-- ---- a run of a body

pub body_none : (c : Circuit) (n g i left : ℕ) (a : Contents) → n ≡ 0 → Runs a a (record { left = left; stop = 12 }) (run_body c n g i (started a left))
unfolding run_body chained
body_none c n g i left a e =
    subst (λ (m : ℕ). Runs a a (record { left = left; stop = 12 }) (run_body c m g i (started a left))) (sym e)
    record { state = refl; calls = λ z. absurd (omega (arith, z)); left = refl; stop = refl }

-- the Unions are as before
unions_back :
    (c : Circuit) (w : ℕ) (a : Contents) (v v₁ : Values) (u : Units) (d : Delays) → digits (length c.kinds) w ≡ a.state.wires.unions_passed →
    v₁ ≡ with_wires v (unions_passed≔ v.wires (digits (length c.kinds) w)) →
    together v₁ u d ≡ with_state (together v u d) (unions_of a.state (together v u d).state)
unfolding unions_of wires≔
unions_back c w a v v₁ u d e h = ap (λ (x : Values). together x u d) (h ∙ ap (λ (x : List Bool). with_wires v (unions_passed≔ v.wires x)) e)

pub body_ran :
    (c : Circuit) (n g i left under w : ℕ) (a b : Contents) (v v₁ : Values) (u : Units) (d : Delays) (begun ran : Ran) → (n ≡ 0 → ⊥) →
    under ≡ length a.calls.stack → digits (length c.kinds) w ≡ a.state.wires.unions_passed → Runs a b begun (begin_body c g i (started a left)) →
    Runs b (together v u d) ran (run_nested c (run_body c (n - 1)) true under (going_on b begun)) →
    v₁ ≡ with_wires v (unions_passed≔ v.wires (digits (length c.kinds) w)) → Runs a (together v₁ u d) ran (run_body c n g i (started a left))
unfolding run_body chained unions_of wires≔
body_ran c zero g i left under w a b v v₁ u d begun ran n eu ew p z e = absurd (n refl)
body_ran c (suc deep) g i left under w a b v v₁ u d begun ran n eu ew p z e = go (suc deep - 1) (omega arith) z
  where
    go :
        (m : ℕ) → m ≡ deep → Runs b (together v u d) ran (run_nested c (run_body c m) true under (going_on b begun)) →
        Runs a (together v₁ u d) ran (run_body c (suc deep) g i (started a left))
    go m em z =
        let y = nested_after c deep true under p (subst (λ (k : ℕ). Runs b (together v u d) ran (run_nested c (run_body c k) true under (going_on b begun))) em z) in
        let q : Chained = run_nested c (run_body c deep) true (length a.calls.stack) (begin_body c g i (started a left)) in
        let x : Runs a (together v u d) ran q = subst (λ (k : ℕ). Runs a (together v u d) ran (run_nested c (run_body c deep) true k (begin_body c g i (started a left)))) eu y in
        let f = unions_back c w a v v₁ u d ew e in
        record {
          state = ap (λ (k : Contents). with_calls k no_calls) f ∙ ap (λ (k : Contents). with_state k (unions_of a.state k.state)) x.state;
          calls = λ s. ap (λ (k : Contents). k.calls) f ∙ x.calls s;
          left = x.left;
          stop = x.stop;
        }

-- ---- a Loop

-- its runs are over, whether or not something stopped
module _ (c : Circuit) (g : ℕ) (broke : Bool) (b d e : Contents) (l : Looped) (r : Ran) (L : model.Looped) (p : LoopsAs b d l L) (z : EndsLoop c g broke l d e r) where
  abbrev plain : Chained
  plain = chained d.state l.left l.stop no_calls

  abbrev shown : ℕ → Bool → Chained → Chained
  shown done aborted x = chained (show_loop c g done aborted (break_set broke x.state)) x.left x.stop x.calls

  loop_shows : l.stop ≡ 0 → L.after.stop ≡ 0 → Runs b e r (loop_over c broke g L)
  unfolding loop_over model.looped chained
  loop_shows k m =
      let q = p.runs in
      let y : loop_over c broke g (model.looped plain l.done l.aborted) ≡ shown L.done L.aborted plain = unless_on _ plain k ∙ (λ j. shown (p.done j) (p.aborted j) plain) in
      subst (Runs b e r) (sym (unless_on _ L.after m))
      record {
        state =
            ap (λ (x : Contents). with_calls x no_calls) (z.0 ∙ ap (λ (x : Chained). with_state d x.state) y)
            ∙ ap (λ (x : Contents). with_calls (with_state x (show_loop c g L.done L.aborted (break_set broke x.state))) no_calls) q.state;
        calls = λ _. ap (λ (x : Contents). x.calls) z.0 ∙ q.calls m;
        left = ap (λ (x : Ran). x.left) z.1 ∙ ap (λ (x : Chained). x.left) y ∙ q.left;
        stop = ap (λ (x : Ran). x.stop) z.1 ∙ ap (λ (x : Chained). x.stop) y ∙ q.stop;
      }

  loop_stops : (l.stop ≡ 0 → ⊥) → (L.after.stop ≡ 0 → ⊥) → Runs b e r (loop_over c broke g L)
  unfolding loop_over model.looped chained
  loop_stops k m =
      let q = p.runs in
      let y : loop_over c broke g (model.looped plain l.done l.aborted) ≡ plain = unless_off _ plain k in
      subst (Runs b e r) (sym (unless_off _ L.after m))
      record {
        state = ap (λ (x : Contents). with_calls x no_calls) (z.0 ∙ ap (λ (x : Chained). with_state d x.state) y) ∙ q.state;
        calls = λ f. absurd (m f);
        left = ap (λ (x : Ran). x.left) z.1 ∙ ap (λ (x : Chained). x.left) y ∙ q.left;
        stop = ap (λ (x : Ran). x.stop) z.1 ∙ ap (λ (x : Chained). x.stop) y ∙ q.stop;
      }

  loop_is_over : Runs b e r (loop_over c broke g L)
  loop_is_over = decide l.stop (λ k. loop_shows k (sym p.runs.stop ∙ k)) (λ k. loop_stops k (λ m. k (p.runs.stop ∙ m)))

pub loop_ran :
    (c : Circuit) (n g left : ℕ) (a b d e : Contents) (counts : Counts) (l : Looped) (r : Ran) → BeginsLoop c g a b counts →
    LoopsAs b d l (looping c n g counts.first counts.step counts.count 0 (started b left)) → EndsLoop c g counts.broke l d e r →
    Runs a e r (run_loop c (run_body c n) g (started a left))
unfolding run_loop read chained
loop_ran c n g left a b d e counts l r s p z =
    let m = s.1 in
    let whole : loop_over c counts.broke g (looping c n g counts.first counts.step counts.count 0 (started b left)) ≡ run_loop c (run_body c n) g (started a left) =
    (λ j. loop_over c (m.broke j) g (loop_on c (run_body c n) g (m.first j) (m.step j) (m.count j) 0 (started (s.0 j) left))) in
    subst (Runs a e r) whole
    (runs_from (ap (λ (x : Contents). x.lists) s.0) (ap (λ (x : Contents). x.kept) s.0) (loop_is_over c g counts.broke b d e l r _ p z))

-- ---- its runs

module _ (c : Circuit) (n g first step count left : ℕ) (vs₀ us₀ ds₀ vs us ds : List ℕ) (rest done : ℕ)
    (sl : (areas c vs us ds).lists ≡ (areas c vs₀ us₀ ds₀).lists) (sk : (areas c vs us ds).kept ≡ (areas c vs₀ us₀ ds₀).kept)
    (inv :
    looping c n g first step (count - done) done (started (areas c vs us ds) rest)
    ≡ looping c n g first step count 0 (started (areas c vs₀ us₀ ds₀) left)) where
  abbrev start : Contents
  start = areas c vs₀ us₀ ds₀

  abbrev here : Contents
  here = areas c vs us ds

  abbrev whole : model.Looped
  whole = looping c n g first step count 0 (started start left)

  -- all are made
  pub loop_counted : count ≤ done → done ≤ count → LoopsAs start here (record { left = rest; stop = 0; done = count; aborted = false }) whole
  unfolding loop_on model.looped chained
  loop_counted l m =
      let z : count - done ≡ 0 = omega (arith, l) in
      let y : done ≡ count = omega (arith, l, m) in
      let e : model.looped (started here rest) done false ≡ whole = ap (λ (k : ℕ). looping c n g first step k done (started here rest)) (sym z) ∙ inv in
      subst (λ (d : ℕ). LoopsAs start here (record { left = rest; stop = 0; done = d; aborted = false }) whole) y
      (subst (LoopsAs start here (record { left = rest; stop = 0; done = done; aborted = false })) e
      record {
        runs = runs_from {a = start} {b = here} sl sk record { state = refl; calls = λ _. refl; left = refl; stop = refl };
        done = refl;
        aborted = refl;
      })

  module _ (l : done < count) (vs₁ : List ℕ) (b : Bool) (eb : b ≡ ltb 0 (values c vs).wires.runs_left)
      (e₁ : values c vs₁ ≡ with_wires (values c vs) (runs_left≔ (values c vs).wires ((values c vs).wires.runs_left - 1))) where
    abbrev counted : Contents
    counted = areas c vs₁ us ds

    -- one is to come
    more_is : count - done ≡ suc (count - (done + 1))
    more_is = omega (arith, l)

    -- the tick's limit is reached
    pub loop_aborted : b ≡ false → LoopsAs start counted (record { left = rest; stop = 0; done = done; aborted = true }) whole
    unfolding loop_on model.looped chained runs_left≔
    loop_aborted h =
        let z : (values c vs).wires.runs_left ≡ 0 = let k = ltb-false 0 (values c vs).wires.runs_left (sym eb ∙ h) in omega (arith, k) in
        let y : looping c n g first step (suc (count - (done + 1))) done (started here rest) ≡ model.looped (started here rest) done true = rw (z, loop_on) refl in
        let e : model.looped (started here rest) done true ≡ whole =
        sym y ∙ ap (λ (k : ℕ). looping c n g first step k done (started here rest)) (sym more_is) ∙ inv in
        let k : (values c vs).wires.runs_left - 1 ≡ (values c vs).wires.runs_left = omega (arith, z) in
        let v : values c vs₁ ≡ values c vs = e₁ ∙ (λ j. with_wires (values c vs) (runs_left≔ (values c vs).wires (k j))) in
        subst (LoopsAs start counted (record { left = rest; stop = 0; done = done; aborted = true })) e
        record {
          runs = runs_from {a = start} {b = here} sl sk
              record { state = ap (λ (x : Values). with_calls (together x (units c us) (delays c ds)) no_calls) v; calls = λ _. refl; left = refl; stop = refl };
          done = refl;
          aborted = refl;
        }

    module _ (h : b ≡ true) (i : ℕ) (ei : i ≡ index (signed first) done (signed step)) (x : Contents) (ran : Ran) (m : Runs counted x ran (run_body c n g i (started counted rest)))
        (on : Bool) (eo : on ≡ stays_on ran.stop x.state.wires) where
      abbrev runs : ℕ
      runs = (values c vs).wires.runs_left

      -- the run that was made
      abbrev the_body : Chained
      the_body = run_body c n g (index (signed first) done (signed step)) (chained (runs_left_to (runs - 1) here.state) rest 0 here.calls)

      counted_is : counted ≡ with_state here (runs_left_to (runs - 1) here.state)
      unfolding runs_left_to wires≔
      counted_is = ap (λ (v : Values). together v (units c us) (delays c ds)) e₁

      the_run : Runs here x ran the_body
      unfolding chained
      the_run =
          runs_from {a = here} {b = counted} (ap (λ (y : Contents). y.lists) counted_is) (ap (λ (y : Contents). y.kept) counted_is)
          (subst (Runs counted x ran) (λ j. run_body c n g (ei j) (started (counted_is j) rest)) m)

      on_is : goes_on the_body ≡ on
      unfolding goes_on
      on_is = (λ j. eqb (sym the_run.stop j) 0 && not (sym the_run.state j).state.wires.breaking) ∙ sym eo

      turned :
          (o : Bool) → goes_on the_body ≡ o →
          looping c n g first step (suc (count - (done + 1))) done (started here rest)
          ≡ (elim o as (λ _. model.Looped) [ true ↦ looping c n g first step (count - (done + 1)) (suc done) the_body | false ↦ model.looped the_body (suc done) false ])
      unfolding loop_on chained
      turned o e =
          let k = ltb-true 0 runs (sym eb ∙ h) in
          let z : runs ≡ suc (runs - 1) = omega (arith, k) in
          rw (z, loop_on) (rw e refl)

      led : looping c n g first step (suc (count - (done + 1))) done (started here rest) ≡ whole
      led = ap (λ (k : ℕ). looping c n g first step k done (started here rest)) (sym more_is) ∙ inv

      pub loop_ended : on ≡ false → LoopsAs start x (record { left = ran.left; stop = ran.stop; done = done + 1; aborted = false }) whole
      unfolding model.looped
      loop_ended f =
          let e : model.looped the_body (suc done) false ≡ whole = sym (turned false (on_is ∙ f)) ∙ led in
          subst (LoopsAs start x (record { left = ran.left; stop = ran.stop; done = done + 1; aborted = false })) e
          record { runs = runs_from {a = start} {b = here} sl sk the_run; done = omega arith; aborted = refl }

      pub loop_goes_on :
          on ≡ true → looping c n g first step (count - (done + 1)) (done + 1) (started x ran.left) ≡ whole
      loop_goes_on t =
          let s : ran.stop ≡ 0 = eqb-true ran.stop 0 (both_true (eqb ran.stop 0) (not x.state.wires.breaking) (sym eo ∙ t)).0 in
          let k : the_body ≡ started x ran.left = reached the_run (sym the_run.stop ∙ s) in
          let d : done + 1 ≡ suc done = omega arith in
          (λ j. looping c n g first step (count - (done + 1)) (d j) (sym k j)) ∙ sym (turned true (on_is ∙ t)) ∙ led

      pub loop_lists : x.lists ≡ start.lists
      loop_lists = lists_stay the_run ∙ sl

      pub loop_kept : x.kept ≡ start.kept
      loop_kept = kept_stays the_run ∙ sk

-- ---- a chain

pub chain_ran : (c : Circuit) (n left : ℕ) (a b : Contents) (r : Ran) → n ≡ length c.kinds →
    Runs a b r (run_nested c (run_body c n) false 0 (going_on a (record { left = left; stop = 0 }))) → Runs a b r (run_chain c left a.calls a.state)
unfolding run_chain
chain_ran c n left a b r e m = subst (λ (k : ℕ). Runs a b r (run_nested c (run_body c k) false 0 (started a left))) e m

pub chain_idle : (c : Circuit) (left n m : ℕ) (a : Contents) → n ≡ length a.calls.stack → n ≡ 0 → m ≡ length a.calls.forks → m ≡ 0 →
    Runs a a (record { left = left; stop = 0 }) (run_chain c left a.calls a.state)
unfolding run_chain pop pop_fork chained
chain_idle c left n m a en zn em zm =
    let st : a.calls.stack ≡ [] = drop_of_length-le a.calls.stack {i = 0} (omega (arith, en, zn)) in
    let fs : a.calls.forks ≡ [] = drop_of_length-le a.calls.forks {i = 0} (omega (arith, em, zm)) in
    let p : pop false 0 a.calls.stack a.calls.forks ≡ none = rw (st, fs) in
    subst (Runs a a (record { left = left; stop = 0 })) (sym (nested_none c (length c.kinds) false 0 a.state a.calls left p))
    record { state = refl; calls = λ _. refl; left = refl; stop = refl }
