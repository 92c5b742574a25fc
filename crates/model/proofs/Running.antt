-- What every small change of a chain keeps, the chain keeps, with its forks and all that its Loops run: one walk over chain, operation, Loop and body.
use mathlib.Core.Path.{◌≡◌, refl, subst}
use mathlib.Core.Bool.{Bool, true, false, ◌||◌}
use mathlib.Core.Option.{Option, none, some}
use Prim.Native.Nat.{ℕ, zero, suc, ◌≤◌}
use native.Mathlib.Omega.{arith}
use lib.Dec.{eqb}
use lib.IntN.{ℤ}
use lib.ListN.{length}
use borrow.Author.Tests.{eqb-true}
use Rattle.schedule.specs.Schedule.{list_full}
use Rattle.model.specs.declared.Value.{Value}
use Rattle.model.specs.declared.Value.TheVariants.{Int}
use Rattle.model.specs.Circuit.{Circuit, kind_of_gate, entry_of_loop, output, gate_at_input}
use Rattle.model.specs.State.{State}
use Rattle.model.specs.Delays.{Started}
use Rattle.model.specs.Exec.{Stepped, fires_next, ends, set_output, readied, exec-Buffer, exec-Stopwatch, exec-Queue, exec-VarGet, exec-VarSet, exec-Branch, exec-Union, exec-Toggle, exec-Cycle, exec-SendEvent, exec-Break, exec_kind, exec_gate}
use Rattle.model.specs.Chain.{Calls, Popped, pop, Chained, chained, with_state, unless_stopped, next, make_step, run_calls, fire_output, make_call, runaway}
use Rattle.model.specs.Loops.{index, no_unions, unions_of, runs_left_to, break_set, Looped, looped, goes_on, Body, loop_on, show_loop, loop_over, run_loop, operate, run_nested, begin_body, run_body, run_chain}
use Rattle.model.proofs.Lists.{if_both, if_by}

-- where it may have stopped
pub unless_both : (P : Chained → Type 0) (f : Chained → Chained) (r : Chained) → (r.stop ≡ 0 → P (f r)) → P r → P (unless_stopped f r)
unfolding unless_stopped
unless_both P f r p q = go (eqb r.stop 0) (eqb-true r.stop 0)
  where
    go : (b : Bool) → (b ≡ true → r.stop ≡ 0) → P (elim b as (λ _. Chained) [ true ↦ f r | false ↦ r ])
    go true e = p (e refl)
    go false e = q

-- a call is taken only where nothing has stopped, and it is the one that `pop` gives
pub next_running :
    (inside : Bool) (under : ℕ) (r : Chained) (t : Popped) → next inside under r ≡ some t →
    (r.stop ≡ 0) × (pop inside under r.calls.stack r.calls.forks ≡ some t)
unfolding next
next_running inside under r t = go (eqb r.stop 0) (eqb-true r.stop 0)
  where
    go :
        (b : Bool) → (b ≡ true → r.stop ≡ 0) →
        (elim b as (λ _. Option Popped) [ true ↦ pop inside under r.calls.stack r.calls.forks | false ↦ none ]) ≡ some t →
        (r.stop ≡ 0) × (pop inside under r.calls.stack r.calls.forks ≡ some t)
    go true e h = (e refl, h)
    go false e h = let z : ◌≡◌ {A = ℕ} 0 1 = cc in absurd (omega arith)

-- A fact about runs that every change keeps. Where a Loop is at work, its gate is one.
pub record RunKeeps (c : Circuit) (P : Chained → Type 0) : Type 0 where
  -- a call is taken off, one step is used up, and the gate makes it; a Loop's own step; and where no step is left
  pub step : (inside : Bool) (i : ℕ) (s : State) (left : ℕ) (q t : Calls) → P (chained s (suc left) 0 q) → P (make_call c inside i (chained s left 0 t))
  pub loop_step : (s : State) (left : ℕ) (q t : Calls) → P (chained s (suc left) 0 q) → P (chained s left 0 t)
  pub no_step : (s : State) (q t : Calls) → P (chained s 0 0 q) → P (chained s 0 runaway t)
  -- an output is fired
  pub fired : (o : ℕ) (r : Chained) → P r → P (fire_output c o r)
  -- a Loop begins: its inputs are read, and a Break is set or not
  pub inputs_read : (g : ℕ) (r : Chained) → P r → P (with_state r (readied c r.state g 1 3))
  pub broken : (b : Bool) (r : Chained) → P r → P (with_state r (break_set b r.state))
  -- a run of its body is counted, begins and ends; one that is nested too deep is none
  pub counted : (n : ℕ) (r : Chained) → P r → P (with_state r (runs_left_to n r.state))
  pub index_shown :
      (g i : ℕ) (r : Chained) → eqb (kind_of_gate c g) 29 ≡ true → P r →
      P (with_state r (no_unions (set_output c r.state (output c (entry_of_loop c g) 1) (Int i))))
  pub body_left : (r q : Chained) → P r → P q → P (with_state q (unions_of r.state q.state))
  pub too_deep : (r : Chained) → P r → P (chained r.state r.left list_full r.calls)
  -- the Loop's runs are over
  pub loop_shown : (g done : ℕ) (aborted : Bool) (r : Chained) → eqb (kind_of_gate c g) 29 ≡ true → P r → P (with_state r (show_loop c g done aborted r.state))

module _ (c : Circuit) (P : Chained → Type 0) (keep : RunKeeps c P) where
  abbrev Keeps : (Chained → Chained) → Type 0
  Keeps f = (r : Chained) → P r → P (f r)

  abbrev BodyKeeps : Body → Type 0
  BodyKeeps body = (g i : ℕ) → eqb (kind_of_gate c g) 29 ≡ true → Keeps (body g i)

  module _ (body : Body) (runs : BodyKeeps body) where
    loop_on_keeps :
        (g : ℕ) (first step : ℤ) (more done : ℕ) (r : Chained) → eqb (kind_of_gate c g) 29 ≡ true → P r → P (loop_on c body g first step more done r).after
    unfolding loop_on looped
    loop_on_keeps g first step zero done r k p = p
    loop_on_keeps g first step (suc more) done r k p = go r.state.wires.runs_left (λ q h. loop_on_keeps g first step more (suc done) q k h)
      where
        on :
            (b : Bool) (q : Chained) → P q → ((q : Chained) → P q → P (loop_on c body g first step more (suc done) q).after) →
            P (elim b as (λ _. Looped) [ true ↦ loop_on c body g first step more (suc done) q | false ↦ looped q (suc done) false ]).after
        on true q h rec = rec q h
        on false q h rec = h

        go :
            (n : ℕ) → ((q : Chained) → P q → P (loop_on c body g first step more (suc done) q).after) →
            P (elim n as (λ _. Looped) [
              | zero ↦ looped r done true
              | suc n ↦
                  let q = body g (index first done step) (with_state r (runs_left_to n r.state)) in
                  elim (goes_on q) [ true ↦ loop_on c body g first step more (suc done) q | false ↦ looped q (suc done) false ]
            ]).after
        go zero rec = p
        go (suc n) rec =
            let q = body g (index first done step) (with_state r (runs_left_to n r.state)) in
            on (goes_on q) q (runs g (index first done step) k _ (keep.counted n r p)) rec

    run_loop_keeps : (g : ℕ) → eqb (kind_of_gate c g) 29 ≡ true → Keeps (run_loop c body g)
    unfolding run_loop loop_over chained
    run_loop_keeps g k r p =
        let q = loop_on_keeps g _ _ _ 0 _ k (keep.broken false _ (keep.inputs_read g r p)) in
        unless_both P _ _ (λ _. keep.loop_shown g _ _ _ k (keep.broken _ _ q)) q

    -- a call made, with the step that it takes
    operate_keeps : (inside : Bool) (i : ℕ) (s : State) (left : ℕ) (q t : Calls) → P (chained s (suc left) 0 q) → P (operate c body inside i (chained s left 0 t))
    unfolding operate
    operate_keeps inside i s left q t p =
        if_by P (eqb (kind_of_gate c (gate_at_input c i)) 29)
        (λ k. let z = run_loop_keeps (gate_at_input c i) k _ (keep.loop_step s left q t p) in unless_both P _ _ (λ _. keep.fired _ _ z) z)
        (λ _. keep.step inside i s left q t p)

    made_step : (inside : Bool) (t : Popped) (r : Chained) → r.stop ≡ 0 → P r → P (make_step (operate c body inside) t r)
    unfolding make_step chained
    made_step inside t r e p = go r.left (subst (λ n. P (chained r.state r.left n r.calls)) e p)
      where
        go : (n : ℕ) → P (chained r.state n 0 r.calls) →
            P (elim n as (λ _. Chained) [ zero ↦ chained r.state 0 runaway t.rest | suc left ↦ operate c body inside t.input (chained r.state left 0 t.rest) ])
        go zero p = keep.no_step r.state r.calls t.rest p
        go (suc left) p = operate_keeps inside t.input r.state left r.calls t.rest p

    run_calls_keeps : (inside : Bool) (under n : ℕ) → Keeps (run_calls (operate c body inside) inside under n)
    unfolding run_calls
    run_calls_keeps inside under zero r p = p
    run_calls_keeps inside under (suc n) r p = go (next inside under r) (λ t e. (next_running inside under r t e).0) (λ q h. run_calls_keeps inside under n q h)
      where
        go :
            (x : Option Popped) → ((t : Popped) → x ≡ some t → r.stop ≡ 0) → Keeps (run_calls (operate c body inside) inside under n) →
            P (elim x as (λ _. Chained) [ none ↦ r | some t ↦ run_calls (operate c body inside) inside under n (make_step (operate c body inside) t r) ])
        go none e rec = p
        go (some t) e rec = rec _ (made_step inside t r (e t refl) p)

    run_nested_keeps : (inside : Bool) (under : ℕ) → Keeps (run_nested c body inside under)
    unfolding run_nested
    run_nested_keeps inside under r p = run_calls_keeps inside under (suc r.left) r p

  run_body_keeps : (deep : ℕ) → BodyKeeps (run_body c deep)
  unfolding run_body begin_body
  run_body_keeps zero g i k r p = keep.too_deep r p
  run_body_keeps (suc deep) g i k r p =
      keep.body_left r _ p (run_nested_keeps (run_body c deep) (run_body_keeps deep) true _ _ (keep.fired _ _ (keep.index_shown g i r k p)))

  pub run_chain_kept : (left : ℕ) (q : Calls) (s : State) → P (chained s left 0 q) → P (run_chain c left q s)
  unfolding run_chain
  run_chain_kept left q s p = run_nested_keeps _ (run_body_keeps (length c.kinds)) false 0 _ p

-- ---- the steps that are left never rise

falling : (c : Circuit) (most : ℕ) → RunKeeps c (λ r. r.left ≤ most)
unfolding chained make_call fire_output
falling c most =
    record {
      step = λ inside i s left q t p. omega (arith, p);
      loop_step = λ s left q t p. omega (arith, p);
      no_step = λ s q t p. p;
      fired = λ o r p. p;
      inputs_read = λ g r p. p;
      broken = λ b r p. p;
      counted = λ n r p. p;
      index_shown = λ g i r k p. p;
      body_left = λ r q p z. z;
      too_deep = λ r p. p;
      loop_shown = λ g done aborted r k p. p;
    }

pub run_chain_falls : (c : Circuit) (left : ℕ) (q : Calls) (s : State) → (run_chain c left q s).left ≤ left
unfolding chained
run_chain_falls c left q s = run_chain_kept c _ (falling c left) left q s (omega arith)

pub operate_falls :
    (c : Circuit) (deep : ℕ) (inside : Bool) (i : ℕ) (s : State) (left : ℕ) (q : Calls) → (operate c (run_body c deep) inside i (chained s left 0 q)).left ≤ left
unfolding operate chained make_call fire_output
operate_falls c deep inside i s left q =
    let P : Chained → Type 0 = λ r. r.left ≤ left in
    if_by P (eqb (kind_of_gate c (gate_at_input c i)) 29)
    (λ k.
    let z = run_loop_keeps c P (falling c left) (run_body c deep) (run_body_keeps c P (falling c left) deep) (gate_at_input c i) k (chained s left 0 q) (omega arith) in
    unless_both P _ _ (λ _. z) z)
    (λ _. omega arith)

-- ---- facts about the state, by the steps that the tick may still make

-- what each change keeps; each step uses up one
pub record StepsSpend (c : Circuit) (P : ℕ → State → Type 0) : Type 0 where
  pub step : (inside : Bool) (n : ℕ) (s : State) (i : ℕ) → P (suc n) s → P n (exec_gate c inside s i).state
  pub loop_step : (n : ℕ) (s : State) → P (suc n) s → P n s
  -- a Loop begins
  pub inputs_read : (n : ℕ) (s : State) (g : ℕ) → P n s → P n (readied c s g 1 3)
  pub broken : (n : ℕ) (s : State) (b : Bool) → P n s → P n (break_set b s)
  -- a run of its body begins and ends
  pub counted : (n : ℕ) (s : State) (m : ℕ) → P n s → P n (runs_left_to m s)
  pub index_shown : (n : ℕ) (s : State) (g i : ℕ) → eqb (kind_of_gate c g) 29 ≡ true → P n s → P n (set_output c s (output c (entry_of_loop c g) 1) (Int i))
  pub body_entered : (n : ℕ) (s : State) → P n s → P n (no_unions s)
  pub body_left : (m n : ℕ) (s t : State) → P m s → P n t → P n (unions_of s t)
  -- the Loop's runs are over
  pub loop_shown : (n : ℕ) (s : State) (g done : ℕ) (aborted : Bool) → eqb (kind_of_gate c g) 29 ≡ true → P n s → P n (show_loop c g done aborted s)

module _ (c : Circuit) (P : ℕ → State → Type 0) (k : StepsSpend c P) where
  by_steps : RunKeeps c (λ r. P r.left r.state)
  unfolding chained make_call fire_output
  by_steps =
      record {
        step = λ inside i s left q t p. k.step inside left s i p;
        loop_step = λ s left q t p. k.loop_step left s p;
        no_step = λ s q t p. p;
        fired = λ o r p. p;
        inputs_read = λ g r p. k.inputs_read _ _ g p;
        broken = λ b r p. k.broken _ _ b p;
        counted = λ n r p. k.counted _ _ n p;
        index_shown = λ g i r e p. k.body_entered _ _ (k.index_shown _ _ g i e p);
        body_left = λ r q p z. k.body_left _ _ _ _ p z;
        too_deep = λ r p. p;
        loop_shown = λ g done aborted r e p. k.loop_shown _ _ g done aborted e p;
      }

  pub run_chain_spends : (left : ℕ) (q : Calls) (s : State) → P left s → P (run_chain c left q s).left (run_chain c left q s).state
  unfolding chained
  run_chain_spends left q s p = run_chain_kept c _ by_steps left q s p

-- a fact that goes by the state alone
abbrev pub StepsKeep : Circuit → (State → Type 0) → Type 0
StepsKeep c P = StepsSpend c (λ _. P)

pub run_chain_keeps : (c : Circuit) (P : State → Type 0) → StepsKeep c P → (left : ℕ) (q : Calls) (s : State) → P s → P (run_chain c left q s).state
run_chain_keeps c P k = run_chain_spends c (λ _. P) k

-- ---- a step, by kind

-- What a step of a gate of each kind keeps. A Reroute changes nothing, and so does a gate of any other kind.
pub record KindsKeep (c : Circuit) (P : State → Type 0) : Type 0 where
  pub Buffer : (s : State) (g : ℕ) → P s → P (exec-Buffer c s g).state
  pub Stopwatch : (s : State) (g p : ℕ) → kind_of_gate c g ≡ 15 → P s → P (exec-Stopwatch c s g p).state
  pub Queue : (s : State) (g : ℕ) (start : Value → Started) → P s → P (exec-Queue c s g start).state
  pub VarGet : (s : State) (g : ℕ) → kind_of_gate c g ≡ 18 → P s → P (exec-VarGet c s g).state
  pub VarSet : (inside : Bool) (s : State) (g : ℕ) → eqb (kind_of_gate c g) 19 ≡ true → P s → P (exec-VarSet c inside s g).state
  pub Branch : (s : State) (g : ℕ) → P s → P (exec-Branch c s g).state
  pub Union : (s : State) (g : ℕ) → P s → P (exec-Union c s g).state
  pub Toggle : (s : State) (g : ℕ) → kind_of_gate c g ≡ 22 → P s → P (exec-Toggle c s g).state
  pub Cycle : (s : State) (g p : ℕ) → kind_of_gate c g ≡ 23 → P s → P (exec-Cycle c s g p).state
  pub SendEvent : (s : State) (g : ℕ) → (eqb (kind_of_gate c g) 24 || eqb (kind_of_gate c g) 25) ≡ true → P s → P (exec-SendEvent c s g).state
  pub Break : (s : State) → P s → P (break_set true s)

pub exec_gate_keeps : (c : Circuit) (P : State → Type 0) → KindsKeep c P → (inside : Bool) (s : State) (i : ℕ) → P s → P (exec_gate c inside s i).state
unfolding exec_gate exec_kind fires_next ends exec-Break break_set
exec_gate_keeps c P keep inside s i z =
    let g = gate_at_input c i in
    let k = kind_of_gate c g in
    let S : Stepped → Type 0 = λ d. P d.state in
    if_both S _ z
    (if_both S _ (keep.Buffer s g z)
    (if_by S (eqb k 15) (λ e. keep.Stopwatch s g _ (eqb-true k 15 e) z) λ _.
    (if_both S _ (keep.Queue s g _ z)
    (if_both S _ (keep.Queue s g _ z)
    (if_by S (eqb k 18) (λ e. keep.VarGet s g (eqb-true k 18 e) z) λ _.
    (if_by S (eqb k 19) (λ e. keep.VarSet inside s g e z) λ _.
    (if_both S _ (keep.Branch s g z)
    (if_both S _ (keep.Union s g z)
    (if_by S (eqb k 22) (λ e. keep.Toggle s g (eqb-true k 22 e) z) λ _.
    (if_by S (eqb k 23) (λ e. keep.Cycle s g _ (eqb-true k 23 e) z) λ _.
    (if_by S (eqb k 24 || eqb k 25) (λ e. keep.SendEvent s g e z) λ _.
    (if_both S _ (keep.Break s z) z))))))))))))
