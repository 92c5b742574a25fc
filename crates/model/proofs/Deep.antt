-- No body is too deep (`none_too_deep`). Calls stay in their body, so a run of a body enters only Loops that lie in it (`Above`), and Loops nest no deeper than
-- there are gates (`loops_shallow`). So two depths of nesting run the Loops alike that a chain enters, and with them the chain (`nested_alike`).
use mathlib.Core.Path.{◌≡◌, refl, sym, ap, subst, ◌∙◌}
use mathlib.Core.Logic.{◌⊎◌, inl, inr}
use mathlib.Core.Bool.{Bool, true, false, not, ◌||◌}
use mathlib.Core.List.{List, [], ◌∷◌, ◌++◌, map}
use mathlib.Core.Option.{Option, none, some}
use Prim.Native.Nat.{ℕ, zero, suc, ◌+◌, ◌≤◌, ◌<◌}
use native.Mathlib.Omega.{arith}
use lib.Dec.{ltb, eqb}
use lib.IntN.{ℤ}
use lib.ListN.{length}
use borrow.Author.Tests.{eqb-true, le-leb, lt-leb, ltb-true}
use Rattle.model.specs.Base.{if◌then◌otherwise◌, keep, all}
use Rattle.model.specs.Kinds.{kind_at, kinds_opened}
use Rattle.model.specs.Circuit.{Call, Circuit, circuit, kind_of_gate, body_of_gate, entry_of_loop, output, gate_at_input, gate_at_output, calls_of}
use Rattle.model.specs.State.{State}
use Rattle.model.specs.Exec.{Stepped, fires_next, ends, exec-Buffer, exec-Stopwatch, exec-Queue, exec-VarGet, exec-VarSet, exec-Branch, exec-Union, exec-Toggle, exec-Cycle, exec-SendEvent, exec-Break, exec_kind, exec_gate}
use Rattle.model.specs.Chain.{Calls, Popped, pop_fork, pop, Chained, chained, with_state, unless_stopped, next, make_step, run_calls, push_calls, fire_output, make_call, runaway}
use Rattle.model.specs.Loops.{index, unions_of, runs_left_to, Looped, looped, goes_on, Body, loop_on, loop_over, run_loop, operate, run_nested, begin_body, run_body, run_chain}
use Rattle.model.specs.Questions.{question_1, question_19}
use Rattle.model.proofs.Lists.{if_both, if_by, if_alike, both_true, either_true}
use Rattle.model.proofs.Laid.{Laid, laid}
use Rattle.model.proofs.Running.{unless_both, next_running}
use Rattle.model.proofs.Chains.{nested_ended}
use Rattle.model.proofs.Nesting.{Shallow, loops_shallow, loop_entered, calls_stay}

-- ---- a Loop, for two ways to run its body

-- what holds of the stack, where nothing has stopped
abbrev Kept : (List ℕ → Type 0) → Chained → Type 0
Kept P q = q.stop ≡ 0 → P q.calls.stack

-- two runs come to the same, and keep it
abbrev Alike : (List ℕ → Type 0) → Chained → Chained → Type 0
Alike P q p = (q ≡ p) × Kept P q

-- so do two ways to run the body of Loop g
abbrev BodyAlike : (List ℕ → Type 0) → Body → Body → ℕ → Type 0
BodyAlike P x y g = (i : ℕ) (r : Chained) → P r.calls.stack → Alike P (x g i r) (y g i r)

module _ (c : Circuit) (P : List ℕ → Type 0) (x y : Body) (g : ℕ) (alike : BodyAlike P x y g) where
  abbrev LoopsAlike : Looped → Looped → Type 0
  LoopsAlike l m = (l ≡ m) × Kept P l.after

  loop_on_alike :
      (first step : ℤ) (more done : ℕ) (r : Chained) → P r.calls.stack →
      LoopsAlike (loop_on c x g first step more done r) (loop_on c y g first step more done r)
  unfolding loop_on looped goes_on chained
  loop_on_alike first step zero done r p = (refl, λ _. p)
  loop_on_alike first step (suc more) done r p = go r.state.wires.runs_left (λ q h. loop_on_alike first step more (suc done) q h)
    where
      on : Body → Bool → Chained → Looped
      on body b q = elim b [ true ↦ loop_on c body g first step more (suc done) q | false ↦ looped q (suc done) false ]

      ran : Body → ℕ → Chained
      ran body n = body g (index first done step) (with_state r (runs_left_to n r.state))

      turn : Body → ℕ → Looped
      turn body n = elim n [ zero ↦ looped r done true | suc n ↦ on body (goes_on (ran body n)) (ran body n) ]

      Rest : Type 0
      Rest = (q : Chained) → P q.calls.stack → LoopsAlike (on x true q) (on y true q)

      after : (b : Bool) (q : Chained) → (b ≡ true → q.stop ≡ 0) → Kept P q → Rest → LoopsAlike (on x b q) (on y b q)
      after true q e k rec = rec q (k (e refl))
      after false q e k rec = (refl, k)

      go : (n : ℕ) → Rest → LoopsAlike (turn x n) (turn y n)
      go zero rec = (refl, λ _. p)
      go (suc n) rec =
          let k = alike (index first done step) (with_state r (runs_left_to n r.state)) p in
          let t = after (goes_on (ran x n)) (ran x n) (λ e. eqb-true _ 0 (both_true _ _ e).0) k.1 rec in
          (t.0 ∙ ap (λ q. on y (goes_on q) q) k.0, t.1)

  run_loop_alike : (r : Chained) → P r.calls.stack → Alike P (run_loop c x g r) (run_loop c y g r)
  unfolding run_loop loop_over chained
  run_loop_alike r p = let l = loop_on_alike _ _ _ 0 _ p in (ap (loop_over c _ g) l.0, unless_both (Kept P) _ _ (λ _. l.1) l.1)

-- ---- what a step fires is an output of its gate

unfoldable pub Own : Circuit → ℕ → Option ℕ → Type 0
Own c g none = Unit {0}
Own c g (some o) = (p : ℕ) × (p < length (kind_at (kind_of_gate c g)).outs) × (o ≡ output c g p)

module _ (c : Circuit) where
  output_own : (g k p : ℕ) → ltb p (length (kind_at k).outs) ≡ true → eqb (kind_of_gate c g) k ≡ true → Own c g (some (output c g p))
  unfolding Own
  output_own g k p l e = (p, rw (eqb-true _ k e) (ltb-true p _ l), refl)

  pub exec_gate_own : (inside : Bool) (s : State) (i : ℕ) → Own c (gate_at_input c i) (exec_gate c inside s i).next
  unfolding Own exec_gate exec_kind fires_next ends exec-Buffer exec-Stopwatch exec-Queue exec-VarGet exec-VarSet exec-Branch exec-Union exec-Toggle exec-Cycle exec-SendEvent exec-Break kinds_opened
  exec_gate_own inside s i =
      if_by S (eqb k 2) (output_own g 2 0 refl) λ _.
      if_both S _ (if_both S _ tt tt)
      (if_both S _ tt
      (if_both S _ tt
      (if_both S _ tt
      (if_by S (eqb k 18) (output_own g 18 0 refl) λ _.
      if_by S (eqb k 19) (output_own g 19 0 refl) λ _.
      if_by S (eqb k 20) (λ e. if_both F _ (output_own g 20 0 refl e) (output_own g 20 1 refl e)) λ _.
      if_by S (eqb k 21) (λ e. if_both S _ tt (output_own g 21 0 refl e)) λ _.
      if_by S (eqb k 22) (output_own g 22 0 refl) λ _.
      if_by S (eqb k 23) (λ e. if_both F _ (output_own g 23 1 refl e) (output_own g 23 0 refl e)) λ _.
      if_by S (eqb k 24 || eqb k 25) (λ e. sent (either_true (eqb k 24) (eqb k 25) e)) λ _.
      if_by S (eqb k 31) (output_own g 31 0 refl) λ _. tt))))
    where
      g : ℕ
      g = gate_at_input c i

      k : ℕ
      k = kind_of_gate c g

      S : Stepped → Type 0
      S d = Own c g d.next

      F : ℕ → Type 0
      F p = Own c g (some (output c g p))

      sent : (eqb k 24 ≡ true) ⊎ (eqb k 25 ≡ true) → F 0
      sent (inl e) = output_own g 24 0 refl e
      sent (inr e) = output_own g 25 0 refl e

  -- ---- a run of calls, for two ways to run the bodies of the Loops that it enters

  -- P holds of its stack, and In of each call that it makes
  module _ (x y : Body) (inside : Bool) (under : ℕ) (P : List ℕ → Type 0) (In : ℕ → Type 0)
      (taken : (st fs : List ℕ) (t : Popped) → pop inside under st fs ≡ some t → P st → In t.input × P t.rest.stack)
      (found : (i : ℕ) → In i → (o : Option ℕ) → Own c (gate_at_input c i) o → (q : Calls) → P q.stack → P (push_calls c o q).stack)
      (alike : (i : ℕ) → In i → eqb (kind_of_gate c (gate_at_input c i)) 29 ≡ true → BodyAlike P x y (gate_at_input c i)) where
    operate_alike : (i : ℕ) → In i → (r : Chained) → P r.calls.stack → Alike P (operate c x inside i r) (operate c y inside i r)
    unfolding operate chained make_call fire_output kinds_opened
    operate_alike i b r p =
        let g = gate_at_input c i in
        if_alike (Alike P) (eqb (kind_of_gate c g) 29) _ refl
        (λ e.
        let l = run_loop_alike c P x y g (alike i b e) r p in (
          ap (unless_stopped (fire_output c (output c g 0))) l.0,
          unless_both (Kept P) _ _ (λ z _. found i b _ (output_own g 29 0 refl e) _ (l.1 z)) l.1,
        ))
        (λ _. (refl, λ _. found i b _ (exec_gate_own inside r.state i) r.calls p))

    step_alike : (t : Popped) (r : Chained) → In t.input → P t.rest.stack → Alike P (make_step (operate c x inside) t r) (make_step (operate c y inside) t r)
    unfolding make_step chained
    step_alike t r b p = go r.left
      where
        step : Body → ℕ → Chained
        step body n = elim n [ zero ↦ chained r.state 0 runaway t.rest | suc left ↦ operate c body inside t.input (chained r.state left 0 t.rest) ]

        go : (n : ℕ) → Alike P (step x n) (step y n)
        go zero = (refl, λ _. p)
        go (suc left) = operate_alike t.input b (chained r.state left 0 t.rest) p

    abbrev rounds : Body → ℕ → Chained → Chained
    rounds body n r = run_calls (operate c body inside) inside under n r

    calls_alike : (n : ℕ) (r : Chained) → Kept P r → Alike P (rounds x n r) (rounds y n r)
    unfolding run_calls
    calls_alike zero r k = (refl, k)
    calls_alike (suc n) r k = go (next inside under r) (next_running inside under r) (λ q h. calls_alike n q h)
      where
        on : Body → Option Popped → Chained
        on body z = elim z [ none ↦ r | some t ↦ rounds body n (make_step (operate c body inside) t r) ]

        go :
            (z : Option Popped) → ((t : Popped) → z ≡ some t → (r.stop ≡ 0) × (pop inside under r.calls.stack r.calls.forks ≡ some t)) →
            ((q : Chained) → Kept P q → Alike P (rounds x n q) (rounds y n q)) → Alike P (on x z) (on y z)
        go none e rec = (refl, k)
        go (some t) e rec =
            let b = taken r.calls.stack r.calls.forks t (e t refl).1 (k (e t refl).0) in
            let m = step_alike t r b.0 b.1 in
            let q = rec _ m.1 in
            (q.0 ∙ ap (rounds y n) m.0, q.1)

    nested_alike : (r : Chained) → Kept P r → Alike P (run_nested c x inside under r) (run_nested c y inside under r)
    unfolding run_nested
    nested_alike r k = calls_alike (suc r.left) r k

-- ---- the calls of a run of a body

-- a call to a gate of body b
abbrev Inside : Circuit → ℕ → ℕ → Type 0
Inside c b i = body_of_gate c (gate_at_input c i) ≡ b

-- above the calls that waited around it, only such calls
data Above (c : Circuit) (b : ℕ) (around : List ℕ) : List ℕ → Type 0 where
  no_more : Above c b around around
  one_more : {i : ℕ} {st : List ℕ} → Inside c b i → Above c b around st → Above c b around (i ∷ st)

pop_no_more : (st fs : List ℕ) → pop true (length st) st fs ≡ none
unfolding pop pop_fork if◌then◌otherwise◌
pop_no_more [] fs = refl
pop_no_more (i ∷ st) fs = rw (lt-leb (suc (length st)) (length st) (omega arith), pop)

module _ (c : Circuit) (b : ℕ) (around : List ℕ) where
  above_most : {st : List ℕ} → Above c b around st → length around ≤ length st
  above_most no_more = omega arith
  above_most (one_more e a) = omega (arith, above_most a)

  pop_one_more : (i : ℕ) (st fs : List ℕ) → Above c b around st → pop true (length around) (i ∷ st) fs ≡ some (record { input = i; rest = record { stack = st; forks = fs } })
  unfolding pop if◌then◌otherwise◌
  pop_one_more i st fs a = rw (le-leb (length around) (length st) (above_most a), pop)

  pop_above : (st fs : List ℕ) (t : Popped) → pop true (length around) st fs ≡ some t → Above c b around st → Inside c b t.input × Above c b around t.rest.stack
  pop_above _ fs t h no_more = let e = sym (pop_no_more around fs) ∙ h in let z : ◌≡◌ {A = ℕ} 0 1 = cc in absurd (omega arith)
  pop_above _ fs t h (one_more {i} {st} e a) =
      let k = sym (pop_one_more i st fs a) ∙ h in
      let z : record { input = i; rest = record { stack = st; forks = fs } } ≡ t = cc in
      subst (λ (t : Popped). Inside c b t.input × Above c b around t.rest.stack) z (e, a)

  -- where none of them is left, those around are
  pop_around : (st fs : List ℕ) → pop true (length around) st fs ≡ none → Above c b around st → st ≡ around
  pop_around _ fs h no_more = refl
  pop_around _ fs h (one_more {i} {st} e a) = let k = sym (pop_one_more i st fs a) ∙ h in cc

  push_above :
      (ks : List Call) (st : List ℕ) → all (λ (k : Call). eqb b (body_of_gate c (gate_at_input c k.to))) ks ≡ true → Above c b around st →
      Above c b around (map (λ (k : Call). k.to) (keep (λ (k : Call). not k.remote) ks) ++ st)
  unfolding all keep
  push_above [] st h a = a
  push_above (k ∷ ks) st h a =
      let t = both_true _ _ h in
      let r = push_above ks st t.1 a in
      if_both (λ (ks : List Call). Above c b around (map (λ (k : Call). k.to) ks ++ st)) _ (one_more (sym (eqb-true _ _ t.0)) r) r

  found_above :
      Laid c → question_19 c ≡ true → (g : ℕ) → body_of_gate c g ≡ b → (o : Option ℕ) → Own c g o → (q : Calls) → Above c b around q.stack →
      Above c b around (push_calls c o q).stack
  unfolding push_calls Own
  found_above lay asked g e none w q a = a
  found_above lay asked g e (some o) w q a =
      let at : output c g w.0 ≡ o = sym w.2 in
      let n : body_of_gate c (gate_at_output c o) ≡ b = ap (λ (o : ℕ). body_of_gate c (gate_at_output c o)) w.2 ∙ ap (body_of_gate c) (lay.output_of g w.0 w.1) ∙ e in
      push_above (calls_of c o) q.stack (rw n at (calls_stay c asked o (subst (λ (o : ℕ). o < length c.outputs) at (lay.output_in g w.0 w.1)))) a

-- ---- two depths of nesting

module _ (c : Circuit) (lay : Laid c) (asked : question_19 c ≡ true)
    (entered : (g : ℕ) → eqb (kind_of_gate c g) 29 ≡ true → (kind_of_gate c (entry_of_loop c g) ≡ 30) × (body_of_gate c (entry_of_loop c g) ≡ suc g)) where
  -- the Loops of body b are run alike, and leave the calls that waited around them
  bodies_alike :
      (deep more b : ℕ) → deep ≤ more → Shallow c deep b → (g : ℕ) → eqb (kind_of_gate c g) 29 ≡ true → body_of_gate c g ≡ b →
      (i : ℕ) (r : Chained) → Alike (λ st. st ≡ r.calls.stack) (run_body c deep g i r) (run_body c more g i r)
  unfolding run_body begin_body fire_output chained kinds_opened
  bodies_alike zero more b l h g e d i r = absurd (h g e d)
  bodies_alike (suc deep) zero b l h g e d i r = absurd (omega (arith, l))
  bodies_alike (suc deep) (suc more) b l h g e d i r =
      let around = r.calls.stack in
      let entry = entry_of_loop c g in
      let w = entered g e in
      let a = nested_alike c (run_body c deep) (run_body c more) true (length around) (Above c (suc g) around) (Inside c (suc g)) (pop_above c (suc g) around)
      (λ j. found_above c (suc g) around lay asked (gate_at_input c j))
      (λ j m k n q p.
      let z = bodies_alike deep more (suc g) (omega (arith, l)) (h g e d) (gate_at_input c j) k m n q in
      (z.0, λ s. subst (Above c (suc g) around) (sym (z.1 s)) p))
      (begin_body c g i r) (λ _. found_above c (suc g) around lay asked entry w.1 _ (output_own c entry 30 0 refl (rw w.0)) r.calls no_more) in (
        ap (λ (q : Chained). with_state q (unions_of r.state q.state)) a.0,
        λ s. pop_around c (suc g) around _ _ (nested_ended c deep true (length around) (begin_body c g i r) s) (a.1 s),
      )

  -- and so are those of all bodies
  chain_alike : (more : ℕ) (r : Chained) → run_nested c (run_body c (length c.kinds)) false 0 r ≡ run_nested c (run_body c (length c.kinds + more)) false 0 r
  chain_alike more r =
      let n = length c.kinds in
      (nested_alike c (run_body c n) (run_body c (n + more)) false 0 (λ _. Unit {0}) (λ _. Unit {0}) (λ _ _ _ _ _. (tt, tt)) (λ _ _ _ _ _ _. tt)
      (λ j _ k i q _. ((bodies_alike n (n + more) _ (omega arith) (loops_shallow c asked _) (gate_at_input c j) k refl i q).0, λ _. tt)) r (λ _. tt)).0

-- with bodies nested as deep as there are gates, and any number deeper
pub none_too_deep :
    (bytes ws : List ℕ) → question_1 bytes ws ≡ true → question_19 (circuit ws) ≡ true →
    let c = circuit ws in
    (left : ℕ) (q : Calls) (s : State) (more : ℕ) → run_nested c (run_body c (length c.kinds + more)) false 0 (chained s left 0 q) ≡ run_chain c left q s
unfolding run_chain
none_too_deep bytes ws a b left q s more = sym (chain_alike (circuit ws) (laid ws) b (loop_entered bytes ws a b) more (chained s left 0 q))
