-- Each gate weighs one more than all that it passes on to: then a chain without Loops makes no more steps than its calls weigh, the one not made included.
use mathlib.Core.Path.{◌≡◌, refl, ap, ◌∙◌}
use mathlib.Core.Bool.{Bool, true, false, not, ◌&&◌}
use mathlib.Core.List.{List, [], ◌∷◌, ◌++◌, map}
use mathlib.Core.Option.{Option, none, some}
use Prim.Native.Nat.{ℕ, zero, suc, ◌+◌, ◌≤◌}
use native.Mathlib.Omega.{arith}
use lib.Dec.{eqb}
use lib.ListN.{length}
use borrow.Author.Tests.{le-leb}
use Rattle.model.specs.Base.{if◌then◌otherwise◌, keep, sum}
use Rattle.model.specs.Circuit.{Circuit, Call, calls_of, kind_of_gate, gate_at_input}
use Rattle.model.specs.State.{State}
use Rattle.model.specs.Exec.{exec_gate}
use Rattle.model.specs.Chain.{Calls, Popped, pop_fork, pop, Chained, chained, fit, next, make_step, run_calls, push_calls, make_call, runaway}
use Rattle.model.specs.Loops.{Body, operate, run_nested, run_body, run_chain}
use Rattle.model.proofs.Lists.{if_both, if_by, clash}
use Rattle.model.proofs.Running.{next_running}

-- the step that was not made
abbrev pub not_made : ℕ → ℕ
not_made stop = if eqb stop runaway then 1 otherwise 0

pub at_most_one : (stop : ℕ) → not_made stop ≤ 1
at_most_one stop = if_both (λ (n : ℕ). n ≤ 1) (eqb stop runaway) (omega arith) (omega arith)

module _ (w : ℕ → ℕ) where
  -- what some inputs weigh
  abbrev pub weights : List ℕ → ℕ
  weights is = sum (map w is)

  weights_append : (xs ys : List ℕ) → weights (xs ++ ys) ≡ weights xs + weights ys
  unfolding sum
  weights_append [] ys = omega arith
  weights_append (x ∷ xs) ys = omega (arith, weights_append xs ys)

  -- the calls found and the forks that wait
  unfoldable pub weigh : Calls → ℕ
  weigh q = weights q.stack + weights q.forks

  -- the calls of an output, remote or not
  abbrev pub calls_weigh : List Call → ℕ
  calls_weigh ks = weights (map (λ k. k.to) ks)

  split : (ks : List Call) → calls_weigh (keep (λ k. not k.remote) ks) + calls_weigh (keep (λ k. k.remote) ks) ≡ calls_weigh ks
  unfolding sum keep if◌then◌otherwise◌
  split [] = refl
  split (k ∷ ks) = go k.remote (split ks)
    where
      rest : List Call
      rest = keep (λ k. not k.remote) ks

      forks : List Call
      forks = keep (λ k. k.remote) ks

      go : (b : Bool) → calls_weigh rest + calls_weigh forks ≡ calls_weigh ks →
          calls_weigh (if not b then k ∷ rest otherwise rest) + calls_weigh (if b then k ∷ forks otherwise forks) ≡ w k.to + calls_weigh ks
      go true e = omega (arith, e)
      go false e = omega (arith, e)

  module _ (c : Circuit) where
    pub push_weighs : (o : ℕ) (q : Calls) → weigh (push_calls c (some o) q) ≡ calls_weigh (calls_of c o) + weigh q
    unfolding weigh push_calls
    push_weighs o q =
        let a = map (λ (k : Call). k.to) (keep (λ k. not k.remote) (calls_of c o)) in
        let b = map (λ (k : Call). k.to) (keep (λ k. k.remote) (calls_of c o)) in
        omega (arith, weights_append a q.stack, weights_append q.forks b, split (calls_of c o))

  -- what the next call weighs, and what is left then
  taken : Option Popped → ℕ
  taken none = 0
  taken (some t) = w t.input + weigh t.rest

  pop_first : (i : ℕ) (st fs : List ℕ) → taken (pop false 0 (i ∷ st) fs) ≡ w i + (weights st + weights fs)
  unfolding weigh taken pop if◌then◌otherwise◌
  pop_first i st fs = rw (le-leb 0 (length st) (omega arith), pop)

  taken_is : (st fs : List ℕ) → weights st + weights fs ≡ taken (pop false 0 st fs)
  unfolding weigh taken pop pop_fork sum
  taken_is [] [] = refl
  taken_is [] (i ∷ fs) = omega arith
  taken_is (i ∷ st) fs = omega (arith, pop_first i st fs)

  pop_weighs : (q : Calls) (t : Popped) → pop false 0 q.stack q.forks ≡ some t → weigh q ≡ w t.input + weigh t.rest
  unfolding weigh taken
  pop_weighs q t h = taken_is q.stack q.forks ∙ ap taken h

  -- Each gate weighs one at least, and more than what it passes on to; none is a Loop.
  pub record Outweighs (c : Circuit) : Type 0 where
    pub one : (i : ℕ) → 1 ≤ w i
    pub more : (s : State) (i o : ℕ) → (exec_gate c false s i).next ≡ some o → suc (calls_weigh (calls_of c o)) ≤ w i
    pub no_loop : (g : ℕ) → eqb (kind_of_gate c g) 29 ≡ false

  -- the steps made from `start` on, and what the calls that are left weigh, are no more than all the calls weighed
  abbrev pub Spent : ℕ → ℕ → Chained → Type 0
  Spent start total r = start + weigh r.calls + not_made r.stop ≤ r.left + total

  module _ (c : Circuit) (out : Outweighs c) (start total : ℕ) where
    abbrev SoFar : Chained → Type 0
    SoFar = Spent start total

    stepped : (s : State) (i : ℕ) (q : Calls) → suc (weigh (push_calls c (exec_gate c false s i).next q)) ≤ w i + weigh q
    unfolding push_calls
    stepped s i q = go (exec_gate c false s i).next refl
      where
        go : (x : Option ℕ) → (exec_gate c false s i).next ≡ x → suc (weigh (push_calls c x q)) ≤ w i + weigh q
        go none e = omega (arith, out.one i)
        go (some o) e = omega (arith, out.more s i o e, push_weighs c o q)

    called : (i : ℕ) (s : State) (left : ℕ) (t : Calls) → start + (w i + weigh t) ≤ suc left + total → SoFar (make_call c false i (chained s left 0 t))
    unfolding make_call chained if◌then◌otherwise◌
    called i s left t h = if_both (λ (n : ℕ). start + weigh q + not_made n ≤ left + total) (fit q && not (exec_gate c false s i).full) k k
      where
        q : Calls
        q = push_calls c (exec_gate c false s i).next t

        k : start + weigh q + 0 ≤ left + total
        k = omega (arith, h, stepped s i t)

    module _ (body : Body) where
      operated : (i : ℕ) (s : State) (left : ℕ) (t : Calls) → start + (w i + weigh t) ≤ suc left + total → SoFar (operate c body false i (chained s left 0 t))
      unfolding operate
      operated i s left t h =
          if_by SoFar (eqb (kind_of_gate c (gate_at_input c i)) 29) (λ e. clash e (out.no_loop (gate_at_input c i))) (λ _. called i s left t h)

      made_step : (t : Popped) (r : Chained) → r.stop ≡ 0 → pop false 0 r.calls.stack r.calls.forks ≡ some t → SoFar r → SoFar (make_step (operate c body false) t r)
      unfolding make_step chained if◌then◌otherwise◌
      made_step t r e p h = go r.left (omega (arith, h, pop_weighs r.calls t p))
        where
          go : (n : ℕ) → start + (w t.input + weigh t.rest) ≤ n + total →
              SoFar (elim n as (λ _. Chained) [ zero ↦ chained r.state 0 runaway t.rest | suc left ↦ operate c body false t.input (chained r.state left 0 t.rest) ])
          go zero h = omega (arith, h, out.one t.input)
          go (suc left) h = operated t.input r.state left t.rest h

      calls_spent : (n : ℕ) (r : Chained) → SoFar r → SoFar (run_calls (operate c body false) false 0 n r)
      unfolding run_calls
      calls_spent zero r h = h
      calls_spent (suc n) r h = go (next false 0 r) (next_running false 0 r) (λ q k. calls_spent n q k)
        where
          go :
              (x : Option Popped) → ((t : Popped) → x ≡ some t → (r.stop ≡ 0) × (pop false 0 r.calls.stack r.calls.forks ≡ some t)) →
              ((q : Chained) → SoFar q → SoFar (run_calls (operate c body false) false 0 n q)) →
              SoFar (elim x as (λ _. Chained) [ none ↦ r | some t ↦ run_calls (operate c body false) false 0 n (make_step (operate c body false) t r) ])
          go none e rec = h
          go (some t) e rec = let p = e t refl in rec _ (made_step t r p.0 p.1 h)

  pub chain_spent : (c : Circuit) → Outweighs c → (left : ℕ) (q : Calls) (s : State) → Spent left (weigh q) (run_chain c left q s)
  unfolding run_chain run_nested chained if◌then◌otherwise◌
  chain_spent c out left q s = calls_spent c out left (weigh q) (run_body c _) (suc left) (chained s left 0 q) (omega arith)
