-- Runs of calls: their bound on rounds never shows, since each call takes a step; and a chain that ends without a stop has made all its calls, its stack and its
-- forks are empty.
use mathlib.Core.Path.{◌≡◌, refl, sym, ap, ◌∙◌}
use mathlib.Core.Bool.{Bool, true, false}
use mathlib.Core.List.{List, [], ◌∷◌}
use mathlib.Core.Option.{Option, none, some}
use Prim.Native.Nat.{ℕ, zero, suc, ◌+◌, ◌-◌, ◌≤◌, ◌<◌}
use native.Mathlib.Omega.{arith}
use lib.Dec.{leb, eqb}
use lib.ListN.{length}
use borrow.Author.Tests.{eqb-true, eq-eqb, ne_eqb, le-leb}
use Rattle.model.specs.Base.{if◌then◌otherwise◌}
use Rattle.model.specs.Circuit.{Circuit}
use Rattle.model.specs.State.{State, Act}
use Rattle.model.specs.Chain.{Calls, no_calls, Popped, pop_fork, pop, Chained, chained, next, make_step, run_calls, runaway}
use Rattle.model.specs.Loops.{operate, run_nested, run_body, run_chain}
use Rattle.model.specs.Unit.{World, run_unit, finish_chain}
use Rattle.model.proofs.Lists.{steady}
use Rattle.model.proofs.Running.{operate_falls}

-- ---- rounds

-- nothing follows a stop
next_stopped : (inside : Bool) (under : ℕ) (r : Chained) → (r.stop ≡ 0 → ⊥) → next inside under r ≡ none
unfolding next
next_stopped inside under r h = let e = ne_eqb r.stop 0 h in rw (e, next)

-- entering an input leaves no more steps than there were
abbrev pub Falls : (ℕ → Chained → Chained) → Type 0
Falls operate = (i : ℕ) (s : State) (left : ℕ) (q : Calls) → (operate i (chained s left 0 q)).left ≤ left

-- a call that was made leaves the run stopped, or with fewer steps
made_falls :
    (operate : ℕ → Chained → Chained) → Falls operate → (t : Popped) (r : Chained) (P : Chained → Type 0) →
    ((q : Chained) → (q.stop ≡ 0 → ⊥) → P q) → ((q : Chained) → q.left < r.left → P q) → P (make_step operate t r)
unfolding make_step chained
made_falls operate falls t r P stopped fewer = go r.left fewer
  where
    go :
        (n : ℕ) → ((q : Chained) → q.left < n → P q) →
        P (elim n as (λ _. Chained) [ zero ↦ chained r.state 0 runaway t.rest | suc left ↦ operate t.input (chained r.state left 0 t.rest) ])
    go zero fewer = stopped _ (λ e. omega (arith, e))
    go (suc left) fewer = fewer _ (omega (arith, falls t.input r.state left t.rest))

module _ (operate : ℕ → Chained → Chained) (falls : Falls operate) (inside : Bool) (under : ℕ) where
  abbrev rounds : ℕ → Chained → Chained
  rounds n r = run_calls operate inside under n r

  stopped_stays : (n : ℕ) (r : Chained) → (r.stop ≡ 0 → ⊥) → rounds n r ≡ r
  unfolding run_calls
  stopped_stays zero r h = refl
  stopped_stays (suc n) r h = let e = next_stopped inside under r h in rw (e, run_calls)

  -- one round more, where there are more than steps are left
  enough : (n : ℕ) (r : Chained) → r.left < n → rounds (suc n) r ≡ rounds n r
  unfolding run_calls
  enough zero r l = absurd (omega (arith, l))
  enough (suc n) r l =
      go (next inside under r)
      λ t. made_falls operate falls t r (λ q. rounds (suc n) q ≡ rounds n q) (λ q h. stopped_stays (suc n) q h ∙ sym (stopped_stays n q h)) (λ q k. enough n q (omega (arith, l, k)))
    where
      go :
          (x : Option Popped) → ((t : Popped) → rounds (suc n) (make_step operate t r) ≡ rounds n (make_step operate t r)) →
          ◌≡◌ {A = Chained} (elim x [ none ↦ r | some t ↦ rounds (suc n) (make_step operate t r) ]) (elim x [ none ↦ r | some t ↦ rounds n (make_step operate t r) ])
      go none rec = refl
      go (some t) rec = rec t

  -- as many as steps are left, and one, and any number more
  pub rounds_suffice : (r : Chained) (more : ℕ) → rounds (suc r.left + more) r ≡ rounds (suc r.left) r
  rounds_suffice r more = steady (λ n. rounds n r) (suc r.left) (λ n l. enough n r (omega (arith, l))) more

  -- ---- so a run goes call by call, and no round shows

  pub none_waits : (r : Chained) → next inside under r ≡ none → rounds (suc r.left) r ≡ r
  unfolding run_calls
  none_waits r e = rw (e, run_calls)

  pub one_waits : (r : Chained) (t : Popped) → next inside under r ≡ some t → rounds (suc r.left) r ≡ rounds (suc (make_step operate t r).left) (make_step operate t r)
  unfolding run_calls
  one_waits r t e =
      let first : rounds (suc r.left) r ≡ rounds r.left (make_step operate t r) = rw (e, run_calls) in
      first
      ∙ made_falls operate falls t r (λ q. rounds r.left q ≡ rounds (suc q.left) q)
      (λ q h. stopped_stays r.left q h ∙ sym (stopped_stays (suc q.left) q h))
      (λ q l. let z : suc q.left + (r.left - suc q.left) ≡ r.left = omega (arith, l) in ap (λ n. rounds n q) (sym z) ∙ rounds_suffice q (r.left - suc q.left))

  -- ---- at its end no call waits

  -- where it has not stopped
  abbrev Ended : Chained → Type 0
  Ended r = r.stop ≡ 0 → next inside under r ≡ none

  calls_ended : (n : ℕ) (r : Chained) → r.left < n → Ended (rounds n r)
  unfolding run_calls
  calls_ended zero r l = absurd (omega (arith, l))
  calls_ended (suc n) r l =
      go (next inside under r) refl
      λ t. made_falls operate falls t r (λ q. Ended (rounds n q)) (λ q h. rw (stopped_stays n q h) (λ e. absurd (h e))) (λ q k. calls_ended n q (omega (arith, l, k)))
    where
      go :
          (x : Option Popped) → next inside under r ≡ x → ((t : Popped) → Ended (rounds n (make_step operate t r))) →
          Ended (elim x [ none ↦ r | some t ↦ rounds n (make_step operate t r) ])
      go none e rec = λ _. e
      go (some t) e rec = rec t

-- ---- a run of calls, where bodies nest so deep at the most

module _ (c : Circuit) (deep : ℕ) (inside : Bool) (under : ℕ) where
  abbrev nested : Chained → Chained
  nested r = run_nested c (run_body c deep) inside under r

  abbrev entered : ℕ → Chained → Chained
  entered i r = operate c (run_body c deep) inside i r

  -- nothing follows a stop
  pub nested_stopped : (r : Chained) → (r.stop ≡ 0 → ⊥) → nested r ≡ r
  unfolding run_nested
  nested_stopped r h = stopped_stays entered (operate_falls c deep inside) inside under (suc r.left) r h

  -- at its end, without a stop, none of its calls waits
  pub nested_ended : (r : Chained) → (nested r).stop ≡ 0 → pop inside under (nested r).calls.stack (nested r).calls.forks ≡ none
  unfolding run_nested next
  nested_ended r e =
      let z = eq-eqb (nested r).stop 0 e in
      rw (z, next) at (calls_ended entered (operate_falls c deep inside) inside under (suc r.left) r (omega arith) e)

  module _ (s : State) (q : Calls) where
    next_is : (x : Option Popped) → pop inside under q.stack q.forks ≡ x → (left : ℕ) → next inside under (chained s left 0 q) ≡ x
    unfolding next chained
    next_is x e left = e

    -- no call waits
    pub nested_none : (left : ℕ) → pop inside under q.stack q.forks ≡ none → nested (chained s left 0 q) ≡ chained s left 0 q
    unfolding run_nested chained
    nested_none left e = none_waits entered (operate_falls c deep inside) inside under (chained s left 0 q) (next_is none e left)

    module _ (t : Popped) (e : pop inside under q.stack q.forks ≡ some t) where
      -- one waits, and no step is left
      pub nested_over : nested (chained s 0 0 q) ≡ chained s 0 runaway t.rest
      unfolding run_nested make_step chained
      nested_over =
          one_waits entered (operate_falls c deep inside) inside under (chained s 0 0 q) t (next_is (some t) e 0)
          ∙ stopped_stays entered (operate_falls c deep inside) inside under 1 (chained s 0 runaway t.rest) (λ z. omega (arith, z))

      -- one waits, and is made
      pub nested_on : (left : ℕ) → nested (chained s (suc left) 0 q) ≡ nested (entered t.input (chained s left 0 t.rest))
      unfolding run_nested make_step chained
      nested_on left = one_waits entered (operate_falls c deep inside) inside under (chained s (suc left) 0 q) t (next_is (some t) e (suc left))

-- ---- a chain

-- no call is left where none is to be made, outside bodies
pop_none : (q : Calls) → pop false 0 q.stack q.forks ≡ none → q ≡ no_calls
unfolding pop pop_fork if◌then◌otherwise◌
pop_none q h = go q.stack q.forks refl refl h
  where
    go : (st fs : List ℕ) → q.stack ≡ st → q.forks ≡ fs → pop false 0 st fs ≡ none → q ≡ no_calls
    go [] [] e f h = λ j. record { stack = e j; forks = f j }
    go [] (i ∷ fs) e f h = cc
    go (i ∷ st) fs e f h = let z : leb 0 (length st) ≡ true = le-leb 0 (length st) (omega arith) in let k = rw (z, pop) at h in cc

pub chain_ended : (c : Circuit) (left : ℕ) (q : Calls) (s : State) → (run_chain c left q s).stop ≡ 0 → (run_chain c left q s).calls ≡ no_calls
unfolding run_chain
chain_ended c left q s e = pop_none (run_chain c left q s).calls (nested_ended c (length c.kinds) false 0 (chained s left 0 q) e)

-- so of a unit
pub unit_ended : (c : Circuit) (w : World) (a : Act) → (run_unit c w a).stop ≡ 0 → (run_unit c w a).calls ≡ no_calls
unfolding run_unit
unit_ended c w a h = chain_ended c w.left _ _ h

-- what follows a chain stops where the chain did
pub finish_stop : (c : Circuit) (w : World) (r : Chained) → (finish_chain c w r).stop ≡ r.stop
unfolding finish_chain if◌then◌otherwise◌
finish_stop c w r = go (eqb r.stop 0) refl
  where
    go : (b : Bool) → eqb r.stop 0 ≡ b → (finish_chain c w r).stop ≡ r.stop
    go true e = rw (e, finish_chain) (sym (eqb-true r.stop 0 e))
    go false e = rw (e, finish_chain)
