-- A chain of calls and its forks: calls in listed order, depth first; remote calls wait for the chain's end. What entering a gate does stands in Exec, and of a
-- Loop in Loops, where chains are run.
use Rattle.std.specs.Prelude.{ℕ, zero, suc, Bool, true, false, not, ◌&&◌, List, [], ◌∷◌, ◌++◌, map, leb, eqb, length}
use Rattle.std.proofs.Math.Option.{Option, none, some}
use Rattle.schedule.specs.Schedule.{list_full}
use Rattle.model.specs.Base.{if◌then◌otherwise◌, keep}
use Rattle.model.specs.Circuit.{Circuit, calls_of}
use Rattle.model.specs.State.{State}
use Rattle.model.specs.Exec.{exec_gate}

-- the chain stack, of all nested runs together, and the forks, each
abbrev pub most_calls : ℕ
most_calls = 256

-- a tick would make one step more than it may
abbrev pub runaway : ℕ
runaway = 11

-- The inputs to enter: the chain stack, calls found and not yet made, the next one first; and the forks, remote calls that wait. A call under way is on neither.
pub record Calls : Type 0 where
  pub stack : List ℕ
  pub forks : List ℕ

-- no call waits
abbrev pub no_calls : Calls
no_calls = record { stack = []; forks = [] }

-- the limits of both
unfoldable pub fit : Calls → Bool
fit q = leb (length q.stack) most_calls && leb (length q.forks) most_calls

-- ---- the next call to make

-- the call, and those that are left
pub record Popped : Type 0 where
  pub input : ℕ
  pub rest : Calls

-- the fork that waits longest, which is a chain of its own; forks wait while a body is running (`inside`)
unfoldable pub pop_fork : Bool → List ℕ → List ℕ → Option Popped
pop_fork true st fs = none
pop_fork false st [] = none
pop_fork false st (i ∷ fs) = some (record { input = i; rest = record { stack = st; forks = fs } })

-- from the stack, as long as more wait there than the `under` that waited when the run began, else from the forks
unfoldable pub pop : Bool → ℕ → List ℕ → List ℕ → Option Popped
pop inside under [] fs = pop_fork inside [] fs
pop inside under (i ∷ st) fs = if leb under (length st) then some (record { input = i; rest = record { stack = st; forks = fs } }) otherwise pop_fork inside (i ∷ st) fs

-- ---- a run of calls

-- What running calls comes to, and goes on from: the steps that the tick may still make, the stop or 0, and the calls that are left.
pub record Chained : Type 0 where
  pub state : State
  pub left : ℕ
  pub stop : ℕ
  pub calls : Calls

-- the same, by its parts
unfoldable pub chained : State → ℕ → ℕ → Calls → Chained
chained s left stop q = record { state = s; left = left; stop = stop; calls = q }

-- another state
abbrev pub with_state : Chained → State → Chained
with_state r s = chained s r.left r.stop r.calls

-- what follows, if nothing has stopped
unfoldable pub unless_stopped : (Chained → Chained) → Chained → Chained
unless_stopped f r = elim (eqb r.stop 0) [ true ↦ f r | false ↦ r ]

-- the next call, if nothing has stopped
unfoldable pub next : Bool → ℕ → Chained → Option Popped
next inside under r = elim (eqb r.stop 0) [ true ↦ pop inside under r.calls.stack r.calls.forks | false ↦ none ]

-- A call is made, by `operate`, which enters its input: that is a step, and one more than the tick may make stops it.
unfoldable pub make_step : (ℕ → Chained → Chained) → Popped → Chained → Chained
make_step operate t r = elim r.left [ zero ↦ chained r.state 0 runaway t.rest | suc left ↦ operate t.input (chained r.state left 0 t.rest) ]

-- Calls are made, one after the other, with what they call. Each is a step, so that as many rounds as steps are left, and one, suffice.
unfoldable pub run_calls : (ℕ → Chained → Chained) → Bool → ℕ → ℕ → Chained → Chained
run_calls operate inside under zero r = r
run_calls operate inside under (suc n) r = elim (next inside under r) [ none ↦ r | some t ↦ run_calls operate inside under n (make_step operate t r) ]

module _ (c : Circuit) where
  -- the calls of an output: remote ones behind the forks, the others before the stack, so that the first listed is made first
  unfoldable pub push_calls : Option ℕ → Calls → Calls
  push_calls none q = q
  push_calls (some o) q =
      record {
        stack = map (λ k. k.to) (keep (λ k. not k.remote) (calls_of c o)) ++ q.stack;
        forks = q.forks ++ map (λ k. k.to) (keep (λ k. k.remote) (calls_of c o));
      }

  -- output o is fired: its calls wait, if they fit
  unfoldable pub fire_output : ℕ → Chained → Chained
  fire_output o r = let q = push_calls (some o) r.calls in chained r.state r.left (if fit q then 0 otherwise list_full) q

  -- the gate that has input i, which is no Loop, makes its step, and what it fires is called
  unfoldable pub make_call : Bool → ℕ → Chained → Chained
  make_call inside i r =
      let d = exec_gate c inside r.state i in
      let q = push_calls d.next r.calls in
      chained d.state r.left (if fit q && not d.full then 0 otherwise list_full) q

  unfoldable pub chain_opened : ℕ
  unfolding fit pop_fork pop chained unless_stopped next make_step run_calls push_calls fire_output make_call
  chain_opened = 0
