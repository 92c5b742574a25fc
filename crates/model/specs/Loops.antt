-- Counted loops, and the chains that run them (document 02, K5). A Loop in a chain runs its body as often as it counts; a run of the body is a chain again, in
-- which the calls that waited when it began go on waiting.
use Rattle.std.specs.Prelude.{ℕ, zero, suc, ◌-◌, ◌%◌, ◌^◌, Bool, true, false, not, ◌&&◌, map, eqb, ℤ, pos, negsuc, ◌+ℤ◌, ◌*ℤ◌, length}
use Rattle.schedule.specs.Schedule.{list_full}
use Rattle.model.specs.declared.Value.TheVariants.{Int, Bool as Truth}
use Rattle.model.specs.Base.{if◌then◌otherwise◌}
use Rattle.model.specs.Value.{as_int}
use Rattle.model.specs.Kinds.{Loop}
use Rattle.model.specs.Circuit.{Circuit, kind_of_gate, entry_of_loop, output, gate_at_input}
use Rattle.model.specs.State.{State, unions_passed≔, breaking≔, runs_left≔, wires≔}
use Rattle.model.specs.Delays.{nat}
use Rattle.model.specs.Exec.{set_output, readied, read}
use Rattle.model.specs.Chain.{Calls, Chained, chained, with_state, unless_stopped, run_calls, fire_output, make_call}

-- ---- the index

-- the word that a whole number wraps to at 64 bits
unfoldable pub wrapped : ℤ → ℕ
wrapped (pos n) = n % 2 ^ 64
wrapped (negsuc n) = 2 ^ 64 - suc (n % 2 ^ 64)

-- the first plus done times step, wrapping at 64 bits
unfoldable pub index : ℤ → ℕ → ℤ → ℕ
index first done step = wrapped (first +ℤ pos done *ℤ step)

-- ---- the state of loops

-- no Union has passed in the run of a body that begins
unfoldable pub no_unions : State → State
no_unions s = wires≔ s (unions_passed≔ s.wires (map (λ _. false) s.wires.unions_passed))

-- those have that had in s
unfoldable pub unions_of : State → State → State
unions_of s t = wires≔ t (unions_passed≔ t.wires s.wires.unions_passed)

-- so many runs of bodies are left to this tick
unfoldable pub runs_left_to : ℕ → State → State
runs_left_to n s = wires≔ s (runs_left≔ s.wires n)

-- a Break was asked for, or not
unfoldable pub break_set : Bool → State → State
break_set b s = wires≔ s (breaking≔ s.wires b)

-- What a Loop's runs of its body come to: how many were begun, and whether the tick's limit of runs ended them.
pub record Looped : Type 0 where
  pub after : Chained
  pub done : ℕ
  pub aborted : Bool

-- the same, by its parts
unfoldable pub looped : Chained → ℕ → Bool → Looped
looped r done aborted = record { after = r; done = done; aborted = aborted }

-- whether a Loop goes on after a run of its body: nothing stopped, and no Break ran
unfoldable pub goes_on : Chained → Bool
goes_on r = eqb r.stop 0 && not r.state.wires.breaking

-- what running the body of a Loop once does, by the Loop's gate and the index
abbrev pub Body : Type 0
Body = ℕ → ℕ → Chained → Chained

module _ (c : Circuit) where
  -- ---- a Loop, whatever its body does

  -- A Loop that has `more` runs to come, and `done` behind it: up to a stop, or a Break, or the tick's limit of runs.
  unfoldable pub loop_on : Body → ℕ → ℤ → ℤ → ℕ → ℕ → Chained → Looped
  loop_on body g first step zero done r = looped r done false
  loop_on body g first step (suc more) done r =
      elim r.state.wires.runs_left [
        | zero ↦ looped r done true
        | suc n ↦
            let q = body g (index first done step) (with_state r (runs_left_to n r.state)) in
            elim (goes_on q) [ true ↦ loop_on body g first step more (suc done) q | false ↦ looped q (suc done) false ]
      ]

  -- its outputs are set when its runs are over, in their order
  unfoldable pub show_loop : ℕ → ℕ → Bool → State → State
  show_loop g done aborted s =
      set_output c (set_output c (set_output c s (output c g 1) (Int done)) (output c g 2) (Truth aborted)) (output c g 3) (Truth false)

  -- a Break is for the loop whose body is running: a loop begins without one, and leaves the one before it as it was
  unfoldable pub loop_over : Bool → ℕ → Looped → Chained
  loop_over broke g l = unless_stopped (λ r. with_state r (show_loop g l.done l.aborted (break_set broke r.state))) l.after

  -- Count, FirstIndex and Step are read once, before the first run: nothing is 0, 0 and 1, and a Count below 0 is 0
  unfoldable pub run_loop : Body → ℕ → Chained → Chained
  run_loop body g r =
      let s = readied c r.state g 1 3 in
      let first = as_int (pos 0) (read c s g 2) in
      let step = as_int (pos 1) (read c s g 3) in
      loop_over s.wires.breaking g (loop_on body g first step (nat (as_int (pos 0) (read c s g 1))) 0 (with_state r (break_set false s)))

  -- ---- chains, with the Loops that they run

  -- input i is entered: a Loop fires Completed when its runs are over, aborted or not
  unfoldable pub operate : Body → Bool → ℕ → Chained → Chained
  operate body inside i r =
      let g = gate_at_input c i in
      if eqb (kind_of_gate c g) Loop then unless_stopped (fire_output c (output c g 0)) (run_loop body g r) otherwise make_call c inside i r

  -- calls are made, inside a body or outside, all but the `under` that waited when this run began
  unfoldable pub run_nested : Body → Bool → ℕ → Chained → Chained
  run_nested body inside under r = run_calls (operate body inside) inside under (suc r.left) r

  -- a run of the body of Loop g begins: its entry shows the index, no Union has passed, Body is fired
  unfoldable pub begin_body : ℕ → ℕ → Chained → Chained
  begin_body g i r =
      let s = set_output c r.state (output c (entry_of_loop c g) 1) (Int i) in
      fire_output c (output c (entry_of_loop c g) 0) (with_state r (no_unions s))

  -- A run of a body, in which bodies nest so deep at the most: the calls that wait before it wait on, and after it those Unions have passed that had before.
  unfoldable pub run_body : ℕ → Body
  run_body zero g i r = chained r.state r.left list_full r.calls
  run_body (suc deep) g i r =
      let q = run_nested (λ h j x. run_body deep h j x) true (length r.calls.stack) (begin_body g i r) in with_state q (unions_of r.state q.state)

  -- A chain and its forks, by the steps that the tick may still make. Bodies form no ring (question 19), so they nest no deeper than there are gates, and none
  -- is too deep.
  unfoldable pub run_chain : ℕ → Calls → State → Chained
  run_chain left q s = run_nested (run_body (length c.kinds)) false 0 (chained s left 0 q)

  unfoldable pub loops_opened : ℕ
  unfolding wrapped index no_unions unions_of runs_left_to break_set looped goes_on loop_on show_loop loop_over run_loop operate run_nested begin_body run_body run_chain
  loops_opened = 0
