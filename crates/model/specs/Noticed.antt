-- What is in place at the start is noticed in tick 1 (document 02, K2): every watched input waits from the start, has its first check as tick 1 opens, and what this raises
-- begins in the main pass.
use Rattle.std.specs.Prelude.{◌≡◌, true, ◌&&◌, List, [], ◌∷◌, ◌++◌, map, ℕ, ◌≤◌, ◌<◌, eqb, length, get_or, replicate}
use Rattle.std.proofs.Math.Option.{none, some}
use Rattle.schedule.specs.Schedule.{Raise, Place, When, numbered, acts, tick}
use Rattle.schedule.specs.Promise.{total}
use Rattle.model.specs.declared.Value.{Value}
use Rattle.model.specs.Base.{if◌then◌otherwise◌, keep, from}
use Rattle.model.specs.Kinds.{ChangeDetector}
use Rattle.model.specs.Circuit.{Circuit, kind_of_gate, gate_at_input, watching}
use Rattle.model.specs.State.{form-Fire, State, Act, wires≔}
use Rattle.model.specs.Wires.{refresh_all}
use Rattle.model.specs.Settle.{Settled, calm, taken, when_checked, check, check_on}
use Rattle.model.specs.Opening.{start, Opened, pending, before_settling, open_tick}
use Rattle.model.specs.Run.{Allowed, machine, world_at_start}
use Rattle.model.specs.Order.{NumberedTick}

-- 1 for a Fire of gate g, 0 for any other act
unfoldable pub fire_of : ℕ → Act → ℕ
fire_of g a = if eqb a.gate g && eqb a.form form-Fire then 1 otherwise 0

module _ (c : Circuit) where
  -- At the start every watched input waits to be checked, in ascending gate and input, and none was read.
  pub record WaitsAtStart : Type 0 where
    pub queue : (start c).wires.to_check ≡ keep (watching c) (from 0 (length c.pins))
    pub last : (start c).wires.last ≡ replicate (length c.pins) none

  -- tick 1 of a run with a log of so many bytes, and what it gets
  abbrev pub tick_1 : ℕ → Allowed → NumberedTick c
  tick_1 room i = tick (numbered (machine c)) (world_at_start c room) i [] 0

  -- its opening
  abbrev pub opening_1 : Allowed → Opened
  opening_1 i = open_tick c (start c) i.given

  -- its settling, after n checks, or fewer if none waits any more
  abbrev pub settling_1 : Allowed → ℕ → Settled
  settling_1 i n = let s = (before_settling c (start c) i.given).state in check_on c n (calm (wires≔ s (refresh_all c s.wires)))

  -- how many watched inputs have a lower number than j: those of lower gates, and the lower ones of its own
  abbrev pub watched_below : ℕ → ℕ
  watched_below j = length (keep (watching c) (from 0 j))

  -- its settling when as many inputs have been checked
  abbrev pub before_check : Allowed → ℕ → Settled
  before_check i j = settling_1 i (watched_below j)

  -- then input j is taken off the queue, on which these wait behind it, and checked
  abbrev pub checked_first : Allowed → ℕ → List ℕ → Settled
  checked_first i j rest = let s = (before_check i j).state in check c (when_checked s.wires j) (wires≔ s (taken s.wires j rest)) j

  -- The first check of input j.
  pub record FirstCheck (room : ℕ) (i : Allowed) (j : ℕ) : Type 0 where
    -- its turn comes as tick 1 opens, when the watched inputs below it have been checked: ascending gate and input
    pub rest : List ℕ
    pub turn : (before_check i j).state.wires.to_check ≡ j ∷ rest
    -- it was never read before, so whatever it reads, nothing included, counts as a change (`as_change`)
    pub unread : get_or (before_check i j).state.wires.last j none ≡ none
    -- what the check raised stands among what the opening raised, behind what was raised before it, and is for the main pass
    pub after : List (Raise State Act Place)
    pub raised :
        (opening_1 i).raises
        ≡ ((before_settling c (start c) i.given).raises ++ pending (before_check i j).raises) ++ (pending (checked_first i j rest).raises ++ after)
    -- and begins there, unless the tick is stopped: whatever number each act counts for, it comes to no more than what the main pass of tick 1 began
    pub begins :
        (tick_1 room i).stop ≡ 0 → (m : Act → ℕ) →
        total m (map (λ (r : Raise State Act When). r.act) (checked_first i j rest).raises) ≤ total m (acts (numbered (machine c)) (tick_1 room i).main)
    -- when tick 1 has opened, the input has been read
    pub read : (v : Value) × (get_or (opening_1 i).state.wires.last j none ≡ some v)

  -- every watched input had it, and none is left to be checked in a pass
  pub record Noticed (room : ℕ) (i : Allowed) : Type 0 where
    pub each : (j : ℕ) → j < length c.pins → watching c j ≡ true → FirstCheck room i j
    pub none_left : (opening_1 i).state.wires.to_check ≡ []

  -- K2 of a ChangeDetector with input j: it begins in the main pass of tick 1, whatever it reads
  abbrev pub BeginsFirst : ℕ → Allowed → ℕ → Type 0
  BeginsFirst room i j =
      kind_of_gate c (gate_at_input c j) ≡ ChangeDetector → (tick_1 room i).stop ≡ 0 →
      1 ≤ total (fire_of (gate_at_input c j)) (acts (numbered (machine c)) (tick_1 room i).main)

  -- the start, and whatever tick 1 gets
  pub record StartNoticed : Type 0 where
    pub at_start : WaitsAtStart
    pub in_tick_1 : (room : ℕ) (i : Allowed) → Noticed room i
