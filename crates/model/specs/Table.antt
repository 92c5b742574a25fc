-- Document 01's played examples, those marked * among them, what looks right but is wrong, and examples of document 02's requests, as one table with one theorem: the prover
-- computes each row from bytes. The answers were taken from the Rust, and read against the documents.
use Rattle.std.specs.Prelude.{ℕ, suc, ◌+◌, ◌*◌, ◌^◌, ◌-◌, ◌≡◌, refl, Bool, true, false, List, [], ◌∷◌, map, ℤ, pos, negsuc, replicate}
use Rattle.words.specs.Words.{bytes}
use Rattle.model.specs.declared.Value.TheVariants.{Nothing, Int, Bool as Truth}
use Rattle.model.specs.Base.{joined, from}
use Rattle.model.specs.Value.{narrow, narrow_changes, one_point_zero}
use Rattle.model.specs.Kinds.{Select, Reroute, DeltaTime, ServerUptime, Var, ChangeDetector, Edge, Change, EdgeExec, BufferTicks, BufferTicksExec, BufferSeconds, BufferSecondsExec, Clock, Stopwatch, QueueInTicks, QueueInSeconds, VarGet, VarSet, Branch, Union, Toggle, Cycle, SendEvent, SendEventGlobal, EventCustom, EventCustomGlobal, WorldEvent, Loop, LoopEntry, Break}
use Rattle.model.specs.Circuit.{rank_size, circuit}
use Rattle.model.specs.Script.{script}
use Rattle.model.specs.Chain.{Chained}
use Rattle.model.specs.Loops.{index, runs_left_to, run_chain}
use Rattle.model.specs.Opening.{start}
use Rattle.model.specs.Run.{Played, allowed, ticks_of, seen}
use Rattle.model.specs.Answer.{Answer, refused, played, answer, model_opened}

-- the arrays of a circuit and of a script, one behind the other, and what the call answers that is lent a log and three areas of 65,536 bytes each
pub record Row : Type 0 where
  pub circuit : List (List ℕ)
  pub script : List (List ℕ)
  pub wanted : Answer

-- the same, by its parts
unfoldable pub row : List (List ℕ) → List (List ℕ) → Answer → Row
row c s a = record { circuit = c; script = s; wanted = a }

-- records, the stop, and the ticks done
unfoldable pub plays : List (List ℕ) → ℕ → ℕ → Answer
plays records stop ticks = played (record { log = joined records; stop = stop; ticks = ticks })

-- what the definition answers
unfoldable pub answered : Row → Answer
answered r = answer (record { values = 65536; units = 65536; delays = 65536 }) 65536 (bytes (joined r.circuit)) (bytes (joined r.script))

-- ---- words of circuits and scripts

-- -1 and -3
abbrev pub -1 : ℕ
-1 = 2 ^ 64 - 1

abbrev -3 : ℕ
-3 = 2 ^ 64 - 3

-- 0.1, 0.25, 0.5 and 0.75, as f64 bits
abbrev tenth : ℕ
tenth = 0x3FB999999999999A

abbrev pub quarter : ℕ
quarter = 0x3FD0000000000000

abbrev pub half : ℕ
half = 0x3FE0000000000000

abbrev three_quarters : ℕ
three_quarters = 0x3FE8000000000000

-- the next number above 3,600
abbrev above_3600 : ℕ
above_3600 = 0x40AC200000000001

-- of a gate: rank 0, in the body of Loop g
abbrev pub body_of : ℕ → ℕ
body_of g = rank_size * suc g

-- ---- circuits that more than one row plays

-- a WorldEvent calls a Toggle
abbrev switch : List (List ℕ)
switch = (2 ∷ 1 ∷ 1 ∷ 1 ∷ []) ∷ (1 ∷ []) ∷ (7 ∷ []) ∷ (WorldEvent ∷ Toggle ∷ []) ∷ (0 ∷ 1 ∷ []) ∷ (-1 ∷ []) ∷ (0 ∷ []) ∷ (0 ∷ []) ∷ (0 ∷ []) ∷ []

-- one tick, of 0.25 seconds, in which it brings Int 7
abbrev pressed_once : List (List ℕ)
pressed_once = (1 ∷ 1 ∷ []) ∷ (quarter ∷ []) ∷ (1 ∷ []) ∷ (0 ∷ []) ∷ (1 ∷ []) ∷ []

-- A Clock (rank 4) calls a Toggle, whose output is read by an EdgeExec, a ChangeDetector, a Toggle's pin (ranks 4, 3, 2) and two more EdgeExecs (5, 6); the first of
-- these calls the second Toggle.
abbrev carries : List (List ℕ)
carries =
    ((7 ∷ 1 ∷ 9 ∷ 2 ∷ [])
    ∷ (2 ∷ []) ∷ (quarter ∷ [])
    ∷ (Clock ∷ Toggle ∷ EdgeExec ∷ ChangeDetector ∷ Toggle ∷ EdgeExec ∷ EdgeExec ∷ []) ∷ (4 ∷ 0 ∷ 4 ∷ 3 ∷ 2 ∷ 5 ∷ 6 ∷ [])
    ∷ (-1 ∷ -1 ∷ -1 ∷ -1 ∷ 2 ∷ 2 ∷ 2 ∷ 2 ∷ 2 ∷ []) ∷ (0 ∷ 0 ∷ 1 ∷ 0 ∷ 0 ∷ 0 ∷ 0 ∷ 0 ∷ 0 ∷ [])
    ∷ (0 ∷ 8 ∷ []) ∷ (6 ∷ 12 ∷ [])
    ∷ [])

-- ---- the numbers of the kinds, as the documents count them

pub kinds_numbered :
    from 1 31
    ≡ Select ∷ Reroute ∷ DeltaTime ∷ ServerUptime ∷ Var ∷ ChangeDetector ∷ Edge ∷ Change ∷ EdgeExec ∷ BufferTicks ∷ BufferTicksExec ∷ BufferSeconds ∷ BufferSecondsExec
    ∷ Clock ∷ Stopwatch ∷ QueueInTicks ∷ QueueInSeconds ∷ VarGet ∷ VarSet ∷ Branch ∷ Union ∷ Toggle ∷ Cycle ∷ SendEvent ∷ SendEventGlobal ∷ EventCustom ∷ EventCustomGlobal
    ∷ WorldEvent ∷ Loop ∷ LoopEntry ∷ Break ∷ []
unfolding from
kinds_numbered = refl

-- ---- the rows; document 01's examples are marked *
unfoldable pub rows : List Row
rows =
    -- * A WorldEvent calls a Toggle.
    row
    switch
    pressed_once
    (plays
    ((1 ∷ 1 ∷ 1 ∷ 0 ∷ 0 ∷ 0 ∷ 0 ∷ 0 ∷ 2 ∷ 0 ∷ 1 ∷ 0 ∷ 3 ∷ 0 ∷ 7 ∷ 0 ∷ 1 ∷ [])
    ∷ []) 0 1)
    -- * T = 0: an empty log.
    ∷ row
    switch
    ((0 ∷ 0 ∷ []) ∷ [] ∷ [] ∷ [] ∷ [] ∷ [])
    (plays [] 0 0)
    -- * In a main pass a Clock of rank 4 raises two EdgeExecs: the one of rank 4 is carried, and begins first in tick 2's late pass; the one of rank 5 begins in this tick.
    ∷ row
    ((4 ∷ 1 ∷ 6 ∷ 1 ∷ [])
    ∷ (2 ∷ []) ∷ (quarter ∷ [])
    ∷ (Clock ∷ Toggle ∷ EdgeExec ∷ EdgeExec ∷ []) ∷ (4 ∷ 0 ∷ 4 ∷ 5 ∷ [])
    ∷ (-1 ∷ -1 ∷ -1 ∷ -1 ∷ 2 ∷ 2 ∷ []) ∷ (0 ∷ 0 ∷ 1 ∷ 0 ∷ 0 ∷ 0 ∷ [])
    ∷ (0 ∷ []) ∷ (6 ∷ [])
    ∷ [])
    ((2 ∷ 0 ∷ []) ∷ (quarter ∷ 0 ∷ []) ∷ (0 ∷ 0 ∷ []) ∷ [] ∷ [] ∷ [])
    (plays
    ((1 ∷ 1 ∷ 0 ∷ 2 ∷ 1 ∷ 0 ∷ 0 ∷ 0 ∷ 3 ∷ 0 ∷ 32 ∷ 2 ∷ 32 ∷ 0 ∷ 0 ∷ 3 ∷ 0 ∷ 0 ∷ 0 ∷ 0 ∷ 0 ∷ 0 ∷ 1 ∷ 0 ∷ 0 ∷ 0 ∷ 0 ∷ [])
    ∷ (2 ∷ 0 ∷ 1 ∷ 0 ∷ 0 ∷ 0 ∷ 0 ∷ 2 ∷ 32 ∷ 0 ∷ 0 ∷ 3 ∷ 0 ∷ 0 ∷ 0 ∷ 0 ∷ 0 ∷ 0 ∷ 1 ∷ 0 ∷ 0 ∷ 0 ∷ 0 ∷ [])
    ∷ []) 0 2)
    -- * A pulse raised in tick 5 is true in records 5 and 6, and false in 7.
    ∷ row
    ((2 ∷ 1 ∷ 1 ∷ 0 ∷ []) ∷ (1 ∷ []) ∷ (1 ∷ []) ∷ (WorldEvent ∷ Edge ∷ []) ∷ (0 ∷ 0 ∷ []) ∷ (1 ∷ []) ∷ (0 ∷ []) ∷ [] ∷ [] ∷ [])
    ((7 ∷ 1 ∷ []) ∷ (0 ∷ 0 ∷ 0 ∷ 0 ∷ 0 ∷ 0 ∷ 0 ∷ []) ∷ (0 ∷ 0 ∷ 0 ∷ 0 ∷ 1 ∷ 0 ∷ 0 ∷ []) ∷ (0 ∷ []) ∷ (1 ∷ []) ∷ [])
    (plays
    ((1 ∷ 0 ∷ 0 ∷ 0 ∷ 0 ∷ 0 ∷ 0 ∷ 0 ∷ 0 ∷ 0 ∷ 0 ∷ 0 ∷ 0 ∷ 0 ∷ 0 ∷ [])
    ∷ (2 ∷ 0 ∷ 0 ∷ 0 ∷ 0 ∷ 0 ∷ 0 ∷ 0 ∷ 0 ∷ 0 ∷ 0 ∷ 0 ∷ 0 ∷ 0 ∷ 0 ∷ [])
    ∷ (3 ∷ 0 ∷ 0 ∷ 0 ∷ 0 ∷ 0 ∷ 0 ∷ 0 ∷ 0 ∷ 0 ∷ 0 ∷ 0 ∷ 0 ∷ 0 ∷ 0 ∷ [])
    ∷ (4 ∷ 0 ∷ 0 ∷ 0 ∷ 0 ∷ 0 ∷ 0 ∷ 0 ∷ 0 ∷ 0 ∷ 0 ∷ 0 ∷ 0 ∷ 0 ∷ 0 ∷ [])
    ∷ (5 ∷ 0 ∷ 1 ∷ 0 ∷ 0 ∷ 0 ∷ 0 ∷ 0 ∷ 2 ∷ 0 ∷ 1 ∷ 3 ∷ 0 ∷ 0 ∷ 1 ∷ 1 ∷ 0 ∷ [])
    ∷ (6 ∷ 0 ∷ 0 ∷ 0 ∷ 0 ∷ 0 ∷ 0 ∷ 0 ∷ 1 ∷ 3 ∷ 0 ∷ 0 ∷ 1 ∷ 1 ∷ 0 ∷ [])
    ∷ (7 ∷ 0 ∷ 0 ∷ 0 ∷ 0 ∷ 0 ∷ 0 ∷ 0 ∷ 1 ∷ 3 ∷ 0 ∷ 0 ∷ 1 ∷ 0 ∷ 0 ∷ [])
    ∷ []) 0 7)
    -- * Interval 1.0, ticks of 0.25: a Clock fires in ticks 4 and 8.
    ∷ row
    ((1 ∷ 1 ∷ 3 ∷ 0 ∷ []) ∷ (2 ∷ []) ∷ (one_point_zero ∷ []) ∷ (Clock ∷ []) ∷ (0 ∷ []) ∷ (-1 ∷ -1 ∷ -1 ∷ []) ∷ (0 ∷ 0 ∷ 1 ∷ []) ∷ [] ∷ [] ∷ [])
    ((8 ∷ 0 ∷ []) ∷ replicate 8 quarter ∷ replicate 8 0 ∷ [] ∷ [] ∷ [])
    (plays
    ((1 ∷ 0 ∷ 0 ∷ 0 ∷ 0 ∷ 0 ∷ 0 ∷ 0 ∷ 0 ∷ [])
    ∷ (2 ∷ 0 ∷ 0 ∷ 0 ∷ 0 ∷ 0 ∷ 0 ∷ 0 ∷ 0 ∷ [])
    ∷ (3 ∷ 0 ∷ 0 ∷ 0 ∷ 0 ∷ 0 ∷ 0 ∷ 0 ∷ 0 ∷ [])
    ∷ (4 ∷ 0 ∷ 0 ∷ 1 ∷ 0 ∷ 0 ∷ 0 ∷ 0 ∷ 0 ∷ 0 ∷ 0 ∷ [])
    ∷ (5 ∷ 0 ∷ 0 ∷ 0 ∷ 0 ∷ 0 ∷ 0 ∷ 0 ∷ 0 ∷ [])
    ∷ (6 ∷ 0 ∷ 0 ∷ 0 ∷ 0 ∷ 0 ∷ 0 ∷ 0 ∷ 0 ∷ [])
    ∷ (7 ∷ 0 ∷ 0 ∷ 0 ∷ 0 ∷ 0 ∷ 0 ∷ 0 ∷ 0 ∷ [])
    ∷ (8 ∷ 0 ∷ 0 ∷ 1 ∷ 0 ∷ 0 ∷ 0 ∷ 0 ∷ 0 ∷ 0 ∷ 0 ∷ [])
    ∷ []) 0 8)
    -- A Clock loses the excess: interval 1.0, ticks of 0.75, so it fires in ticks 2 and 4, and not in 3.
    ∷ row
    ((1 ∷ 1 ∷ 3 ∷ 0 ∷ []) ∷ (2 ∷ []) ∷ (one_point_zero ∷ []) ∷ (Clock ∷ []) ∷ (0 ∷ []) ∷ (-1 ∷ -1 ∷ -1 ∷ []) ∷ (0 ∷ 0 ∷ 1 ∷ []) ∷ [] ∷ [] ∷ [])
    ((4 ∷ 0 ∷ []) ∷ (three_quarters ∷ three_quarters ∷ three_quarters ∷ three_quarters ∷ []) ∷ (0 ∷ 0 ∷ 0 ∷ 0 ∷ []) ∷ [] ∷ [] ∷ [])
    (plays
    ((1 ∷ 0 ∷ 0 ∷ 0 ∷ 0 ∷ 0 ∷ 0 ∷ 0 ∷ 0 ∷ [])
    ∷ (2 ∷ 0 ∷ 0 ∷ 1 ∷ 0 ∷ 0 ∷ 0 ∷ 0 ∷ 0 ∷ 0 ∷ 0 ∷ [])
    ∷ (3 ∷ 0 ∷ 0 ∷ 0 ∷ 0 ∷ 0 ∷ 0 ∷ 0 ∷ 0 ∷ [])
    ∷ (4 ∷ 0 ∷ 0 ∷ 1 ∷ 0 ∷ 0 ∷ 0 ∷ 0 ∷ 0 ∷ 0 ∷ 0 ∷ [])
    ∷ []) 0 4)
    -- * Two Cycles, Count 3, each from nothing: up gives 1, down gives 2.
    ∷ row
    ((3 ∷ 1 ∷ 6 ∷ 2 ∷ [])
    ∷ (1 ∷ []) ∷ (3 ∷ [])
    ∷ (WorldEvent ∷ Cycle ∷ Cycle ∷ []) ∷ (0 ∷ 0 ∷ 0 ∷ [])
    ∷ (-1 ∷ -1 ∷ -1 ∷ -1 ∷ -1 ∷ -1 ∷ []) ∷ (0 ∷ 0 ∷ 1 ∷ 0 ∷ 0 ∷ 1 ∷ [])
    ∷ (0 ∷ 0 ∷ []) ∷ (0 ∷ 8 ∷ [])
    ∷ [])
    ((1 ∷ 1 ∷ []) ∷ (0 ∷ []) ∷ (1 ∷ []) ∷ (0 ∷ []) ∷ (0 ∷ []) ∷ [])
    (plays
    ((1 ∷ 2 ∷ 1 ∷ 0 ∷ 0 ∷ 0 ∷ 0 ∷ 0 ∷ 2 ∷ 0 ∷ 0 ∷ 0 ∷ 0 ∷ 1 ∷ 0 ∷ 0 ∷ 1 ∷ 0 ∷ 0 ∷ 0 ∷ 0 ∷ 1 ∷ 0 ∷ 0 ∷ 2 ∷ [])
    ∷ []) 0 1)
    -- A Cycle's Count shrinks from 1,000,000 to 7 while 999,999 is shown: up gives 1. ExecDown fires the second output, Exec the first: a Toggle behind each.
    ∷ row
    ((6 ∷ 2 ∷ 5 ∷ 4 ∷ [])
    ∷ (1 ∷ 1 ∷ []) ∷ (1000000 ∷ 7 ∷ [])
    ∷ (WorldEvent ∷ WorldEvent ∷ WorldEvent ∷ Cycle ∷ Toggle ∷ Toggle ∷ []) ∷ (0 ∷ 0 ∷ 0 ∷ 0 ∷ 0 ∷ 0 ∷ [])
    ∷ (-1 ∷ -1 ∷ 5 ∷ -1 ∷ -1 ∷ []) ∷ (0 ∷ 0 ∷ 0 ∷ 0 ∷ 0 ∷ [])
    ∷ (0 ∷ 2 ∷ 6 ∷ 7 ∷ []) ∷ (0 ∷ 2 ∷ 6 ∷ 8 ∷ [])
    ∷ [])
    ((2 ∷ 4 ∷ []) ∷ (0 ∷ 0 ∷ []) ∷ (2 ∷ 2 ∷ []) ∷ (2 ∷ 1 ∷ 2 ∷ 0 ∷ []) ∷ (1 ∷ 0 ∷ 2 ∷ 0 ∷ []) ∷ [])
    (plays
    ((1 ∷ 2 ∷ 2 ∷ 0 ∷ 0 ∷ 0 ∷ 0 ∷ 2 ∷ 1 ∷ 2 ∷ 2 ∷ 0 ∷ 0 ∷ 0 ∷ 0 ∷ 0 ∷ 1 ∷ 0 ∷ 0 ∷ 1 ∷ 0 ∷ 0 ∷ 0 ∷ 3 ∷ 0 ∷ 0 ∷ 0 ∷ 0 ∷ 0 ∷ 1000000 ∷ 0 ∷ 0 ∷ 999999 ∷ 0 ∷ 0 ∷ 0 ∷ 1 ∷ [])
    ∷ (2 ∷ 2 ∷ 2 ∷ 0 ∷ 0 ∷ 0 ∷ 0 ∷ 2 ∷ 0 ∷ 2 ∷ 2 ∷ 0 ∷ 0 ∷ 0 ∷ 0 ∷ 0 ∷ 1 ∷ 0 ∷ 0 ∷ 1 ∷ 0 ∷ 3 ∷ 0 ∷ 3 ∷ 0 ∷ 0 ∷ 0 ∷ 0 ∷ 0 ∷ 7 ∷ 0 ∷ 0 ∷ 1 ∷ 0 ∷ 1 ∷ 0 ∷ 1 ∷ [])
    ∷ []) 0 2)
    -- A delivered event of rank 0 begins after the ranked late unit, a WorldEvent of rank 5.
    ∷ row
    ((3 ∷ 1 ∷ 11 ∷ 1 ∷ [])
    ∷ (1 ∷ []) ∷ (0 ∷ [])
    ∷ (WorldEvent ∷ SendEvent ∷ EventCustom ∷ []) ∷ (5 ∷ 0 ∷ 0 ∷ [])
    ∷ replicate 11 -1 ∷ (0 ∷ 1 ∷ 0 ∷ 0 ∷ 0 ∷ 0 ∷ 0 ∷ 0 ∷ 0 ∷ 0 ∷ 1 ∷ [])
    ∷ (0 ∷ []) ∷ (0 ∷ [])
    ∷ [])
    ((2 ∷ 2 ∷ []) ∷ (0 ∷ 0 ∷ []) ∷ (1 ∷ 1 ∷ []) ∷ (0 ∷ 0 ∷ []) ∷ (0 ∷ 0 ∷ []) ∷ [])
    (plays
    ((1 ∷ 1 ∷ 1 ∷ 0 ∷ 0 ∷ 0 ∷ 0 ∷ 0 ∷ 2 ∷ 0 ∷ 0 ∷ 0 ∷ 0 ∷ 0 ∷ 0 ∷ 0 ∷ 0 ∷ 0 ∷ 0 ∷ 0 ∷ 0 ∷ 0 ∷ 0 ∷ 0 ∷ 0 ∷ 0 ∷ 0 ∷ 0 ∷ 0 ∷ 0 ∷ 0 ∷ 0 ∷ 0 ∷ [])
    ∷ (2 ∷ 1 ∷ 2 ∷ 0 ∷ 0 ∷ 0 ∷ 0 ∷ 0 ∷ 2 ∷ 2 ∷ 1 ∷ 0 ∷ 0 ∷ 0 ∷ 0 ∷ 0 ∷ 0 ∷ 0 ∷ 0 ∷ 0 ∷ 0 ∷ 0 ∷ 0 ∷ 0 ∷ 0 ∷ 0 ∷ 0 ∷ 0 ∷ 0 ∷ 0 ∷ 0 ∷ 0 ∷ 0 ∷ 0 ∷ 0 ∷ [])
    ∷ []) 0 2)
    -- Two records of a Queue are due in tick 2: one is handed out in tick 2, the other in tick 3.
    ∷ row
    ((2 ∷ 3 ∷ 10 ∷ 1 ∷ [])
    ∷ (1 ∷ 1 ∷ 1 ∷ []) ∷ (1 ∷ 7 ∷ 8 ∷ [])
    ∷ (WorldEvent ∷ QueueInTicks ∷ []) ∷ (0 ∷ 0 ∷ [])
    ∷ (-1 ∷ 1 ∷ -1 ∷ -1 ∷ -1 ∷ -1 ∷ -1 ∷ -1 ∷ -1 ∷ -1 ∷ []) ∷ (0 ∷ 0 ∷ 0 ∷ 0 ∷ 0 ∷ 0 ∷ 0 ∷ 0 ∷ 0 ∷ 1 ∷ [])
    ∷ (0 ∷ []) ∷ (0 ∷ [])
    ∷ [])
    ((3 ∷ 2 ∷ []) ∷ (0 ∷ 0 ∷ 0 ∷ []) ∷ (2 ∷ 0 ∷ 0 ∷ []) ∷ (0 ∷ 0 ∷ []) ∷ (2 ∷ 3 ∷ []) ∷ [])
    (plays
    ((1 ∷ 2 ∷ 2 ∷ 0 ∷ 0 ∷ 0 ∷ 0 ∷ 0 ∷ 0 ∷ 2 ∷ 2 ∷ 0 ∷ 1 ∷ 0 ∷ 0 ∷ 0 ∷ 0 ∷ 0 ∷ 0 ∷ 0 ∷ 0 ∷ 0 ∷ 0 ∷ 8 ∷ 0 ∷ 0 ∷ 0 ∷ 0 ∷ 0 ∷ 0 ∷ 0 ∷ 0 ∷ 0 ∷ [])
    ∷ (2 ∷ 0 ∷ 1 ∷ 0 ∷ 0 ∷ 0 ∷ 0 ∷ 1 ∷ 0 ∷ 0 ∷ 1 ∷ 0 ∷ 1 ∷ 0 ∷ 0 ∷ 0 ∷ 0 ∷ 0 ∷ 0 ∷ 0 ∷ 0 ∷ 8 ∷ 0 ∷ 7 ∷ 0 ∷ 0 ∷ 0 ∷ 0 ∷ 0 ∷ 0 ∷ 0 ∷ [])
    ∷ (3 ∷ 0 ∷ 1 ∷ 0 ∷ 0 ∷ 0 ∷ 0 ∷ 1 ∷ 0 ∷ 0 ∷ 1 ∷ 0 ∷ 1 ∷ 0 ∷ 0 ∷ 0 ∷ 0 ∷ 0 ∷ 0 ∷ 0 ∷ 0 ∷ 8 ∷ 0 ∷ 8 ∷ 0 ∷ 0 ∷ 0 ∷ 0 ∷ 0 ∷ 0 ∷ 0 ∷ [])
    ∷ []) 0 3)
    -- Marking takes the last one found first: an output's own watched reader (3), then the one behind its last pure reader (5), then the one behind the first (4).
    ∷ row
    ((6 ∷ 1 ∷ 5 ∷ 0 ∷ [])
    ∷ (1 ∷ []) ∷ (1 ∷ [])
    ∷ (WorldEvent ∷ Reroute ∷ Reroute ∷ EdgeExec ∷ EdgeExec ∷ EdgeExec ∷ []) ∷ (0 ∷ 0 ∷ 0 ∷ 1 ∷ 1 ∷ 1 ∷ [])
    ∷ (1 ∷ 1 ∷ 1 ∷ 2 ∷ 3 ∷ []) ∷ (0 ∷ 0 ∷ 0 ∷ 0 ∷ 0 ∷ [])
    ∷ [] ∷ []
    ∷ [])
    ((1 ∷ 1 ∷ []) ∷ (0 ∷ []) ∷ (1 ∷ []) ∷ (0 ∷ []) ∷ (1 ∷ []) ∷ [])
    (plays
    ((1 ∷ 0 ∷ 4 ∷ 0 ∷ 0 ∷ 0 ∷ 0 ∷ 0 ∷ 3 ∷ 5 ∷ 4 ∷ 2 ∷ 32 ∷ 32 ∷ 32 ∷ 0 ∷ 1 ∷ 1 ∷ 1 ∷ 0 ∷ 0 ∷ 0 ∷ 0 ∷ 0 ∷ 0 ∷ 0 ∷ 1 ∷ 1 ∷ 1 ∷ 0 ∷ 0 ∷ 0 ∷ 0 ∷ 0 ∷ 0 ∷ [])
    ∷ []) 0 1)
    -- Within one rank the late list has first what was carried (gate 6), then stimuli (3), then buffers and Queues by gate (1, 2), then Stopwatches (0).
    ∷ row
    ((7 ∷ 2 ∷ 22 ∷ 4 ∷ [])
    ∷ (2 ∷ 1 ∷ []) ∷ (quarter ∷ 1 ∷ [])
    ∷ (Stopwatch ∷ QueueInTicks ∷ BufferTicksExec ∷ WorldEvent ∷ Clock ∷ Toggle ∷ EdgeExec ∷ []) ∷ (0 ∷ 0 ∷ 0 ∷ 0 ∷ 0 ∷ 0 ∷ 0 ∷ [])
    ∷ (-1 ∷ -1 ∷ -1 ∷ -1 ∷ -1 ∷ -1 ∷ -1 ∷ -1 ∷ -1 ∷ -1 ∷ -1 ∷ -1 ∷ -1 ∷ -1 ∷ -1 ∷ -1 ∷ -1 ∷ -1 ∷ -1 ∷ -1 ∷ -1 ∷ 16 ∷ []) ∷ (0 ∷ 0 ∷ 0 ∷ 1 ∷ 0 ∷ 0 ∷ 0 ∷ 0 ∷ 0 ∷ 0 ∷ 0 ∷ 0 ∷ 0 ∷ 2 ∷ 0 ∷ 2 ∷ 0 ∷ 0 ∷ 0 ∷ 1 ∷ 0 ∷ 0 ∷ [])
    ∷ (12 ∷ 12 ∷ 12 ∷ 14 ∷ []) ∷ (0 ∷ 8 ∷ 28 ∷ 40 ∷ [])
    ∷ [])
    ((2 ∷ 2 ∷ []) ∷ (quarter ∷ quarter ∷ []) ∷ (1 ∷ 1 ∷ []) ∷ (3 ∷ 3 ∷ []) ∷ (0 ∷ 0 ∷ []) ∷ [])
    (plays
    ((1 ∷ 4 ∷ 1 ∷ 1 ∷ 1 ∷ 0 ∷ 0 ∷ 3 ∷ 4 ∷ 2 ∷ 0 ∷ 6 ∷ 32 ∷ 2 ∷ 0 ∷ 0 ∷ 0 ∷ 0 ∷ 0 ∷ 0 ∷ 0 ∷ 0 ∷ 0 ∷ 0 ∷ 0 ∷ 0 ∷ 0 ∷ 0 ∷ 0 ∷ 3 ∷ 0 ∷ 0 ∷ 0 ∷ 0 ∷ 0 ∷ 0 ∷ 0 ∷ 0 ∷ 0 ∷ 0 ∷ 0 ∷ 0 ∷ 0 ∷ 0 ∷ 0 ∷ 0 ∷ 0 ∷ 0 ∷ 1 ∷ 0 ∷ 0 ∷ [])
    ∷ (2 ∷ 4 ∷ 5 ∷ 1 ∷ 1 ∷ 0 ∷ 0 ∷ 6 ∷ 3 ∷ 1 ∷ 2 ∷ 0 ∷ 4 ∷ 32 ∷ 2 ∷ 0 ∷ 0 ∷ 0 ∷ 0 ∷ 6 ∷ 33 ∷ 2 ∷ 0 ∷ 0 ∷ 0 ∷ 0 ∷ 0 ∷ 0 ∷ 0 ∷ 0 ∷ 0 ∷ 0 ∷ 0 ∷ 0 ∷ 0 ∷ 0 ∷ 0 ∷ 3 ∷ 0 ∷ 0 ∷ 0 ∷ 0 ∷ 0 ∷ 0 ∷ 0 ∷ 0 ∷ 0 ∷ 0 ∷ 0 ∷ 0 ∷ 0 ∷ 0 ∷ 0 ∷ 0 ∷ 0 ∷ 0 ∷ 0 ∷ 0 ∷ 0 ∷ [])
    ∷ []) 0 2)
    -- K4: a Clock of rank 4 turns a Toggle on; of its readers those of ranks 4, 3 and 2 (gates 2, 3, 4) are carried, and listed in that order, by which they were raised. In
    -- tick 2 they begin by rank.
    ∷ row
    carries
    ((2 ∷ 0 ∷ []) ∷ (quarter ∷ 0 ∷ []) ∷ (0 ∷ 0 ∷ []) ∷ [] ∷ [] ∷ [])
    (plays
    ((1 ∷ 2 ∷ 0 ∷ 4 ∷ 3 ∷ 0 ∷ 0 ∷ 3 ∷ 0 ∷ 5 ∷ 6 ∷ 0 ∷ 0 ∷ 32 ∷ 32 ∷ 2 ∷ 3 ∷ 4 ∷ 32 ∷ 0 ∷ 16 ∷ 0 ∷ 0 ∷ 3 ∷ 0 ∷ 0 ∷ 0 ∷ 0 ∷ 3 ∷ 0 ∷ 0 ∷ 0 ∷ 0 ∷ 0 ∷ 0 ∷ 1 ∷ 0 ∷ 0 ∷ 0 ∷ 0 ∷ 1 ∷ 0 ∷ 0 ∷ 0 ∷ 0 ∷ [])
    ∷ (2 ∷ 1 ∷ 3 ∷ 0 ∷ 0 ∷ 0 ∷ 0 ∷ 4 ∷ 3 ∷ 2 ∷ 16 ∷ 0 ∷ 32 ∷ 0 ∷ 0 ∷ 3 ∷ 0 ∷ 0 ∷ 0 ∷ 0 ∷ 3 ∷ 0 ∷ 0 ∷ 0 ∷ 0 ∷ 0 ∷ 0 ∷ 1 ∷ 0 ∷ 0 ∷ 0 ∷ 0 ∷ 0 ∷ 0 ∷ 0 ∷ 0 ∷ 0 ∷ [])
    ∷ []) 0 2)
    -- K2: a card lies in the slot at the start. In tick 1 its first reading is a change, for a ChangeDetector (gate 1) and for a pin (2); nothing is one too (3). Of one
    -- rank the lower gate begins first.
    ∷ row
    ((4 ∷ 1 ∷ 4 ∷ 0 ∷ [])
    ∷ (1 ∷ []) ∷ (1 ∷ [])
    ∷ (Var ∷ ChangeDetector ∷ Toggle ∷ ChangeDetector ∷ []) ∷ (0 ∷ 3 ∷ 1 ∷ 3 ∷ [])
    ∷ (-1 ∷ 0 ∷ 0 ∷ -1 ∷ []) ∷ (1 ∷ 0 ∷ 0 ∷ 0 ∷ [])
    ∷ [] ∷ []
    ∷ [])
    ((2 ∷ 0 ∷ []) ∷ (0 ∷ 0 ∷ []) ∷ (0 ∷ 0 ∷ []) ∷ [] ∷ [] ∷ [])
    (plays
    ((1 ∷ 1 ∷ 0 ∷ 3 ∷ 0 ∷ 0 ∷ 0 ∷ 2 ∷ 1 ∷ 3 ∷ 16 ∷ 0 ∷ 0 ∷ 1 ∷ 0 ∷ 0 ∷ 3 ∷ 0 ∷ 1 ∷ 0 ∷ 0 ∷ 1 ∷ 0 ∷ [])
    ∷ (2 ∷ 0 ∷ 0 ∷ 0 ∷ 0 ∷ 0 ∷ 0 ∷ 1 ∷ 0 ∷ 0 ∷ 3 ∷ 0 ∷ 1 ∷ 0 ∷ 0 ∷ 1 ∷ 0 ∷ [])
    ∷ []) 0 2)
    -- K2: what reads nothing as tick 1 opens, and a card put in then: the ChangeDetector's activation that was raised second begins first, in the late pass.
    ∷ row
    ((2 ∷ 1 ∷ 1 ∷ 0 ∷ []) ∷ (1 ∷ []) ∷ (7 ∷ []) ∷ (WorldEvent ∷ ChangeDetector ∷ []) ∷ (2 ∷ 5 ∷ []) ∷ (1 ∷ []) ∷ (0 ∷ []) ∷ [] ∷ [] ∷ [])
    ((1 ∷ 1 ∷ []) ∷ (0 ∷ []) ∷ (1 ∷ []) ∷ (0 ∷ []) ∷ (1 ∷ []) ∷ [])
    (plays
    ((1 ∷ 0 ∷ 2 ∷ 1 ∷ 0 ∷ 0 ∷ 0 ∷ 0 ∷ 1 ∷ 1 ∷ 2 ∷ 0 ∷ 0 ∷ 0 ∷ 1 ∷ 0 ∷ 0 ∷ 7 ∷ 0 ∷ [])
    ∷ []) 0 1)
    -- K2: a buffer with a wait of 2 launches nothing as tick 1 opens, so a card put in then waits until that has landed, in tick 3, and in full: it shows in tick 5.
    ∷ row
    ((2 ∷ 2 ∷ 3 ∷ 0 ∷ [])
    ∷ (1 ∷ 1 ∷ []) ∷ (7 ∷ 2 ∷ [])
    ∷ (WorldEvent ∷ BufferTicks ∷ []) ∷ (0 ∷ 0 ∷ [])
    ∷ (1 ∷ -1 ∷ -1 ∷ []) ∷ (0 ∷ 2 ∷ 0 ∷ [])
    ∷ [] ∷ []
    ∷ [])
    ((5 ∷ 1 ∷ []) ∷ (0 ∷ 0 ∷ 0 ∷ 0 ∷ 0 ∷ []) ∷ (1 ∷ 0 ∷ 0 ∷ 0 ∷ 0 ∷ []) ∷ (0 ∷ []) ∷ (1 ∷ []) ∷ [])
    (plays
    ((1 ∷ 0 ∷ 1 ∷ 0 ∷ 0 ∷ 0 ∷ 0 ∷ 0 ∷ 2 ∷ 0 ∷ 1 ∷ 0 ∷ 0 ∷ 7 ∷ 0 ∷ [])
    ∷ (2 ∷ 0 ∷ 0 ∷ 0 ∷ 0 ∷ 0 ∷ 0 ∷ 0 ∷ 1 ∷ 0 ∷ 0 ∷ 7 ∷ 0 ∷ [])
    ∷ (3 ∷ 0 ∷ 0 ∷ 0 ∷ 0 ∷ 0 ∷ 0 ∷ 0 ∷ 1 ∷ 0 ∷ 0 ∷ 7 ∷ 0 ∷ [])
    ∷ (4 ∷ 0 ∷ 0 ∷ 0 ∷ 0 ∷ 0 ∷ 0 ∷ 0 ∷ 1 ∷ 0 ∷ 0 ∷ 7 ∷ 0 ∷ [])
    ∷ (5 ∷ 0 ∷ 0 ∷ 0 ∷ 0 ∷ 0 ∷ 0 ∷ 0 ∷ 1 ∷ 1 ∷ 0 ∷ 7 ∷ 7 ∷ [])
    ∷ []) 0 5)
    -- K9: the length of a tick is counted where it is 0.1, and not where it is 0.25, also where no gate waits.
    ∷ row
    ((1 ∷ 0 ∷ 0 ∷ 0 ∷ []) ∷ [] ∷ [] ∷ (WorldEvent ∷ []) ∷ (0 ∷ []) ∷ [] ∷ [] ∷ [] ∷ [] ∷ [])
    ((2 ∷ 0 ∷ []) ∷ (tenth ∷ quarter ∷ []) ∷ (0 ∷ 0 ∷ []) ∷ [] ∷ [] ∷ [])
    (plays
    ((1 ∷ 0 ∷ 0 ∷ 0 ∷ 0 ∷ 0 ∷ 1 ∷ 0 ∷ 0 ∷ 0 ∷ 0 ∷ [])
    ∷ (2 ∷ 0 ∷ 0 ∷ 0 ∷ 0 ∷ 0 ∷ 0 ∷ 0 ∷ 0 ∷ 0 ∷ 0 ∷ [])
    ∷ []) 0 2)
    -- Ticks of 0.1, 0.25 and 0.1; a stimulus calls a buffer and a Queue with a wait of 0.1 each and a buffer with 0.5. One in tick 1: its length and two waits; two in
    -- tick 2: four waits; none in tick 3: its length, once for all gates that wait.
    ∷ row
    ((4 ∷ 2 ∷ 16 ∷ 3 ∷ [])
    ∷ (2 ∷ 2 ∷ []) ∷ (tenth ∷ half ∷ [])
    ∷ (WorldEvent ∷ BufferSecondsExec ∷ QueueInSeconds ∷ BufferSecondsExec ∷ []) ∷ (0 ∷ 0 ∷ 0 ∷ 0 ∷ [])
    ∷ replicate 16 -1 ∷ (0 ∷ 1 ∷ 0 ∷ 0 ∷ 0 ∷ 0 ∷ 0 ∷ 0 ∷ 0 ∷ 0 ∷ 0 ∷ 0 ∷ 1 ∷ 0 ∷ 2 ∷ 0 ∷ [])
    ∷ (0 ∷ 0 ∷ 0 ∷ []) ∷ (0 ∷ 6 ∷ 26 ∷ [])
    ∷ [])
    ((3 ∷ 3 ∷ []) ∷ (tenth ∷ quarter ∷ tenth ∷ []) ∷ (1 ∷ 2 ∷ 0 ∷ []) ∷ (0 ∷ 0 ∷ 0 ∷ []) ∷ (0 ∷ 0 ∷ 0 ∷ []) ∷ [])
    (plays
    ((1 ∷ 3 ∷ 1 ∷ 0 ∷ 0 ∷ 0 ∷ 3 ∷ 0 ∷ 2 ∷ 0 ∷ 0 ∷ 0 ∷ 0 ∷ 0 ∷ 0 ∷ 0 ∷ 0 ∷ 0 ∷ 0 ∷ 0 ∷ 0 ∷ 0 ∷ 0 ∷ 0 ∷ 0 ∷ 0 ∷ 0 ∷ 0 ∷ 0 ∷ 0 ∷ 0 ∷ 0 ∷ 0 ∷ 0 ∷ 0 ∷ [])
    ∷ (2 ∷ 6 ∷ 4 ∷ 0 ∷ 0 ∷ 0 ∷ 4 ∷ 0 ∷ 0 ∷ 1 ∷ 2 ∷ 2 ∷ 2 ∷ 0 ∷ 0 ∷ 0 ∷ 0 ∷ 0 ∷ 0 ∷ 0 ∷ 0 ∷ 0 ∷ 0 ∷ 0 ∷ 0 ∷ 0 ∷ 0 ∷ 0 ∷ 0 ∷ 0 ∷ 0 ∷ 0 ∷ 0 ∷ 0 ∷ 0 ∷ 0 ∷ 0 ∷ 0 ∷ 0 ∷ 0 ∷ 0 ∷ [])
    ∷ (3 ∷ 0 ∷ 3 ∷ 0 ∷ 0 ∷ 0 ∷ 1 ∷ 1 ∷ 1 ∷ 2 ∷ 0 ∷ 0 ∷ 0 ∷ 0 ∷ 0 ∷ 0 ∷ 0 ∷ 0 ∷ 0 ∷ 0 ∷ 0 ∷ 0 ∷ 0 ∷ 0 ∷ 0 ∷ 0 ∷ 0 ∷ 0 ∷ 0 ∷ 0 ∷ 0 ∷ 0 ∷ 0 ∷ 0 ∷ 0 ∷ 0 ∷ 0 ∷ 0 ∷ 0 ∷ [])
    ∷ []) 0 3)
    -- A value buffer with a wait of 0.1 and a zero wait of 0.5, ticks of 0.25. In tick 1 nothing starts with the zero wait, and 7, which is only remembered, has its wait
    -- counted; when nothing lands, in tick 3, 7 starts, and its wait is counted again.
    ∷ row
    ((2 ∷ 3 ∷ 3 ∷ 0 ∷ [])
    ∷ (2 ∷ 2 ∷ 1 ∷ []) ∷ (tenth ∷ half ∷ 7 ∷ [])
    ∷ (WorldEvent ∷ BufferSeconds ∷ []) ∷ (0 ∷ 0 ∷ [])
    ∷ (1 ∷ -1 ∷ -1 ∷ []) ∷ (0 ∷ 1 ∷ 2 ∷ [])
    ∷ [] ∷ []
    ∷ [])
    ((4 ∷ 1 ∷ []) ∷ (quarter ∷ quarter ∷ quarter ∷ quarter ∷ []) ∷ (1 ∷ 0 ∷ 0 ∷ 0 ∷ []) ∷ (0 ∷ []) ∷ (3 ∷ []) ∷ [])
    (plays
    ((1 ∷ 0 ∷ 1 ∷ 0 ∷ 0 ∷ 0 ∷ 1 ∷ 0 ∷ 2 ∷ 0 ∷ 1 ∷ 0 ∷ 0 ∷ 7 ∷ 0 ∷ [])
    ∷ (2 ∷ 0 ∷ 0 ∷ 0 ∷ 0 ∷ 0 ∷ 0 ∷ 0 ∷ 1 ∷ 0 ∷ 0 ∷ 7 ∷ 0 ∷ [])
    ∷ (3 ∷ 0 ∷ 0 ∷ 0 ∷ 0 ∷ 0 ∷ 1 ∷ 0 ∷ 1 ∷ 0 ∷ 0 ∷ 7 ∷ 0 ∷ [])
    ∷ (4 ∷ 0 ∷ 0 ∷ 0 ∷ 0 ∷ 0 ∷ 0 ∷ 0 ∷ 1 ∷ 1 ∷ 0 ∷ 7 ∷ 7 ∷ [])
    ∷ []) 0 4)
    -- A buffer with a wait of 0.1 is called 33 times in a tick of 0.25: the wait of the 33rd fire, which stops the tick, is counted too.
    ∷ row
    ((2 ∷ 1 ∷ 3 ∷ 33 ∷ [])
    ∷ (2 ∷ []) ∷ (tenth ∷ [])
    ∷ (WorldEvent ∷ BufferSecondsExec ∷ []) ∷ (0 ∷ 0 ∷ [])
    ∷ (-1 ∷ -1 ∷ -1 ∷ []) ∷ (0 ∷ 1 ∷ 0 ∷ [])
    ∷ replicate 33 0 ∷ replicate 33 0
    ∷ [])
    ((1 ∷ 1 ∷ []) ∷ (quarter ∷ []) ∷ (1 ∷ []) ∷ (0 ∷ []) ∷ (0 ∷ []) ∷ [])
    (plays ((1 ∷ 33 ∷ 1 ∷ 0 ∷ 0 ∷ 12 ∷ 33 ∷ 0 ∷ 2 ∷ []) ∷ []) 12 0)
    -- K5: a Loop (gate 2) runs its body, a VarSet (4), with 5, 2 and -1, and then calls the Toggle behind Completed: five steps. Its Count is the Var (1) that the body
    -- writes; it is read once, before the first run.
    ∷ row
    ((6 ∷ 5 ∷ 10 ∷ 3 ∷ [])
    ∷ (1 ∷ 1 ∷ 1 ∷ 1 ∷ 1 ∷ []) ∷ (3 ∷ 5 ∷ -3 ∷ 2 ∷ 1 ∷ [])
    ∷ (WorldEvent ∷ Var ∷ Loop ∷ LoopEntry ∷ VarSet ∷ Toggle ∷ []) ∷ (0 ∷ 0 ∷ 0 ∷ body_of 2 ∷ body_of 2 ∷ 0 ∷ [])
    ∷ (-1 ∷ -1 ∷ 2 ∷ -1 ∷ -1 ∷ -1 ∷ -1 ∷ -1 ∷ 8 ∷ -1 ∷ []) ∷ (1 ∷ 0 ∷ 0 ∷ 2 ∷ 3 ∷ 4 ∷ 0 ∷ 5 ∷ 0 ∷ 0 ∷ [])
    ∷ (0 ∷ 7 ∷ 3 ∷ []) ∷ (2 ∷ 12 ∷ 18 ∷ [])
    ∷ [])
    ((1 ∷ 1 ∷ []) ∷ (0 ∷ []) ∷ (1 ∷ []) ∷ (0 ∷ []) ∷ (0 ∷ []) ∷ [])
    (plays
    ((1 ∷ 5 ∷ 1 ∷ 0 ∷ 0 ∷ 0 ∷ 0 ∷ 0 ∷ 2 ∷ 0 ∷ 0 ∷ 1 ∷ 0 ∷ 1 ∷ 3 ∷ 3 ∷ 0 ∷ 1 ∷ 0 ∷ 0 ∷ 3 ∷ 0 ∷ 0 ∷ -1 ∷ 0 ∷ 3 ∷ 0 ∷ 0 ∷ 0 ∷ -1 ∷ 0 ∷ 0 ∷ 1 ∷ [])
    ∷ []) 0 1)
    -- A Loop (3) in a Loop's body reads its Count, the outer Index, each time that it is entered: a Cycle in the inner body counts 0 + 1 + 2 + 3 runs.
    ∷ row
    ((6 ∷ 4 ∷ 13 ∷ 3 ∷ [])
    ∷ (1 ∷ 1 ∷ 1 ∷ 1 ∷ []) ∷ (4 ∷ 1 ∷ 3 ∷ 100 ∷ [])
    ∷ (WorldEvent ∷ Loop ∷ LoopEntry ∷ Loop ∷ LoopEntry ∷ Cycle ∷ []) ∷ (0 ∷ 0 ∷ body_of 1 ∷ body_of 1 ∷ body_of 3 ∷ body_of 3 ∷ [])
    ∷ (-1 ∷ -1 ∷ -1 ∷ -1 ∷ -1 ∷ -1 ∷ 7 ∷ -1 ∷ -1 ∷ -1 ∷ -1 ∷ -1 ∷ -1 ∷ []) ∷ (0 ∷ 1 ∷ 0 ∷ 0 ∷ 2 ∷ 0 ∷ 0 ∷ 0 ∷ 0 ∷ 3 ∷ 0 ∷ 0 ∷ 4 ∷ [])
    ∷ (0 ∷ 6 ∷ 12 ∷ []) ∷ (0 ∷ 10 ∷ 20 ∷ [])
    ∷ [])
    ((1 ∷ 1 ∷ []) ∷ (0 ∷ []) ∷ (1 ∷ []) ∷ (0 ∷ []) ∷ (0 ∷ []) ∷ [])
    (plays
    ((1 ∷ 11 ∷ 1 ∷ 0 ∷ 0 ∷ 0 ∷ 0 ∷ 0 ∷ 2 ∷ 0 ∷ 0 ∷ 0 ∷ 1 ∷ 3 ∷ 3 ∷ 0 ∷ 1 ∷ 0 ∷ 1 ∷ 3 ∷ 3 ∷ 0 ∷ 1 ∷ 0 ∷ 0 ∷ 1 ∷ 0 ∷ 0 ∷ 0 ∷ 4 ∷ 0 ∷ 0 ∷ 0 ∷ 3 ∷ 0 ∷ 3 ∷ 0 ∷ 0 ∷ 0 ∷ 2 ∷ 0 ∷ 0 ∷ 6 ∷ [])
    ∷ []) 0 1)
    -- A Break (6) in the second run of an inner body ends the inner Loop (3) alone. That run goes on, with a Cycle (7) behind the Break, and counts; the inner Completed calls
    -- a Cycle (8); and the outer Loop (1) goes on, so that all of this comes twice.
    ∷ row
    ((9 ∷ 4 ∷ 19 ∷ 6 ∷ [])
    ∷ (1 ∷ 1 ∷ 1 ∷ 1 ∷ []) ∷ (2 ∷ 1 ∷ 3 ∷ 100 ∷ [])
    ∷ (WorldEvent ∷ Loop ∷ LoopEntry ∷ Loop ∷ LoopEntry ∷ Branch ∷ Break ∷ Cycle ∷ Cycle ∷ []) ∷ (0 ∷ 0 ∷ body_of 1 ∷ body_of 1 ∷ body_of 3 ∷ body_of 3 ∷ body_of 3 ∷ body_of 3 ∷ body_of 1 ∷ [])
    ∷ (-1 ∷ -1 ∷ -1 ∷ -1 ∷ -1 ∷ -1 ∷ -1 ∷ -1 ∷ -1 ∷ -1 ∷ -1 ∷ 13 ∷ -1 ∷ -1 ∷ -1 ∷ -1 ∷ -1 ∷ -1 ∷ -1 ∷ []) ∷ (0 ∷ 1 ∷ 0 ∷ 0 ∷ 2 ∷ 0 ∷ 3 ∷ 0 ∷ 0 ∷ 3 ∷ 0 ∷ 0 ∷ 0 ∷ 0 ∷ 0 ∷ 4 ∷ 0 ∷ 0 ∷ 4 ∷ [])
    ∷ (0 ∷ 6 ∷ 12 ∷ 14 ∷ 16 ∷ 8 ∷ []) ∷ (0 ∷ 10 ∷ 20 ∷ 24 ∷ 26 ∷ 32 ∷ [])
    ∷ [])
    ((1 ∷ 1 ∷ []) ∷ (0 ∷ []) ∷ (1 ∷ []) ∷ (0 ∷ []) ∷ (0 ∷ []) ∷ [])
    (plays
    ((1 ∷ 13 ∷ 1 ∷ 0 ∷ 0 ∷ 0 ∷ 0 ∷ 0 ∷ 2 ∷ 0 ∷ 0 ∷ 0 ∷ 1 ∷ 3 ∷ 3 ∷ 0 ∷ 1 ∷ 0 ∷ 1 ∷ 3 ∷ 3 ∷ 0 ∷ 1 ∷ 0 ∷ 0 ∷ 0 ∷ 0 ∷ 0 ∷ 1 ∷ 0 ∷ 0 ∷ 1 ∷ 0 ∷ 0 ∷ 0 ∷ 2 ∷ 0 ∷ 0 ∷ 0 ∷ 1 ∷ 0 ∷ 2 ∷ 0 ∷ 0 ∷ 0 ∷ 1 ∷ 0 ∷ 0 ∷ 0 ∷ 0 ∷ 0 ∷ 2 ∷ 0 ∷ 0 ∷ 2 ∷ [])
    ∷ []) 0 1)
    -- A Break (3) before an inner Loop (4) does not end that, and outlasts it: three runs of the inner body, one of the outer.
    ∷ row
    ((7 ∷ 5 ∷ 14 ∷ 4 ∷ [])
    ∷ (1 ∷ 1 ∷ 1 ∷ 1 ∷ 1 ∷ []) ∷ (2 ∷ 1 ∷ 3 ∷ 4 ∷ 100 ∷ [])
    ∷ (WorldEvent ∷ Loop ∷ LoopEntry ∷ Break ∷ Loop ∷ LoopEntry ∷ Cycle ∷ []) ∷ (0 ∷ 0 ∷ body_of 1 ∷ body_of 1 ∷ body_of 1 ∷ body_of 4 ∷ body_of 4 ∷ [])
    ∷ replicate 14 -1 ∷ (0 ∷ 1 ∷ 0 ∷ 0 ∷ 2 ∷ 0 ∷ 0 ∷ 3 ∷ 0 ∷ 0 ∷ 4 ∷ 0 ∷ 0 ∷ 5 ∷ [])
    ∷ (0 ∷ 6 ∷ 8 ∷ 13 ∷ []) ∷ (0 ∷ 10 ∷ 12 ∷ 22 ∷ [])
    ∷ [])
    ((1 ∷ 1 ∷ []) ∷ (0 ∷ []) ∷ (1 ∷ []) ∷ (0 ∷ []) ∷ (0 ∷ []) ∷ [])
    (plays
    ((1 ∷ 6 ∷ 1 ∷ 0 ∷ 0 ∷ 0 ∷ 0 ∷ 0 ∷ 2 ∷ 0 ∷ 0 ∷ 0 ∷ 1 ∷ 3 ∷ 3 ∷ 0 ∷ 1 ∷ 0 ∷ 0 ∷ 1 ∷ 3 ∷ 3 ∷ 0 ∷ 1 ∷ 0 ∷ 0 ∷ 1 ∷ 0 ∷ 0 ∷ 0 ∷ 1 ∷ 0 ∷ 0 ∷ 0 ∷ 0 ∷ 0 ∷ 0 ∷ 3 ∷ 0 ∷ 0 ∷ 0 ∷ 2 ∷ 0 ∷ 0 ∷ 3 ∷ [])
    ∷ []) 0 1)
    -- A Union (4) in a body is called twice in each of two runs, and by a fork of each. It passes once in each run, also where a unit of its own (3) had it pass in this tick;
    -- and once a tick outside, also where it has passed in runs. A Cycle (5) behind it counts 1 + 2, and then 2 + 1 more.
    ∷ row
    ((6 ∷ 3 ∷ 9 ∷ 6 ∷ [])
    ∷ (1 ∷ 1 ∷ 1 ∷ []) ∷ (2 ∷ 1 ∷ 100 ∷ [])
    ∷ (WorldEvent ∷ Loop ∷ LoopEntry ∷ WorldEvent ∷ Union ∷ Cycle ∷ []) ∷ (1 ∷ 0 ∷ body_of 1 ∷ body_of 1 ∷ body_of 1 ∷ body_of 1 ∷ [])
    ∷ replicate 9 -1 ∷ (0 ∷ 1 ∷ 0 ∷ 0 ∷ 2 ∷ 0 ∷ 0 ∷ 0 ∷ 3 ∷ [])
    ∷ (0 ∷ 6 ∷ 6 ∷ 6 ∷ 8 ∷ 10 ∷ []) ∷ (0 ∷ 10 ∷ 10 ∷ 11 ∷ 10 ∷ 12 ∷ [])
    ∷ [])
    ((2 ∷ 3 ∷ []) ∷ (0 ∷ 0 ∷ []) ∷ (2 ∷ 1 ∷ []) ∷ (0 ∷ 3 ∷ 0 ∷ []) ∷ (0 ∷ 0 ∷ 0 ∷ []) ∷ [])
    (plays
    ((1 ∷ 11 ∷ 2 ∷ 0 ∷ 0 ∷ 0 ∷ 0 ∷ 3 ∷ 0 ∷ 2 ∷ 2 ∷ 0 ∷ 0 ∷ 0 ∷ 1 ∷ 3 ∷ 3 ∷ 0 ∷ 1 ∷ 0 ∷ 0 ∷ 0 ∷ 0 ∷ 0 ∷ 1 ∷ 0 ∷ 0 ∷ 0 ∷ 2 ∷ 0 ∷ 0 ∷ 0 ∷ 1 ∷ 0 ∷ 0 ∷ 0 ∷ 0 ∷ 0 ∷ 3 ∷ [])
    ∷ (2 ∷ 10 ∷ 1 ∷ 0 ∷ 0 ∷ 0 ∷ 0 ∷ 0 ∷ 2 ∷ 0 ∷ 0 ∷ 0 ∷ 1 ∷ 3 ∷ 3 ∷ 0 ∷ 1 ∷ 0 ∷ 0 ∷ 0 ∷ 0 ∷ 0 ∷ 1 ∷ 0 ∷ 0 ∷ 0 ∷ 2 ∷ 0 ∷ 0 ∷ 0 ∷ 1 ∷ 0 ∷ 0 ∷ 0 ∷ 0 ∷ 0 ∷ 6 ∷ [])
    ∷ []) 0 2)
    -- Carrying's other case: in a main pass a Loop of rank 4 (2), by its pin, writes a Var (1) in its body. Of what watches the Var, all of rank 6, a ChangeDetector (5) and a
    -- Toggle's pin (7) are carried; an EdgeExec (6) begins in this tick, behind the ChangeDetector, whose first reading was a change too.
    ∷ row
    ((8 ∷ 5 ∷ 13 ∷ 1 ∷ [])
    ∷ (3 ∷ 1 ∷ 1 ∷ 1 ∷ 1 ∷ []) ∷ (1 ∷ 0 ∷ 1 ∷ 2 ∷ 7 ∷ [])
    ∷ (Var ∷ Var ∷ Loop ∷ LoopEntry ∷ VarSet ∷ ChangeDetector ∷ EdgeExec ∷ Toggle ∷ []) ∷ (0 ∷ 0 ∷ 4 ∷ body_of 2 ∷ body_of 2 ∷ 6 ∷ 6 ∷ 6 ∷ [])
    ∷ (-1 ∷ -1 ∷ 0 ∷ -1 ∷ -1 ∷ -1 ∷ -1 ∷ -1 ∷ -1 ∷ -1 ∷ 1 ∷ 1 ∷ 1 ∷ []) ∷ (1 ∷ 2 ∷ 0 ∷ 3 ∷ 0 ∷ 0 ∷ 4 ∷ 0 ∷ 3 ∷ 5 ∷ 0 ∷ 0 ∷ 0 ∷ [])
    ∷ (6 ∷ []) ∷ (14 ∷ [])
    ∷ [])
    ((2 ∷ 0 ∷ []) ∷ (0 ∷ 0 ∷ []) ∷ (0 ∷ 0 ∷ []) ∷ [] ∷ [] ∷ [])
    (plays
    ((1 ∷ 2 ∷ 0 ∷ 3 ∷ 2 ∷ 0 ∷ 0 ∷ 2 ∷ 5 ∷ 6 ∷ 16 ∷ 0 ∷ 32 ∷ 5 ∷ 7 ∷ 0 ∷ 16 ∷ 3 ∷ 1 ∷ 0 ∷ 1 ∷ 3 ∷ 3 ∷ 0 ∷ 1 ∷ 0 ∷ 0 ∷ 0 ∷ 0 ∷ 0 ∷ 0 ∷ 1 ∷ 7 ∷ 0 ∷ 1 ∷ 0 ∷ 0 ∷ 0 ∷ 0 ∷ 0 ∷ 0 ∷ 0 ∷ 0 ∷ 0 ∷ 0 ∷ [])
    ∷ (2 ∷ 1 ∷ 2 ∷ 0 ∷ 0 ∷ 0 ∷ 0 ∷ 5 ∷ 7 ∷ 0 ∷ 16 ∷ 3 ∷ 1 ∷ 0 ∷ 1 ∷ 3 ∷ 3 ∷ 0 ∷ 1 ∷ 0 ∷ 0 ∷ 0 ∷ 0 ∷ 0 ∷ 3 ∷ 1 ∷ 7 ∷ 0 ∷ 1 ∷ 0 ∷ 0 ∷ 0 ∷ 0 ∷ 0 ∷ 0 ∷ 0 ∷ 0 ∷ 0 ∷ 1 ∷ [])
    ∷ []) 0 2)
    -- Each check has its own reason: a VarSet of rank 5 (5), by its pin, then writes the Var outside. The ChangeDetector (6) is carried for the first write, and for the second
    -- begins in this tick.
    ∷ row
    ((7 ∷ 6 ∷ 14 ∷ 1 ∷ [])
    ∷ (3 ∷ 1 ∷ 1 ∷ 1 ∷ 1 ∷ 1 ∷ []) ∷ (1 ∷ 0 ∷ 1 ∷ 2 ∷ 7 ∷ 8 ∷ [])
    ∷ (Var ∷ Var ∷ Loop ∷ LoopEntry ∷ VarSet ∷ VarSet ∷ ChangeDetector ∷ []) ∷ (0 ∷ 0 ∷ 4 ∷ body_of 2 ∷ body_of 2 ∷ 5 ∷ 6 ∷ [])
    ∷ (-1 ∷ -1 ∷ 0 ∷ -1 ∷ -1 ∷ -1 ∷ -1 ∷ -1 ∷ -1 ∷ -1 ∷ 0 ∷ -1 ∷ -1 ∷ 1 ∷ []) ∷ (1 ∷ 2 ∷ 0 ∷ 3 ∷ 0 ∷ 0 ∷ 4 ∷ 0 ∷ 3 ∷ 5 ∷ 0 ∷ 3 ∷ 6 ∷ 0 ∷ [])
    ∷ (6 ∷ []) ∷ (14 ∷ [])
    ∷ [])
    ((1 ∷ 0 ∷ []) ∷ (0 ∷ []) ∷ (0 ∷ []) ∷ [] ∷ [] ∷ [])
    (plays
    ((1 ∷ 3 ∷ 0 ∷ 4 ∷ 1 ∷ 0 ∷ 0 ∷ 2 ∷ 5 ∷ 6 ∷ 6 ∷ 16 ∷ 16 ∷ 0 ∷ 0 ∷ 6 ∷ 0 ∷ 3 ∷ 1 ∷ 0 ∷ 1 ∷ 3 ∷ 3 ∷ 0 ∷ 1 ∷ 0 ∷ 0 ∷ 0 ∷ 1 ∷ 8 ∷ 0 ∷ 1 ∷ 0 ∷ 0 ∷ 0 ∷ 0 ∷ 0 ∷ 0 ∷ 0 ∷ [])
    ∷ []) 0 1)
    -- Where the same chain writes the Var outside too, here behind Completed (5), the ChangeDetector is not put off;
    ∷ row
    ((7 ∷ 6 ∷ 14 ∷ 2 ∷ [])
    ∷ (3 ∷ 1 ∷ 1 ∷ 1 ∷ 1 ∷ 1 ∷ []) ∷ (1 ∷ 0 ∷ 1 ∷ 2 ∷ 7 ∷ 8 ∷ [])
    ∷ (Var ∷ Var ∷ Loop ∷ LoopEntry ∷ VarSet ∷ VarSet ∷ ChangeDetector ∷ []) ∷ (0 ∷ 0 ∷ 4 ∷ body_of 2 ∷ body_of 2 ∷ 0 ∷ 6 ∷ [])
    ∷ (-1 ∷ -1 ∷ 0 ∷ -1 ∷ -1 ∷ -1 ∷ -1 ∷ -1 ∷ -1 ∷ -1 ∷ -1 ∷ -1 ∷ -1 ∷ 1 ∷ []) ∷ (1 ∷ 2 ∷ 0 ∷ 3 ∷ 0 ∷ 0 ∷ 4 ∷ 0 ∷ 3 ∷ 5 ∷ 0 ∷ 3 ∷ 6 ∷ 0 ∷ [])
    ∷ (6 ∷ 2 ∷ []) ∷ (14 ∷ 20 ∷ [])
    ∷ [])
    ((1 ∷ 0 ∷ []) ∷ (0 ∷ []) ∷ (0 ∷ []) ∷ [] ∷ [] ∷ [])
    (plays
    ((1 ∷ 3 ∷ 0 ∷ 3 ∷ 0 ∷ 0 ∷ 0 ∷ 2 ∷ 6 ∷ 6 ∷ 16 ∷ 0 ∷ 0 ∷ 3 ∷ 1 ∷ 0 ∷ 1 ∷ 3 ∷ 3 ∷ 0 ∷ 1 ∷ 0 ∷ 0 ∷ 0 ∷ 1 ∷ 8 ∷ 0 ∷ 1 ∷ 0 ∷ 0 ∷ 0 ∷ 0 ∷ 0 ∷ 0 ∷ 0 ∷ [])
    ∷ []) 0 1)
    -- nor in the late pass, where a WorldEvent enters the Loop: it begins there, and for its first reading in the main pass.
    ∷ row
    ((6 ∷ 4 ∷ 10 ∷ 2 ∷ [])
    ∷ (1 ∷ 1 ∷ 1 ∷ 1 ∷ []) ∷ (0 ∷ 1 ∷ 2 ∷ 7 ∷ [])
    ∷ (WorldEvent ∷ Var ∷ Loop ∷ LoopEntry ∷ VarSet ∷ ChangeDetector ∷ []) ∷ (5 ∷ 0 ∷ 0 ∷ body_of 2 ∷ body_of 2 ∷ 6 ∷ [])
    ∷ (-1 ∷ -1 ∷ -1 ∷ -1 ∷ -1 ∷ -1 ∷ -1 ∷ -1 ∷ -1 ∷ 2 ∷ []) ∷ (1 ∷ 0 ∷ 2 ∷ 0 ∷ 0 ∷ 3 ∷ 0 ∷ 2 ∷ 4 ∷ 0 ∷ [])
    ∷ (0 ∷ 7 ∷ []) ∷ (2 ∷ 12 ∷ [])
    ∷ [])
    ((1 ∷ 1 ∷ []) ∷ (0 ∷ []) ∷ (1 ∷ []) ∷ (0 ∷ []) ∷ (0 ∷ []) ∷ [])
    (plays
    ((1 ∷ 2 ∷ 2 ∷ 1 ∷ 0 ∷ 0 ∷ 0 ∷ 0 ∷ 5 ∷ 5 ∷ 2 ∷ 0 ∷ 0 ∷ 0 ∷ 0 ∷ 1 ∷ 0 ∷ 1 ∷ 3 ∷ 3 ∷ 0 ∷ 1 ∷ 0 ∷ 0 ∷ 0 ∷ 0 ∷ 7 ∷ 0 ∷ 1 ∷ 0 ∷ 0 ∷ 0 ∷ 0 ∷ 0 ∷ 0 ∷ [])
    ∷ []) 0 1)
    -- Remote calls from a body wait for the end of the whole chain, and run outside. Each of three runs calls a Branch (4) so: all find a Toggle (6) behind Completed on, and
    -- write the last Index to the Var (1); the ChangeDetector (7) is not put off.
    ∷ row
    ((8 ∷ 5 ∷ 14 ∷ 3 ∷ [])
    ∷ (3 ∷ 1 ∷ 1 ∷ 1 ∷ 1 ∷ []) ∷ (1 ∷ 0 ∷ 3 ∷ 2 ∷ 1 ∷ [])
    ∷ (Var ∷ Var ∷ Loop ∷ LoopEntry ∷ Branch ∷ VarSet ∷ Toggle ∷ ChangeDetector ∷ []) ∷ (0 ∷ 0 ∷ 4 ∷ body_of 2 ∷ body_of 2 ∷ body_of 2 ∷ 0 ∷ 6 ∷ [])
    ∷ (-1 ∷ -1 ∷ 0 ∷ -1 ∷ -1 ∷ -1 ∷ -1 ∷ -1 ∷ 12 ∷ -1 ∷ -1 ∷ 7 ∷ -1 ∷ 1 ∷ []) ∷ (1 ∷ 2 ∷ 0 ∷ 3 ∷ 0 ∷ 0 ∷ 4 ∷ 0 ∷ 0 ∷ 0 ∷ 5 ∷ 0 ∷ 0 ∷ 0 ∷ [])
    ∷ (6 ∷ 8 ∷ 2 ∷ []) ∷ (15 ∷ 18 ∷ 24 ∷ [])
    ∷ [])
    ((1 ∷ 0 ∷ []) ∷ (0 ∷ []) ∷ (0 ∷ []) ∷ [] ∷ [] ∷ [])
    (plays
    ((1 ∷ 8 ∷ 0 ∷ 3 ∷ 0 ∷ 0 ∷ 0 ∷ 2 ∷ 7 ∷ 7 ∷ 16 ∷ 0 ∷ 0 ∷ 3 ∷ 1 ∷ 0 ∷ 1 ∷ 3 ∷ 3 ∷ 0 ∷ 1 ∷ 0 ∷ 0 ∷ 0 ∷ 0 ∷ 3 ∷ 0 ∷ 1 ∷ 2 ∷ 0 ∷ 3 ∷ 0 ∷ 0 ∷ 0 ∷ 2 ∷ 0 ∷ 0 ∷ 0 ∷ 0 ∷ 1 ∷ 0 ∷ [])
    ∷ []) 0 1)
    -- Question 1: a word is missing.
    ∷ row
    ((2 ∷ 1 ∷ 1 ∷ 1 ∷ []) ∷ (1 ∷ []) ∷ (7 ∷ []) ∷ (WorldEvent ∷ Toggle ∷ []) ∷ (0 ∷ 1 ∷ []) ∷ (-1 ∷ []) ∷ (0 ∷ []) ∷ (0 ∷ []) ∷ [] ∷ [])
    pressed_once
    (refused 1)
    -- Question 2: a constant of kind 4.
    ∷ row
    ((2 ∷ 1 ∷ 1 ∷ 1 ∷ []) ∷ (4 ∷ []) ∷ (7 ∷ []) ∷ (WorldEvent ∷ Toggle ∷ []) ∷ (0 ∷ 1 ∷ []) ∷ (-1 ∷ []) ∷ (0 ∷ []) ∷ (0 ∷ []) ∷ (0 ∷ []) ∷ [])
    pressed_once
    (refused 2)
    -- Question 3: a gate of kind 32.
    ∷ row
    ((2 ∷ 1 ∷ 1 ∷ 1 ∷ []) ∷ (1 ∷ []) ∷ (7 ∷ []) ∷ (32 ∷ Toggle ∷ []) ∷ (0 ∷ 1 ∷ []) ∷ (-1 ∷ []) ∷ (0 ∷ []) ∷ (0 ∷ []) ∷ (0 ∷ []) ∷ [])
    pressed_once
    (refused 3)
    -- The last body is 64, that of gate 63; the next is refused by question 3.
    ∷ row
    ((1 ∷ 0 ∷ 1 ∷ 0 ∷ []) ∷ [] ∷ [] ∷ (Toggle ∷ []) ∷ (body_of 64 ∷ []) ∷ (-1 ∷ []) ∷ (0 ∷ []) ∷ [] ∷ [] ∷ [])
    ((0 ∷ 0 ∷ []) ∷ [] ∷ [] ∷ [] ∷ [] ∷ [])
    (refused 3)
    -- Question 4: a source that is an exec output.
    ∷ row
    ((2 ∷ 1 ∷ 1 ∷ 1 ∷ []) ∷ (1 ∷ []) ∷ (7 ∷ []) ∷ (WorldEvent ∷ Toggle ∷ []) ∷ (0 ∷ 1 ∷ []) ∷ (0 ∷ []) ∷ (0 ∷ []) ∷ (0 ∷ []) ∷ (0 ∷ []) ∷ [])
    pressed_once
    (refused 4)
    -- An entry that names a Toggle.
    ∷ row
    ((2 ∷ 1 ∷ 2 ∷ 0 ∷ [])
    ∷ (1 ∷ []) ∷ (0 ∷ [])
    ∷ (Toggle ∷ LoopEntry ∷ []) ∷ (0 ∷ body_of 0 ∷ [])
    ∷ (-1 ∷ -1 ∷ []) ∷ (0 ∷ 1 ∷ [])
    ∷ [] ∷ []
    ∷ [])
    ((0 ∷ 0 ∷ []) ∷ [] ∷ [] ∷ [] ∷ [] ∷ [])
    (refused 4)
    -- Question 5: a call from a value output.
    ∷ row
    ((2 ∷ 1 ∷ 1 ∷ 1 ∷ []) ∷ (1 ∷ []) ∷ (7 ∷ []) ∷ (WorldEvent ∷ Toggle ∷ []) ∷ (0 ∷ 1 ∷ []) ∷ (-1 ∷ []) ∷ (0 ∷ []) ∷ (1 ∷ []) ∷ (0 ∷ []) ∷ [])
    pressed_once
    (refused 5)
    -- Question 19: yes of a Loop (gate 2) in the body of another (0), each with its entry (1 and 3) in its own body.
    ∷ row
    ((4 ∷ 2 ∷ 10 ∷ 0 ∷ [])
    ∷ (1 ∷ 1 ∷ []) ∷ (0 ∷ 2 ∷ [])
    ∷ (Loop ∷ LoopEntry ∷ Loop ∷ LoopEntry ∷ []) ∷ (0 ∷ body_of 0 ∷ body_of 0 ∷ body_of 2 ∷ [])
    ∷ replicate 10 -1 ∷ (0 ∷ 0 ∷ 0 ∷ 0 ∷ 1 ∷ 0 ∷ 0 ∷ 0 ∷ 0 ∷ 2 ∷ [])
    ∷ [] ∷ []
    ∷ [])
    ((0 ∷ 0 ∷ []) ∷ [] ∷ [] ∷ [] ∷ [] ∷ [])
    (plays [] 0 0)
    -- It is no where a call leaves its body, here from an entry's Body to a Toggle outside;
    ∷ row
    ((3 ∷ 1 ∷ 6 ∷ 1 ∷ [])
    ∷ (1 ∷ []) ∷ (0 ∷ [])
    ∷ (Loop ∷ LoopEntry ∷ Toggle ∷ []) ∷ (0 ∷ body_of 0 ∷ 0 ∷ [])
    ∷ (-1 ∷ -1 ∷ -1 ∷ -1 ∷ -1 ∷ -1 ∷ []) ∷ (0 ∷ 0 ∷ 0 ∷ 0 ∷ 1 ∷ 0 ∷ [])
    ∷ (4 ∷ []) ∷ (10 ∷ [])
    ∷ [])
    ((0 ∷ 0 ∷ []) ∷ [] ∷ [] ∷ [] ∷ [] ∷ [])
    (refused 19)
    -- where a body is no Loop's;
    ∷ row
    ((1 ∷ 0 ∷ 1 ∷ 0 ∷ []) ∷ [] ∷ [] ∷ (Toggle ∷ []) ∷ (body_of 63 ∷ []) ∷ (-1 ∷ []) ∷ (0 ∷ []) ∷ [] ∷ [] ∷ [])
    ((0 ∷ 0 ∷ []) ∷ [] ∷ [] ∷ [] ∷ [] ∷ [])
    (refused 19)
    -- where a Loop has no entry,
    ∷ row
    ((1 ∷ 0 ∷ 4 ∷ 0 ∷ []) ∷ [] ∷ [] ∷ (Loop ∷ []) ∷ (0 ∷ []) ∷ (-1 ∷ -1 ∷ -1 ∷ -1 ∷ []) ∷ (0 ∷ 0 ∷ 0 ∷ 0 ∷ []) ∷ [] ∷ [] ∷ [])
    ((0 ∷ 0 ∷ []) ∷ [] ∷ [] ∷ [] ∷ [] ∷ [])
    (refused 19)
    -- or two,
    ∷ row
    ((3 ∷ 1 ∷ 6 ∷ 0 ∷ [])
    ∷ (1 ∷ []) ∷ (0 ∷ [])
    ∷ (Loop ∷ LoopEntry ∷ LoopEntry ∷ []) ∷ (0 ∷ body_of 0 ∷ body_of 0 ∷ [])
    ∷ (-1 ∷ -1 ∷ -1 ∷ -1 ∷ -1 ∷ -1 ∷ []) ∷ (0 ∷ 0 ∷ 0 ∷ 0 ∷ 1 ∷ 1 ∷ [])
    ∷ [] ∷ []
    ∷ [])
    ((0 ∷ 0 ∷ []) ∷ [] ∷ [] ∷ [] ∷ [] ∷ [])
    (refused 19)
    -- or one that lies in another body;
    ∷ row
    ((2 ∷ 1 ∷ 5 ∷ 0 ∷ [])
    ∷ (1 ∷ []) ∷ (0 ∷ [])
    ∷ (Loop ∷ LoopEntry ∷ []) ∷ (0 ∷ 0 ∷ [])
    ∷ (-1 ∷ -1 ∷ -1 ∷ -1 ∷ -1 ∷ []) ∷ (0 ∷ 0 ∷ 0 ∷ 0 ∷ 1 ∷ [])
    ∷ [] ∷ []
    ∷ [])
    ((0 ∷ 0 ∷ []) ∷ [] ∷ [] ∷ [] ∷ [] ∷ [])
    (refused 19)
    -- where two Loops lie each in the other's body,
    ∷ row
    ((4 ∷ 2 ∷ 10 ∷ 0 ∷ [])
    ∷ (1 ∷ 1 ∷ []) ∷ (0 ∷ 2 ∷ [])
    ∷ (Loop ∷ LoopEntry ∷ Loop ∷ LoopEntry ∷ []) ∷ (body_of 2 ∷ body_of 0 ∷ body_of 0 ∷ body_of 2 ∷ [])
    ∷ replicate 10 -1 ∷ (0 ∷ 0 ∷ 0 ∷ 0 ∷ 1 ∷ 0 ∷ 0 ∷ 0 ∷ 0 ∷ 2 ∷ [])
    ∷ [] ∷ []
    ∷ [])
    ((0 ∷ 0 ∷ []) ∷ [] ∷ [] ∷ [] ∷ [] ∷ [])
    (refused 19)
    -- or a Loop in its own.
    ∷ row
    ((2 ∷ 1 ∷ 5 ∷ 0 ∷ [])
    ∷ (1 ∷ []) ∷ (0 ∷ [])
    ∷ (Loop ∷ LoopEntry ∷ []) ∷ (body_of 0 ∷ body_of 0 ∷ [])
    ∷ (-1 ∷ -1 ∷ -1 ∷ -1 ∷ -1 ∷ []) ∷ (0 ∷ 0 ∷ 0 ∷ 0 ∷ 1 ∷ [])
    ∷ [] ∷ []
    ∷ [])
    ((0 ∷ 0 ∷ []) ∷ [] ∷ [] ∷ [] ∷ [] ∷ [])
    (refused 19)
    -- It is asked before question 6: two Reroutes read each other, and a Toggle's body is no Loop's.
    ∷ row
    ((3 ∷ 0 ∷ 3 ∷ 0 ∷ [])
    ∷ [] ∷ []
    ∷ (Reroute ∷ Reroute ∷ Toggle ∷ []) ∷ (0 ∷ 0 ∷ body_of 0 ∷ [])
    ∷ (1 ∷ 0 ∷ -1 ∷ []) ∷ (0 ∷ 0 ∷ 0 ∷ [])
    ∷ [] ∷ []
    ∷ [])
    ((0 ∷ 0 ∷ []) ∷ [] ∷ [] ∷ [] ∷ [] ∷ [])
    (refused 19)
    -- Question 6: two Reroutes read each other.
    ∷ row
    ((2 ∷ 0 ∷ 2 ∷ 0 ∷ []) ∷ [] ∷ [] ∷ (Reroute ∷ Reroute ∷ []) ∷ (0 ∷ 0 ∷ []) ∷ (1 ∷ 0 ∷ []) ∷ (0 ∷ 0 ∷ []) ∷ [] ∷ [] ∷ [])
    ((0 ∷ 0 ∷ []) ∷ [] ∷ [] ∷ [] ∷ [] ∷ [])
    (refused 6)
    -- Question 7: two Queues, and areas of 65,536 bytes.
    ∷ row
    ((2 ∷ 0 ∷ 20 ∷ 0 ∷ []) ∷ [] ∷ [] ∷ (QueueInTicks ∷ QueueInSeconds ∷ []) ∷ (0 ∷ 0 ∷ []) ∷ replicate 20 -1 ∷ replicate 20 0 ∷ [] ∷ [] ∷ [])
    ((0 ∷ 0 ∷ []) ∷ [] ∷ [] ∷ [] ∷ [] ∷ [])
    (refused 7)
    -- Question 8: a word of the script is missing.
    ∷ row
    switch
    ((1 ∷ 1 ∷ []) ∷ (quarter ∷ []) ∷ (1 ∷ []) ∷ (0 ∷ []) ∷ [] ∷ [])
    (refused 8)
    -- Question 9: a tick longer than 3,600 seconds.
    ∷ row
    switch
    ((1 ∷ 1 ∷ []) ∷ (above_3600 ∷ []) ∷ (1 ∷ []) ∷ (0 ∷ []) ∷ (1 ∷ []) ∷ [])
    (refused 9)
    -- Question 10: a stimulus of a Toggle.
    ∷ row
    switch
    ((1 ∷ 1 ∷ []) ∷ (quarter ∷ []) ∷ (1 ∷ []) ∷ (1 ∷ []) ∷ (1 ∷ []) ∷ [])
    (refused 10)
    ∷ []

-- f64 bits, the f32 bits that they are narrowed to, and whether that changes the number
pub record Narrowed : Type 0 where
  pub wide : ℕ
  pub narrow : ℕ
  pub changed : Bool

-- the same, by its parts
unfoldable pub to : ℕ → ℕ → Bool → Narrowed
to w n changed = record { wide = w; narrow = n; changed = changed }

-- * 0.1; 1 + 2^-24, a tie; 1 + 3 × 2^-24, a tie; 2^-150, a tie; 2^128 - 2^103, a tie with infinity. Then 2^128; 0.0; -0.0; 0.5; 2^-149, the smallest f32; 2^128 - 2^104,
-- the largest.
unfoldable pub narrowings : List Narrowed
narrowings =
    to 0x3FB999999999999A 0x3DCCCCCD true
    ∷ to 0x3FF0000010000000 0x3F800000 true
    ∷ to 0x3FF0000030000000 0x3F800002 true
    ∷ to 0x3690000000000000 0x00000000 true
    ∷ to 0x47EFFFFFF0000000 0x7F800000 true
    ∷ to 0x47F0000000000000 0x7F800000 true
    ∷ to 0x0000000000000000 0x00000000 false
    ∷ to 0x8000000000000000 0x80000000 false
    ∷ to 0x3FE0000000000000 0x3F000000 false
    ∷ to 0x36A0000000000000 0x00000001 false
    ∷ to 0x47EFFFFFE0000000 0x7F7FFFFF false
    ∷ []

-- what the definition makes of its f64 bits
abbrev narrowed : Narrowed → Narrowed
narrowed n = to n.wide (narrow n.wide) (narrow_changes n.wide)

pub played_examples : (map answered rows ≡ map (λ r. r.wanted) rows) × (map narrowed narrowings ≡ narrowings)
unfolding model_opened row plays answered rows to narrowings
played_examples = (refl, refl)

-- ---- the step limit, with a small number in place of 50,000,000

-- In each tick a WorldEvent calls three Reroutes, one behind the other: three steps. The list says how many each tick may make.
unfoldable pub three_steps : List ℕ → Played
three_steps limits =
    let c =
    circuit (joined (
    (4 ∷ 0 ∷ 3 ∷ 3 ∷ [])
    ∷ (WorldEvent ∷ Reroute ∷ Reroute ∷ Reroute ∷ []) ∷ (0 ∷ 0 ∷ 0 ∷ 0 ∷ [])
    ∷ (-1 ∷ -1 ∷ -1 ∷ []) ∷ (0 ∷ 0 ∷ 0 ∷ [])
    ∷ (0 ∷ 2 ∷ 3 ∷ []) ∷ (0 ∷ 2 ∷ 4 ∷ [])
    ∷ [])) in
    seen c (ticks_of c 65536 (joined (map (λ limit. allowed limit (script c.constants (1 ∷ 1 ∷ 0 ∷ 1 ∷ 0 ∷ 0 ∷ []))) limits)))

-- Three steps pass where three may be made.
pub steps_pass : three_steps (3 ∷ []) ≡ record { log = 1 ∷ 3 ∷ 1 ∷ 0 ∷ 0 ∷ 0 ∷ 0 ∷ 0 ∷ 2 ∷ 0 ∷ 0 ∷ 0 ∷ 0 ∷ 0 ∷ 0 ∷ 0 ∷ 0 ∷ 0 ∷ 0 ∷ []; stop = 0; ticks = 1 }
unfolding model_opened three_steps
steps_pass = refl

-- Where two may be made the third stops with 11: the steps include the one not made, and the units begun the one under way.
pub runaway_stops : three_steps (2 ∷ []) ≡ record { log = 1 ∷ 3 ∷ 1 ∷ 0 ∷ 0 ∷ 11 ∷ 0 ∷ 0 ∷ 2 ∷ []; stop = 11; ticks = 0 }
unfolding model_opened three_steps
runaway_stops = refl

-- Each tick has a limit of its own: three steps of three, three of five, and the third of two stops.
pub limits_differ :
    three_steps (3 ∷ 5 ∷ 2 ∷ [])
    ≡ record {
      log =
          joined (
          (1 ∷ 3 ∷ 1 ∷ 0 ∷ 0 ∷ 0 ∷ 0 ∷ 0 ∷ 2 ∷ 0 ∷ 0 ∷ 0 ∷ 0 ∷ 0 ∷ 0 ∷ 0 ∷ 0 ∷ 0 ∷ 0 ∷ [])
          ∷ (2 ∷ 3 ∷ 1 ∷ 0 ∷ 0 ∷ 0 ∷ 0 ∷ 0 ∷ 2 ∷ 0 ∷ 0 ∷ 0 ∷ 0 ∷ 0 ∷ 0 ∷ 0 ∷ 0 ∷ 0 ∷ 0 ∷ [])
          ∷ (3 ∷ 3 ∷ 1 ∷ 0 ∷ 0 ∷ 11 ∷ 0 ∷ 0 ∷ 2 ∷ [])
          ∷ []);
      stop = 11;
      ticks = 2;
    }
unfolding model_opened three_steps
limits_differ = refl

-- K4: where one step may be made, the unit of gate 5 stops the tick: its record lists what is carried, and not gate 6, which is pending.
pub stopped_carries :
    (let c = circuit (joined carries) in
    seen c (ticks_of c 65536 (allowed 1 (script c.constants (1 ∷ 0 ∷ quarter ∷ 0 ∷ [])))))
    ≡ record { log = 1 ∷ 2 ∷ 0 ∷ 3 ∷ 3 ∷ 11 ∷ 0 ∷ 3 ∷ 0 ∷ 5 ∷ 0 ∷ 0 ∷ 32 ∷ 2 ∷ 3 ∷ 4 ∷ 32 ∷ 0 ∷ 16 ∷ []; stop = 11; ticks = 0 }
unfolding model_opened
stopped_carries = refl

-- ---- the limit of runs, with a small number in place of 100,000, and that of the chain stack

-- A Loop (gate 0) of three runs, whose body calls a Toggle (2) twice; Completed calls another one (3). The Loop is entered where so many runs are left to the tick, and
-- so many calls of the second Toggle wait around it.
unfoldable pub three_runs : ℕ → ℕ → Chained
three_runs runs around =
    let c =
    circuit (joined (
    (4 ∷ 2 ∷ 7 ∷ 3 ∷ [])
    ∷ (1 ∷ 1 ∷ []) ∷ (3 ∷ 0 ∷ [])
    ∷ (Loop ∷ LoopEntry ∷ Toggle ∷ Toggle ∷ []) ∷ (0 ∷ body_of 0 ∷ body_of 0 ∷ 0 ∷ [])
    ∷ (-1 ∷ -1 ∷ -1 ∷ -1 ∷ -1 ∷ -1 ∷ -1 ∷ []) ∷ (0 ∷ 1 ∷ 0 ∷ 0 ∷ 2 ∷ 0 ∷ 0 ∷ [])
    ∷ (4 ∷ 4 ∷ 0 ∷ []) ∷ (10 ∷ 10 ∷ 12 ∷ [])
    ∷ [])) in
    run_chain c 1000 (record { stack = 0 ∷ replicate around 6; forks = [] }) (runs_left_to runs (start c))

-- Where two runs are left the third aborts the Loop, before Index is set, and Completed is fired; where three are left all is done.
pub third_run_aborts :
    ((three_runs 2 0).state.wires.outs
    ≡ Nothing ∷ Int 2 ∷ Truth true ∷ Truth false ∷ Nothing ∷ Int 1 ∷ Nothing ∷ Truth false ∷ Nothing ∷ Truth true ∷ [])
    × ((three_runs 3 0).state.wires.outs
    ≡ Nothing ∷ Int 3 ∷ Truth false ∷ Truth false ∷ Nothing ∷ Int 2 ∷ Nothing ∷ Truth false ∷ Nothing ∷ Truth true ∷ [])
unfolding model_opened three_runs
third_run_aborts = (refl, refl)

-- The stack's 256 covers all nested runs: 254 calls around the Loop and two in its body fit, 255 and two do not.
pub stack_of_all_runs : ((three_runs 3 254).stop ≡ 0) × ((three_runs 3 255).stop ≡ 12)
unfolding model_opened three_runs
stack_of_all_runs = (refl, refl)

-- ---- the index

-- of the first four runs
abbrev indices : ℤ → ℤ → List ℕ
indices first step = map (λ done. index first done step) (0 ∷ 1 ∷ 2 ∷ 3 ∷ [])

-- It wraps at 64 bits: past 2^63 - 1, by 2^62, by -2^63, and below -2^63. A word of 2^63 or more is negative.
pub indices_wrap :
    (indices (pos (2 ^ 63 - 2)) (pos 1) ≡ (2 ^ 63 - 2) ∷ (2 ^ 63 - 1) ∷ 2 ^ 63 ∷ (2 ^ 63 + 1) ∷ [])
    × (indices (pos 0) (pos (2 ^ 62)) ≡ 0 ∷ 2 ^ 62 ∷ 2 ^ 63 ∷ (3 * 2 ^ 62) ∷ [])
    × (indices (pos 5) (negsuc (2 ^ 63 - 1)) ≡ 5 ∷ (2 ^ 63 + 5) ∷ 5 ∷ (2 ^ 63 + 5) ∷ [])
    × (indices (negsuc (2 ^ 63 - 1)) (negsuc 0) ≡ 2 ^ 63 ∷ (2 ^ 63 - 1) ∷ (2 ^ 63 - 2) ∷ (2 ^ 63 - 3) ∷ [])
unfolding model_opened
indices_wrap = (refl, refl, refl, refl)
