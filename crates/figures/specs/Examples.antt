-- Small circuits and their figures: a row for each sentence of the request, and for what a figure is easily taken for.
use Rattle.std.specs.Prelude.{ℕ, ◌+◌, ◌-◌, ◌*◌, ◌≡◌, refl, List, [], ◌∷◌, ◌++◌, map, length, replicate}
use Rattle.words.specs.Words.{bytes}
use Rattle.model.specs.Base.{joined, from}
use Rattle.model.specs.Circuit.{circuit, minus_one}
use Rattle.model.specs.Kinds.{Reroute, Var, QueueInTicks, Branch, Union, Toggle, Cycle, WorldEvent}
use Rattle.model.specs.Answer.{model_opened}
use Rattle.figures.specs.Figures.{most_unit_steps, Size, refused, figures, size, size_told, figures_opened}

-- a circuit without constants: the kinds of its gates, all of rank 0, so many inputs, its calls' outputs and targets
abbrev plain : List ℕ → ℕ → List ℕ → List ℕ → List ℕ
plain kinds inputs outs targets =
    length kinds ∷ 0 ∷ inputs ∷ length outs ∷ [] ++ kinds ++ replicate (length kinds) 0 ++ replicate inputs minus_one ++ replicate inputs 0 ++ outs ++ targets

-- the first figure of such a circuit
unfoldable steps : List ℕ → ℕ
steps ws = most_unit_steps (circuit ws)

-- what is answered of it, for T ticks
unfoldable asked : List ℕ → ℕ → Size
asked ws T = size (bytes ws) T

unfoldable examples_opened : ℕ
unfolding model_opened figures_opened steps asked
examples_opened = 0

-- ---- the steps

-- A WorldEvent calls a Toggle: its unit makes one step.
one_call : asked (plain (WorldEvent ∷ Toggle ∷ []) 1 (0 ∷ []) (0 ∷ [])) 10 ≡ figures 1 206000
unfolding examples_opened
one_call = refl

-- An E that nothing calls is a start too; where there is no E and no exec output there is no step.
lone_gates : map steps (plain (Toggle ∷ []) 1 [] [] ∷ plain (Var ∷ []) 1 [] [] ∷ []) ≡ 1 ∷ 0 ∷ []
unfolding examples_opened
lone_gates = refl

-- Both sides of a Branch, one of them remote: 3, though a run makes 2.
both_sides : steps (plain (WorldEvent ∷ Branch ∷ Toggle ∷ Toggle ∷ []) 4 (0 ∷ 2 ∷ 3 ∷ []) (0 ∷ 5 ∷ 6 ∷ [])) ≡ 3
unfolding examples_opened
both_sides = refl

-- A Union that is called twice, the same call listed twice: 4, though it passes once a tick.
union_twice : steps (plain (WorldEvent ∷ Union ∷ Toggle ∷ []) 2 (0 ∷ 0 ∷ 2 ∷ []) (0 ∷ 0 ∷ 2 ∷ [])) ≡ 4
unfolding examples_opened
union_twice = refl

-- A Queue passes on as any gate does, though the chain ends there.
queue_passes_on : steps (plain (WorldEvent ∷ QueueInTicks ∷ Toggle ∷ []) 11 (0 ∷ 2 ∷ []) (0 ∷ 20 ∷ [])) ≡ 2
unfolding examples_opened
queue_passes_on = refl

-- Entering a Reroute is a step, but no unit starts at one.
reroutes : map steps (plain (WorldEvent ∷ Reroute ∷ Toggle ∷ []) 2 (0 ∷ 2 ∷ []) (0 ∷ 2 ∷ []) ∷ plain (Reroute ∷ Toggle ∷ []) 2 (0 ∷ []) (2 ∷ []) ∷ []) ≡ 2 ∷ 1 ∷ []
unfolding examples_opened
reroutes = refl

-- docs/FORMAT.md's: a WorldEvent calls a Union twice, that a Branch, and its sides a Toggle each, the second one remote.
worked : asked (plain (WorldEvent ∷ Union ∷ Branch ∷ Toggle ∷ Toggle ∷ []) 5 (0 ∷ 0 ∷ 2 ∷ 3 ∷ 4 ∷ []) (0 ∷ 0 ∷ 2 ∷ 6 ∷ 9 ∷ [])) 500 ≡ figures 8 10340000
unfolding examples_opened
worked = refl

-- n Toggles in a row, each of which calls the next one twice
abbrev doubling : ℕ → List ℕ
doubling n = plain (replicate n Toggle) n (joined (map (λ g. 2 * g ∷ 2 * g ∷ []) (from 0 (n - 1)))) (joined (map (λ g. 2 * g ∷ 2 * g ∷ []) (from 1 (n - 1))))

-- Steps double from gate to gate; more than 50,000,000 are 50,000,001.
capped : map steps (doubling 3 ∷ doubling 25 ∷ doubling 26 ∷ []) ≡ 7 ∷ 33554431 ∷ 50000001 ∷ []
unfolding examples_opened
capped = refl

-- ---- the bytes

-- 8 × T × (7 + 2 × 1,024 + 2 × 256 + 2 × outputs), exec outputs too.
log_of_ticks :
    map (asked (plain (Toggle ∷ []) 1 [] [])) (0 ∷ 1 ∷ 100000 ∷ []) ≡ figures 1 0 ∷ figures 1 20568 ∷ figures 1 2056800000 ∷ []
unfolding examples_opened
log_of_ticks = refl

-- ---- 23 and 24

-- A Reroute that calls itself, though no unit reaches it; a Queue that calls itself again; a Cycle whose ExecOutDown comes back to its Exec.
abbrev rings : List (List ℕ)
rings = plain (Reroute ∷ []) 1 (0 ∷ []) (0 ∷ []) ∷ plain (QueueInTicks ∷ []) 10 (0 ∷ []) (0 ∷ []) ∷ plain (Cycle ∷ Toggle ∷ []) 4 (1 ∷ 3 ∷ []) (6 ∷ 0 ∷ []) ∷ []

ring_refused : map (λ ws. asked ws 100001) rings ≡ refused 23 ∷ refused 23 ∷ refused 23 ∷ []
unfolding examples_opened
ring_refused = refl

-- Two Unions that call each other, and a Toggle that calls one of them: the ring is found from all gates.
behind_a_ring : asked (plain (Toggle ∷ Union ∷ Union ∷ []) 3 (0 ∷ 2 ∷ 3 ∷ []) (2 ∷ 4 ∷ 2 ∷ [])) 0 ≡ refused 23
unfolding examples_opened
behind_a_ring = refl

-- a Loop, and its entry, which names it by constant 1
abbrev looping : List ℕ
looping =
    2 ∷ 1 ∷ 5 ∷ 0 ∷ 1 ∷ 0 ∷ 29 ∷ 30 ∷ 0 ∷ 65536 ∷ []
    ++ replicate 5 minus_one ++ (0 ∷ 0 ∷ 0 ∷ 0 ∷ 1 ∷ [])

loop_refused : asked looping 10 ≡ refused 23
unfolding examples_opened
loop_refused = refl

-- T is 0 to 100,000; a negative one is above. The circuit's own questions come first, then 23, then 24.
ticks_refused : map (asked (plain (Toggle ∷ []) 1 [] [])) (100001 ∷ minus_one ∷ []) ≡ refused 24 ∷ refused 24 ∷ []
unfolding examples_opened
ticks_refused = refl

circuit_refused : asked (plain (32 ∷ []) 1 [] []) 100001 ≡ refused 3
unfolding examples_opened
circuit_refused = refl

-- ---- what is told

told_words : map (size_told (figures 7 9)) ([] ∷ (1 ∷ []) ∷ (1 ∷ 2 ∷ 3 ∷ []) ∷ []) ≡ [] ∷ (7 ∷ []) ∷ (7 ∷ 9 ∷ 3 ∷ []) ∷ []
unfolding figures_opened
told_words = refl

told_nothing : size_told (refused 23) (1 ∷ 2 ∷ []) ≡ 1 ∷ 2 ∷ []
unfolding figures_opened
told_nothing = refl
