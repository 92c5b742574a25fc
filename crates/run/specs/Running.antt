-- A run under way, over what the areas and the log hold.
use Rattle.std.specs.Prelude.{ℕ, ◌+◌, ◌-◌, ◌*◌, ◌≤◌, ◌≡◌, true, List, [], ◌++◌, map, eqb, length, drop, replicate}
use Rattle.words.specs.Words.{words, tail}
use Rattle.words.specs.Slices.{Slice, before, after}
use Rattle.schedule.specs.Schedule.{run, run_on}
use Rattle.model.specs.Base.{all, sum}
use Rattle.model.specs.Kinds.{WorldEvent}
use Rattle.model.specs.Circuit.{Circuit, part, word_at, kind_of_gate}
use Rattle.model.specs.Script.{most_ticks}
use Rattle.model.specs.Questions.{names_constant}
use Rattle.model.specs.Opening.{start}
use Rattle.model.specs.Unit.{World}
use Rattle.model.specs.Run.{Played, Allowed, gets, seen, world_at_start}
use Rattle.links.specs.Links.{net}
use Rattle.links.specs.Lent.{net_of}
use Rattle.areas.specs.Areas.{Contents, areas}
use Rattle.passes.specs.Waiting.{bare, waiting}
use Rattle.run.specs.declared.Outcome.{Outcome}

-- these records and so many ticks, and then what is seen of the rest
unfoldable pub more : List ℕ → ℕ → Played → Played
more log k p = record { log = log ++ p.log; stop = p.stop; ticks = k + p.ticks }

-- After k ticks of a run from the world w on, whose ticks get this: the areas are a, and the log, which held `before`, has so many words of records.
pub record Running (c : Circuit) (is : List Allowed) (w : World) (k : ℕ) (a : Contents) (before log : List ℕ) (at : ℕ) : Type 0 where
  pub world : World
  pub state : world.state ≡ a.state
  pub room : world.room ≡ length before - 8 * at
  pub records : List ℕ
  pub size : length records ≡ at
  pub words : words log ≡ records ++ drop at (words before)
  pub tail : tail log ≡ tail before
  pub seen : seen c (run (bare c) is w) ≡ more records k (seen c (run_on (bare c) (drop k is) world (map (waiting c) a.lists.carried) tt))

-- What was seen of a run, in the log: its records stand before the rest, which is as it was.
pub record Logged (p : Played) (before log : List ℕ) (at end k : ℕ) : Type 0 where
  pub stop : p.stop ≡ end
  pub ticks : p.ticks ≡ k
  pub size : length p.log ≡ at
  pub words : words log ≡ p.log ++ drop at (words before)
  pub tail : tail log ≡ tail before

-- what is seen of a script's run over c, with so many steps a tick and a log of so many bytes
abbrev pub seen_of : Circuit → ℕ → List ℕ → ℕ → Played
seen_of c limit ws room = seen c (run (bare c) (gets c limit ws) (world_at_start c room))

-- the same in a contract: the log shows it, and r says how it came out
abbrev pub Logs : List ℕ → List ℕ → Slice → ℕ → Outcome → Type 0
Logs links script log limit r =
    Logged (seen_of (net_of links) limit (words script) (length (before log))) (before log) (after log) r.size r.stop r.ticks

-- the areas are as at the start of a run
abbrev pub Started : List ℕ → List ℕ → List ℕ → List ℕ → Type 0
Started links vs us ds =
    ((areas (net links) vs us ds).state ≡ start (net links))
    × ((areas (net links) vs us ds).lists.carried ≡ [])

-- an area is made zero
abbrev pub Zeroed : Slice → Type 0
Zeroed s = after s ≡ replicate (length (before s)) 0

-- a script that fits the circuit: few ticks, all words there, counts that add up, and stimuli of gates and constants that there are
pub record GoodScript (c : Circuit) (ws : List ℕ) : Type 0 where
  pub ticks : word_at ws 0 ≤ most_ticks
  pub words : length ws ≡ 2 + 2 * (word_at ws 0 + word_at ws 1)
  pub counts : sum (part ws (2 + word_at ws 0) (word_at ws 0)) ≡ word_at ws 1
  pub gates : all (λ g. eqb (kind_of_gate c g) WorldEvent) (part ws (2 + 2 * word_at ws 0) (word_at ws 1)) ≡ true
  pub constants : all (names_constant c) (part ws (2 + 2 * word_at ws 0 + word_at ws 1) (word_at ws 1)) ≡ true
  pub few_gates : length c.kinds ≤ 64
  pub few_constants : length c.constants ≤ 65
