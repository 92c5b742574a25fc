-- What the scheduler does, played on small machines and computed: a row for each rule. A unit is a number, and its tens are its rank: 40 and 41 are of rank 4.
use Rattle.std.specs.Prelude.{◌≡◌, refl, List, [], ◌∷◌, ◌++◌, map, cond, ℕ, zero, suc, ◌+◌, ◌*◌, ◌/◌, length, replicate, ltb, eqb}
use Rattle.schedule.specs.Schedule.{Did, Outcome, Place, to_late, to_delivered, to_pending, When, by_rank, put_off, Machine, Setup, numbered, Activation, Tick, acts, run, schedule_opened}
use Rattle.schedule.specs.Promise.{begun, has_run}

-- ---- the machines

-- what each unit raises and how, its own stop, and how many records the log takes
record Play : Type 0 where
  raises : ℕ → List (ℕ × When)
  stops : ℕ → ℕ
  records : ℕ

-- the world: how many were raised so far, and the records written
record World : Type 0 where
  count : ℕ
  log : List (Outcome ℕ)

-- raised one after the other, each with the world before it
abbrev did : {P : Type 0} → World → List (ℕ × P) → ℕ → Did World ℕ P
did w [] s = record { world = w; raises = []; stop = s }
did w (r ∷ rs) s =
    let d = did (record { count = suc w.count; log = w.log }) rs s in
    record { world = d.world; raises = record { at = w; act = r.0; place = r.1 } ∷ d.raises; stop = d.stop }

abbrev machine : Play → Machine
machine p =
    record {
      W = World;
      In = List (ℕ × Place);
      Act = ℕ;
      rank = λ a. a / 10;
      opening = λ w i. did w i 0;
      body = λ w a. did w (p.raises a) (p.stops a);
      closing =
          λ w i o.
          let fits = ltb (length w.log) p.records in
          record { world = record { count = w.count; log = cond fits (w.log ++ (o ∷ [])) w.log }; fits = fits };
    }

-- these by their rank
abbrev by_ranks : List ℕ → List (ℕ × When)
by_ranks = map (λ (a : ℕ). (a, by_rank))

-- the unit a raises l
abbrev on : ℕ → List ℕ → ℕ → List ℕ
on a l b = cond (eqb a b) l []

-- units that raise by rank, with no stop of their own
abbrev raising : (ℕ → List ℕ) → Play
raising f = record { raises = λ a. by_ranks (f a); stops = λ a. 0; records = 99 }

-- the unit 40 raises l, each as it says
abbrev raising_as : List (ℕ × When) → Play
raising_as l = record { raises = λ a. cond (eqb a 40) l []; stops = λ a. 0; records = 99 }

-- what an opening raises
abbrev late : List ℕ → List (ℕ × Place)
late = map (λ (a : ℕ). (a, to_late))

abbrev delivered : List ℕ → List (ℕ × Place)
delivered = map (λ (a : ℕ). (a, to_delivered))

abbrev pending : List ℕ → List (ℕ × Place)
pending = map (λ (a : ℕ). (a, to_pending))

abbrev start : World
start = record { count = 0; log = [] }

-- ---- what is shown of each tick of a run

module _ (p : Play) (script : List (List (ℕ × Place))) where
  abbrev S : Setup
  S = numbered (machine p)

  abbrev unit_of : Activation S → ℕ
  unit_of e = e.act

  -- the late units, the main units, what it carries, its stop
  abbrev played : List (List ℕ × List ℕ × List ℕ × ℕ)
  played = map (λ (t : Tick S). (acts S t.late, acts S t.main, map unit_of t.carried, t.stop)) (run S script start)

  -- how many these are: late units, main units, carried; how many were raised so far; its stop
  abbrev sizes : List (ℕ × ℕ × ℕ × ℕ × ℕ)
  sizes = map (λ (t : Tick S). (length t.late, length t.main, length t.carried, t.world.count, t.stop)) (run S script start)

  -- the units begun, each with the number of its raising
  abbrev numbers : List (List (ℕ × ℕ))
  numbers = map (λ (t : Tick S). map (λ (e : Activation S). (e.act, e.tag)) (begun S t)) (run S script start)

  -- the units begun, those that have run, what is still pending, its stop
  abbrev at_stop : List (List ℕ × List ℕ × List ℕ × ℕ)
  at_stop = map (λ (t : Tick S). (map unit_of (begun S t), map unit_of (has_run S t), map unit_of t.waiting, t.stop)) (run S script start)

  -- the records so far, and its stop
  abbrev records : List (List (Outcome ℕ) × ℕ)
  records = map (λ (t : Tick S). (t.world.log, t.stop)) (run S script start)

-- ---- where a raised one goes, and which begins next

-- In a main pass rank 4 raises rank 4: carried, and it begins in the next tick's late pass.
same_rank :
    played (raising (on 40 (41 ∷ []))) (pending (40 ∷ []) ∷ [] ∷ [])
    ≡ ([], 40 ∷ [], 41 ∷ [], 0)
    ∷ (41 ∷ [], [], [], 0)
    ∷ []
unfolding schedule_opened
same_rank = refl

-- It raises rank 5: this tick. Rank 3: carried.
other_rank :
    played (raising (on 40 (30 ∷ 50 ∷ []))) (pending (60 ∷ 40 ∷ []) ∷ [] ∷ [])
    ≡ ([], 40 ∷ 50 ∷ 60 ∷ [], 30 ∷ [], 0)
    ∷ (30 ∷ [], [], [], 0)
    ∷ []
unfolding schedule_opened
other_rank = refl

-- The main pass begins the lowest rank, and within a rank the first raised: 53, raised by 41, comes after 52 and 51.
by_age_main :
    played (raising (on 41 (53 ∷ []))) (pending (52 ∷ 41 ∷ 51 ∷ 40 ∷ []) ∷ [])
    ≡ ([], 41 ∷ 40 ∷ 52 ∷ 51 ∷ 53 ∷ [], [], 0)
    ∷ []
unfolding schedule_opened
by_age_main = refl

-- So does the late pass.
by_age_late :
    played (raising (on 41 (53 ∷ []))) (late (52 ∷ 41 ∷ 51 ∷ 40 ∷ []) ∷ [])
    ≡ (41 ∷ 40 ∷ 52 ∷ 51 ∷ 53 ∷ [], [], [], 0)
    ∷ []
unfolding schedule_opened
by_age_late = refl

-- In the late pass nothing is carried, so ranks may fall again: 50 raises 40.
late_falls : played (raising (on 50 (40 ∷ []))) (late (50 ∷ 60 ∷ []) ∷ []) ≡ (50 ∷ 40 ∷ 60 ∷ [], [], [], 0) ∷ []
unfolding schedule_opened
late_falls = refl

-- A delivered one begins only while no ranked one waits, whatever its rank: 10 after 50, and 20 after 60, which 10 raised.
delivered_last :
    played (raising (on 10 (60 ∷ []))) ((delivered (10 ∷ 20 ∷ []) ++ late (50 ∷ [])) ∷ [])
    ≡ (50 ∷ 10 ∷ 60 ∷ 20 ∷ [], [], [], 0)
    ∷ []
unfolding schedule_opened
delivered_last = refl

-- What was carried begins by rank, within a rank first carried first, and before what the opening raises of that rank.
carried_first :
    played (raising (on 40 (42 ∷ 41 ∷ 30 ∷ []))) (pending (40 ∷ []) ∷ late (43 ∷ []) ∷ [])
    ≡ ([], 40 ∷ [], 42 ∷ 41 ∷ 30 ∷ [], 0)
    ∷ (30 ∷ 42 ∷ 41 ∷ 43 ∷ [], [], [], 0)
    ∷ []
unfolding schedule_opened
carried_first = refl

-- In a main pass what is put off is carried whatever its rank, in the order raised: 70 and 50 above the rank reached, 30 below it. 60 is not.
put_off_carried :
    played (raising_as ((70, put_off) ∷ (60, by_rank) ∷ (30, by_rank) ∷ (50, put_off) ∷ [])) (pending (40 ∷ []) ∷ late (30 ∷ []) ∷ [])
    ≡ ([], 40 ∷ 60 ∷ [], 70 ∷ 30 ∷ 50 ∷ [], 0)
    ∷ (30 ∷ 30 ∷ 50 ∷ 70 ∷ [], [], [], 0)
    ∷ []
unfolding schedule_opened
put_off_carried = refl

-- In the late pass it is not: it runs in this tick.
put_off_late :
    played (raising_as ((70, put_off) ∷ (30, put_off) ∷ [])) (late (40 ∷ []) ∷ [] ∷ [])
    ≡ (40 ∷ 30 ∷ 70 ∷ [], [], [], 0)
    ∷ ([], [], [], 0)
    ∷ []
unfolding schedule_opened
put_off_late = refl

-- Each raising takes the next number, and a carried one keeps its own: of unit 41 two begin in the second tick, 2 and 4.
identities :
    numbers (raising (on 40 (41 ∷ 50 ∷ []))) (pending (60 ∷ 40 ∷ []) ∷ (late (41 ∷ []) ++ pending (60 ∷ [])) ∷ [])
    ≡ ((40, 1) ∷ (50, 3) ∷ (60, 0) ∷ [])
    ∷ ((41, 2) ∷ (41, 4) ∷ (60, 5) ∷ [])
    ∷ []
unfolding schedule_opened
identities = refl

-- ---- stops

-- A unit that stops inside has begun and has not run; what is pending does not begin, and no tick follows.
own_stop :
    at_stop (record { raises = λ a. []; stops = λ a. cond (eqb a 40) 11 0; records = 99 }) (pending (50 ∷ 40 ∷ 30 ∷ []) ∷ [] ∷ [])
    ≡ (30 ∷ 40 ∷ [], 30 ∷ [], 50 ∷ [], 11)
    ∷ []
unfolding schedule_opened
own_stop = refl

-- A unit that finds a list full when it raises has run: its chain and forks ended before.
full_stop :
    at_stop (raising (on 40 (replicate 257 40))) (pending (50 ∷ 40 ∷ []) ∷ [] ∷ [])
    ≡ (40 ∷ [], 40 ∷ [], 50 ∷ [], 12)
    ∷ []
unfolding schedule_opened
full_stop = refl

-- The record gets what the tick began and carries, and is written after a stop too.
record_written :
    records (record { raises = λ a. by_ranks (on 40 (41 ∷ []) a); stops = λ a. cond (eqb a 41) 11 0; records = 99 }) (pending (40 ∷ 50 ∷ []) ∷ [] ∷ [])
    ≡ (record { late = []; main = 40 ∷ 50 ∷ []; carried = 41 ∷ []; stop = 0 } ∷ [], 0)
    ∷ (record { late = []; main = 40 ∷ 50 ∷ []; carried = 41 ∷ []; stop = 0 } ∷ record { late = 41 ∷ []; main = []; carried = []; stop = 11 } ∷ [], 11)
    ∷ []
unfolding schedule_opened
record_written = refl

-- In a tick that stops, too, it gets what is carried, in the order raised, and not what is pending (60).
record_of_stopped :
    records (record { raises = λ a. by_ranks (on 40 (41 ∷ 30 ∷ []) a); stops = λ a. cond (eqb a 50) 11 0; records = 99 }) (pending (60 ∷ 50 ∷ 40 ∷ []) ∷ [] ∷ [])
    ≡ (record { late = []; main = 40 ∷ 50 ∷ []; carried = 41 ∷ 30 ∷ []; stop = 11 } ∷ [], 11)
    ∷ []
unfolding schedule_opened
record_of_stopped = refl

-- Where the record does not fit, the stop is 13.
record_over :
    records (record { raises = λ a. []; stops = λ a. 0; records = 1 }) ([] ∷ [] ∷ [] ∷ [])
    ≡ (record { late = []; main = []; carried = []; stop = 0 } ∷ [], 0)
    ∷ (record { late = []; main = []; carried = []; stop = 0 } ∷ [], 13)
    ∷ []
unfolding schedule_opened
record_over = refl

-- ---- limits: `sizes` shows late units, main units, carried, how many were raised so far, and the stop

-- 10 raises 20, 20 raises 30, and so on, up to rank n
abbrev climbing : ℕ → ℕ → List ℕ
climbing n a = cond (ltb (a / 10) n) ((a + 10) ∷ []) []

-- 1,024 units may begin, both passes together: four that climb to rank 128 in each pass.
units_fit : sizes (raising (climbing 128)) ((late (replicate 4 10) ++ pending (replicate 4 10)) ∷ []) ≡ (512, 512, 0, 1024, 0) ∷ []
unfolding schedule_opened
units_fit = refl

-- The 1,025th does not begin.
units_over :
    sizes (raising (climbing 128)) ((late (replicate 4 10) ++ delivered (1280 ∷ []) ++ pending (replicate 4 10)) ∷ [] ∷ [])
    ≡ (513, 511, 0, 1025, 12)
    ∷ []
unfolding schedule_opened
units_over = refl

-- units of the ranks n to 1, falling
abbrev falling : ℕ → List ℕ
falling zero = []
falling (suc n) = (suc n * 10) ∷ falling n

-- The 257th late one, in the opening and in the late pass: it is not raised, and the world is as it was at that moment.
late_over : sizes (raising (λ a. [])) (late (falling 258) ∷ []) ≡ (0, 0, 0, 256, 12) ∷ []
unfolding schedule_opened
late_over = refl

late_over_in_pass : sizes (raising (on 5 (falling 258))) (late (5 ∷ []) ∷ []) ≡ (1, 0, 0, 257, 12) ∷ []
unfolding schedule_opened
late_over_in_pass = refl

-- The 65th delivered one.
delivered_over : sizes (raising (λ a. [])) (delivered (falling 66) ∷ []) ≡ (0, 0, 0, 64, 12) ∷ []
unfolding schedule_opened
delivered_over = refl

-- The 257th pending one, in the opening and in the main pass.
pending_over : sizes (raising (λ a. [])) (pending (falling 258) ∷ []) ≡ (0, 0, 0, 256, 12) ∷ []
unfolding schedule_opened
pending_over = refl

pending_over_in_pass : sizes (raising (on 5 (falling 258))) (pending (5 ∷ []) ∷ []) ≡ (0, 1, 0, 257, 12) ∷ []
unfolding schedule_opened
pending_over_in_pass = refl

-- The 257th carried one.
carried_over : sizes (raising (on 40 (replicate 258 40))) (pending (40 ∷ []) ∷ [] ∷ []) ≡ (0, 1, 256, 257, 12) ∷ []
unfolding schedule_opened
carried_over = refl
