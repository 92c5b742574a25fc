-- Hours per driver (document 02, K3): a report on a finished log. The trainer names two value outputs, driver and activity, and the length of a tick.
use Rattle.std.specs.Prelude.{ℕ, ◌+◌, ◌*◌, ◌/◌, Bool, true, false, ◌&&◌, List, [], ◌∷◌, map, leb, eqb, length}
use Rattle.words.specs.Words.{words, bytes}
use Rattle.model.specs.declared.Value.{Value}
use Rattle.model.specs.declared.Value.TheVariants.{Nothing, Int, Float, Bool as Truth}
use Rattle.model.specs.Base.{if◌then◌otherwise◌, keep, joined, snoc, among}
use Rattle.model.specs.Circuit.{Circuit, circuit}
use Rattle.model.specs.Record.{LogRecord}
use Rattle.model.specs.Questions.{within, value_output}
use Rattle.records.specs.Whole.{log_refusal}
use Rattle.records.specs.Records.{records, ticks_read, shown_in}
use Rattle.records.specs.Reply.{Reply, refused, writes, or_refused}

-- ---- whom each tick is assigned to

-- a driver and one of the activities 0 to 3, or nobody
pub data Share : Type 0 where
  unassigned : Share
  assigned : ℕ → ℕ → Share

-- the activities are 0 to 3
abbrev pub last_activity : ℕ
last_activity = 3

-- the activity, beside a driver that is an Int; a negative Int is 2 ^ 63 or more
unfoldable pub active : ℕ → Value → Share
active d Nothing = unassigned
active d (Int a) = if leb a last_activity then assigned d a otherwise unassigned
active d (Float b) = unassigned
active d (Truth t) = unassigned

-- unassigned where either is no Int, or the activity is none of these
unfoldable pub share : Value → Value → Share
share Nothing a = unassigned
share (Int d) a = active d a
share (Float b) a = unassigned
share (Truth t) a = unassigned

-- of each tick read, by the outputs for driver and activity
unfoldable pub shares : ℕ → ℕ → List LogRecord → List Share
shares driver activity rs = map (λ r. share (shown_in driver r) (shown_in activity r)) (ticks_read rs)

-- the drivers in order of first appearance, behind those seen before; only a tick assigned makes its driver appear
unfoldable pub drivers_after : List ℕ → List Share → List ℕ
drivers_after ds [] = ds
drivers_after ds (unassigned ∷ ss) = drivers_after ds ss
drivers_after ds (assigned d a ∷ ss) = drivers_after (if among d ds then ds otherwise snoc ds d) ss

unfoldable pub drivers : List Share → List ℕ
drivers ss = drivers_after [] ss

-- whether a tick is this driver's in this activity
unfoldable pub is_share : ℕ → ℕ → Share → Bool
is_share d a unassigned = false
is_share d a (assigned e b) = eqb d e && eqb a b

unfoldable pub is_nobodys : Share → Bool
is_nobodys unassigned = true
is_nobodys (assigned d a) = false

-- ---- the report

-- the milliseconds of a minute, and of half of one
abbrev pub minute : ℕ
minute = 60000

abbrev pub half_minute : ℕ
half_minute = 30000

-- milliseconds in minutes, rounded to the nearest, the half upwards
unfoldable pub minutes : ℕ → ℕ
minutes ms = (ms + half_minute) / minute

-- a line: 1, driver, activity, milliseconds, minutes; the last has 0 0 0 first
pub record Line : Type 0 where
  pub first : ℕ
  pub driver : ℕ
  pub activity : ℕ
  pub milliseconds : ℕ

unfoldable pub line_words : Line → List ℕ
line_words l = l.first ∷ l.driver ∷ l.activity ∷ l.milliseconds ∷ minutes l.milliseconds ∷ []

-- of ticks that are each so many milliseconds long
module _ (len : ℕ) (ss : List Share) where
  -- one driver in one activity
  unfoldable pub line_of : ℕ → ℕ → Line
  line_of d a = record { first = 1; driver = d; activity = a; milliseconds = length (keep (is_share d a) ss) * len }

  -- unassigned, the last line
  unfoldable pub last_line : Line
  last_line = record { first = 0; driver = 0; activity = 0; milliseconds = length (keep is_nobodys ss) * len }

  -- four lines for each driver, and the last
  unfoldable pub lines_of : List ℕ → List Line
  lines_of [] = last_line ∷ []
  lines_of (d ∷ ds) = line_of d 0 ∷ line_of d 1 ∷ line_of d 2 ∷ line_of d 3 ∷ lines_of ds

  unfoldable pub report : List Line
  report = lines_of (drivers ss)

unfoldable pub report_words : List Line → List ℕ
report_words ls = joined (map line_words ls)

-- ---- the call

-- the milliseconds of a tick at the most
abbrev pub longest : ℕ
longest = 60000

-- 17: are driver and activity value outputs, and is the length 1 to 60,000 milliseconds?
abbrev pub wrong_names : ℕ
wrong_names = 17

unfoldable pub good_names : Circuit → ℕ → ℕ → ℕ → Bool
good_names c driver activity len = value_output c driver && value_output c activity && within 1 longest len

-- the drivers of a report at the most
abbrev pub most_drivers : ℕ
most_drivers = 32

-- 18: is there no 33rd driver, and does the report fit a buffer of so many bytes?
abbrev pub no_room : ℕ
no_room = 18

unfoldable pub has_room : ℕ → ℕ → List Share → Bool
has_room len room ss = leb (length (drivers ss)) most_drivers && leb (8 * length (report_words (report len ss))) room

-- the report of some ticks, where there is room
unfoldable pub reported : ℕ → ℕ → List Share → Reply
reported len room ss = if has_room len room ss then writes (bytes (report_words (report len ss))) otherwise refused no_room

-- What the call answers, with a report buffer of so many bytes: the circuit's own refusals and 16, then 17, then 18, or the report.
unfoldable pub hours : List ℕ → List ℕ → ℕ → ℕ → ℕ → ℕ → Reply
hours circuit_bytes log driver activity len room =
    let c = circuit (words circuit_bytes) in
    or_refused (log_refusal circuit_bytes log)
    (or_refused (if good_names c driver activity len then 0 otherwise wrong_names) (reported len room (shares driver activity (records c log))))

unfoldable pub hours_opened : ℕ
unfolding active share shares drivers_after drivers is_share is_nobodys minutes line_words line_of last_line lines_of report report_words good_names has_room reported hours
hours_opened = 0
