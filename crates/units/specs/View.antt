-- How the area `units` holds the lists of a tick: tables of 64-bit words, one behind the other.
use Rattle.std.specs.Prelude.{ℕ, ◌+◌, ◌*◌, ◌/◌, ◌%◌, ◌^◌, min, Bool, not, List, [], ◌∷◌, ◌++◌, map, eqb, get_or}
use Rattle.words.specs.Words.{words, tail}
use Rattle.words.specs.Tables.{base, tables, marked}
use Rattle.lists.specs.Lists.{stacked, appended, ranked, queued}
use Rattle.model.specs.declared.Value.{Value}
use Rattle.model.specs.declared.Value.TheVariants.{Nothing}
use Rattle.model.specs.Base.{if◌then◌otherwise◌, both, from}
use Rattle.model.specs.Value.{value_of}
use Rattle.model.specs.Circuit.{Circuit, part}
use Rattle.model.specs.State.{form-Event, form-World, Act, Send}
use Rattle.model.specs.Chain.{Calls}
use Rattle.model.specs.Record.{Listed, listed}

-- The tables, in their order: the chain stack, the forks; what is pending, late and carried; the delivered events; the units begun; which half of the
-- events is the outbox; how many events each half has; their senders and their rows, 64 to a half, a row of eight kinds and eight contents; and the words behind
-- the tables.
pub record Tables : Type 0 where
  pub stack : List ℕ
  pub forks : List ℕ
  pub pending : List ℕ
  pub late : List ℕ
  pub carried : List ℕ
  pub delivered : List ℕ
  pub begun : List ℕ
  pub half : List ℕ
  pub counts : List ℕ
  pub senders : List ℕ
  pub rows : List ℕ
  pub rest : List ℕ

-- their sizes
abbrev pub sizes : List ℕ
sizes = 257 ∷ 258 ∷ 257 ∷ 257 ∷ 257 ∷ 66 ∷ 1025 ∷ 1 ∷ 2 ∷ 128 ∷ 2048 ∷ []

-- where the counts of the events begin, and their senders, in words
abbrev pub counts_at : ℕ
counts_at = base sizes 8

abbrev pub senders_at : ℕ
senders_at = base sizes 9

-- by their numbers
abbrev pub of : List (List ℕ) → Tables
of ts =
    record {
      stack = get_or ts 0 [];
      forks = get_or ts 1 [];
      pending = get_or ts 2 [];
      late = get_or ts 3 [];
      carried = get_or ts 4 [];
      delivered = get_or ts 5 [];
      begun = get_or ts 6 [];
      half = get_or ts 7 [];
      counts = get_or ts 8 [];
      senders = get_or ts 9 [];
      rows = get_or ts 10 [];
      rest = get_or ts 11 [];
    }

-- the area's words, cut into tables
unfoldable pub cut : List ℕ → Tables
cut ws = of (tables sizes ws)

-- ---- an entry of a list: a gate, a form, and a number that says what it brings, 16 bits each

unfoldable pub gate_of : ℕ → ℕ
gate_of x = x / 2 ^ 32 % 2 ^ 16

unfoldable pub form_of : ℕ → ℕ
form_of x = x / 2 ^ 16 % 2 ^ 16

unfoldable pub brings : ℕ → ℕ
brings x = x % 2 ^ 16

-- the entry that has these, each by its remainder
unfoldable pub entry_of : ℕ → ℕ → ℕ → ℕ
entry_of g form k = g % 2 ^ 16 * 2 ^ 32 + form % 2 ^ 16 * 2 ^ 16 + k % 2 ^ 16

-- a stimulus brings the constant of that name, and constant 0 nothing
unfoldable pub row_of : Circuit → ℕ → ℕ → List Value
row_of c form k = if eqb form form-World then (if eqb k 0 then [] otherwise get_or c.constants k Nothing ∷ []) otherwise []

-- what waits
unfoldable pub act_of : Circuit → ℕ → Act
act_of c x = record { gate = gate_of x; form = form_of x; row = row_of c (form_of x) (brings x) }

-- a delivered event brings the row of the event of that number
unfoldable pub event_of : List Send → ℕ → Act
event_of es x = record { gate = gate_of x; form = form-Event; row = get_or (map (λ e. e.row) es) (brings x) [] }

-- ---- events

-- the event in place k
unfoldable pub event_at : List ℕ → List ℕ → ℕ → Send
event_at senders rows k = record { gate = get_or senders k 0; row = both value_of (part rows (16 * k) 8) (part rows (16 * k + 8) 8) }

-- where a half begins
unfoldable pub half_at : Bool → ℕ
half_at second = if second then 64 otherwise 0

-- the events of a half, in the order sent, at most 64
unfoldable pub events_of : Bool → Tables → List Send
events_of second t = map (event_at t.senders t.rows) (from (half_at second) (min (get_or t.counts (if second then 1 otherwise 0) 0) 64))

-- which half is the outbox
unfoldable pub second_half : Tables → Bool
second_half t = marked (get_or t.half 0 0)

-- ---- what the area holds

-- what waits, in the order in which it will be taken, or was raised where it is carried
pub record Lists : Type 0 where
  pub late : List Act
  pub delivered : List Act
  pub pending : List Act
  pub carried : List Act

-- the calls, what waits, the units begun in this tick, the events sent in this tick and in the one before, and what lies behind the tables
pub record Units : Type 0 where
  pub calls : Calls
  pub lists : Lists
  pub begun : List Listed
  pub outbox : List Send
  pub events : List Send
  pub rest : List ℕ

-- as a record lists it
unfoldable pub listed_of : ℕ → Listed
listed_of x = listed (gate_of x) (form_of x)

abbrev pub units_of : Circuit → Tables → Units
units_of c t =
    record {
      calls = record { stack = stacked 256 t.stack; forks = queued 256 t.forks };
      lists =
          record {
            late = map (act_of c) (ranked 256 t.late);
            delivered = map (event_of (events_of (not (second_half t)) t)) (queued 64 t.delivered);
            pending = map (act_of c) (ranked 256 t.pending);
            carried = map (act_of c) (appended 256 t.carried);
          };
      begun = map listed_of (appended 1024 t.begun);
      outbox = events_of (second_half t) t;
      events = events_of (not (second_half t)) t;
      rest = t.rest;
    }

-- What the bytes of the area hold for circuit c. Left open are only places that are not in use, past the counts of the lists.
unfoldable pub units : Circuit → List ℕ → Units
units c bs = let u = units_of c (cut (words bs)) in record { calls = u.calls; lists = u.lists; begun = u.begun; outbox = u.outbox; events = u.events; rest = u.rest ++ tail bs }
