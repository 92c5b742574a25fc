-- What the functions of the area change and answer, beside what is raised: calls, units begun, events.
use Rattle.std.specs.Prelude.{ℕ, cond, ◌||◌, List, [], ◌∷◌, map, leb, ltb, length}
use Rattle.std.proofs.Math.Option.{Option, none, some}
use Rattle.lists.specs.Lists.{Filed, NoRoom, Done}
use Rattle.std.specs.Prelude.{Option as Found, None, Some}
use Rattle.model.specs.Base.{if◌then◌otherwise◌, snoc, among}
use Rattle.model.specs.Circuit.{Circuit, most_gates}
use Rattle.model.specs.State.{Act, Send}
use Rattle.model.specs.Chain.{Calls, no_calls, Popped, most_calls}
use Rattle.model.specs.Record.{Listed}
use Rattle.units.specs.View.{Units}
use Rattle.units.specs.Raising.{all_by_rank}

-- ---- one part changed, and nothing else

abbrev pub with_calls : Units → Calls → Units
with_calls u q = record { calls = q; lists = u.lists; begun = u.begun; outbox = u.outbox; events = u.events; rest = u.rest }

abbrev pub with_begun : Units → List Listed → Units
with_begun u b = record { calls = u.calls; lists = u.lists; begun = b; outbox = u.outbox; events = u.events; rest = u.rest }

abbrev pub with_outbox : Units → List Send → Units
with_outbox u o = record { calls = u.calls; lists = u.lists; begun = u.begun; outbox = o; events = u.events; rest = u.rest }

-- ---- calls

abbrev pub stack≔ : Calls → List ℕ → Calls
stack≔ q st = record { stack = st; forks = q.forks }

abbrev pub forks≔ : Calls → List ℕ → Calls
forks≔ q fs = record { stack = q.stack; forks = fs }

-- whether one more call fits
unfoldable pub fits_one : List ℕ → Filed
fits_one l = cond (ltb (length l) most_calls) Done NoRoom

-- one more call on the stack, if it fits
unfoldable pub called : ℕ → Calls → Calls
called i q = cond (ltb (length q.stack) most_calls) (stack≔ q (i ∷ q.stack)) q

-- one more fork, if it fits
unfoldable pub forked : ℕ → Calls → Calls
forked i q = cond (ltb (length q.forks) most_calls) (forks≔ q (snoc q.forks i)) q

-- the call to make next
unfoldable pub popped : Option Popped → Found ℕ
popped none = None
popped (some p) = Some p.input

-- the calls after it
unfoldable pub calls_left : Calls → Option Popped → Calls
calls_left q none = q
calls_left q (some p) = p.rest

-- ---- events

-- A gate's second event in a tick is ignored; there is room for one of each gate.
unfoldable pub sent : Send → List Send → List Send
sent m o = if among m.gate (map (λ x. x.gate) o) || leb most_gates (length o) then o otherwise snoc o m

-- ---- what is taken: the first one, if there is one

unfoldable pub first_of : {A : Type 0} → List A → Option A
first_of [] = none
first_of (a ∷ l) = some a

-- the act of what was taken
unfoldable pub act_taken : (ℕ → Act) → Found ℕ → Option Act
act_taken act None = none
act_taken act (Some x) = some (act x)

-- ---- the next tick

-- What was carried is late, in the order raised within a rank; nothing else waits; no call, no unit begun; what was sent is delivered from now on.
unfoldable pub reopened : Circuit → Units → Units
reopened c u =
    record {
      calls = no_calls;
      lists = record { late = all_by_rank c u.lists.carried []; delivered = []; pending = []; carried = [] };
      begun = [];
      outbox = [];
      events = u.outbox;
      rest = u.rest;
    }

-- nothing waits
unfoldable pub empty : List ℕ → Units
empty rest =
    record {
      calls = no_calls;
      lists = record { late = []; delivered = []; pending = []; carried = [] };
      begun = [];
      outbox = [];
      events = [];
      rest = rest;
    }
