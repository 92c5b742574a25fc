-- What the machine holds. Names are the source's.
use Rattle.std.specs.Prelude.{ℕ, Bool, false, List, []}
use Rattle.std.proofs.Math.Option.{Option, none}
use Rattle.model.specs.declared.Value.{Value}

-- What wires show and what is remembered of them. `dt` and `uptime` are f64 bits. `outs` has a value for each output; a Var's storage is its Value. `dirty` has a
-- mark for each gate: a pure gate that is stale. `to_check` has the watched inputs that wait to be checked, the oldest first, and `queued` a mark for each
-- input that does; `late_checks` a mark for each input that was reached from a Var written only inside bodies. `last` has for each watched input what its last
-- check read, or none; `pulses` for each output the tick in which its pulse was last raised, 0 for none; `written` the outputs of the Vars written by this unit,
-- each once, in the order of its first write, and `written_outside` a mark for each gate: a Var that this unit wrote outside bodies. `unions_passed` has a mark for
-- each gate: a Union that has passed in this tick, or inside a body in this run of it; `breaking` says whether a Break ran in the run of the body under way, and
-- `runs_left` how often bodies may still be run in this tick.
pub record Wires : Type 0 where
  pub tick : ℕ
  pub dt : ℕ
  pub uptime : ℕ
  pub outs : List Value
  pub dirty : List Bool
  pub to_check : List ℕ
  pub queued : List Bool
  pub late_checks : List Bool
  pub last : List (Option Value)
  pub pulses : List ℕ
  pub written : List ℕ
  pub written_outside : List Bool
  pub unions_passed : List Bool
  pub breaking : Bool
  pub runs_left : ℕ

-- ticks left, 0 when it is due; or seconds to wait and seconds so far, as f32 bits
pub data Countdown : Type 0 where
  ticks_left : ℕ → Countdown
  seconds : ℕ → ℕ → Countdown

-- a value that lands when its countdown is due
pub record Flight : Type 0 where
  pub what : Value
  pub left : Countdown

-- a record of a Queue: the eight values travel together with their countdown
pub record Queued : Type 0 where
  pub row : List Value
  pub left : Countdown

-- One small state for each gate, of which each kind uses its own part: a value buffer the value in flight and the last later input, a buffer in exec mode the
-- fires under way, a Clock and a Stopwatch the seconds so far, as f64 bits, a Stopwatch whether it runs, a Queue its records; the oldest first.
pub record Delay : Type 0 where
  pub flight : Option Flight
  pub later : Option Value
  pub fires : List Countdown
  pub elapsed : ℕ
  pub running : Bool
  pub records : List Queued

-- The forms of activations, as in the log: Fire, Event, World; of a pin form-pin + pin, of an output form-output + output.
abbrev pub form-Fire : ℕ
form-Fire = 0

abbrev pub form-Event : ℕ
form-Event = 1

abbrev pub form-World : ℕ
form-World = 2

abbrev pub form_pin : ℕ
form_pin = 16

abbrev pub form_output : ℕ
form_output = 32

-- What an activation runs: a gate, a form, and the values that it brings (Event: eight, World: one or none).
pub record Act : Type 0 where
  pub gate : ℕ
  pub form : ℕ
  pub row : List Value

-- a custom event sent, with its data as read
pub record Send : Type 0 where
  pub gate : ℕ
  pub row : List Value

-- the wires, the small state of each gate, the events sent in this tick, and how many narrowings of this tick changed their number
pub record State : Type 0 where
  pub wires : Wires
  pub delays : List Delay
  pub outbox : List Send
  pub changed : ℕ

-- nothing under way
unfoldable pub idle : Delay
idle = record { flight = none; later = none; fires = []; elapsed = 0; running = false; records = [] }

-- ---- one field changed, or a few

unfoldable pub flight≔ : Delay → Option Flight → Option Value → Delay
flight≔ d f l = record { flight = f; later = l; fires = d.fires; elapsed = d.elapsed; running = d.running; records = d.records }

unfoldable pub fires≔ : Delay → List Countdown → Delay
fires≔ d ks = record { flight = d.flight; later = d.later; fires = ks; elapsed = d.elapsed; running = d.running; records = d.records }

unfoldable pub elapsed≔ : Delay → ℕ → Bool → Delay
elapsed≔ d t r = record { flight = d.flight; later = d.later; fires = d.fires; elapsed = t; running = r; records = d.records }

unfoldable pub records≔ : Delay → List Queued → Delay
records≔ d qs = record { flight = d.flight; later = d.later; fires = d.fires; elapsed = d.elapsed; running = d.running; records = qs }

unfoldable pub times≔ : Wires → ℕ → ℕ → ℕ → Wires
times≔ w x y z =
    record { tick = x; dt = y; uptime = z; outs = w.outs; dirty = w.dirty; to_check = w.to_check; queued = w.queued; late_checks = w.late_checks; last = w.last; pulses = w.pulses; written = w.written; written_outside = w.written_outside; unions_passed = w.unions_passed; breaking = w.breaking; runs_left = w.runs_left }

unfoldable pub outs≔ : Wires → List Value → Wires
outs≔ w x =
    record { tick = w.tick; dt = w.dt; uptime = w.uptime; outs = x; dirty = w.dirty; to_check = w.to_check; queued = w.queued; late_checks = w.late_checks; last = w.last; pulses = w.pulses; written = w.written; written_outside = w.written_outside; unions_passed = w.unions_passed; breaking = w.breaking; runs_left = w.runs_left }

unfoldable pub dirty≔ : Wires → List Bool → Wires
dirty≔ w x =
    record { tick = w.tick; dt = w.dt; uptime = w.uptime; outs = w.outs; dirty = x; to_check = w.to_check; queued = w.queued; late_checks = w.late_checks; last = w.last; pulses = w.pulses; written = w.written; written_outside = w.written_outside; unions_passed = w.unions_passed; breaking = w.breaking; runs_left = w.runs_left }

unfoldable pub to_check≔ : Wires → List ℕ → List Bool → Wires
to_check≔ w x y =
    record { tick = w.tick; dt = w.dt; uptime = w.uptime; outs = w.outs; dirty = w.dirty; to_check = x; queued = y; late_checks = w.late_checks; last = w.last; pulses = w.pulses; written = w.written; written_outside = w.written_outside; unions_passed = w.unions_passed; breaking = w.breaking; runs_left = w.runs_left }

unfoldable pub late_checks≔ : Wires → List Bool → Wires
late_checks≔ w x =
    record { tick = w.tick; dt = w.dt; uptime = w.uptime; outs = w.outs; dirty = w.dirty; to_check = w.to_check; queued = w.queued; late_checks = x; last = w.last; pulses = w.pulses; written = w.written; written_outside = w.written_outside; unions_passed = w.unions_passed; breaking = w.breaking; runs_left = w.runs_left }

unfoldable pub last≔ : Wires → List (Option Value) → Wires
last≔ w x =
    record { tick = w.tick; dt = w.dt; uptime = w.uptime; outs = w.outs; dirty = w.dirty; to_check = w.to_check; queued = w.queued; late_checks = w.late_checks; last = x; pulses = w.pulses; written = w.written; written_outside = w.written_outside; unions_passed = w.unions_passed; breaking = w.breaking; runs_left = w.runs_left }

unfoldable pub pulses≔ : Wires → List ℕ → Wires
pulses≔ w x =
    record { tick = w.tick; dt = w.dt; uptime = w.uptime; outs = w.outs; dirty = w.dirty; to_check = w.to_check; queued = w.queued; late_checks = w.late_checks; last = w.last; pulses = x; written = w.written; written_outside = w.written_outside; unions_passed = w.unions_passed; breaking = w.breaking; runs_left = w.runs_left }

unfoldable pub written≔ : Wires → List ℕ → Wires
written≔ w x =
    record { tick = w.tick; dt = w.dt; uptime = w.uptime; outs = w.outs; dirty = w.dirty; to_check = w.to_check; queued = w.queued; late_checks = w.late_checks; last = w.last; pulses = w.pulses; written = x; written_outside = w.written_outside; unions_passed = w.unions_passed; breaking = w.breaking; runs_left = w.runs_left }

unfoldable pub written_outside≔ : Wires → List Bool → Wires
written_outside≔ w x =
    record { tick = w.tick; dt = w.dt; uptime = w.uptime; outs = w.outs; dirty = w.dirty; to_check = w.to_check; queued = w.queued; late_checks = w.late_checks; last = w.last; pulses = w.pulses; written = w.written; written_outside = x; unions_passed = w.unions_passed; breaking = w.breaking; runs_left = w.runs_left }

unfoldable pub unions_passed≔ : Wires → List Bool → Wires
unions_passed≔ w x =
    record { tick = w.tick; dt = w.dt; uptime = w.uptime; outs = w.outs; dirty = w.dirty; to_check = w.to_check; queued = w.queued; late_checks = w.late_checks; last = w.last; pulses = w.pulses; written = w.written; written_outside = w.written_outside; unions_passed = x; breaking = w.breaking; runs_left = w.runs_left }

unfoldable pub breaking≔ : Wires → Bool → Wires
breaking≔ w x =
    record { tick = w.tick; dt = w.dt; uptime = w.uptime; outs = w.outs; dirty = w.dirty; to_check = w.to_check; queued = w.queued; late_checks = w.late_checks; last = w.last; pulses = w.pulses; written = w.written; written_outside = w.written_outside; unions_passed = w.unions_passed; breaking = x; runs_left = w.runs_left }

unfoldable pub runs_left≔ : Wires → ℕ → Wires
runs_left≔ w x =
    record { tick = w.tick; dt = w.dt; uptime = w.uptime; outs = w.outs; dirty = w.dirty; to_check = w.to_check; queued = w.queued; late_checks = w.late_checks; last = w.last; pulses = w.pulses; written = w.written; written_outside = w.written_outside; unions_passed = w.unions_passed; breaking = w.breaking; runs_left = x }

unfoldable pub wires≔ : State → Wires → State
wires≔ s x = record { wires = x; delays = s.delays; outbox = s.outbox; changed = s.changed }

unfoldable pub delays≔ : State → List Delay → State
delays≔ s x = record { wires = s.wires; delays = x; outbox = s.outbox; changed = s.changed }

unfoldable pub outbox≔ : State → List Send → State
outbox≔ s x = record { wires = s.wires; delays = s.delays; outbox = x; changed = s.changed }

unfoldable pub changed≔ : State → ℕ → State
changed≔ s x = record { wires = s.wires; delays = s.delays; outbox = s.outbox; changed = x }

unfoldable pub state_opened : ℕ
unfolding idle flight≔ fires≔ elapsed≔ records≔ times≔ outs≔ dirty≔ to_check≔ late_checks≔ last≔ pulses≔ written≔ written_outside≔ unions_passed≔ breaking≔ runs_left≔ wires≔ delays≔ outbox≔ changed≔
state_opened = 0
