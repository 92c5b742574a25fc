-- One step of a chain: an exec gate, entered through one of its inputs, by kind.
use Rattle.std.specs.Prelude.{ℕ, zero, suc, ◌-◌, ◌%◌, ◌^◌, Bool, true, false, not, ◌&&◌, ◌||◌, List, map, leb, ltb, eqb, ℤ, pos, negsuc, length, get_or, set}
use Rattle.std.proofs.Math.Option.{Option, none, some}
use Rattle.std.proofs.Math.IntN.{suc_ℤ, pred_ℤ}
use Rattle.model.specs.declared.Value.{Value}
use Rattle.model.specs.declared.Value.TheVariants.{Int, Float, Bool as Truth}
use Rattle.model.specs.Base.{if◌then◌otherwise◌, each, snoc, among, from}
use Rattle.model.specs.Value.{truthy, as_int, as_float}
use Rattle.model.specs.Kinds.{Reroute, BufferTicksExec, BufferSeconds, BufferSecondsExec, Stopwatch, QueueInTicks, QueueInSeconds, VarGet, VarSet, Branch, Union, Toggle, Cycle, SendEvent, SendEventGlobal, Break}
use Rattle.model.specs.Circuit.{Circuit, most_gates, kind_of_gate, input, output, gate_at_input, gate_at_output, setting}
use Rattle.model.specs.State.{Wires, Countdown, Delay, idle, fires≔, State, written≔, written_outside≔, unions_passed≔, breaking≔, wires≔, delays≔, outbox≔, changed≔}
use Rattle.model.specs.Wires.{shown, show, look, ready, set_out}
use Rattle.model.specs.Delays.{nat, Started, in_ticks, in_seconds, countdown_ticks, countdown_seconds, queue_record, pressed}

-- What a step comes to: the output to fire next, and whether a list was full.
pub record Stepped : Type 0 where
  pub state : State
  pub next : Option ℕ
  pub full : Bool

-- the chain goes on from output o
unfoldable pub fires_next : State → ℕ → Stepped
fires_next s o = record { state = s; next = some o; full = false }

-- the chain ends there
unfoldable pub ends : State → Stepped
ends s = record { state = s; next = none; full = false }

-- the fires under way of one buffer
abbrev pub most_fires : ℕ
most_fires = 32

-- A record's count is a word of the log, an Int; no tick comes near the largest one (`CountsAll`).
abbrev pub most_changed : ℕ
most_changed = 2 ^ 63 - 1

-- one narrowing more is counted, if it changed its number
unfoldable pub tally : ℕ → Bool → ℕ
tally n changed = if changed && ltb n most_changed then suc n otherwise n

unfoldable pub count_changed : State → Bool → State
count_changed s changed = changed≔ s (tally s.changed changed)

-- the remainder that is never negative, of a number by n above 0
unfoldable pub remainder : ℤ → ℕ → ℕ
remainder (pos a) n = a % n
remainder (negsuc a) n = n - suc (a % n)

-- Cycle's next number, up or down, by Count: 0 for a Count of 0 or less.
unfoldable pub cycle_next : Bool → ℤ → ℤ → ℕ
cycle_next down (negsuc n) now = 0
cycle_next down (pos zero) now = 0
cycle_next down (pos (suc n)) now = remainder (if down then pred_ℤ now otherwise suc_ℤ now) (suc n)

module _ (c : Circuit) where
  -- ---- small readings and changes

  -- the small state of gate g
  unfoldable pub delay : State → ℕ → Delay
  delay s g = get_or s.delays g idle

  -- it becomes d
  unfoldable pub delay≔ : State → ℕ → Delay → State
  delay≔ s g d = delays≔ s (set s.delays g d)

  -- output o gets a value
  unfoldable pub set_output : State → ℕ → Value → State
  set_output s o v = wires≔ s (set_out c s.wires o v)

  -- n inputs of gate g from p on are made ready to be read, in their order
  unfoldable pub readied : State → ℕ → ℕ → ℕ → State
  readied s g p n = wires≔ s (each (ready c) s.wires (from (input c g p) n))

  -- what input p of gate g reads
  unfoldable pub read : State → ℕ → ℕ → Value
  read s g p = look c s.wires (input c g p)

  -- what n inputs of gate g from p on read
  unfoldable pub read_row : State → ℕ → ℕ → ℕ → List Value
  read_row s g p n = map (look c s.wires) (from (input c g p) n)

  -- gate g takes a countdown that starts, by f; that its wait was changed counts also where f does not keep it
  abbrev pub with_countdown : State → ℕ → (Delay → Countdown → Delay) → Started → State
  with_countdown s g f k = count_changed (delay≔ s g (f (delay s g) k.left)) k.changed

  -- the countdown that a buffer starts
  unfoldable pub countdown : ℕ → Bool → Started
  countdown g rising =
      if leb BufferSeconds (kind_of_gate c g) then countdown_seconds rising (setting c g 1) (setting c g 2) otherwise countdown_ticks rising (setting c g 1) (setting c g 2)

  -- the Value of the Var that setting 1 of gate g names
  unfoldable pub var : ℕ → ℕ
  var g = output c (nat (as_int (pos 0) (setting c g 1))) 0

  -- ---- by kind; p is the pin entered through

  -- a buffer in exec mode: one fire more is under way, never with the zero wait; that its wait was changed counts also where there is no room
  unfoldable pub exec-Buffer : State → ℕ → Stepped
  exec-Buffer s₀ g =
      let k = countdown g true in
      let s = count_changed s₀ k.changed in
      if ltb (length (delay s g).fires) most_fires then ends (delay≔ s g (fires≔ (delay s g) (snoc (delay s g).fires k.left)))
      otherwise record { state = s; next = none; full = true }

  -- Restart shows 0.0 at once
  unfoldable pub exec-Stopwatch : State → ℕ → ℕ → Stepped
  exec-Stopwatch s g p =
      let t = delay≔ s g (pressed p (delay s g)) in
      ends (if eqb p 0 then set_output t (output c g 0) (Float 0) otherwise t)

  -- all nine inputs are read, and the wait narrowed, also for a record that is dropped
  unfoldable pub exec-Queue : State → ℕ → (Value → Started) → Stepped
  exec-Queue s₀ g countdown_of =
      let s = readied s₀ g 1 9 in
      ends (with_countdown s g (λ d left. queue_record d (read_row s g 1 8) left) (countdown_of (read s g 9)))

  -- the Var's value, as it stands in storage, to Value
  unfoldable pub exec-VarGet : State → ℕ → Stepped
  exec-VarGet s g = fires_next (set_output s (output c g 1) (shown s.wires (var g))) (output c g 0)

  -- A Var written, once. A circuit has at most 64 gates, so a unit writes as many Vars at the most: that test is never met (`roomy`).
  unfoldable pub write_once : Wires → ℕ → Wires
  write_once w o = if among o w.written || leb most_gates (length w.written) then w otherwise written≔ w (snoc w.written o)

  -- a Var written, while a body is running (`inside`) or outside; what reads it is marked when its write is published
  unfoldable pub record_write : Bool → Wires → ℕ → Wires
  record_write inside w o =
      write_once (if inside then w otherwise written_outside≔ w (set w.written_outside (gate_at_output c o) true)) o

  -- Value, as it reads, to the Var, with no conversion; direct readers see it at once
  unfoldable pub exec-VarSet : Bool → State → ℕ → Stepped
  exec-VarSet inside s₀ g =
      let s = readied s₀ g 2 1 in
      fires_next (wires≔ s (record_write inside (show s.wires (var g) (read s g 2)) (var g))) (output c g 0)

  -- a condition that is true to ExecOutA, else to ExecOutB
  unfoldable pub exec-Branch : State → ℕ → Stepped
  exec-Branch s₀ g = let s = readied s₀ g 1 1 in fires_next s (output c g (if truthy (read s g 1) then 0 otherwise 1))

  -- a Union passes once a tick
  unfoldable pub exec-Union : State → ℕ → Stepped
  exec-Union s g =
      if get_or s.wires.unions_passed g false then ends s
      otherwise fires_next (wires≔ s (unions_passed≔ s.wires (set s.wires.unions_passed g true))) (output c g 0)

  -- what is true becomes false, anything else true
  unfoldable pub exec-Toggle : State → ℕ → Stepped
  exec-Toggle s g = fires_next (set_output s (output c g 1) (Truth (not (truthy (shown s.wires (output c g 1)))))) (output c g 0)

  -- pin 1, ExecDown, down and any other up, each to its own output
  unfoldable pub exec-Cycle : State → ℕ → ℕ → Stepped
  exec-Cycle s₀ g p =
      let s = readied s₀ g 2 1 in
      let now = as_int (pos 0) (shown s.wires (output c g 2)) in
      fires_next (set_output s (output c g 2) (Int (cycle_next (eqb p 1) (as_int (pos 0) (read s g 2)) now))) (output c g (if eqb p 1 then 1 otherwise 0))

  -- The eight values are read, also for a second send of the gate in this tick, which is ignored. So at most 64 events are sent in a tick, one by each gate:
  -- the other test is never met (`roomy`).
  unfoldable pub exec-SendEvent : State → ℕ → Stepped
  exec-SendEvent s₀ g =
      let s = readied s₀ g 2 8 in
      fires_next
      (if among g (map (λ m. m.gate) s.outbox) || leb most_gates (length s.outbox) then s otherwise outbox≔ s (snoc s.outbox (record { gate = g; row = read_row s g 2 8 })))
      (output c g 0)

  -- the loop whose body is running ends after this run of it, which goes on
  unfoldable pub exec-Break : State → ℕ → Stepped
  exec-Break s g = fires_next (wires≔ s (breaking≔ s.wires true)) (output c g 0)

  -- by the kind k of gate g; `inside` says whether a body is running
  unfoldable pub exec_kind : Bool → ℕ → State → ℕ → ℕ → Stepped
  exec_kind inside k s g p =
      if eqb k Reroute then fires_next s (output c g 0)
      otherwise if eqb k BufferTicksExec || eqb k BufferSecondsExec then exec-Buffer s g
      otherwise if eqb k Stopwatch then exec-Stopwatch s g p
      otherwise if eqb k QueueInTicks then exec-Queue s g (λ v. in_ticks (as_int (pos 0) v))
      otherwise if eqb k QueueInSeconds then exec-Queue s g (λ v. in_seconds (as_float 0 v))
      otherwise if eqb k VarGet then exec-VarGet s g
      otherwise if eqb k VarSet then exec-VarSet inside s g
      otherwise if eqb k Branch then exec-Branch s g
      otherwise if eqb k Union then exec-Union s g
      otherwise if eqb k Toggle then exec-Toggle s g
      otherwise if eqb k Cycle then exec-Cycle s g p
      otherwise if eqb k SendEvent || eqb k SendEventGlobal then exec-SendEvent s g
      otherwise if eqb k Break then exec-Break s g
      otherwise ends s

  -- the gate that has input i
  unfoldable pub exec_gate : Bool → State → ℕ → Stepped
  exec_gate inside s i = exec_kind inside (kind_of_gate c (gate_at_input c i)) s (gate_at_input c i) (i - input c (gate_at_input c i) 0)

  unfoldable pub exec_opened : ℕ
  unfolding fires_next ends tally count_changed remainder cycle_next delay delay≔ set_output readied read read_row countdown var exec-Buffer exec-Stopwatch exec-Queue exec-VarGet write_once record_write exec-VarSet exec-Branch exec-Union exec-Toggle exec-Cycle exec-SendEvent exec-Break exec_kind exec_gate
  exec_opened = 0
