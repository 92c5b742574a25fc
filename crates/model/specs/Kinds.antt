-- The 31 kinds of gates: what each input and each output is, and their names.
use Rattle.std.specs.Prelude.{ℕ, zero, suc, Bool, true, false, ◌&&◌, ◌||◌, List, [], ◌∷◌, leb, eqb, get_or, replicate}

-- what the constant of a setting has to be
pub data Setting : Type 0 where
  anything ticks seconds variable channel loop : Setting

-- whether a change of what an input reads is acted on: never, if it has a source, or always
pub data Watch : Type 0 where
  never if_driven always : Watch

-- An input: whether calls may come to it, whether it may have a source, and a constant, whether it is watched, and as a setting what it has to be.
pub record In : Type 0 where
  pub called : Bool
  pub source : Bool
  pub constant : Bool
  pub watch : Watch
  pub setting : Setting

-- E, an exec pin: watched where a value drives it
unfoldable pub exec : In
exec = record { called = true; source = true; constant = false; watch = if_driven; setting = anything }

-- the Input of a buffer in exec mode
unfoldable pub exec_only : In
exec_only = record { called = true; source = false; constant = false; watch = never; setting = anything }

-- a value input
unfoldable pub value : In
value = record { called = false; source = true; constant = true; watch = never; setting = anything }

-- the Input of a detector or a value buffer
unfoldable pub watched : In
watched = record { called = false; source = true; constant = true; watch = always; setting = anything }

-- RER_Input, which takes a value and calls
unfoldable pub route : In
route = record { called = true; source = true; constant = true; watch = never; setting = anything }

-- S, a setting
unfoldable pub set_to : Setting → In
set_to s = record { called = false; source = false; constant = true; watch = never; setting = s }

-- An output: `fires` is exec, `shows` has a value, `passes` is RER_Output, which shows and makes calls.
pub data Out : Type 0 where
  fires shows passes : Out

-- a kind: its inputs and its outputs, in order
pub record Kind : Type 0 where
  pub ins : List In
  pub outs : List Out

-- a row of the table
unfoldable pub kind : List In → List Out → Kind
kind i o = record { ins = i; outs = o }

-- kinds 1 to 31
unfoldable pub table : List Kind
table =
    kind (value ∷ value ∷ value ∷ []) (shows ∷ [])  -- 1 Select: bSelectB InputA InputB
    ∷ kind (route ∷ []) (passes ∷ [])  -- 2 Reroute: RER_Input / RER_Output
    ∷ kind [] (shows ∷ [])  -- 3 DeltaTime
    ∷ kind [] (shows ∷ [])  -- 4 ServerUptime
    ∷ kind (set_to anything ∷ []) (shows ∷ [])  -- 5 Var: initial / Value
    ∷ kind (watched ∷ []) (fires ∷ [])  -- 6 ChangeDetector: Input / OnChanged
    ∷ kind (watched ∷ []) (shows ∷ shows ∷ [])  -- 7 Edge: Input / bPulseOnRisingEdge bPulseOnFallingEdge
    ∷ kind (watched ∷ []) (shows ∷ [])  -- 8 Change: Input / bPulseOnChange
    ∷ kind (watched ∷ []) (fires ∷ fires ∷ [])  -- 9 EdgeExec: Input / OnRisingEdge OnFallingEdge
    ∷ kind (watched ∷ set_to ticks ∷ set_to ticks ∷ []) (shows ∷ [])  -- 10 BufferTicks: Input, wait, zero wait / Output
    ∷ kind (exec_only ∷ set_to ticks ∷ set_to ticks ∷ []) (fires ∷ [])  -- 11 in exec mode
    ∷ kind (watched ∷ set_to seconds ∷ set_to seconds ∷ []) (shows ∷ [])  -- 12 BufferSeconds
    ∷ kind (exec_only ∷ set_to seconds ∷ set_to seconds ∷ []) (fires ∷ [])  -- 13 in exec mode
    ∷ kind (value ∷ value ∷ set_to seconds ∷ []) (fires ∷ [])  -- 14 Clock: bEnabled IntervalSeconds, interval / Pulse
    ∷ kind (exec ∷ exec ∷ exec ∷ value ∷ []) (shows ∷ fires ∷ [])  -- 15 Stopwatch: Restart Pause Resume Limit / Time Expired
    ∷ kind (exec ∷ replicate 9 value) (fires ∷ replicate 8 shows)  -- 16 Queue in ticks: E, DataIn1 to 8, wait / ExecOut DataOut1 to 8
    ∷ kind (exec ∷ replicate 9 value) (fires ∷ replicate 8 shows)  -- 17 in seconds
    ∷ kind (exec ∷ set_to variable ∷ []) (fires ∷ shows ∷ [])  -- 18 VarGet: E, variable / ExecOut Value
    ∷ kind (exec ∷ set_to variable ∷ value ∷ []) (fires ∷ [])  -- 19 VarSet: E, variable, Value / ExecOut
    ∷ kind (exec ∷ value ∷ []) (fires ∷ fires ∷ [])  -- 20 Branch: E, bCond / ExecOutA ExecOutB
    ∷ kind (exec ∷ []) (fires ∷ [])  -- 21 Union: E / ExecOut
    ∷ kind (exec ∷ []) (fires ∷ shows ∷ [])  -- 22 Toggle: E / ExecOut Output
    ∷ kind (exec ∷ exec ∷ value ∷ []) (fires ∷ fires ∷ shows ∷ [])  -- 23 Cycle: Exec ExecDown Count / ExecOut ExecOutDown Output
    ∷ kind (exec ∷ set_to channel ∷ replicate 8 value) (fires ∷ [])  -- 24 SendEvent: E, channel, DataIn1 to 8 / ExecOut
    ∷ kind (exec ∷ set_to channel ∷ replicate 8 value) (fires ∷ [])  -- 25 global
    ∷ kind (set_to channel ∷ []) (fires ∷ replicate 8 shows)  -- 26 EventCustom: channel / ExecOut DataOut1 to 8
    ∷ kind (set_to channel ∷ []) (fires ∷ replicate 8 shows)  -- 27 global
    ∷ kind [] (fires ∷ shows ∷ [])  -- 28 WorldEvent: / ExecOut Value
    ∷ kind (exec ∷ replicate 3 value) (fires ∷ replicate 3 shows)  -- 29 Loop: E, Count FirstIndex Step / Completed IterationsExecuted bAborted bRunning
    ∷ kind (set_to loop ∷ []) (fires ∷ shows ∷ [])  -- 30 entry of a Loop's body: loop / Body Index
    ∷ kind (exec ∷ []) (fires ∷ [])  -- 31 Break: E / ExecOut
    ∷ []

-- kinds count from 1; no other number is a kind's
unfoldable pub kind_at : ℕ → Kind
kind_at zero = record { ins = []; outs = [] }
kind_at (suc k) = get_or table k (record { ins = []; outs = [] })

-- ---- the kinds by name

abbrev pub Select : ℕ
Select = 1

abbrev pub Reroute : ℕ
Reroute = 2

abbrev pub DeltaTime : ℕ
DeltaTime = 3

abbrev pub ServerUptime : ℕ
ServerUptime = 4

abbrev pub Var : ℕ
Var = 5

abbrev pub ChangeDetector : ℕ
ChangeDetector = 6

abbrev pub Edge : ℕ
Edge = 7

abbrev pub Change : ℕ
Change = 8

abbrev pub EdgeExec : ℕ
EdgeExec = 9

abbrev pub BufferTicks : ℕ
BufferTicks = 10

abbrev pub BufferTicksExec : ℕ
BufferTicksExec = 11

abbrev pub BufferSeconds : ℕ
BufferSeconds = 12

abbrev pub BufferSecondsExec : ℕ
BufferSecondsExec = 13

abbrev pub Clock : ℕ
Clock = 14

abbrev pub Stopwatch : ℕ
Stopwatch = 15

abbrev pub QueueInTicks : ℕ
QueueInTicks = 16

abbrev pub QueueInSeconds : ℕ
QueueInSeconds = 17

abbrev pub VarGet : ℕ
VarGet = 18

abbrev pub VarSet : ℕ
VarSet = 19

abbrev pub Branch : ℕ
Branch = 20

abbrev pub Union : ℕ
Union = 21

abbrev pub Toggle : ℕ
Toggle = 22

abbrev pub Cycle : ℕ
Cycle = 23

abbrev pub SendEvent : ℕ
SendEvent = 24

abbrev pub SendEventGlobal : ℕ
SendEventGlobal = 25

abbrev pub EventCustom : ℕ
EventCustom = 26

abbrev pub EventCustomGlobal : ℕ
EventCustomGlobal = 27

abbrev pub WorldEvent : ℕ
WorldEvent = 28

abbrev pub Loop : ℕ
Loop = 29

abbrev pub LoopEntry : ℕ
LoopEntry = 30

abbrev pub Break : ℕ
Break = 31

-- ---- groups of kinds

-- Select, Reroute, DeltaTime and ServerUptime are the pure gates
unfoldable pub pure : ℕ → Bool
pure k = leb Select k && leb k ServerUptime

-- DeltaTime and ServerUptime are the time sources
unfoldable pub time_source : ℕ → Bool
time_source k = eqb k DeltaTime || eqb k ServerUptime

-- buffers and Queues
unfoldable pub buffering : ℕ → Bool
buffering k = (leb BufferTicks k && leb k BufferSecondsExec) || (leb QueueInTicks k && leb k QueueInSeconds)

-- EventCustom, local and global, receives events
unfoldable pub receiving : ℕ → Bool
receiving k = eqb k EventCustom || eqb k EventCustomGlobal

unfoldable pub kinds_opened : ℕ
unfolding exec exec_only value watched route set_to kind table kind_at pure time_source buffering receiving
kinds_opened = 0
