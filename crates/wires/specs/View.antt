-- How the area `values` holds the wires: tables of 64-bit words, one behind the other.
use Rattle.std.specs.Prelude.{ℕ, zero, suc, Bool, true, false, List, [], ◌∷◌, ◌++◌, map, length, take, slice_index, slice_index_or}
use Rattle.std.proofs.Math.Option.{Option, none, some}
use Rattle.words.specs.Words.{words, tail}
use Rattle.words.specs.Tables.{tables, base, marked, digits, marks, ring}
use Rattle.model.specs.declared.Value.{Value}
use Rattle.model.specs.Base.{both}
use Rattle.model.specs.Value.{value_of}
use Rattle.model.specs.Circuit.{Circuit}
use Rattle.model.specs.State.{Wires}
use Rattle.wires.specs.Held.{held}

-- The tables, in their order. Of one word each: tick, tick length, uptime, the stale gates and the Unions passed as marks, head and count of the check queue,
-- how many Vars are written. Then tags and contents of 576 outputs; of 640 inputs whether each is queued; the 1,024 places of the check queue; kinds (0 for
-- none, else the kind and 1) and contents of 640 last values; the ticks of 576 pulses, and nine words of marks that say which of them count; 64 Vars
-- written; 65 places of the stack that marking works with; of 640 inputs whether each is marked for a late check; of one word each: the Vars written outside
-- bodies as marks, whether a Break ran, the runs of bodies left, whether marking is for a late check; and the words behind the tables.
pub record Tables : Type 0 where
  pub tick : List ℕ
  pub dt : List ℕ
  pub uptime : List ℕ
  pub dirty : List ℕ
  pub unions_passed : List ℕ
  pub head : List ℕ
  pub count : List ℕ
  pub written_count : List ℕ
  pub out_tags : List ℕ
  pub out_contents : List ℕ
  pub queued : List ℕ
  pub slots : List ℕ
  pub last_kinds : List ℕ
  pub last_contents : List ℕ
  pub ticks : List ℕ
  pub up : List ℕ
  pub written : List ℕ
  pub stack : List ℕ
  pub late_checks : List ℕ
  pub written_outside : List ℕ
  pub breaking : List ℕ
  pub runs_left : List ℕ
  pub marking_late : List ℕ
  pub rest : List ℕ

-- their sizes
abbrev pub sizes : List ℕ
sizes = 1 ∷ 1 ∷ 1 ∷ 1 ∷ 1 ∷ 1 ∷ 1 ∷ 1 ∷ 576 ∷ 576 ∷ 640 ∷ 1024 ∷ 640 ∷ 640 ∷ 576 ∷ 9 ∷ 64 ∷ 65 ∷ 640 ∷ 1 ∷ 1 ∷ 1 ∷ 1 ∷ []

-- where the tags and the contents of the outputs begin, in words
abbrev pub out_tags_at : ℕ
out_tags_at = base sizes 8

abbrev pub out_contents_at : ℕ
out_contents_at = base sizes 9

-- by their numbers
abbrev pub of : List (List ℕ) → Tables
of ts =
    record {
      tick = slice_index_or ts 0 [];
      dt = slice_index_or ts 1 [];
      uptime = slice_index_or ts 2 [];
      dirty = slice_index_or ts 3 [];
      unions_passed = slice_index_or ts 4 [];
      head = slice_index_or ts 5 [];
      count = slice_index_or ts 6 [];
      written_count = slice_index_or ts 7 [];
      out_tags = slice_index_or ts 8 [];
      out_contents = slice_index_or ts 9 [];
      queued = slice_index_or ts 10 [];
      slots = slice_index_or ts 11 [];
      last_kinds = slice_index_or ts 12 [];
      last_contents = slice_index_or ts 13 [];
      ticks = slice_index_or ts 14 [];
      up = slice_index_or ts 15 [];
      written = slice_index_or ts 16 [];
      stack = slice_index_or ts 17 [];
      late_checks = slice_index_or ts 18 [];
      written_outside = slice_index_or ts 19 [];
      breaking = slice_index_or ts 20 [];
      runs_left = slice_index_or ts 21 [];
      marking_late = slice_index_or ts 22 [];
      rest = slice_index_or ts 23 [];
    }

-- the area's words, cut into tables
unfoldable pub cut : List ℕ → Tables
cut ws = of (tables sizes ws)

-- ---- what they hold

-- a last value, by its kind and 1; 0 is none
unfoldable pub last_of : ℕ → ℕ → Option Value
last_of zero b = none
last_of (suc k) b = some (value_of k b)

-- a pulse's tick counts where its mark is set
unfoldable pub pulse_of : Bool → ℕ → ℕ
pulse_of false t = 0
pulse_of true t = t

-- the wires of circuit c, which has so many outputs, inputs and gates
abbrev pub wires_of : Circuit → Tables → Wires
wires_of c t =
    record {
      tick = slice_index t.tick 0;
      dt = slice_index t.dt 0;
      uptime = slice_index t.uptime 0;
      outs = take (length c.outputs) (both held t.out_tags t.out_contents);
      dirty = digits (length c.kinds) (slice_index t.dirty 0);
      to_check = ring (slice_index t.count 0) (slice_index t.head 0) t.slots;
      queued = take (length c.pins) (map marked t.queued);
      late_checks = take (length c.pins) (map marked t.late_checks);
      last = take (length c.pins) (both last_of t.last_kinds t.last_contents);
      pulses = take (length c.outputs) (both pulse_of (marks t.up) t.ticks);
      written = take (slice_index t.written_count 0) t.written;
      written_outside = digits (length c.kinds) (slice_index t.written_outside 0);
      unions_passed = digits (length c.kinds) (slice_index t.unions_passed 0);
      breaking = marked (slice_index t.breaking 0);
      runs_left = slice_index t.runs_left 0;
    }

-- What the area holds: the wires, and what lies behind the tables, its words and the bytes that make no whole word.
pub record Values : Type 0 where
  pub wires : Wires
  pub rest : List ℕ

-- the wires change, and nothing else
abbrev pub with_wires : Values → Wires → Values
with_wires v w = record { wires = w; rest = v.rest }

-- What the bytes of the area hold for circuit c. Left open are only places that are not in use (of outputs, inputs and gates that c does not have, of the
-- check queue and of Vars written past their counts, the tick of a pulse that is down, the marking stack and what marking is for), and which word stands for a mark or a value
-- where several do.
unfoldable pub values : Circuit → List ℕ → Values
values c bs = record { wires = wires_of c (cut (words bs)); rest = (cut (words bs)).rest ++ tail bs }
