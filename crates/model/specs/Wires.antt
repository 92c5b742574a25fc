-- Reading values, refreshing pure gates, and marking what a change reaches.
use Rattle.std.specs.Prelude.{ℕ, zero, suc, Bool, true, false, not, ◌||◌, List, [], ◌∷◌, leb, eqb, length, get_or, set}
use Rattle.std.proofs.Math.Option.{none, some}
use Rattle.model.specs.declared.Value.{Value}
use Rattle.model.specs.declared.Value.TheVariants.{Nothing, Float}
use Rattle.model.specs.Base.{if◌then◌otherwise◌, each, snoc}
use Rattle.model.specs.Value.{truthy, same}
use Rattle.model.specs.Kinds.{Select, Reroute, DeltaTime, pure}
use Rattle.model.specs.Circuit.{Circuit, most_inputs, kind_of_gate, input, output, inputs_of, gate_at_input, source, stored_in, gate_at_output, readers_of, watching, gates}
use Rattle.model.specs.State.{Wires, outs≔, dirty≔, to_check≔, late_checks≔}

-- ---- what is shown, what is stale, what waits

-- what an output shows
unfoldable pub shown : Wires → ℕ → Value
shown w o = get_or w.outs o Nothing

-- it shows a value, and its readers are not told
unfoldable pub show : Wires → ℕ → Value → Wires
show w o v = outs≔ w (set w.outs o v)

-- whether gate g is stale
unfoldable pub is_dirty : Wires → ℕ → Bool
is_dirty w g = get_or w.dirty g false

-- a gate that is not in the circuit cannot be marked
unfoldable pub is_clean : Wires → ℕ → Bool
is_clean w g = not (get_or w.dirty g true)

-- gate g becomes stale
unfoldable pub soil : Wires → ℕ → Wires
soil w g = dirty≔ w (set w.dirty g true)

-- gate g is fresh
unfoldable pub clean : Wires → ℕ → Wires
clean w g = dirty≔ w (set w.dirty g false)

-- A watched input waits to be checked; one that waits already keeps its place. A circuit has at most 640 inputs, so as many wait at the most: that test is
-- never met (`roomy`).
unfoldable pub watch : Wires → ℕ → Wires
watch w i =
    if get_or w.queued i true || leb most_inputs (length w.to_check) then w otherwise to_check≔ w (snoc w.to_check i) (set w.queued i true)

-- an input that is reached from a Var written only inside bodies is marked for a late check, also where it waits already
unfoldable pub watch_for : Bool → Wires → ℕ → Wires
watch_for late w i = watch (if late then late_checks≔ w (set w.late_checks i true) otherwise w) i

-- marking under way: the wires, the outputs whose readers are still to be marked, the newest first, and whether it is for a Var written only inside bodies
pub record Marking : Type 0 where
  pub wires : Wires
  pub work : List ℕ
  pub late : Bool

module _ (c : Circuit) where
  -- ---- reading: what an input reads is refreshed (`ready`), then looked at

  -- what stands at an input: what its source shows, or else the value stored in it
  unfoldable pub look : Wires → ℕ → Value
  look w i = elim (source c i) [ none ↦ stored_in c i | some o ↦ shown w o ]

  -- what a pure gate gives
  unfoldable pub compute : Wires → ℕ → Value
  compute w g =
      if eqb (kind_of_gate c g) Select then (if truthy (look w (input c g 0)) then look w (input c g 2) otherwise look w (input c g 1))
      otherwise if eqb (kind_of_gate c g) Reroute then look w (input c g 0)
      otherwise if eqb (kind_of_gate c g) DeltaTime then Float w.dt
      otherwise Float w.uptime

  -- a pure gate shows what it gives, and is fresh
  unfoldable pub recompute : Wires → ℕ → Wires
  recompute w g = clean (show w (output c g 0) (compute w g)) g

  -- `f` is done to the gate that input i reads, if it reads one
  unfoldable pub behind : (Wires → ℕ → Wires) → Wires → ℕ → Wires
  behind f w i = elim (source c i) [ none ↦ w | some o ↦ f w (gate_at_output c o) ]

  -- A stale gate is recomputed after all its stale sources, those of a side that a Select does not choose too. The first argument bounds how deep sources
  -- go: as many as there are gates suffice, since pure gates form no ring (question 6).
  unfoldable pub refresh_to : ℕ → Wires → ℕ → Wires
  refresh_to zero w g = w
  refresh_to (suc deep) w g = elim (is_dirty w g) [ true ↦ recompute (each (behind (λ v h. refresh_to deep v h)) w (inputs_of c g)) g | false ↦ w ]

  -- gate g and all that it reads
  unfoldable pub refresh : Wires → ℕ → Wires
  refresh w g = refresh_to (length c.kinds) w g

  -- every gate, ascending
  unfoldable pub refresh_all : Wires → Wires
  refresh_all w = each refresh w (gates c)

  -- what input i reads is fresh
  unfoldable pub ready : Wires → ℕ → Wires
  ready w i = behind refresh w i

  -- ---- marking: everything that reads an output is stale, through any depth of pure gates, and the watched inputs that this reaches wait to be checked

  -- a pure gate that is stale already marks nothing further
  unfoldable pub mark_reader : Marking → ℕ → Marking
  mark_reader m i =
      if pure (kind_of_gate c (gate_at_input c i)) then
      (if is_clean m.wires (gate_at_input c i) then record { wires = soil m.wires (gate_at_input c i); work = output c (gate_at_input c i) 0 ∷ m.work; late = m.late } otherwise m)
      otherwise if watching c i then record { wires = watch_for m.late m.wires i; work = m.work; late = m.late }
      otherwise m

  -- The last one found first. Each pure gate is found at most once, so one more than there are gates suffice.
  unfoldable pub mark_on : ℕ → Marking → Wires
  mark_on zero m = m.wires
  mark_on (suc n) m = elim m.work [ [] ↦ m.wires | (o ∷ work) ↦ mark_on n (each mark_reader (record { wires = m.wires; work = work; late = m.late }) (readers_of c o)) ]

  -- all that reads output o, by whether it is a Var written only inside bodies
  unfoldable pub mark_readers_for : Bool → Wires → ℕ → Wires
  mark_readers_for late w o = mark_on (suc (length c.kinds)) (record { wires = w; work = o ∷ []; late = late })

  -- of any other output
  unfoldable pub mark_readers : Wires → ℕ → Wires
  mark_readers w o = mark_readers_for false w o

  -- a time source is stale itself
  unfoldable pub invalidate : Wires → ℕ → Wires
  invalidate w g = mark_readers (soil w g) (output c g 0)

  -- an output gets a value, which reaches its readers at once if it is not equal to the old one
  unfoldable pub set_out : Wires → ℕ → Value → Wires
  set_out w o v = if same (shown w o) v then w otherwise mark_readers (show w o v) o

  -- a row of values, to the outputs from o on
  unfoldable pub set_outs : Wires → ℕ → List Value → Wires
  set_outs w o [] = w
  set_outs w o (v ∷ vs) = set_outs (set_out w o v) (suc o) vs

  unfoldable pub wires_opened : ℕ
  unfolding shown show is_dirty is_clean soil clean watch watch_for look compute recompute behind refresh_to refresh refresh_all ready mark_reader mark_on mark_readers_for mark_readers invalidate set_out set_outs
  wires_opened = 0
