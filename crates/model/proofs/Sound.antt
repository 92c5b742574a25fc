-- States that are as they should be: fine wires (Fine.antt), no NaN in what is under way, and rows of at most eight values.
use mathlib.Core.Path.{◌≡◌, sym, subst}
use mathlib.Core.Bool.{false}
use mathlib.Core.List.{List, []}
use Prim.Native.Nat.{ℕ, ◌+◌, ◌≤◌, ◌<◌}
use native.Mathlib.Omega.{arith}
use lib.ListN.{length, get_or}
use Rattle.schedule.specs.Promise.{All, [·]}
use Rattle.model.specs.declared.Value.{Value}
use Rattle.model.specs.declared.Value.TheVariants.{Float}
use Rattle.model.specs.Base.{from}
use Rattle.model.specs.Kinds.{kind_at, pure}
use Rattle.model.specs.Circuit.{Circuit, kind_of_gate, input, output}
use Rattle.model.specs.State.{Wires, Delay, Act, State, wires≔}
use Rattle.model.specs.Wires.{ready}
use Rattle.model.specs.Delays.{Moved}
use Rattle.model.specs.Exec.{set_output, readied, read, read_row}
use Rattle.model.proofs.Lists.{each_keeps}
use Rattle.model.proofs.Laid.{Laid}
use Rattle.model.proofs.Reals.{Real}
use Rattle.model.proofs.Underway.{Row, Held, MovedOn, StateHeld, read_row_held}
use Rattle.model.proofs.Wired.{Wired}
use Rattle.model.proofs.Right.{Except, Other}
use Rattle.model.proofs.Fine.{Fine, set_out_fine, ready_fine, read_real}

-- of a number of seconds: it is no NaN
abbrev RealTime : ℕ → Type 0
RealTime t = Real (Float t)

-- what a gate has under way
abbrev pub DelayFine : Delay → Type 0
DelayFine = Held Real RealTime

-- what it is when it has moved on by a tick, and hands out a row of at most n values
abbrev pub MovedFine : ℕ → Moved → Type 0
MovedFine = MovedOn Real RealTime

module _ (c : Circuit) where
  -- `late` are the Vars written and not published; t is what is excepted
  abbrev pub Sound : Except → List ℕ → State → Type 0
  Sound t late = StateHeld (Fine c t late) Real RealTime

  -- what an activation brings goes to outputs of gates that are not pure
  pub record Brings (a : Act) : Type 0 where
    pub others : (k : ℕ) → k < length a.row → Other c (output c a.gate 1 + k)
    pub real : All Real a.row

  pub brings_none : (g form : ℕ) → Brings (record { gate = g; form = form; row = [] })
  brings_none g form = record { others = λ k l. absurd (omega arith); real = [·] }

  -- the outputs of a gate that is not pure
  pub other_output : Laid c → (g k p : ℕ) → kind_of_gate c g ≡ k → pure k ≡ false → p < length (kind_at k).outs → Other c (output c g p)
  other_output laid g k p e q l =
      let m : p < length (kind_at (kind_of_gate c g)).outs = rw e l in
      rw (laid.output_of g p m, e) q

  -- those from p on
  pub other_outputs :
      Laid c → (g k p n : ℕ) → kind_of_gate c g ≡ k → pure k ≡ false → p + n ≤ length (kind_at k).outs → (i : ℕ) → i < n → Other c (output c g p + i)
  unfolding output
  other_outputs laid g k p n e q l i m =
      let a : get_or c.first_output g 0 + p + i ≡ get_or c.first_output g 0 + (p + i) = omega arith in
      subst (Other c) (sym a) (other_output laid g k (p + i) e q (omega arith))

  pub wires_sound : {t t' : Except} {late late' : List ℕ} {s : State} {w : Wires} → Sound t late s → Fine c t' late' w → Sound t' late' (wires≔ s w)
  unfolding wires≔
  wires_sound z f = record { wires = f; delays = z.delays; outbox = z.outbox }

  module _ (W : Wired c) {t : Except} {late : List ℕ} where
    pub set_output_sound : {s : State} (o : ℕ) (v : Value) → Other c o → Real v → Sound t late s → Sound t late (set_output c s o v)
    unfolding set_output
    set_output_sound {s} o v u r z = wires_sound z (set_out_fine c W t late s.wires o v u r z.wires)

    pub readied_sound : {s : State} (g p n : ℕ) → Sound t late s → Sound t late (readied c s g p n)
    unfolding readied
    readied_sound {s} g p n z = wires_sound z (each_keeps (Fine c t late) (ready c) (ready_fine c W t late) s.wires (from (input c g p) n) z.wires)

    pub read_is_real : (s : State) (g p : ℕ) → Sound t late s → Real (read c s g p)
    unfolding read
    read_is_real s g p z = read_real c W t late s.wires z.wires (input c g p)

    pub read_row_fine : (s : State) (g p n : ℕ) → n ≤ 8 → Sound t late s → Row Real (read_row c s g p n)
    read_row_fine s g p n l z = read_row_held c s g p n l (read_real c W t late s.wires z.wires)
