-- A tick of the code from its stages.
use Prim.Native.Nat.{ℕ, ◌-◌, ◌*◌, ◌≤◌}
use mathlib.Core.Path.{◌≡◌, refl, sym, ap, ◌∙◌, subst}
use mathlib.Core.Bool.{Bool, true, false}
use mathlib.Core.List.{List, map}
use native.Mathlib.Omega.{arith}
use lib.Dec.{eqb}
use lib.ListN.{length}
use Rattle.schedule.specs.Schedule.{tick, most_units, late_pass, main_pass, log_full}
use Rattle.lists.specs.Lists.{Filed}
use Rattle.model.specs.Base.{if◌then◌otherwise◌}
use Rattle.model.specs.Circuit.{Circuit}
use Rattle.model.specs.Script.{Given}
use Rattle.model.specs.State.{State, wires≔}
use Rattle.model.specs.Unit.{World, state≔}
use Rattle.model.specs.Closing.{read_outputs}
use Rattle.model.specs.Run.{Allowed, allow}
use Rattle.wires.specs.View.{Values, with_wires}
use Rattle.units.specs.View.{Units}
use Rattle.states.specs.View.{Delays}
use Rattle.areas.specs.Areas.{Contents, together, with_state, with_went}
use Rattle.chain.specs.declared.Ran.{Ran}
use Rattle.opening.specs.Opening.{reopened, opened}
use Rattle.unit.specs.Unit.{stop_of}
use Rattle.passes.specs.Waiting.{bare, waiting, for_late, for_main, for_both}
use Rattle.passes.specs.Passes.{units_left, Passes}
use Rattle.logging.specs.Log.{fits, Writes}
use Rattle.ticks.specs.declared.Ticked.{Ticked}
use Rattle.ticks.specs.Ticks.{Ticks}
use Rattle.ticks.specs.Stages.{RanLate, RanMain, steps_made, outputs_read, head_of, words_of, ticked_as, Closes}
use Rattle.ticks.proofs.Parts.{late_from}
use Rattle.ticks.proofs.Closing.{ticks_fit, ticks_full}

-- nothing has begun as the late pass begins
all_left : (c : Circuit) (a a₁ : Contents) (given : Given) → a₁ ≡ with_went (reopened c a) (opened c a given) → units_left a₁ ≡ most_units
unfolding reopened
all_left c a a₁ given e = ap (λ (x : Contents). units_left x) e

module _ (c : Circuit) (i : Allowed) (a a₁ a₂ : Contents) (v b : Values) (u : Units) (d : Delays) (r₁ r₂ : Ran) (late changed : ℕ) (before after : List ℕ) (at : ℕ) where
  abbrev a₃ : Contents
  a₃ = together v u d

  -- the state after the outputs are read
  abbrev ended : State
  ended = (together b u d).state

  abbrev rs : List ℕ
  rs = words_of i.limit late changed r₂ b u

  module _ (came : a₁ ≡ with_went (reopened c a) (opened c a i.given)) (l : RanLate c a₁ a₂ i.limit (stop_of (opened c a i.given).answer) r₁) (n : late ≡ length a₂.kept.begun) (x : changed ≡ d.changed) (m : RanMain c a₂ a₃ r₁.left r₁.stop r₂)
      (read : b ≡ with_wires v (outputs_read c v.wires r₂.stop)) (inside : at * 8 ≤ length before) (kept : Writes before after at rs) (w : World) (same : w.state ≡ a.state) (room : w.room ≡ length before - 8 * at) where
    abbrev w₁ : World
    w₁ = state≔ w i.limit a₁.state

    late_is : Passes c (for_late c) a₁ a₂ r₁ w₁ (late_from c (for_both c a₁.lists) w₁ (stop_of (opened c a i.given).answer))
    unfolding state≔
    late_is =
        subst (λ (k : ℕ). Passes c (for_late c) a₁ a₂ r₁ w₁ (late_pass (bare c) k tt (for_late c a₁.lists) w₁ (stop_of (opened c a i.given).answer)))
        (all_left c a a₁ i.given came)
        (l.passes w₁ refl refl)

    main_is₁ :
        Passes c (for_main c) a₂ a₃ r₂ (state≔ w₁ r₁.left a₂.state)
        (main_pass (bare c) (units_left a₂) tt (for_main c a₂.lists) (state≔ w₁ r₁.left a₂.state) r₁.stop)
    unfolding state≔
    main_is₁ = m.passes (state≔ w₁ r₁.left a₂.state) refl refl

    -- the outputs are read as the definition does
    reads : ended ≡ read_outputs c a₃.state r₂.stop
    unfolding read_outputs outputs_read if◌then◌otherwise◌ wires≔
    reads = ap (λ (x : Values). (together x u d).state) read ∙ go (eqb r₂.stop 0) refl
      where
        go : (t : Bool) → eqb r₂.stop 0 ≡ t → (together (with_wires v (outputs_read c v.wires r₂.stop)) u d).state ≡ read_outputs c a₃.state r₂.stop
        go true e = rw e refl
        go false e = rw e refl

    -- all else stays
    areas_are : with_state a₃ ended ≡ together b u d
    areas_are = ap (λ (x : Values). with_state a₃ (together x u d).state) read ∙ sym (ap (λ (x : Values). together x u d) read)

    tick_fits : fits before at rs ≡ true → Ticks c a (together b u d) before after at (length rs) r₂.stop w (tick (bare c) w i (map (waiting c) a.lists.carried) tt)
    unfolding words_of head_of steps_made
    tick_fits y =
        subst (λ (x : Contents). Ticks c a x before after at (length rs) r₂.stop w (tick (bare c) w i (map (waiting c) a.lists.carried) tt)) areas_are
        (ticks_fit c w i a a₁ a₂ a₃ r₁ r₂ came same late_is l.pending l.carried main_is₁ (head_of i.limit late changed r₂.left r₂.stop b) ended reads refl refl n refl x before after at room (omega arith) kept y)

    tick_full : fits before at rs ≡ false → Ticks c a (together b u d) before after at 0 log_full w (tick (bare c) w i (map (waiting c) a.lists.carried) tt)
    unfolding words_of head_of steps_made
    tick_full y =
        subst (λ (x : Contents). Ticks c a x before after at 0 log_full w (tick (bare c) w i (map (waiting c) a.lists.carried) tt)) areas_are
        (ticks_full c w i a a₁ a₂ a₃ r₁ r₂ came same late_is l.pending l.carried main_is₁ (head_of i.limit late changed r₂.left r₂.stop b) ended reads refl refl n refl x before after at room (omega arith) kept y)

    pub tick_answers :
        (t : Ticked) → t ≡ ticked_as (fits before at rs) rs r₂.stop →
        Ticks c a (together b u d) before after at t.size t.stop w (tick (bare c) w i (map (waiting c) a.lists.carried) tt)
    unfolding ticked_as
    tick_answers t e = go (fits before at rs) refl
      where
        go : (x : Bool) → fits before at rs ≡ x → Ticks c a (together b u d) before after at t.size t.stop w (tick (bare c) w i (map (waiting c) a.lists.carried) tt)
        go true y = let z : t ≡ ticked_as true rs r₂.stop = e ∙ ap (λ (f : Bool). ticked_as f rs r₂.stop) y in rw z (tick_fits y)
        go false y = let z : t ≡ ticked_as false rs r₂.stop = e ∙ ap (λ (f : Bool). ticked_as f rs r₂.stop) y in rw z (tick_full y)

-- the opening, the passes and the record make a tick
pub ticks_through :
    (c : Circuit) (limit : ℕ) (given : Given) (a a₁ a₂ : Contents) (v b : Values) (u : Units) (d : Delays) (o : Filed) (r₁ r₂ : Ran) (late changed : ℕ) (before after : List ℕ) (at : ℕ) (t : Ticked) → at * 8 ≤ length before →
    (a₁ ≡ with_went (reopened c a) (opened c a given)) × (o ≡ (opened c a given).answer) → RanLate c a₁ a₂ limit (stop_of o) r₁ → late ≡ length a₂.kept.begun → changed ≡ d.changed →
    RanMain c a₂ (together v u d) r₁.left r₁.stop r₂ → Closes c limit late changed r₂ v b u before after at t →
    (w : World) → w.state ≡ a.state → w.room ≡ length before - 8 * at →
    Ticks c a (together b u d) before after at t.size t.stop w (tick (bare c) w (allow limit given) (map (waiting c) a.lists.carried) tt)
ticks_through c limit given a a₁ a₂ v b u d o r₁ r₂ late changed before after at t inside opens l n x m ends w same room =
    tick_answers c (allow limit given) a a₁ a₂ v b u d r₁ r₂ late changed before after at opens.0 (subst (λ (x : Filed). RanLate c a₁ a₂ limit (stop_of x) r₁) opens.1 l) n x m ends.values inside ends.log w same room t ends.answer
