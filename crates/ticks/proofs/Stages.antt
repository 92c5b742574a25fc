-- The stages of a tick after its opening.
use Prim.Native.Nat.{ℕ, ◌+◌, ◌-◌}
use mathlib.Core.Path.{◌≡◌, refl, sym, ap, ◌∙◌, subst}
use mathlib.Core.Bool.{Bool, true, false}
use mathlib.Core.List.{List, append-nil}
use native.Mathlib.Omega.{arith}
use borrow.Author.Tests.{ne_eqb}
use Rattle.schedule.specs.Schedule.{log_full, no_turn, next_late, next_main, activate_late, activate_main, late_pass, main_pass}
use Rattle.lists.specs.Lists.{Filed as Answer, NoRoom, Done}
use Rattle.model.specs.Base.{if◌then◌otherwise◌}
use Rattle.model.specs.Circuit.{Circuit}
use Rattle.model.specs.Wires.{refresh_all}
use Rattle.model.specs.Unit.{World, state≔}
use Rattle.wires.specs.View.{Values, with_wires}
use Rattle.units.specs.View.{Lists, Units}
use Rattle.areas.specs.Areas.{Contents}
use Rattle.chain.specs.declared.Ran.{Ran}
use Rattle.unit.specs.Unit.{stop_of}
use Rattle.passes.specs.Waiting.{bare, for_late, for_main}
use Rattle.passes.specs.Passes.{with_begun, units_left, Passes}
use Rattle.passes.proofs.Turns.{stopped}
use Rattle.logging.specs.declared.Head.{Head}
use Rattle.std.specs.Prelude.{Option, Some, None}
use Rattle.logging.specs.Log.{fits, written_as, Writes}
use Rattle.ticks.specs.declared.Ticked.{Ticked}
use Rattle.ticks.specs.Stages.{RanLate, RanMain, steps_made, outputs_read, head_of, words_with, words_of, ticked_as, Closes}

-- ---- the passes

-- no turn is made after a stop
no_turns :
    (c : Circuit) {Q : Type 0} (h : Lists → Q) (a : Contents) (left stop : ℕ) (w : World) → w.state ≡ a.state → w.left ≡ left →
    Passes c h a a (record { left = left; stop = stop }) w (no_turn (bare c) (units_left a) tt (h a.lists) w stop)
unfolding state≔
no_turns c {Q} h a left stop w e f =
    record {
      world = rw (sym e, sym f) refl;
      queue = refl;
      stop = refl;
      left = refl;
      kept = ap (λ (b : List _). with_begun a.kept b) (sym (append-nil a.kept.begun));
    }

-- a list was full
pub late_stopped : (c : Circuit) (a : Contents) (left : ℕ) (o : Answer) → o ≡ NoRoom → RanLate c a a left (stop_of o) (record { left = left; stop = 12 })
unfolding stop_of late_pass
late_stopped c a left o h =
    rw h
    (record {
      passes = λ w e f.
          rw (stopped c (for_late c) (next_late (bare c)) (activate_late (bare c)) (units_left a) 12 w a.lists (λ z. omega (arith, z)))
          (no_turns c (for_late c) a left 12 w e f);
      pending = refl;
      carried = refl;
    })

pub late_ran :
    (c : Circuit) (a b : Contents) (left : ℕ) (o : Answer) (r : Ran) → o ≡ Done →
    ((w : World) → w.state ≡ a.state → w.left ≡ left → Passes c (for_late c) a b r w (late_pass (bare c) (units_left a) tt (for_late c a.lists) w 0)) →
    (b.lists.pending ≡ a.lists.pending) × (b.lists.carried ≡ a.lists.carried) →
    RanLate c a b left (stop_of o) r
unfolding stop_of
late_ran c a b left o r e p h = rw e (record { passes = p; pending = h.0; carried = h.1 })

-- the late pass stopped
pub main_stopped : (c : Circuit) (a : Contents) (r : Ran) → (r.stop ≡ 0 → ⊥) → RanMain c a a r.left r.stop r
unfolding main_pass
main_stopped c a r h =
    record {
      passes = λ w e f.
          rw (stopped c (for_main c) (next_main (bare c)) (activate_main (bare c)) (units_left a) r.stop w a.lists h)
          (no_turns c (for_main c) a r.left r.stop w e f);
    }

pub main_ran :
    (c : Circuit) (a b : Contents) (l r : Ran) → l.stop ≡ 0 →
    ((w : World) → w.state ≡ a.state → w.left ≡ l.left → Passes c (for_main c) a b r w (main_pass (bare c) (units_left a) tt (for_main c a.lists) w 0)) →
    RanMain c a b l.left l.stop r
main_ran c a b l r z p = rw z (record { passes = p })

-- ---- the record

-- the steps made
pub steps_runaway : (limit left stop n : ℕ) → n ≡ limit - left → stop ≡ 11 → n + 1 ≡ steps_made limit left stop
unfolding steps_made if◌then◌otherwise◌
steps_runaway limit left stop n e h = rw (h, e) refl

pub steps_other : (limit left stop n : ℕ) → n ≡ limit - left → (stop ≡ 11 → ⊥) → n ≡ steps_made limit left stop
unfolding steps_made if◌then◌otherwise◌
steps_other limit left stop n e h = rw (ne_eqb stop 11 h, e) (omega arith)

-- the outputs of a stopped tick are not read
pub unread : (c : Circuit) (v : Values) (stop : ℕ) → (stop ≡ 0 → ⊥) → v ≡ with_wires v (outputs_read c v.wires stop)
unfolding outputs_read if◌then◌otherwise◌
unread c v stop h = rw (ne_eqb stop 0 h) refl

pub read_all : (c : Circuit) (v b : Values) (stop : ℕ) → stop ≡ 0 → b ≡ with_wires v (refresh_all c v.wires) → b ≡ with_wires v (outputs_read c v.wires stop)
unfolding outputs_read if◌then◌otherwise◌
read_all c v b stop h e = rw h e

-- the head of the record
pub head_is :
    (limit late changed left stop tick made : ℕ) (v : Values) → tick ≡ v.wires.tick → made ≡ steps_made limit left stop →
    ◌≡◌ {A = Head} (record { tick = tick; steps = made; late = late; stop = stop; changed = changed }) (head_of limit late changed left stop v)
unfolding head_of
head_is limit late changed left stop tick made v e₁ e₂ = rw (e₁, e₂) refl

-- what a tick answers, by what writing its record came to
abbrev pub ticked_by : Option ℕ → ℕ → Ticked
ticked_by (Some n) stop = record { size = n; stop = stop }
ticked_by None stop = record { size = 0; stop = log_full }

ticked_is : (t : Bool) (rs : List ℕ) (stop : ℕ) → ticked_by (written_as t rs) stop ≡ ticked_as t rs stop
unfolding written_as ticked_as
ticked_is true rs stop = refl
ticked_is false rs stop = refl

-- the record was written, or did not fit
pub closes :
    (c : Circuit) (limit late changed : ℕ) (r : Ran) (v b : Values) (u : Units) (before after : List ℕ) (at : ℕ) (h : Head) {x y : Option ℕ} →
    b ≡ with_wires v (outputs_read c v.wires r.stop) → h ≡ head_of limit late changed r.left r.stop b →
    x ≡ written_as (fits before at (words_with h b u)) (words_with h b u) → Writes before after at (words_with h b u) → x ≡ y →
    Closes c limit late changed r v b u before after at (ticked_by y r.stop)
unfolding words_of
closes c limit late changed r v b u before after at h e₁ e₂ e₃ e₄ e₅ =
    let rs = words_of limit late changed r b u in
    let same : words_with h b u ≡ rs = ap (λ (z : Head). words_with z b u) e₂ in
    record {
      values = e₁;
      answer =
          ap (λ (z : Option ℕ). ticked_by z r.stop) (sym e₅ ∙ e₃ ∙ ap (λ (z : List ℕ). written_as (fits before at z) z) same)
          ∙ ticked_is (fits before at rs) rs r.stop;
      log = subst (λ (z : List ℕ). Writes before after at z) same e₄;
    }
