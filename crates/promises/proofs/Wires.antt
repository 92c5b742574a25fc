-- What holds of the wires: what each output shows it may show, and the times are finite. Every function of the wires keeps this.
use mathlib.Core.Path.{◌≡◌, refl, sym, subst}
use mathlib.Core.Logic.{inr}
use mathlib.Core.Bool.{Bool, true, false}
use mathlib.Core.List.{List, [], ◌∷◌}
use mathlib.Core.Option.{Option, none, some}
use Prim.Native.Nat.{ℕ, suc, ◌+◌, ◌-◌, ◌<◌}
use native.Mathlib.Nat.{add-zero}
use native.Mathlib.Omega.{arith}
use lib.Dec.{leb, eqb}
use lib.ListN.{length, get_or, set}
use borrow.Author.Tests.{leb-true}
use Rattle.schedule.specs.Promise.{All, [·], ◌∷·◌}
use Rattle.model.specs.declared.Value.{Value}
use Rattle.model.specs.declared.Value.TheVariants.{Nothing, Bool as Truth}
use Rattle.model.specs.Base.{all, among, from}
use Rattle.model.specs.Kinds.{pure, fires, kind_at, kinds_opened}
use Rattle.model.specs.Circuit.{Circuit, kind_of_gate, input, output, source, stored_in, watching}
use Rattle.model.specs.State.{Wires, outs≔, dirty≔, to_check≔, late_checks≔, last≔, pulses≔, written≔, written_outside≔, unions_passed≔, breaking≔, runs_left≔}
use Rattle.model.specs.Wires.{shown, show, clean, watch, look, compute, recompute, refresh_all, ready, set_out, set_outs}
use Rattle.model.specs.Exec.{var, write_once, record_write}
use Rattle.model.specs.Settle.{none_written, publish_write, publish_writes, pulse, taken}
use Rattle.model.specs.Questions.{value_output}
use Rattle.model.proofs.Lists.{if_both, both_true, each_keeps, places_set, all_among, among_from}
use Rattle.model.proofs.Sized.{SizedWires, Pure, show_sized, watch_sized, taken_sized, recompute_sized, mark_readers_sized, refresh_all_keeps, ready_keeps}
use Rattle.model.proofs.Kept.{break_sized, runs_sized, passed_sized, last_sized, pulses_sized, record_write_sized, publish_writes_sized}
use Rattle.model.proofs.Fine.{Alike, alike_itself, alike_again, watch_alike, marked_alike, marked_for_alike}
use Rattle.model.proofs.Calming.{set_pulses}
use Rattle.promises.proofs.Times.{Time, Length}
use Rattle.promises.proofs.Values.{Proper, time_proper, length_proper, At, at_proper}
use Rattle.promises.proofs.Shape.{shows_value, Shaped, value_at}

-- a pure gate shows a value
pure_shows : (k : ℕ) → pure k ≡ true → shows_value (get_or (kind_at k).outs 0 fires) ≡ true
unfolding kinds_opened all from
pure_shows k e =
    let q = both_true (leb 1 k) (leb k 4) e in
    let l = leb-true 1 k q.0 in
    let m : 1 + (k - 1) ≡ k = omega (arith, l) in
    let a = among_from 1 4 (k - 1) (omega (arith, l, leb-true k 4 q.1)) in
    all_among (λ j. shows_value (get_or (kind_at j).outs 0 fires)) (from 1 4) refl k (subst (λ j. among j (from 1 4) ≡ true) m a)

-- wires that differ in none of what is said here
pub record Same (w v : Wires) : Type 0 where
  pub outs : v.outs ≡ w.outs
  pub dt : v.dt ≡ w.dt
  pub uptime : v.uptime ≡ w.uptime
  pub pulses : v.pulses ≡ w.pulses

pub alike_same : {w v : Wires} → Alike w v → Same w v
alike_same a = record { outs = a.outs; dt = a.apart.dt; uptime = a.apart.uptime; pulses = a.apart.pulses }

module _ (c : Circuit) where
  pub record Tells (w : Wires) : Type 0 where
    pub sized : SizedWires c w
    pub outs : (o : ℕ) → At c o (get_or w.outs o Nothing)
    pub dt : Length w.dt
    pub uptime : Time w.uptime
    pub pulses : (o : ℕ) → 0 < get_or w.pulses o 0 → value_output c o ≡ true

  pub tells_as : {w v : Wires} → Same w v → SizedWires c v → Tells w → Tells v
  tells_as a z f =
      record {
        sized = z;
        outs = λ o. subst (λ (vs : List Value). At c o (get_or vs o Nothing)) (sym a.outs) (f.outs o);
        dt = subst Length (sym a.dt) f.dt;
        uptime = subst Time (sym a.uptime) f.uptime;
        pulses = λ o l. f.pulses o (subst (λ (ps : List ℕ). 0 < get_or ps o 0) a.pulses l);
      }

  -- ---- what the outputs, the times and the pulses have no part in

  pub watch_tells : (w : Wires) (i : ℕ) → watching c i ≡ true → Tells w → Tells (watch w i)
  watch_tells w i q f = tells_as (alike_same (watch_alike w i)) (watch_sized c w i q f.sized) f

  pub taken_tells : (w : Wires) (i : ℕ) (is : List ℕ) → w.to_check ≡ i ∷ is → Tells w → Tells (taken w i is)
  unfolding taken to_check≔ late_checks≔
  taken_tells w i is e f = tells_as (record { outs = refl; dt = refl; uptime = refl; pulses = refl }) (taken_sized c w i is e f.sized) f

  pub noted_tells : (w : Wires) (i : ℕ) (v : Option Value) → Tells w → Tells (last≔ w (set w.last i v))
  unfolding last≔
  noted_tells w i v f = tells_as (record { outs = refl; dt = refl; uptime = refl; pulses = refl }) (last_sized c i v f.sized) f

  pub passed_tells : (w : Wires) (x : List Bool) → length x ≡ length w.unions_passed → Tells w → Tells (unions_passed≔ w x)
  unfolding unions_passed≔
  passed_tells w x e f = tells_as (record { outs = refl; dt = refl; uptime = refl; pulses = refl }) (passed_sized c x e f.sized) f

  pub breaking_tells : (w : Wires) (b : Bool) → Tells w → Tells (breaking≔ w b)
  unfolding breaking≔
  breaking_tells w b f = tells_as (record { outs = refl; dt = refl; uptime = refl; pulses = refl }) (break_sized c b f.sized) f

  pub runs_tells : (w : Wires) (n : ℕ) → Tells w → Tells (runs_left≔ w n)
  unfolding runs_left≔
  runs_tells w n f = tells_as (record { outs = refl; dt = refl; uptime = refl; pulses = refl }) (runs_sized c n f.sized) f

  pub write_tells : (inside : Bool) (w : Wires) (g : ℕ) → eqb (kind_of_gate c g) 0 ≡ false → Tells w → Tells (record_write c inside w (var c g))
  unfolding record_write write_once written≔ written_outside≔
  write_tells inside w g h f =
      let a : Same w w = record { outs = refl; dt = refl; uptime = refl; pulses = refl } in
      let b = if_both (Same w) inside a (record { outs = refl; dt = refl; uptime = refl; pulses = refl }) in
      tells_as (if_both (Same w) _ b (record { outs = b.outs; dt = b.dt; uptime = b.uptime; pulses = b.pulses })) (record_write_sized c inside g h f.sized) f

  pub publish_tells : (w : Wires) → Tells w → Tells (publish_writes c w)
  unfolding publish_writes publish_write none_written written≔ written_outside≔
  publish_tells w f =
      let a = alike_same (each_keeps (Alike w) (publish_write c) (λ u o b. alike_again b (marked_for_alike c _ u o)) w w.written (alike_itself w)) in
      tells_as (record { outs = a.outs; dt = a.dt; uptime = a.uptime; pulses = a.pulses }) (publish_writes_sized c w f.sized) f

  -- ---- showing

  pub show_tells : (w : Wires) (o : ℕ) (v : Value) → value_output c o ≡ true → Proper v → Tells w → Tells (show w o v)
  unfolding show outs≔
  show_tells w o v q p f =
      record { sized = show_sized c w o v f.sized; outs = places_set (At c) w.outs o v Nothing (inr (q, p)) f.outs; dt = f.dt; uptime = f.uptime; pulses = f.pulses }

  pub set_out_tells : (w : Wires) (o : ℕ) (v : Value) → value_output c o ≡ true → Proper v → Tells w → Tells (set_out c w o v)
  unfolding set_out
  set_out_tells w o v q p f =
      let y = show_tells w o v q p f in
      if_both Tells _ f (tells_as (alike_same (marked_alike c (show w o v) o)) (mark_readers_sized c (show w o v) o y.sized) y)

  pub set_outs_tells :
      (vs : List Value) (w : Wires) (o : ℕ) → ((k : ℕ) → k < length vs → value_output c (o + k) ≡ true) → All Proper vs → Tells w → Tells (set_outs c w o vs)
  unfolding set_outs
  set_outs_tells [] w o k [·] f = f
  set_outs_tells (v ∷ vs) w o k (◌∷·◌ r rs) f =
      set_outs_tells vs (set_out c w o v) (suc o) (λ n l. subst (λ x. value_output c x ≡ true) (omega arith) (k (suc n) (omega arith))) rs
      (set_out_tells w o v (subst (λ x. value_output c x ≡ true) (add-zero o) (k 0 (omega arith))) r f)

  pub pulses_tells : (w : Wires) (o n : ℕ) → value_output c o ≡ true → Tells w → Tells (pulses≔ w (set w.pulses o n))
  unfolding pulses≔
  pulses_tells w o n q f =
      record {
        sized = pulses_sized c o n f.sized;
        outs = f.outs;
        dt = f.dt;
        uptime = f.uptime;
        pulses = set_pulses (λ p. value_output c p ≡ true) w.pulses o n (λ _. q) f.pulses;
      }

  pub pulse_tells : (w : Wires) (o : ℕ) → value_output c o ≡ true → Tells w → Tells (pulse c w o)
  unfolding pulse
  pulse_tells w o q f = pulses_tells _ o _ q (set_out_tells w o (Truth true) q tt f)

  -- ---- refreshing

  module _ (Z : Shaped c) where
    pub shown_proper : (w : Wires) (o : ℕ) → Tells w → Proper (shown w o)
    unfolding shown
    shown_proper w o f = at_proper c o _ (f.outs o)

    pub look_proper : (w : Wires) (i : ℕ) → Tells w → Proper (look c w i)
    unfolding look
    look_proper w i f = go (source c i)
      where
        go : (x : Option ℕ) → Proper (elim x as (λ _. Value) [ none ↦ stored_in c i | some o ↦ shown w o ])
        go none = Z.stored i
        go (some o) = shown_proper w o f

    compute_proper : (w : Wires) (g : ℕ) → Tells w → Proper (compute c w g)
    unfolding compute
    compute_proper w g f =
        if_both Is _ (if_both Is _ (look_proper w (input c g 2) f) (look_proper w (input c g 1) f))
        (if_both Is _ (look_proper w (input c g 0) f) (if_both Is _ (length_proper w.dt f.dt) (time_proper w.uptime f.uptime)))
      where
        Is : Value → Type 0
        Is v = Proper v

    recompute_tells : (w : Wires) (g : ℕ) → Pure c g → Tells w → Tells (recompute c w g)
    unfolding recompute show clean outs≔ dirty≔
    recompute_tells w g e f =
        let q = value_at c Z.wired.laid g (kind_of_gate c g) 0 refl (pure_shows (kind_of_gate c g) e) in
        record {
          sized = recompute_sized c w g f.sized;
          outs = places_set (At c) w.outs (output c g 0) (compute c w g) Nothing (inr (q, compute_proper w g f)) f.outs;
          dt = f.dt;
          uptime = f.uptime;
          pulses = f.pulses;
        }

    pub refresh_all_tells : (w : Wires) → Tells w → Tells (refresh_all c w)
    refresh_all_tells = refresh_all_keeps c Tells (Pure c) (λ w f. f.sized.stale) recompute_tells

    pub ready_tells : (w : Wires) (i : ℕ) → Tells w → Tells (ready c w i)
    ready_tells = ready_keeps c Tells (Pure c) (λ w f. f.sized.stale) recompute_tells
