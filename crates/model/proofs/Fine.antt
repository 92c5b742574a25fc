-- Wires that are as they should be: sized, right (Right.antt), without a NaN, and with no pulse at a pure gate's output. Every function of the wires keeps this.
use mathlib.Core.Path.{◌≡◌, refl, sym, ap, subst, ◌∙◌}
use mathlib.Core.Logic.{◌≢◌}
use mathlib.Core.Bool.{Bool, true, false}
use mathlib.Core.List.{List, [], ◌∷◌}
use mathlib.Core.Option.{Option, none, some}
use Prim.Native.Nat.{ℕ, suc, ◌+◌, ◌<◌}
use native.Mathlib.Nat.{add-zero}
use native.Mathlib.Omega.{arith}
use lib.Dec.{eqb}
use lib.ListN.{length, get_or, set}
use borrow.Author.Tests.{eqb-true, eqb-false}
use Rattle.schedule.specs.Promise.{All, [·], ◌∷·◌}
use Rattle.model.specs.declared.Value.{Value}
use Rattle.model.specs.declared.Value.TheVariants.{Nothing, Float}
use Rattle.model.specs.Base.{if◌then◌otherwise◌}
use Rattle.model.specs.Value.{same}
use Rattle.model.specs.Circuit.{Circuit, input, output, source, stored_in, gate_at_output, watching, gates}
use Rattle.model.specs.State.{Wires, outs≔, dirty≔, to_check≔, late_checks≔}
use Rattle.model.specs.Wires.{shown, show, is_dirty, soil, clean, watch, look, compute, recompute, behind, refresh, refresh_all, ready, mark_readers_for, mark_readers, set_out, set_outs}
use Rattle.model.specs.Questions.{finite}
use Rattle.model.proofs.Lists.{places_set, if_both, each_keeps, not_so, clash, neither_among}
use Rattle.model.proofs.Sized.{SizedWires, watch_sized, recompute_sized, behind_keeps, mark_readers_for_keeps, set_out_sized}
use Rattle.model.proofs.Stale.{Due, Refreshed, done, next, refresh_to_refreshed, all_clean}
use Rattle.model.proofs.Reals.{Real, finite_real}
use Rattle.model.proofs.Wired.{Wired}
use Rattle.model.proofs.Right.{Except, taking, all_fresh, Other, AllRight, alike, watch_right, set_out_right, recompute_right}

-- a list without a NaN
pub set_real : (vs : List Value) (i : ℕ) (v : Value) → Real v → ((o : ℕ) → Real (get_or vs o Nothing)) → (o : ℕ) → Real (get_or (set vs i v) o Nothing)
set_real vs i v r k = places_set (λ _ (v : Value). Real v) vs i v Nothing r k

-- wires that differ at most in what outputs show, in which gates are stale and in which inputs wait, for a late check or not
pub record Apart (w v : Wires) : Type 0 where
  pub tick : v.tick ≡ w.tick
  pub dt : v.dt ≡ w.dt
  pub uptime : v.uptime ≡ w.uptime
  pub last : v.last ≡ w.last
  pub pulses : v.pulses ≡ w.pulses
  pub written : v.written ≡ w.written
  pub outside : v.written_outside ≡ w.written_outside
  pub passed : v.unions_passed ≡ w.unions_passed
  pub breaking : v.breaking ≡ w.breaking
  pub runs : v.runs_left ≡ w.runs_left

pub not_apart : (w : Wires) → Apart w w
not_apart w = record { tick = refl; dt = refl; uptime = refl; last = refl; pulses = refl; written = refl; outside = refl; passed = refl; breaking = refl; runs = refl }

pub apart_on : {w v u : Wires} → Apart w v → Apart v u → Apart w u
apart_on a b =
    record {
      tick = b.tick ∙ a.tick;
      dt = b.dt ∙ a.dt;
      uptime = b.uptime ∙ a.uptime;
      last = b.last ∙ a.last;
      pulses = b.pulses ∙ a.pulses;
      written = b.written ∙ a.written;
      outside = b.outside ∙ a.outside;
      passed = b.passed ∙ a.passed;
      breaking = b.breaking ∙ a.breaking;
      runs = b.runs ∙ a.runs;
    }

pub apart_back : {w v : Wires} → Apart w v → Apart v w
apart_back a =
    record {
      tick = sym a.tick;
      dt = sym a.dt;
      uptime = sym a.uptime;
      last = sym a.last;
      pulses = sym a.pulses;
      written = sym a.written;
      outside = sym a.outside;
      passed = sym a.passed;
      breaking = sym a.breaking;
      runs = sym a.runs;
    }

-- and not in what outputs show
pub record Alike (w v : Wires) : Type 0 where
  pub apart : Apart w v
  pub outs : v.outs ≡ w.outs

pub alike_itself : (w : Wires) → Alike w w
alike_itself w = record { apart = not_apart w; outs = refl }

pub alike_again : {w v u : Wires} → Alike w v → Alike v u → Alike w u
alike_again a b = record { apart = apart_on a.apart b.apart; outs = b.outs ∙ a.outs }

pub soil_alike : (w : Wires) (g : ℕ) → Alike w (soil w g)
unfolding soil dirty≔
soil_alike w g =
    record { apart = record { tick = refl; dt = refl; uptime = refl; last = refl; pulses = refl; written = refl; outside = refl; passed = refl; breaking = refl; runs = refl }; outs = refl }

pub watch_alike : (w : Wires) (i : ℕ) → Alike w (watch w i)
unfolding watch to_check≔
watch_alike w i =
    if_both (Alike w) _ (alike_itself w)
    (record { apart = record { tick = refl; dt = refl; uptime = refl; last = refl; pulses = refl; written = refl; outside = refl; passed = refl; breaking = refl; runs = refl }; outs = refl })

late_alike : (w : Wires) (i : ℕ) → Alike w (late_checks≔ w (set w.late_checks i true))
unfolding late_checks≔
late_alike w i =
    record { apart = record { tick = refl; dt = refl; uptime = refl; last = refl; pulses = refl; written = refl; outside = refl; passed = refl; breaking = refl; runs = refl }; outs = refl }

module _ (c : Circuit) where
  pub record Fine (t : Except) (late : List ℕ) (w : Wires) : Type 0 where
    pub sized : SizedWires c w
    -- the Vars written and not published
    pub written : w.written ≡ late
    pub pulses : (o : ℕ) → 0 < get_or w.pulses o 0 → Other c o
    pub real : (o : ℕ) → Real (shown w o)
    pub length_finite : finite w.dt ≡ true
    pub uptime_real : Real (Float w.uptime)
    pub right : AllRight c t late [] w

  -- wires that are sized, and as fine ones are in the rest that `Fine` speaks of
  pub fine_aside :
      {t : Except} {late : List ℕ} (w v : Wires) → v.outs ≡ w.outs → v.dirty ≡ w.dirty → v.queued ≡ w.queued → v.dt ≡ w.dt → v.uptime ≡ w.uptime →
      v.pulses ≡ w.pulses → v.written ≡ w.written → SizedWires c v → Fine t late w → Fine t late v
  unfolding shown
  fine_aside {t} {late} w v outs dirty queued dt uptime pulses written z f =
      record {
        sized = z;
        written = written ∙ f.written;
        pulses = λ o l. f.pulses o (subst (λ (ps : List ℕ). 0 < get_or ps o 0) pulses l);
        real = λ o. subst (λ (vs : List Value). Real (get_or vs o Nothing)) (sym outs) (f.real o);
        length_finite = ap finite dt ∙ f.length_finite;
        uptime_real = subst (λ x. Real (Float x)) (sym uptime) f.uptime_real;
        right = alike c t late [] w v outs dirty dt uptime queued f.right;
      }

  -- other wires, which are sized and right
  pub fine_as :
      {t t' : Except} {late late' : List ℕ} {w v : Wires} → Alike w v → late ≡ late' → SizedWires c v → AllRight c t' late' [] v → Fine t late w → Fine t' late' v
  unfolding shown
  fine_as {w = w} {v = v} a e z r f =
      record {
        sized = z;
        written = a.apart.written ∙ f.written ∙ e;
        pulses = λ o l. f.pulses o (subst (λ (ps : List ℕ). 0 < get_or ps o 0) a.apart.pulses l);
        real = λ o. subst (λ (vs : List Value). Real (get_or vs o Nothing)) (sym a.outs) (f.real o);
        length_finite = ap finite a.apart.dt ∙ f.length_finite;
        uptime_real = subst (λ x. Real (Float x)) (sym a.apart.uptime) f.uptime_real;
        right = r;
      }

  -- ---- marking

  pub marked_for_alike : (late : Bool) (w : Wires) (o : ℕ) → Alike w (mark_readers_for c late w o)
  marked_for_alike late w o =
      mark_readers_for_keeps c (Alike w) (λ v g p a. alike_again a (soil_alike v g)) (λ v i q a. alike_again a (watch_alike v i))
      late (λ _ v i a. alike_again a (late_alike v i)) w o (alike_itself w)

  pub marked_alike : (w : Wires) (o : ℕ) → Alike w (mark_readers c w o)
  unfolding mark_readers
  marked_alike = marked_for_alike false

  module _ (W : Wired c) (t : Except) (late : List ℕ) where
    pub watch_fine : (w : Wires) (i : ℕ) → watching c i ≡ true → Fine t late w → Fine t late (watch w i)
    watch_fine w i q f = fine_as (watch_alike w i) refl (watch_sized c w i q f.sized) (watch_right c W t late w i [] f.right) f

    pub set_out_fine : (w : Wires) (o : ℕ) (v : Value) → Other c o → Real v → Fine t late w → Fine t late (set_out c w o v)
    unfolding set_out show outs≔ shown if◌then◌otherwise◌
    set_out_fine w o v u r f =
        let z = set_out_sized c w o v f.sized in
        let y = set_out_right c W t late w o v f.sized u f.right in
        go z y
      where
        shown_fine : SizedWires c (mark_readers c (show w o v) o) → AllRight c t late [] (mark_readers c (show w o v) o) → Fine t late (mark_readers c (show w o v) o)
        shown_fine z y =
            let a = marked_alike (show w o v) o in
            record {
              sized = z;
              written = a.apart.written ∙ f.written;
              pulses = λ p l. f.pulses p (subst (λ (ps : List ℕ). 0 < get_or ps p 0) a.apart.pulses l);
              real = λ p. subst (λ (vs : List Value). Real (get_or vs p Nothing)) (sym a.outs) (set_real w.outs o v r f.real p);
              length_finite = ap finite a.apart.dt ∙ f.length_finite;
              uptime_real = subst (λ x. Real (Float x)) (sym a.apart.uptime) f.uptime_real;
              right = y;
            }

        go : SizedWires c (set_out c w o v) → AllRight c t late [] (set_out c w o v) → Fine t late (set_out c w o v)
        go = by_test (same (get_or w.outs o Nothing) v)
          where
            by_test :
                (b : Bool) → SizedWires c (if b then w otherwise mark_readers c (show w o v) o) → AllRight c t late [] (if b then w otherwise mark_readers c (show w o v) o) →
                Fine t late (if b then w otherwise mark_readers c (show w o v) o)
            by_test true z y = f
            by_test false z y = shown_fine z y

    -- a row of values, to outputs of gates that are not pure
    pub set_outs_fine :
        (vs : List Value) (w : Wires) (o : ℕ) → ((k : ℕ) → k < length vs → Other c (o + k)) → All Real vs → Fine t late w → Fine t late (set_outs c w o vs)
    unfolding set_outs
    set_outs_fine [] w o k [·] f = f
    set_outs_fine (v ∷ vs) w o k (◌∷·◌ r rs) f =
        set_outs_fine vs (set_out c w o v) (suc o) (λ n l. subst (Other c) (omega arith) (k (suc n) (omega arith))) rs
        (set_out_fine w o v (subst (Other c) (add-zero o) (k 0 (omega arith))) r f)

    -- ---- refreshing

    look_real : (w : Wires) → ((o : ℕ) → Real (shown w o)) → (i : ℕ) → Real (look c w i)
    unfolding look
    look_real w k i = go (source c i)
      where
        go : (x : Option ℕ) → Real (elim x as (λ _. Value) [ none ↦ stored_in c i | some o ↦ shown w o ])
        go none = W.stored i
        go (some o) = k o

    compute_real : (w : Wires) (g : ℕ) → Fine t late w → Real (compute c w g)
    unfolding compute
    compute_real w g f =
        let at = look_real w f.real in
        if_both Is _ (if_both Is _ (at (input c g 2)) (at (input c g 1))) (if_both Is _ (at (input c g 0)) (if_both Is _ (finite_real w.dt f.length_finite) f.uptime_real))
      where
        Is : Value → Type 0
        Is v = Real v

    recompute_fine : (w : Wires) (g : ℕ) → Due c w g → Fine t late w → Fine t late (recompute c w g)
    unfolding recompute show clean outs≔ dirty≔ shown
    recompute_fine w g d f =
        record {
          sized = recompute_sized c w g f.sized;
          written = f.written;
          pulses = f.pulses;
          real = set_real w.outs (output c g 0) (compute c w g) (compute_real w g f) f.real;
          length_finite = f.length_finite;
          uptime_real = f.uptime_real;
          right = recompute_right c W t late w g f.sized d f.right;
        }

    refreshed_fine : {m : ℕ} {w v : Wires} → Refreshed c W.heights m w v → Fine t late w → Fine t late v
    refreshed_fine done f = f
    refreshed_fine (next {w = w} g b d r) f = refreshed_fine r (recompute_fine w g d f)

    pub refresh_fine : (w : Wires) (g : ℕ) → Fine t late w → Fine t late (refresh c w g)
    unfolding refresh
    refresh_fine w g f = refreshed_fine (refresh_to_refreshed c W.heights (length c.kinds) w g f.sized (W.heights.most g)).0 f

    pub ready_fine : (w : Wires) (i : ℕ) → Fine t late w → Fine t late (ready c w i)
    unfolding ready
    ready_fine w i f = behind_keeps c (Fine t late) (refresh c) refresh_fine w i f

    pub refresh_all_fine : (w : Wires) → Fine t late w → Fine t late (refresh_all c w)
    unfolding refresh_all
    refresh_all_fine w f = each_keeps (Fine t late) (refresh c) refresh_fine w (gates c) f

    -- after refreshing all, no gate is stale
    pub refreshed_clean : (w : Wires) → Fine t late w → (g : ℕ) → is_dirty (refresh_all c w) g ≡ false
    refreshed_clean w f g = all_clean c W.heights w f.sized g

    -- where no gate is stale, no time source is, and no input has to wait
    pub clean_fine : (w : Wires) → ((g : ℕ) → is_dirty w g ≡ false) → Fine t late w → Fine (all_fresh t) late w
    clean_fine w k f =
        let r = f.right in
        fine_as (alike_itself w) refl f.sized
        (record { gates = r.gates; inputs = λ i n a b o e s. clash s (k (gate_at_output c o)); times = λ g e s. clash s (k g) }) f

    pub read_real : (w : Wires) → Fine t late w → (i : ℕ) → Real (look c w i)
    read_real w f i = look_real w f.real i

  -- the source of an input that is ready is not stale
  pub ready_clean : (W : Wired c) (w : Wires) (i o : ℕ) → SizedWires c w → source c i ≡ some o → is_dirty (ready c w i) (gate_at_output c o) ≡ false
  unfolding ready behind refresh
  ready_clean W w i o z e =
      rw (e, behind) (not_so _ (refresh_to_refreshed c W.heights (length c.kinds) w (gate_at_output c o) z (W.heights.most (gate_at_output c o))).1)

  -- an input that was taken to be checked, and is read
  pub read_fine : (W : Wired c) (t : Except) (late : List ℕ) (w : Wires) (i : ℕ) → Fine (taking i t) late w → Fine t late (ready c w i)
  read_fine W t late w i f =
      let y = ready_fine W (taking i t) late w i f in
      let r = y.right in
      fine_as (alike_itself (ready c w i)) refl y.sized
      (record { gates = r.gates; inputs = λ j n a b o e s. go j o e s (eqb j i) refl (λ m. r.inputs j (neither_among j i t.taken m n) a b o e s); times = r.times }) y
    where
      go :
          {A : Type 0} (j o : ℕ) → source c j ≡ some o → is_dirty (ready c w i) (gate_at_output c o) ≡ true → (b : Bool) → eqb j i ≡ b → (j ≢ i → A) → A
      go j o e s true q k = clash s (ready_clean W w i o f.sized (subst (λ (x : ℕ). source c x ≡ some o) (eqb-true j i q) e))
      go j o e s false q k = k (eqb-false j i q)
