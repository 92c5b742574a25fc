-- Wires at rest, in which no gate is stale: what `refresh_all` makes of any wires. Reading changes nothing there, what is read anywhere is what they show, and two
-- of them are the same where they show the same at all gates that are not pure.
use mathlib.Core.Path.{◌≡◌, refl, sym, ap, ◌∙◌}
use mathlib.Core.Logic.{◌⊎◌, inl, inr}
use mathlib.Core.Bool.{Bool, true, false}
use mathlib.Core.List.{List, [], ◌∷◌}
use mathlib.Core.Option.{Option, none, some}
use Prim.Native.Nat.{ℕ, zero, suc, ◌≤◌, ◌<◌}
use native.Mathlib.Omega.{arith}
use lib.Dec.{ltb}
use lib.ListN.{length, get_or-eq_default}
use lib.Seq.{get_or-set_other}
use borrow.Author.Tests.{ltb-true, ltb-false}
use Rattle.model.specs.declared.Value.TheVariants.{Nothing}
use Rattle.model.specs.Base.{each, among}
use Rattle.model.specs.Kinds.{pure}
use Rattle.model.specs.Circuit.{Circuit, kind_of_gate, output, inputs_of, source, gate_at_output, gates}
use Rattle.model.specs.State.{Wires, outs≔, dirty≔}
use Rattle.model.specs.Wires.{shown, show, is_dirty, clean, look, compute, recompute, behind, refresh_to, refresh, refresh_all, ready}
use Rattle.model.proofs.Lists.{places_same, not_so, clash, among_later, among_either, among_none}
use Rattle.model.proofs.Sized.{SizedWires, ready_sized}
use Rattle.model.proofs.Stale.{Refreshed, done, next, stale_still, stale_among, was_stale, compute_same, output_own, refresh_to_refreshed, all_refreshed, any_order}
use Rattle.model.proofs.Wired.{Wired}
use Rattle.model.proofs.Right.{Except, Other}
use Rattle.model.proofs.Fine.{Apart, not_apart, apart_on, apart_back, Fine, ready_clean}

-- wires that differ at most in what outputs show and in which gates are stale
pub record Aside (w v : Wires) : Type 0 where
  pub apart : Apart w v
  pub to_check : v.to_check ≡ w.to_check
  pub queued : v.queued ≡ w.queued
  pub late : v.late_checks ≡ w.late_checks

pub aside_on : {w v u : Wires} → Aside w v → Aside v u → Aside w u
aside_on a b = record { apart = apart_on a.apart b.apart; to_check = b.to_check ∙ a.to_check; queued = b.queued ∙ a.queued; late = b.late ∙ a.late }

pub aside_back : {w v : Wires} → Aside w v → Aside v w
aside_back a = record { apart = apart_back a.apart; to_check = sym a.to_check; queued = sym a.queued; late = sym a.late }

module _ (c : Circuit) where
  -- no gate is stale
  abbrev pub AtRest : Wires → Type 0
  AtRest w = (g : ℕ) → is_dirty w g ≡ false

  -- ---- refreshing

  recompute_aside : (w : Wires) (g : ℕ) → Aside w (recompute c w g)
  unfolding recompute show clean outs≔ dirty≔
  recompute_aside w g =
      record { apart = record { tick = refl; dt = refl; uptime = refl; last = refl; pulses = refl; written = refl; outside = refl; passed = refl; breaking = refl; runs = refl }; to_check = refl; queued = refl; late = refl }

  -- a gate that is not stale is left as it is
  refresh_to_clean : (n : ℕ) (w : Wires) (g : ℕ) → is_dirty w g ≡ false → refresh_to c n w g ≡ w
  unfolding refresh_to
  refresh_to_clean zero w g e = refl
  refresh_to_clean (suc n) w g e = rw (e, refresh_to)

  module _ (W : Wired c) where
    refreshed_aside : {m : ℕ} {w v : Wires} → Refreshed c W.heights m w v → Aside w v
    refreshed_aside {w = w} done = record { apart = not_apart w; to_check = refl; queued = refl; late = refl }
    refreshed_aside (next {w = w} g b d r) = aside_on (recompute_aside w g) (refreshed_aside r)

    -- an output whose gate was not stale shows what it showed
    refreshed_shown : {m : ℕ} {w v : Wires} → Refreshed c W.heights m w v → (o : ℕ) → is_dirty w (gate_at_output c o) ≡ false → shown v o ≡ shown w o
    unfolding shown recompute show clean outs≔ dirty≔
    refreshed_shown done o e = refl
    refreshed_shown (next {w = w} g b d r) o e =
        refreshed_shown r o (not_so _ λ s. clash (stale_still c w g (gate_at_output c o) s).1 e)
        ∙ get_or-set_other w.outs (output c g 0) o (compute c w g) Nothing
        (λ s. clash (ap (is_dirty w) (output_own c W.laid g o d.is_pure s) ∙ d.stale) e)

    pub rest_aside : (w : Wires) → SizedWires c w → Aside w (refresh_all c w)
    rest_aside w z = refreshed_aside (all_refreshed c W.heights w z)

    pub rest_shown : (w : Wires) → SizedWires c w → (o : ℕ) → is_dirty w (gate_at_output c o) ≡ false → shown (refresh_all c w) o ≡ shown w o
    rest_shown w z o e = refreshed_shown (all_refreshed c W.heights w z) o e

    -- ---- reading

    pub rested_ready : (w : Wires) → AtRest w → (i : ℕ) → ready c w i ≡ w
    unfolding ready behind refresh
    rested_ready w k i = go (source c i) refl
      where
        go : (x : Option ℕ) → source c i ≡ x → ready c w i ≡ w
        go none e = rw (e, behind)
        go (some o) e = rw (e, behind) (refresh_to_clean (length c.kinds) w (gate_at_output c o) (k (gate_at_output c o)))

    -- wires that were read come to the same rest
    refresh_rests : (w : Wires) (g : ℕ) → SizedWires c w → refresh_all c (refresh c w g) ≡ refresh_all c w
    unfolding refresh_all each
    refresh_rests w g z = any_order c W.heights W.laid w z (g ∷ gates c) λ h e. among_later h g (gates c) (stale_among c w z h e)

    ready_rests : (w : Wires) (i : ℕ) → SizedWires c w → refresh_all c (ready c w i) ≡ refresh_all c w
    unfolding ready behind
    ready_rests w i z = go (source c i) refl
      where
        go : (x : Option ℕ) → source c i ≡ x → refresh_all c (ready c w i) ≡ refresh_all c w
        go none e = rw (e, behind)
        go (some o) e = rw (e, behind) (refresh_rests w (gate_at_output c o) z)

    ready_still_clean : (w : Wires) (i g : ℕ) → SizedWires c w → is_dirty w g ≡ false → is_dirty (ready c w i) g ≡ false
    unfolding ready behind refresh
    ready_still_clean w i g z k = go (source c i) refl
      where
        go : (x : Option ℕ) → source c i ≡ x → is_dirty (ready c w i) g ≡ false
        go none e = rw (e, behind) k
        go (some o) e =
            rw (e, behind)
            (not_so _ λ s. clash (was_stale c W.heights (refresh_to_refreshed c W.heights (length c.kinds) w (gate_at_output c o) z (W.heights.most (gate_at_output c o))).0 g s) k)

    -- the sources of inputs that are ready are not stale
    pub record Readied (w v : Wires) (is : List ℕ) : Type 0 where
      pub sized : SizedWires c v
      pub rests : refresh_all c v ≡ refresh_all c w
      pub clean : (i : ℕ) → among i is ≡ true → (o : ℕ) → source c i ≡ some o → is_dirty v (gate_at_output c o) ≡ false
      pub still : (g : ℕ) → is_dirty w g ≡ false → is_dirty v g ≡ false

    pub readied_each : (is : List ℕ) (w : Wires) → SizedWires c w → Readied w (each (ready c) w is) is
    unfolding each
    readied_each [] w z = record { sized = z; rests = refl; clean = λ i m o e. clash m (among_none i); still = λ g e. e }
    readied_each (x ∷ is) w z =
        let r = readied_each is (ready c w x) (ready_sized c w x z) in
        record {
          sized = r.sized;
          rests = r.rests ∙ ready_rests w x z;
          clean = λ i m o e. go i o e (r.clean i) (r.still (gate_at_output c o)) (among_either i x is m);
          still = λ g e. r.still g (ready_still_clean w x g z e);
        }
      where
        go :
            (i o : ℕ) → source c i ≡ some o → (among i is ≡ true → (o : ℕ) → source c i ≡ some o → is_dirty (each (ready c) (ready c w x) is) (gate_at_output c o) ≡ false) →
            (is_dirty (ready c w x) (gate_at_output c o) ≡ false → is_dirty (each (ready c) (ready c w x) is) (gate_at_output c o) ≡ false) →
            (i ≡ x) ⊎ (among i is ≡ true) → is_dirty (each (ready c) (ready c w x) is) (gate_at_output c o) ≡ false
        go i o e rec k (inl s) = k (ready_clean c W w x o z (ap (source c) (sym s) ∙ e))
        go i o e rec k (inr s) = rec s o e

    -- what an input that is ready reads is what stands there at rest
    pub look_rests : (w v : Wires) (is : List ℕ) → Readied w v is → (i : ℕ) → among i is ≡ true → look c v i ≡ look c (refresh_all c w) i
    unfolding look
    look_rests w v is r i m = go (source c i) refl
      where
        go : (x : Option ℕ) → source c i ≡ x → look c v i ≡ look c (refresh_all c w) i
        go none e = rw (e, look)
        go (some o) e = rw (e, look) (sym (rest_shown v r.sized o (r.clean i m o e)) ∙ ap (λ (u : Wires). shown u o) r.rests)

    -- ---- two at rest

    module _ (t : Except) (w v : Wires) (f : Fine c t [] w) (h : Fine c t [] v) (j : AtRest w) (k : AtRest v) (a : Apart w v)
        (same : (o : ℕ) → Other c o ⊎ (among (gate_at_output c o) t.unsure ≡ true) → shown v o ≡ shown w o) where
      abbrev SameTo : ℕ → Type 0
      SameTo n = (o : ℕ) → o < length c.outputs → W.heights.height (gate_at_output c o) ≤ n → shown v o ≡ shown w o

      -- a pure gate, where its sources show the same
      of_pure :
          (o : ℕ) → o < length c.outputs → pure (kind_of_gate c (gate_at_output c o)) ≡ true → among (gate_at_output c o) t.unsure ≡ false →
          ((q : ℕ) → q < length c.outputs → W.heights.height (gate_at_output c q) < W.heights.height (gate_at_output c o) → shown v q ≡ shown w q) →
          shown v o ≡ shown w o
      unfolding look
      of_pure o l e n rec =
          let g = gate_at_output c o in
          let one = W.one_output o l e in
          ap (shown v) one ∙ (h.right.gates g e (k g) n).shows (λ i q m s. (among_none q, among_none q))
          ∙ compute_same c v w g a.dt a.uptime (λ i m. at_input i m (source c i) refl)
          ∙ sym ((f.right.gates g e (j g) n).shows (λ i q m s. (among_none q, among_none q))) ∙ sym (ap (shown w) one)
        where
          at_input : (i : ℕ) → among i (inputs_of c (gate_at_output c o)) ≡ true → (x : Option ℕ) → source c i ≡ x → look c v i ≡ look c w i
          at_input i m none s = rw (s, look)
          at_input i m (some q) s = rw (s, look) (rec q (W.source_in i q s) (W.heights.above (gate_at_output c o) i q e m s))

      same_to : (n : ℕ) → SameTo n
      same_to zero o l m = by_kind (pure (kind_of_gate c (gate_at_output c o))) refl
        where
          by_kind : (b : Bool) → pure (kind_of_gate c (gate_at_output c o)) ≡ b → shown v o ≡ shown w o
          by_kind false e = same o (inl e)
          by_kind true e = absurd (omega (arith, W.heights.least (gate_at_output c o) e))
      same_to (suc n) o l m = by_kind (pure (kind_of_gate c (gate_at_output c o))) refl (among (gate_at_output c o) t.unsure) refl (same_to n)
        where
          by_kind :
              (b : Bool) → pure (kind_of_gate c (gate_at_output c o)) ≡ b → (d : Bool) → among (gate_at_output c o) t.unsure ≡ d → SameTo n → shown v o ≡ shown w o
          by_kind false e d q rec = same o (inl e)
          by_kind true e true q rec = same o (inr q)
          by_kind true e false q rec = of_pure o l e q λ p l s. rec p l (omega arith)

      all_same : (o : ℕ) → shown v o ≡ shown w o
      unfolding shown
      all_same o = go (ltb o (length c.outputs)) refl
        where
          go : (b : Bool) → ltb o (length c.outputs) ≡ b → shown v o ≡ shown w o
          go true l = same_to (length c.kinds) o (ltb-true o (length c.outputs) l) (W.heights.most (gate_at_output c o))
          go false l =
              let p : length v.outs ≤ o = omega (arith, h.sized.outs, ltb-false o (length c.outputs) l) in
              let q : length w.outs ≤ o = omega (arith, f.sized.outs, ltb-false o (length c.outputs) l) in
              get_or-eq_default v.outs Nothing p ∙ sym (get_or-eq_default w.outs Nothing q)

      pub rests_same : v.to_check ≡ w.to_check → v.queued ≡ w.queued → v.late_checks ≡ w.late_checks → v ≡ w
      unfolding shown is_dirty
      rests_same x y z =
          let outs = places_same v.outs w.outs Nothing (h.sized.outs ∙ sym f.sized.outs) all_same in
          let dirty = places_same v.dirty w.dirty false (h.sized.dirty ∙ sym f.sized.dirty) (λ g. k g ∙ sym (j g)) in
          λ i.
          record {
            tick = a.tick i;
            dt = a.dt i;
            uptime = a.uptime i;
            outs = outs i;
            dirty = dirty i;
            to_check = x i;
            queued = y i;
            late_checks = z i;
            last = a.last i;
            pulses = a.pulses i;
            written = a.written i;
            written_outside = a.outside i;
            unions_passed = a.passed i;
            breaking = a.breaking i;
            runs_left = a.runs i;
          }
