-- Where the wires are fine and no write is unpublished, reading a value output gives what is worked out afresh.
use mathlib.Core.Path.{◌≡◌, refl, sym, ap, subst, ◌∙◌}
use mathlib.Core.Bool.{Bool, true, false}
use mathlib.Core.List.{[]}
use mathlib.Core.Option.{Option, none, some}
use Prim.Native.Nat.{ℕ, zero, suc, ◌+◌, ◌≤◌, ◌<◌}
use native.Mathlib.Omega.{arith}
use lib.Dec.{eqb, ltb}
use lib.ListN.{length}
use lib.Seq.{get_or-set_other}
use borrow.Author.Tests.{eqb-true, ltb-true}
use Rattle.model.specs.declared.Value.{Value}
use Rattle.model.specs.declared.Value.TheVariants.{Nothing}
use Rattle.model.specs.Base.{among}
use Rattle.model.specs.Value.{same}
use Rattle.model.specs.Kinds.{pure, kind_at, kinds_opened}
use Rattle.model.specs.Circuit.{Circuit, kind_of_gate, input, output, inputs_of, source, stored_in, gate_at_output}
use Rattle.model.specs.State.{Wires, outs≔, dirty≔}
use Rattle.model.specs.Wires.{shown, show, is_dirty, clean, look, compute, recompute, behind, refresh, ready}
use Rattle.model.specs.Questions.{value_output}
use Rattle.model.specs.Fresh.{read_output, gives, afresh_to, afresh, Fresh}
use Rattle.model.proofs.Lists.{both_true, steady, not_so, clash, among_none}
use Rattle.model.proofs.Sized.{SizedWires}
use Rattle.model.proofs.Stale.{if_same, Due, Refreshed, done, next, refresh_to_refreshed, output_own, input_among}
use Rattle.model.proofs.Wired.{Wired}
use Rattle.model.proofs.Right.{no_exception, Other, Right}
use Rattle.model.proofs.Fine.{Fine, refresh_fine}

module _ (c : Circuit) where
  -- ---- the depth does not change what is shown, so the recursion is opened by these two

  at_source : ℕ → Wires → ℕ → Value
  at_source n w i = elim (source c i) [ none ↦ stored_in c i | some q ↦ afresh_to c n w q ]

  afresh_pure :
      (n : ℕ) (w : Wires) (o : ℕ) → pure (kind_of_gate c (gate_at_output c o)) ≡ true →
      afresh_to c (suc n) w o ≡ gives c w (kind_of_gate c (gate_at_output c o)) (λ p. at_source n w (input c (gate_at_output c o) p))
  unfolding afresh_to at_source
  afresh_pure n w o e = rw (e, afresh_to)

  afresh_other : (n : ℕ) (w : Wires) (o : ℕ) → Other c o → afresh_to c (suc n) w o ≡ shown w o
  unfolding afresh_to
  afresh_other n w o e = rw (e, afresh_to)

  gives_same :
      (w : Wires) (g : ℕ) (a b : ℕ → Value) → ((p : ℕ) → p < length (kind_at (kind_of_gate c g)).ins → a p ≡ b p) →
      gives c w (kind_of_gate c g) a ≡ gives c w (kind_of_gate c g) b
  unfolding gives kinds_opened
  gives_same w g a b h =
      if_same (eqb (kind_of_gate c g) 1) (λ e. rw (at 1 e 0 (omega arith), at 1 e 1 (omega arith), at 1 e 2 (omega arith)))
      λ _. if_same (eqb (kind_of_gate c g) 2) (λ e. at 2 e 0 (omega arith)) λ _. refl
    where
      at : (k : ℕ) → eqb (kind_of_gate c g) k ≡ true → (p : ℕ) → p < length (kind_at k).ins → a p ≡ b p
      at k e p l = h p (rw (eqb-true (kind_of_gate c g) k e) l)

  -- what a gate gives is what it computes
  computed : (w : Wires) (g : ℕ) → compute c w g ≡ gives c w (kind_of_gate c g) (λ p. look c w (input c g p))
  unfolding compute gives
  computed w g = refl

  -- what an input reads is what reading its source gives
  pub input_reads : (w : Wires) (i o : ℕ) → source c i ≡ some o → look c (ready c w i) i ≡ read_output c w o
  unfolding look ready behind read_output
  input_reads w i o e =
      let a : ready c w i ≡ refresh c w (gate_at_output c o) = rw (e, behind) in
      let b : look c (ready c w i) i ≡ shown (ready c w i) o = rw (e, look) in
      b ∙ ap (λ (v : Wires). shown v o) a

  -- ---- what pure gates show does not matter

  -- wires that are alike in the times and in what gates show that are not pure
  pub record OthersAlike (w v : Wires) : Type 0 where
    pub dt : w.dt ≡ v.dt
    pub uptime : w.uptime ≡ v.uptime
    pub others : (o : ℕ) → Other c o → shown w o ≡ shown v o

  pub of_others : (w v : Wires) → OthersAlike w v → (n o : ℕ) → afresh_to c n w o ≡ afresh_to c n v o
  unfolding afresh_to gives at_source
  of_others w v a zero o = refl
  of_others w v a (suc n) o = by_kind (pure (kind_of_gate c (gate_at_output c o))) refl (of_others w v a n)
    where
      by_kind :
          (b : Bool) → pure (kind_of_gate c (gate_at_output c o)) ≡ b → ((q : ℕ) → afresh_to c n w q ≡ afresh_to c n v q) →
          afresh_to c (suc n) w o ≡ afresh_to c (suc n) v o
      by_kind false e rec = afresh_other n w o e ∙ a.others o e ∙ sym (afresh_other n v o e)
      by_kind true e rec =
          afresh_pure n w o e
          ∙ (λ j. gives c w (kind_of_gate c (gate_at_output c o)) (λ p. at_input (input c (gate_at_output c o) p) j))
          ∙ times (kind_of_gate c (gate_at_output c o)) (λ p. at_source n v (input c (gate_at_output c o) p))
          ∙ sym (afresh_pure n v o e)
        where
          at_input : (i : ℕ) → at_source n w i ≡ at_source n v i
          at_input i = go (source c i) refl
            where
              go : (x : Option ℕ) → source c i ≡ x → at_source n w i ≡ at_source n v i
              go none s = rw (s, at_source)
              go (some q) s = rw (s, at_source) (rec q)

          times : (k : ℕ) (at : ℕ → Value) → gives c w k at ≡ gives c v k at
          times k at = rw (a.dt, a.uptime) refl

  module _ (W : Wired c) where
    -- ---- what is shown, where the gate is not stale

    module _ (w : Wires) (f : Fine c no_exception [] w) where
      abbrev ShownTo : ℕ → Type 0
      ShownTo n =
          (o : ℕ) → o < length c.outputs → is_dirty w (gate_at_output c o) ≡ false → W.heights.height (gate_at_output c o) ≤ n → shown w o ≡ afresh_to c (suc n) w o

      -- a pure gate, where its sources are shown so
      of_pure :
          (n o : ℕ) → o < length c.outputs → is_dirty w (gate_at_output c o) ≡ false → pure (kind_of_gate c (gate_at_output c o)) ≡ true →
          ((q : ℕ) → q < length c.outputs → is_dirty w (gate_at_output c q) ≡ false → W.heights.height (gate_at_output c q) < W.heights.height (gate_at_output c o) → shown w q ≡ afresh_to c n w q) →
          shown w o ≡ afresh_to c (suc n) w o
      unfolding look at_source
      of_pure n o l d e rec =
          let y = f.right.gates g e d (among_none g) in
          ap (shown w) (W.one_output o l e) ∙ y.shows (λ i q m s. (among_none q, among_none q)) ∙ computed w g
          ∙ gives_same w g (λ p. look c w (input c g p)) (λ p. at_source n w (input c g p)) (λ p k. at_input (input c g p) (input_among c g p k) y (source c (input c g p)) refl)
          ∙ sym (afresh_pure n w o e)
        where
          g : ℕ
          g = gate_at_output c o

          at_input : (i : ℕ) → among i (inputs_of c g) ≡ true → Right c w [] [] g → (x : Option ℕ) → source c i ≡ x → look c w i ≡ at_source n w i
          at_input i m y none s = rw (s, look, at_source)
          at_input i m y (some q) s =
              rw (s, look, at_source) (rec q (W.source_in i q s) (not_so _ λ t. clash (y.sources i q m s t) (among_none q)) (W.heights.above g i q e m s))

      shown_afresh : (n : ℕ) → ShownTo n
      shown_afresh zero o l d h = by_kind (pure (kind_of_gate c (gate_at_output c o))) refl
        where
          by_kind : (b : Bool) → pure (kind_of_gate c (gate_at_output c o)) ≡ b → shown w o ≡ afresh_to c 1 w o
          by_kind false e = sym (afresh_other 0 w o e)
          by_kind true e = absurd (omega (arith, W.heights.least (gate_at_output c o) e))
      shown_afresh (suc n) o l d h = by_kind (pure (kind_of_gate c (gate_at_output c o))) refl (shown_afresh n)
        where
          by_kind : (b : Bool) → pure (kind_of_gate c (gate_at_output c o)) ≡ b → ShownTo n → shown w o ≡ afresh_to c (suc (suc n)) w o
          by_kind false e rec = sym (afresh_other (suc n) w o e)
          by_kind true e rec = of_pure (suc n) o l d e λ q l d k. rec q l d (omega arith)

    -- ---- refreshing does not change what is worked out afresh

    recompute_afresh : (n : ℕ) (w : Wires) (h o : ℕ) → Due c w h → afresh_to c n (recompute c w h) o ≡ afresh_to c n w o
    unfolding recompute show clean outs≔ dirty≔ shown
    recompute_afresh n w h o d =
        of_others (recompute c w h) w (record {
          dt = refl;
          uptime = refl;
          others = λ q e.
              get_or-set_other w.outs (output c h 0) q (compute c w h) Nothing
              (λ s. clash (ap (λ x. pure (kind_of_gate c x)) (output_own c W.laid h q d.is_pure s) ∙ d.is_pure) e);
        }) n o

    refreshed_afresh : {m : ℕ} {w v : Wires} → Refreshed c W.heights m w v → (n o : ℕ) → afresh_to c n v o ≡ afresh_to c n w o
    refreshed_afresh done n o = refl
    refreshed_afresh (next {w = w} g b d r) n o = refreshed_afresh r n o ∙ recompute_afresh n w g o d

    -- what is read leaves everything as it was worked out afresh
    pub refresh_afresh : (w : Wires) (g o : ℕ) → SizedWires c w → afresh c (refresh c w g) o ≡ afresh c w o
    unfolding afresh refresh
    refresh_afresh w g o z = refreshed_afresh (refresh_to_refreshed c W.heights (length c.kinds) w g z (W.heights.most g)).0 (suc (length c.kinds)) o

    -- ---- the depth suffices, and any more gives the same

    -- of a pure gate, where it is so of its sources
    pure_deeper :
        (n : ℕ) (w : Wires) (o : ℕ) → pure (kind_of_gate c (gate_at_output c o)) ≡ true →
        ((q : ℕ) → W.heights.height (gate_at_output c q) < W.heights.height (gate_at_output c o) → afresh_to c (suc n) w q ≡ afresh_to c n w q) →
        afresh_to c (suc (suc n)) w o ≡ afresh_to c (suc n) w o
    unfolding at_source
    pure_deeper n w o e rec =
        afresh_pure (suc n) w o e
        ∙ gives_same w g (λ p. at_source (suc n) w (input c g p)) (λ p. at_source n w (input c g p)) (λ p k. at_input (input c g p) (input_among c g p k) (source c (input c g p)) refl)
        ∙ sym (afresh_pure n w o e)
      where
        g : ℕ
        g = gate_at_output c o

        at_input : (i : ℕ) → among i (inputs_of c g) ≡ true → (x : Option ℕ) → source c i ≡ x → at_source (suc n) w i ≡ at_source n w i
        at_input i m none s = rw (s, at_source)
        at_input i m (some q) s = rw (s, at_source) (rec q (W.heights.above g i q e m s))

    one_deeper : (n : ℕ) (w : Wires) (o : ℕ) → W.heights.height (gate_at_output c o) ≤ n → afresh_to c (suc (suc n)) w o ≡ afresh_to c (suc n) w o
    one_deeper zero w o l = by_kind (pure (kind_of_gate c (gate_at_output c o))) refl
      where
        by_kind : (b : Bool) → pure (kind_of_gate c (gate_at_output c o)) ≡ b → afresh_to c 2 w o ≡ afresh_to c 1 w o
        by_kind false e = afresh_other 1 w o e ∙ sym (afresh_other 0 w o e)
        by_kind true e = absurd (omega (arith, W.heights.least (gate_at_output c o) e))
    one_deeper (suc n) w o l = by_kind (pure (kind_of_gate c (gate_at_output c o))) refl (one_deeper n w)
      where
        by_kind :
            (b : Bool) → pure (kind_of_gate c (gate_at_output c o)) ≡ b →
            ((q : ℕ) → W.heights.height (gate_at_output c q) ≤ n → afresh_to c (suc (suc n)) w q ≡ afresh_to c (suc n) w q) →
            afresh_to c (suc (suc (suc n))) w o ≡ afresh_to c (suc (suc n)) w o
        by_kind false e rec = afresh_other (suc (suc n)) w o e ∙ sym (afresh_other (suc n) w o e)
        by_kind true e rec = pure_deeper (suc n) w o e λ q k. rec q (omega arith)

    deep_enough : (w : Wires) (o more : ℕ) → afresh_to c (suc (length c.kinds + more)) w o ≡ afresh c w o
    unfolding afresh
    deep_enough w o more =
        steady (λ n. afresh_to c (suc n) w o) (length c.kinds) (λ n l. one_deeper n w o (omega (arith, W.heights.most (gate_at_output c o)))) more

    -- without a depth: of a pure gate what it gives, its sources worked out afresh, and of any other what it shows
    pub afresh_pure_is :
        (w : Wires) (o : ℕ) → pure (kind_of_gate c (gate_at_output c o)) ≡ true →
        afresh c w o ≡ gives c w (kind_of_gate c (gate_at_output c o)) (λ p.
        let i = input c (gate_at_output c o) p in elim (source c i) [ none ↦ stored_in c i | some q ↦ afresh c w q ])
    unfolding afresh at_source
    afresh_pure_is w o e =
        let L = length c.kinds in
        let k : L + 1 ≡ suc L = omega arith in
        sym (deep_enough w o 1) ∙ ap (λ n. afresh_to c (suc n) w o) k ∙ afresh_pure (suc L) w o e

    pub afresh_other_is : (w : Wires) (o : ℕ) → Other c o → afresh c w o ≡ shown w o
    unfolding afresh
    afresh_other_is w o e = afresh_other (length c.kinds) w o e

    -- ---- reading

    pub fine_fresh : (w : Wires) → Fine c no_exception [] w → Fresh c w
    unfolding read_output afresh refresh value_output
    fine_fresh w f o v =
        let L = length c.kinds in
        let g = gate_at_output c o in
        let l : o < length c.outputs = ltb-true o _ (both_true (ltb o (length c.outputs)) _ v).0 in
        let s = refresh_to_refreshed c W.heights L w g f.sized (W.heights.most g) in
        let y = refresh_fine c W no_exception [] w g f in
        let e : shown (refresh c w g) o ≡ afresh_to c (suc L) w o =
        shown_afresh (refresh c w g) y L o l (not_so _ s.1) (W.heights.most g) ∙ refreshed_afresh s.0 (suc L) o in
        record { exact = e; equal = subst (λ u. same (shown (refresh c w g) o) u ≡ true) e (y.real o) }
