-- The source keeps a list of the gates marked since the last settling, in the order of marking, in which a gate may stand twice; settling refreshes, in that
-- order, those of them that are stale. The definition has no such list: `refresh_all` refreshes every gate, ascending. Both give the same wires: `stale_is_dirty`
-- says so of any list that has all stale gates, in any order, with repeats, and with gates among them that are not stale.
--
-- Refreshing is a row of steps, each of which recomputes a stale gate none of whose own sources is stale. A step makes no gate stale, and two steps may change
-- places. So every row of steps that leaves no gate stale ends in the same wires.
use mathlib.Core.Path.{◌≡◌, refl, sym, ap, subst, ◌∙◌}
use mathlib.Core.Logic.{◌≢◌}
use mathlib.Core.Bool.{Bool, true, false, ◌||◌, true≢false, or-true}
use mathlib.Core.List.{List, [], ◌∷◌}
use mathlib.Core.Option.{Option, none, some}
use Prim.Native.Nat.{ℕ, zero, suc, ◌+◌, ◌≤◌, ◌<◌}
use native.Mathlib.Nat.{zero-add}
use native.Mathlib.Omega.{arith}
use lib.Dec.{eqb}
use lib.ListN.{length, get_or, set}
use lib.Seq.{get_or-set_other, set_comm}
use borrow.Author.Tests.{eqb-true, eqb-false, eq-eqb}
use Rattle.model.specs.declared.Value.TheVariants.{Nothing}
use Rattle.model.specs.Base.{if◌then◌otherwise◌, each, among}
use Rattle.model.specs.Kinds.{kind_at, pure, kinds_opened}
use Rattle.model.specs.Circuit.{Circuit, kind_of_gate, input, output, inputs_of, source, gate_at_output, gates}
use Rattle.model.specs.State.{Wires, outs≔, dirty≔}
use Rattle.model.specs.Wires.{shown, show, is_dirty, clean, look, compute, recompute, behind, refresh_to, refresh, refresh_all}
use Rattle.model.specs.Questions.{question_6}
use Rattle.model.proofs.Lists.{among_from, in_range, not_so}
use Rattle.model.proofs.Laid.{Laid}
use Rattle.model.proofs.Checks.{pure_kind}
use Rattle.model.proofs.Sized.{SizedWires, recompute_sized, refresh_all_sized}
use Rattle.model.proofs.Placing.{Heights, heights}

-- ---- choices and lists

pub if_same : {A : Type 0} (b : Bool) {x y x' y' : A} → (b ≡ true → x ≡ x') → (b ≡ false → y ≡ y') → (if b then x otherwise y) ≡ (if b then x' otherwise y')
unfolding if◌then◌otherwise◌
if_same true p q = p refl
if_same false p q = q refl

-- what is marked when a mark is taken away
marked_still : (bs : List Bool) (i j : ℕ) → get_or (set bs i false) j false ≡ true → (j ≢ i) × (get_or bs j false ≡ true)
marked_still [] i j e = absurd (true≢false (sym e))
marked_still (b ∷ bs) zero zero e = absurd (true≢false (sym e))
marked_still (b ∷ bs) zero (suc j) e = (λ q. omega arith, e)
marked_still (b ∷ bs) (suc i) zero e = (λ q. omega arith, e)
marked_still (b ∷ bs) (suc i) (suc j) e = let r = marked_still bs i j e in (λ q. r.0 (omega arith), r.1)

-- ---- a step

abbrev Fresh : Wires → ℕ → Type 0
Fresh w g = is_dirty w g ≢ true

module _ (c : Circuit) where
  -- a stale gate none of whose sources is stale
  pub record Due (w : Wires) (g : ℕ) : Type 0 where
    pub is_pure : pure (kind_of_gate c g) ≡ true
    pub stale : is_dirty w g ≡ true
    pub sources : (i o : ℕ) → among i (inputs_of c g) ≡ true → source c i ≡ some o → Fresh w (gate_at_output c o)

  -- recomputed, it is no longer stale, and no other gate becomes so
  pub stale_still : (w : Wires) (g h : ℕ) → is_dirty (recompute c w g) h ≡ true → (h ≢ g) × (is_dirty w h ≡ true)
  unfolding recompute show clean outs≔ dirty≔ is_dirty
  stale_still w g h e = marked_still w.dirty g h e

  pub other_stale : (w : Wires) (g h : ℕ) → h ≢ g → is_dirty w h ≡ true → is_dirty (recompute c w g) h ≡ true
  unfolding recompute show clean outs≔ dirty≔ is_dirty
  other_stale w g h n e = get_or-set_other w.dirty g h false false n ∙ e

  other_due : (w : Wires) (g h : ℕ) → h ≢ g → Due w h → Due (recompute c w g) h
  other_due w g h n d =
      record {
        is_pure = d.is_pure;
        stale = other_stale w g h n d.stale;
        sources = λ i o m e s. d.sources i o m e (stale_still w g (gate_at_output c o) s).1;
      }

  -- ---- two steps change places

  pub input_among : (g p : ℕ) → p < length (kind_at (kind_of_gate c g)).ins → among (input c g p) (inputs_of c g) ≡ true
  unfolding input inputs_of
  input_among g p l =
      let e : get_or c.first_input g 0 + p ≡ get_or c.first_input g 0 + 0 + p = omega arith in
      rw e (among_from (get_or c.first_input g 0 + 0) (length (kind_at (kind_of_gate c g)).ins) p l)

  -- what a gate gives depends on what stands at its inputs, and on the times
  pub compute_same :
      (v w : Wires) (g : ℕ) → v.dt ≡ w.dt → v.uptime ≡ w.uptime → ((i : ℕ) → among i (inputs_of c g) ≡ true → look c v i ≡ look c w i) →
      compute c v g ≡ compute c w g
  unfolding compute kinds_opened
  compute_same v w g d u same =
      if_same (eqb (kind_of_gate c g) 1) (λ e. rw (at 1 e 0 (omega arith), at 1 e 1 (omega arith), at 1 e 2 (omega arith)))
      λ _. if_same (eqb (kind_of_gate c g) 2) (λ e. at 2 e 0 (omega arith)) λ _. rw (d, u)
    where
      at : (k : ℕ) → eqb (kind_of_gate c g) k ≡ true → (p : ℕ) → p < length (kind_at k).ins → look c v (input c g p) ≡ look c w (input c g p)
      at k e p l = same (input c g p) (input_among g p (rw (eqb-true (kind_of_gate c g) k e) l))

  module _ (laid : Laid c) where
    pub output_own : (g o : ℕ) → pure (kind_of_gate c g) ≡ true → o ≡ output c g 0 → gate_at_output c o ≡ g
    output_own g o p e = ap (gate_at_output c) e ∙ laid.output_of g 0 (pure_kind (kind_of_gate c g) p).0

    other_compute : (w : Wires) (g h : ℕ) → Due w g → Due w h → compute c (recompute c w g) h ≡ compute c w h
    unfolding recompute show clean outs≔ dirty≔ look shown
    other_compute w g h d k = compute_same (recompute c w g) w h refl refl λ i m. go i m (source c i) refl
      where
        go : (i : ℕ) → among i (inputs_of c h) ≡ true → (x : Option ℕ) → source c i ≡ x → look c (recompute c w g) i ≡ look c w i
        go i m none e = rw (e, look)
        go i m (some o) e =
            rw (e, look) (get_or-set_other w.outs (output c g 0) o (compute c w g) Nothing λ q.
            k.sources i o m e (ap (is_dirty w) (output_own g o d.is_pure q) ∙ d.stale))

    swapped : (w : Wires) (g h : ℕ) → g ≢ h → Due w g → Due w h → recompute c (recompute c w g) h ≡ recompute c (recompute c w h) g
    unfolding recompute show clean outs≔ dirty≔
    swapped w g h n d k =
        let a = output c g 0 in
        let b = output c h 0 in
        let apart : a ≢ b = λ q. n (sym (output_own g a d.is_pure refl) ∙ output_own h a k.is_pure q) in
        let outs : set (set w.outs a (compute c w g)) b (compute c (recompute c w g) h) ≡ set (set w.outs b (compute c w h)) a (compute c (recompute c w h) g) =
        rw (other_compute w g h d k, other_compute w h g k d) (set_comm w.outs a b (compute c w g) (compute c w h) apart) in
        let dirty = set_comm w.dirty g h false false n in
        λ j. dirty≔ (outs≔ w (outs j)) (dirty j)

  pub stale_among : (w : Wires) → SizedWires c w → (g : ℕ) → is_dirty w g ≡ true → among g (gates c) ≡ true
  unfolding is_dirty gates
  stale_among w z g e = rw zero-add at (among_from 0 (length c.kinds) g (omega (arith, in_range false w.dirty g e, z.dirty)))

  module _ (order : Heights c) where
    -- ---- a row of steps, at gates lower than m

    pub data Refreshed (m : ℕ) : Wires → Wires → Type 0 where
      done : {w : Wires} → Refreshed m w w
      next : {w v : Wires} (g : ℕ) → order.height g < m → Due w g → Refreshed m (recompute c w g) v → Refreshed m w v

    and_on : {m n : ℕ} {w v u : Wires} → m ≤ n → Refreshed m w v → Refreshed n v u → Refreshed n w u
    and_on l done s = s
    and_on l (next g b d r) s = next g (omega arith) d (and_on l r s)

    refreshed_sized : {m : ℕ} {w v : Wires} → Refreshed m w v → SizedWires c w → SizedWires c v
    refreshed_sized done z = z
    refreshed_sized (next {w = w} g b d r) z = refreshed_sized r (recompute_sized c w g z)

    pub was_stale : {m : ℕ} {w v : Wires} → Refreshed m w v → (g : ℕ) → is_dirty v g ≡ true → is_dirty w g ≡ true
    was_stale done g e = e
    was_stale (next {w = w} h b d r) g e = (stale_still w h g (was_stale r g e)).1

    high_stale : {m : ℕ} {w v : Wires} → Refreshed m w v → (g : ℕ) → m ≤ order.height g → is_dirty w g ≡ true → is_dirty v g ≡ true
    high_stale done g l e = e
    high_stale (next {w = w} h b d r) g l e = high_stale r g l (other_stale w h g (λ q. omega (arith, ap order.height q)) e)

    module _ (laid : Laid c) where
      -- whichever step is taken first, others lead on to the end
      any_first : {m : ℕ} {w v : Wires} → Refreshed m w v → ((g : ℕ) → Fresh v g) → (g : ℕ) → Due w g → Refreshed m (recompute c w g) v
      any_first done k g d = absurd (k g d.stale)
      any_first {m = m} {w = w} {v = v} (next h b e r) k g d = go (eqb g h) refl (λ f. any_first r k g f)
        where
          go : (x : Bool) → eqb g h ≡ x → (Due (recompute c w h) g → Refreshed m (recompute c (recompute c w h) g) v) → Refreshed m (recompute c w g) v
          go true q rec = subst (λ (i : ℕ). Refreshed m (recompute c w i) v) (sym (eqb-true g h q)) r
          go false q rec =
              let n : g ≢ h = eqb-false g h q in
              next h b (other_due w g h (λ p. n (sym p)) e)
              (subst (λ (u : Wires). Refreshed m u v) (sym (swapped laid w g h n d e)) (rec (other_due w h g n d)))

      one_end : {m : ℕ} {w v u : Wires} → Refreshed m w v → Refreshed m w u → ((g : ℕ) → Fresh v g) → ((g : ℕ) → Fresh u g) → v ≡ u
      one_end done done k l = refl
      one_end done (next g b d s) k l = absurd (k g d.stale)
      one_end (next g b d r) s k l = one_end r (any_first s l g d) k l

    -- ---- refreshing is a row of steps

    -- what each member brings about, and steps keep, holds for all members at the end
    each_refreshed :
        (m : ℕ) (P : Wires → ℕ → Type 0) → ((w v : Wires) (i : ℕ) → Refreshed m w v → P w i → P v i) → (f : Wires → ℕ → Wires) (xs : List ℕ) →
        ((w : Wires) (i : ℕ) → among i xs ≡ true → SizedWires c w → Refreshed m w (f w i) × P (f w i) i) →
        (w : Wires) → SizedWires c w → Refreshed m w (each f w xs) × ((i : ℕ) → among i xs ≡ true → P (each f w xs) i)
    unfolding each among
    each_refreshed m P kept f [] k w z = (done, λ i e. absurd (true≢false (sym e)))
    each_refreshed m P kept f (x ∷ xs) k w z =
        let a = k w x (rw (eq-eqb x x refl)) z in
        let r = each_refreshed m P kept f xs (λ v i e. k v i (rw (e, or-true))) (f w x) (refreshed_sized a.0 z) in
        (and_on (omega arith) a.0 r.0, λ i e. go i a.1 r.0 r.1 (eqb i x) refl e)
      where
        go :
            (i : ℕ) → P (f w x) x → Refreshed m (f w x) (each f (f w x) xs) → ((j : ℕ) → among j xs ≡ true → P (each f (f w x) xs) j) →
            (b : Bool) → eqb i x ≡ b → (b || among i xs) ≡ true → P (each f (f w x) xs) i
        go i p r k true q e = kept _ _ i r (subst (P (f w x)) (sym (eqb-true i x q)) p)
        go i p r k false q e = k i e

    -- the gate that an input reads is not stale
    abbrev FreshBehind : Wires → ℕ → Type 0
    FreshBehind w i = (o : ℕ) → source c i ≡ some o → Fresh w (gate_at_output c o)

    behind_refreshed :
        (m : ℕ) (f : Wires → ℕ → Wires) (w : Wires) (i : ℕ) →
        ((o : ℕ) → source c i ≡ some o → Refreshed m w (f w (gate_at_output c o)) × Fresh (f w (gate_at_output c o)) (gate_at_output c o)) →
        Refreshed m w (behind c f w i) × FreshBehind (behind c f w i) i
    unfolding behind
    behind_refreshed m f w i k = go (source c i) refl
      where
        go : (x : Option ℕ) → source c i ≡ x → Refreshed m w (behind c f w i) × FreshBehind (behind c f w i) i
        go none e = rw (e, behind) (done, λ o q. let t : true ≡ false = cc in absurd (true≢false t))
        go (some o) e =
            let r = k o e in
            rw (e, behind) (r.0, λ p q. let t : o ≡ p = cc in subst (λ (j : ℕ). Fresh (f w (gate_at_output c o)) (gate_at_output c j)) t r.1)

    pub refresh_to_refreshed :
        (n : ℕ) (w : Wires) (g : ℕ) → SizedWires c w → order.height g ≤ n →
        Refreshed (suc (order.height g)) w (refresh_to c n w g) × Fresh (refresh_to c n w g) g
    unfolding refresh_to
    refresh_to_refreshed zero w g z l = (done, λ e. omega (arith, order.least g (z.stale g e)))
    refresh_to_refreshed (suc n) w g z l = go (is_dirty w g) refl (λ v h. refresh_to_refreshed n v h)
      where
        deeper : Wires → ℕ → Wires
        deeper v h = refresh_to c n v h

        go :
            (b : Bool) → is_dirty w g ≡ b →
            ((v : Wires) (h : ℕ) → SizedWires c v → order.height h ≤ n → Refreshed (suc (order.height h)) v (deeper v h) × Fresh (deeper v h) h) →
            Refreshed (suc (order.height g)) w (refresh_to c (suc n) w g) × Fresh (refresh_to c (suc n) w g) g
        go false e rec = rw (e, refresh_to) (done, λ q. true≢false (sym q ∙ e))
        go true e rec =
            let p = z.stale g e in
            let r = each_refreshed (order.height g) FreshBehind (λ v u i s k o q t. k o q (was_stale s (gate_at_output c o) t)) (behind c deeper) (inputs_of c g)
            (λ v i m y. behind_refreshed (order.height g) deeper v i λ o q.
            let b = order.above g i o p m q in
            let s = rec v (gate_at_output c o) y (omega arith) in
            (and_on b s.0 done, s.1))
            w z in
            let d : Due (each (behind c deeper) w (inputs_of c g)) g =
            record { is_pure = p; stale = high_stale r.0 g (omega arith) e; sources = λ i o m q. r.1 i m o q } in
            rw (e, refresh_to) (and_on (omega arith) r.0 (next g (omega arith) d done), λ q. (stale_still _ g g q).0 refl)

    -- along a list that has all stale gates, until none is stale
    along :
        (w : Wires) → SizedWires c w → (l : List ℕ) → ((g : ℕ) → is_dirty w g ≡ true → among g l ≡ true) →
        Refreshed (suc (length c.kinds)) w (each (refresh c) w l) × ((g : ℕ) → Fresh (each (refresh c) w l) g)
    unfolding refresh
    along w z l k =
        let r = each_refreshed (suc (length c.kinds)) Fresh (λ v u g s f e. f (was_stale s g e)) (refresh c) l one w z in
        (r.0, λ g e. r.1 g (k g (was_stale r.0 g e)) e)
      where
        one : (v : Wires) (g : ℕ) → among g l ≡ true → SizedWires c v → Refreshed (suc (length c.kinds)) v (refresh c v g) × Fresh (refresh c v g) g
        one v g m y =
            let r = refresh_to_refreshed (length c.kinds) v g y (order.most g) in
            (and_on (omega (arith, order.most g)) r.0 done, r.1)

    -- refreshing all is a row of steps, after which no gate is stale
    pub all_refreshed : (w : Wires) → SizedWires c w → Refreshed (suc (length c.kinds)) w (refresh_all c w)
    unfolding refresh_all
    all_refreshed w z = (along w z (gates c) (stale_among w z)).0

    pub all_clean : (w : Wires) → SizedWires c w → (g : ℕ) → is_dirty (refresh_all c w) g ≡ false
    unfolding refresh_all
    all_clean w z g = not_so _ ((along w z (gates c) (stale_among w z)).1 g)

    -- any list that has all stale gates does as well
    pub any_order :
        Laid c → (w : Wires) → SizedWires c w → (l : List ℕ) → ((g : ℕ) → is_dirty w g ≡ true → among g l ≡ true) → each (refresh c) w l ≡ refresh_all c w
    unfolding refresh_all
    any_order laid w z l k =
        let a = along w z l k in
        let b = along w z (gates c) (stale_among w z) in
        one_end laid a.0 b.0 a.1 b.1

  -- ---- of a circuit that question 6 does not refuse

  pub none_dirty : question_6 c ≡ true → (w : Wires) → SizedWires c w → (g : ℕ) → is_dirty (refresh_all c w) g ≡ false
  none_dirty q = all_clean (heights c q)

-- any list that has all stale gates
pub stale_is_dirty :
    (c : Circuit) → Laid c → question_6 c ≡ true → (w : Wires) → SizedWires c w → (l : List ℕ) → ((g : ℕ) → is_dirty w g ≡ true → among g l ≡ true) →
    each (refresh c) w l ≡ refresh_all c w
stale_is_dirty c laid q = any_order c (heights c q) laid

-- so refreshing all again changes nothing
pub refresh_all_again :
    (c : Circuit) → Laid c → question_6 c ≡ true → (w : Wires) → SizedWires c w → refresh_all c (refresh_all c w) ≡ refresh_all c w
unfolding each
refresh_all_again c laid q w z =
    sym (stale_is_dirty c laid q (refresh_all c w) (refresh_all_sized c w z) [] λ g e. absurd (true≢false (sym e ∙ none_dirty c q w z g)))
