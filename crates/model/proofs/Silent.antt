-- Some gates have nothing more to tell: every pure gate that reads one of them is one of them, and every watched input that reads one of them waits already.
-- Marking goes the same way whether or not these gates are stale besides.
use mathlib.Core.Path.{◌≡◌, refl, sym, ap, subst, ◌∙◌}
use mathlib.Core.Bool.{Bool, true, false, not, ◌||◌, or-true, or-false, or_assoc}
use mathlib.Core.List.{List, [], ◌∷◌}
use Prim.Native.Nat.{ℕ, zero, suc, ◌+◌, ◌≤◌}
use native.Mathlib.Omega.{arith}
use lib.Dec.{leb, eqb}
use lib.ListN.{length, get_or, set}
use lib.Seq.{get_or-set_other}
use borrow.Author.Tests.{eqb-true, eqb-false}
use Rattle.model.specs.Base.{if◌then◌otherwise◌, each, snoc, among}
use Rattle.model.specs.Kinds.{pure}
use Rattle.model.specs.Circuit.{Circuit, most_inputs, kind_of_gate, output, gate_at_input, readers_of, watching}
use Rattle.model.specs.State.{Wires, dirty≔, to_check≔, late_checks≔}
use Rattle.model.specs.Wires.{is_clean, soil, watch, watch_for, Marking, mark_reader, mark_on, mark_readers_for, mark_readers}
use Rattle.model.proofs.Lists.{if_both, if_by, if_alike, each_keeps_all, among_all, count_most, clash, marked_here}
use Rattle.model.proofs.Sized.{SizedWires, watch_for_keeps, mark_readers_keeps}
use Rattle.model.proofs.Marking.{fresh, to_do, readers_to_do}

-- ---- marks

-- one mark more
marked : (bs : List Bool) (i j : ℕ) → get_or (set bs i true) j true ≡ (eqb j i || get_or bs j true)
marked bs i j = go (eqb j i) refl
  where
    go : (b : Bool) → eqb j i ≡ b → get_or (set bs i true) j true ≡ (b || get_or bs j true)
    go true e = rw (eqb-true j i e) (marked_here bs i)
    go false e = get_or-set_other bs i j true true (eqb-false j i e)

-- what a test implies already
implied : (a b d : Bool) → (a ≡ true → d ≡ true) → (b || d) ≡ (a || b || d)
implied true b d k = rw (k refl) (or-true b)
implied false b d k = refl

module _ (c : Circuit) (D : ℕ → Bool) where
  -- the gates of D tell nothing more
  pub record Silent (w : Wires) : Type 0 where
    -- a pure gate that reads one of them is one of them
    pub gates :
        (g i : ℕ) → D g ≡ true → among i (readers_of c (output c g 0)) ≡ true → pure (kind_of_gate c (gate_at_input c i)) ≡ true →
        D (gate_at_input c i) ≡ true
    -- a watched input that reads one of them waits
    pub inputs :
        (g i : ℕ) → D g ≡ true → among i (readers_of c (output c g 0)) ≡ true → pure (kind_of_gate c (gate_at_input c i)) ≡ false →
        watching c i ≡ true → get_or w.queued i true ≡ true

  -- v has the gates of D stale besides those that are so in w, and the same inputs wait
  pub record Besides (w v : Wires) : Type 0 where
    pub stale : (g : ℕ) → get_or v.dirty g true ≡ (get_or w.dirty g true || D g)
    pub to_check : v.to_check ≡ w.to_check
    pub queued : v.queued ≡ w.queued

  -- ---- a gate becomes stale, an input waits

  pub soil_silent : (w : Wires) (g : ℕ) → Silent w → Silent (soil w g)
  unfolding soil dirty≔
  soil_silent w g s = record { gates = s.gates; inputs = s.inputs }

  watch_silent : (w : Wires) (i : ℕ) → Silent w → Silent (watch w i)
  unfolding watch to_check≔
  watch_silent w i s =
      if_both Silent _ s
      (record { gates = s.gates; inputs = λ g j d r p t. marked w.queued i j ∙ ap (λ (b : Bool). eqb j i || b) (s.inputs g j d r p t) ∙ or-true (eqb j i) })

  late_silent : (w : Wires) (i : ℕ) → Silent w → Silent (late_checks≔ w (set w.late_checks i true))
  unfolding late_checks≔
  late_silent w i s = record { gates = s.gates; inputs = s.inputs }

  watch_for_silent : (late : Bool) (w : Wires) (i : ℕ) → Silent w → Silent (watch_for late w i)
  watch_for_silent late w i s = watch_for_keeps Silent late w i (λ v. watch_silent v i) (λ _. late_silent w i s) s

  pub soil_besides : (w v : Wires) (g : ℕ) → Besides w v → Besides (soil w g) (soil v g)
  unfolding soil dirty≔
  soil_besides w v g b =
      record {
        stale = λ h. rw (marked v.dirty g h, marked w.dirty g h, b.stale h) (sym (or_assoc (eqb h g) (get_or w.dirty h true) (D h)));
        to_check = b.to_check;
        queued = b.queued;
      }

  -- one of D, in w alone
  soil_known : (w v : Wires) (g : ℕ) → D g ≡ true → Besides w v → Besides (soil w g) v
  unfolding soil dirty≔
  soil_known w v g d b =
      record {
        stale = λ h. b.stale h ∙ rw (marked w.dirty g h) (implied (eqb h g) (get_or w.dirty h true) (D h) λ e. ap D (eqb-true h g e) ∙ d);
        to_check = b.to_check;
        queued = b.queued;
      }

  watch_besides : (w v : Wires) (i : ℕ) → Besides w v → Besides (watch w i) (watch v i)
  unfolding watch to_check≔
  watch_besides w v i b =
      if_alike Besides _ _ (λ j. get_or (sym b.queued j) i true || leb most_inputs (length (sym b.to_check j))) (λ _. b)
      λ _. record { stale = b.stale; to_check = ap (λ (is : List ℕ). snoc is i) b.to_check; queued = ap (λ (bs : List Bool). set bs i true) b.queued }

  -- which inputs are marked for a late check is left open
  late_first : (late : Bool) (w v : Wires) (i : ℕ) → Besides w v → Besides (if late then late_checks≔ w (set w.late_checks i true) otherwise w) v
  unfolding late_checks≔
  late_first late w v i b = if_both (λ (u : Wires). Besides u v) late (record { stale = b.stale; to_check = b.to_check; queued = b.queued }) b

  late_second : (late : Bool) (w v : Wires) (i : ℕ) → Besides w v → Besides w (if late then late_checks≔ v (set v.late_checks i true) otherwise v)
  unfolding late_checks≔
  late_second late w v i b = if_both (Besides w) late (record { stale = b.stale; to_check = b.to_check; queued = b.queued }) b

  watch_for_besides : (a b : Bool) (w v : Wires) (i : ℕ) → Besides w v → Besides (watch_for a w i) (watch_for b v i)
  unfolding watch_for
  watch_for_besides a b w v i k = watch_besides _ _ i (late_second b _ v i (late_first a w v i k))

  -- an input that waits is not queued again
  waits_already : (w : Wires) (i : ℕ) → get_or w.queued i true ≡ true → watch w i ≡ w
  unfolding watch if◌then◌otherwise◌
  waits_already w i e = rw e refl

  -- ---- marking without and with them

  -- the outputs still to be marked without and with them: without, some of gates of D are among them that the other has not
  data Extra : List ℕ → List ℕ → Type 0 where
    none : Extra [] []
    both : {o : ℕ} {work fewer : List ℕ} → Extra work fewer → Extra (o ∷ work) (o ∷ fewer)
    only : {g : ℕ} {work fewer : List ℕ} → D g ≡ true → Extra work fewer → Extra (output c g 0 ∷ work) fewer

  -- what marking keeps
  record Beside (m n : Marking) : Type 0 where
    silent : Silent m.wires
    wires : Besides m.wires n.wires
    work : Extra m.work n.work

  -- a gate that is not of D, and one that is
  clean_beside : (w v : Wires) (g : ℕ) → D g ≡ false → Besides w v → is_clean w g ≡ is_clean v g
  unfolding is_clean
  clean_beside w v g d b = rw (b.stale g, d, or-false)

  known_stale : (w v : Wires) (g : ℕ) → D g ≡ true → Besides w v → is_clean v g ≡ false
  unfolding is_clean
  known_stale w v g d b = rw (b.stale g, d, or-true)

  -- a pure gate that is reached
  abbrev found : Marking → ℕ → Marking
  found m g = if is_clean m.wires g then record { wires = soil m.wires g; work = output c g 0 ∷ m.work; late = m.late } otherwise m

  -- one of D, by the first alone
  found_known : (m n : Marking) (g : ℕ) → D g ≡ true → Beside m n → Beside (found m g) n
  found_known m n g d k =
      if_both (λ (r : Marking). Beside r n) _
      (record { silent = soil_silent m.wires g k.silent; wires = soil_known m.wires n.wires g d k.wires; work = only d k.work }) k

  found_both : (m n : Marking) (g : ℕ) → Beside m n → Beside (found m g) (found n g)
  found_both m n g k = go (D g) refl
    where
      go : (d : Bool) → D g ≡ d → Beside (found m g) (found n g)
      go true d = if_by (Beside (found m g)) _ (λ e. clash e (known_stale m.wires n.wires g d k.wires)) λ _. found_known m n g d k
      go false d =
          if_alike Beside _ _ (clean_beside m.wires n.wires g d k.wires)
          (λ _. record { silent = soil_silent m.wires g k.silent; wires = soil_besides m.wires n.wires g k.wires; work = both k.work }) λ _. k

  -- a reader of an output that both are at
  reader_both : (m n : Marking) (i : ℕ) → Beside m n → Beside (mark_reader c m i) (mark_reader c n i)
  unfolding mark_reader
  reader_both m n i k =
      if_alike Beside (pure (kind_of_gate c (gate_at_input c i))) _ refl (λ _. found_both m n (gate_at_input c i) k)
      λ _. if_alike Beside (watching c i) _ refl
      (λ _. record { silent = watch_for_silent m.late m.wires i k.silent; wires = watch_for_besides m.late n.late m.wires n.wires i k.wires; work = k.work }) λ _. k

  readers_both : (m n : Marking) (is : List ℕ) → Beside m n → Beside (each (mark_reader c) m is) (each (mark_reader c) n is)
  unfolding each
  readers_both m n [] k = k
  readers_both m n (i ∷ is) k = readers_both (mark_reader c m i) (mark_reader c n i) is (reader_both m n i k)

  -- readers of an output of a gate of D, which the first alone is at
  reader_only :
      (n : Marking) (g : ℕ) → D g ≡ true → (m : Marking) (i : ℕ) → among i (readers_of c (output c g 0)) ≡ true → Beside m n → Beside (mark_reader c m i) n
  unfolding mark_reader watch_for
  reader_only n g d m i r k =
      if_by Is (pure (kind_of_gate c (gate_at_input c i))) (λ p. found_known m n (gate_at_input c i) (k.silent.gates g i d r p) k)
      λ p. if_by Is (watching c i)
      (λ t.
      let s = if_both Silent m.late (late_silent m.wires i k.silent) k.silent in
      let w = if m.late then late_checks≔ m.wires (set m.wires.late_checks i true) otherwise m.wires in
      subst (λ u. Is (record { wires = u; work = m.work; late = m.late })) (sym (waits_already w i (s.inputs g i d r p t)))
      (record { silent = s; wires = late_first m.late m.wires n.wires i k.wires; work = k.work })) λ _. k
    where
      Is : Marking → Type 0
      Is r = Beside r n

  readers_only : (m n : Marking) (g : ℕ) → D g ≡ true → Beside m n → Beside (each (mark_reader c) m (readers_of c (output c g 0))) n
  readers_only m n g d k =
      let is = readers_of c (output c g 0) in
      each_keeps_all (λ r. Beside r n) (λ i. among i is) (mark_reader c) (reader_only n g d) m is (among_all (λ i. among i is) is λ i e. e) k

  -- ---- to the end

  nothing_left : (n : ℕ) (w : Wires) (late : Bool) → mark_on c n (record { wires = w; work = []; late = late }) ≡ w
  unfolding mark_on
  nothing_left zero w late = refl
  nothing_left (suc n) w late = refl

  -- each with rounds enough for what it has to do
  mark_on_besides :
      (n k : ℕ) (w v : Wires) (work fewer : List ℕ) (x y : Bool) → Silent w → Besides w v → Extra work fewer → fresh w + length work ≤ n → fresh v + length fewer ≤ k →
      Besides (mark_on c n (record { wires = w; work = work; late = x })) (mark_on c k (record { wires = v; work = fewer; late = y }))
  unfolding mark_on to_do
  mark_on_besides zero k w v _ _ x y s b none l h = rw (nothing_left k v y) b
  mark_on_besides zero k w v _ _ x y s b (both e) l h = absurd (omega arith)
  mark_on_besides zero k w v _ _ x y s b (only d e) l h = absurd (omega arith)
  mark_on_besides (suc n) k w v _ _ x y s b none l h = rw (nothing_left k v y) b
  mark_on_besides (suc n) zero w v _ _ x y s b (both e) l h = absurd (omega arith)
  mark_on_besides (suc n) (suc k) w v _ _ x y s b (both {o = o} {work = work} {fewer = fewer} e) l h =
      let r = readers_both (record { wires = w; work = work; late = x }) (record { wires = v; work = fewer; late = y }) (readers_of c o) (record { silent = s; wires = b; work = e }) in
      mark_on_besides n k _ _ _ _ _ _ r.silent r.wires r.work (omega (arith, readers_to_do c (record { wires = w; work = work; late = x }) (readers_of c o)))
      (omega (arith, readers_to_do c (record { wires = v; work = fewer; late = y }) (readers_of c o)))
  mark_on_besides (suc n) k w v _ fewer x y s b (only {g = g} {work = work} d e) l h =
      let r = readers_only (record { wires = w; work = work; late = x }) (record { wires = v; work = fewer; late = y }) g d (record { silent = s; wires = b; work = e }) in
      mark_on_besides n k _ v _ fewer _ y r.silent r.wires r.work (omega (arith, readers_to_do c (record { wires = w; work = work; late = x }) (readers_of c (output c g 0)))) h

  pub mark_readers_besides :
      (w v : Wires) (o : ℕ) → SizedWires c w → SizedWires c v → Silent w → Besides w v → Besides (mark_readers c w o) (mark_readers c v o)
  unfolding mark_readers mark_readers_for fresh
  mark_readers_besides w v o z y s b =
      mark_on_besides _ _ w v (o ∷ []) (o ∷ []) false false s b (both none) (omega (arith, count_most (λ _ b. not b) 0 w.dirty, z.dirty))
      (omega (arith, count_most (λ _ b. not b) 0 v.dirty, y.dirty))

  pub mark_readers_silent : (w : Wires) (o : ℕ) → Silent w → Silent (mark_readers c w o)
  mark_readers_silent = mark_readers_keeps c Silent (λ w g p s. soil_silent w g s) (λ w i q s. watch_silent w i s)
