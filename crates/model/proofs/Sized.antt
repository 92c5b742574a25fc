-- What holds of every state: its lists have the circuit's lengths, only pure gates are stale, no more inputs wait than are marked, and only watched
-- ones, each Var written and each event's gate is listed once. Here for the wires.
use mathlib.Core.Path.{◌≡◌, refl, sym, ap, ◌∙◌, subst}
use mathlib.Core.Bool.{Bool, true, false, ◌||◌, true≢false}
use mathlib.Core.List.{List, [], ◌∷◌, map}
use mathlib.Core.Option.{Option, none, some}
use Prim.Native.Nat.{ℕ, zero, suc, ◌≤◌}
use native.Mathlib.Omega.{arith}
use lib.Dec.{leb, ltb}
use lib.ListN.{length, get_or, set, length-set}
use lib.Seq.{set_out as set_past}
use borrow.Author.Tests.{ltb-true, ltb-false}
use Rattle.schedule.specs.Promise.{All, [·], ◌∷·◌}
use Rattle.schedule.proofs.Members.{all_append}
use Rattle.model.specs.declared.Value.{Value}
use Rattle.model.specs.Base.{each, snoc}
use Rattle.model.specs.Value.{bit}
use Rattle.model.specs.Kinds.{pure}
use Rattle.model.specs.Circuit.{Circuit, most_inputs, kind_of_gate, inputs_of, gate_at_input, source, gate_at_output, readers_of, watching, gates}
use Rattle.model.specs.State.{Wires, Send, State, outs≔, dirty≔, to_check≔, late_checks≔}
use Rattle.model.specs.Wires.{show, is_dirty, soil, clean, watch, watch_for, Marking, behind, recompute, refresh_to, refresh, refresh_all, ready, mark_reader, mark_on, mark_readers_for, mark_readers, set_out, set_outs}
use Rattle.model.specs.Exec.{var}
use Rattle.model.specs.Settle.{taken}
use Rattle.model.proofs.Once.{Once}
use Rattle.model.proofs.Lists.{if_both, if_by, each_keeps, bit_most, count, count_set, in_range, set_marked, snoc_length, either_false, all_rest}

-- the marks of a list
unfoldable pub marks : List Bool → ℕ
marks bs = count (λ _ b. b) 0 bs

-- what is remembered of the wires
pub record SizedMemory (c : Circuit) (ls : List (Option Value)) (ps vs : List ℕ) (os us : List Bool) : Type 0 where
  pub last : length ls ≡ length c.pins
  pub pulses : length ps ≡ length c.outputs
  -- the Vars written, each once, are some that settings name
  pub written : Once (map (var c) (gates c)) vs
  pub outside : length os ≡ length c.kinds
  pub passed : length us ≡ length c.kinds

pub record SizedWires (c : Circuit) (w : Wires) : Type 0 where
  pub outs : length w.outs ≡ length c.outputs
  pub dirty : length w.dirty ≡ length c.kinds
  pub queued : length w.queued ≡ length c.pins
  pub late : length w.late_checks ≡ length c.pins
  -- only pure gates are stale
  pub stale : (g : ℕ) → is_dirty w g ≡ true → pure (kind_of_gate c g) ≡ true
  -- each input that waits is marked, and watched
  pub waiting : length w.to_check ≤ marks w.queued
  pub asked : All (λ i. watching c i ≡ true) w.to_check
  pub memory : SizedMemory c w.last w.pulses w.written w.written_outside w.unions_passed

-- and so of the whole state
pub record Sized (c : Circuit) (s : State) : Type 0 where
  pub wires : SizedWires c s.wires
  pub delays : length s.delays ≡ length c.kinds
  -- the gates that sent, each once
  pub outbox : Once (gates c) (map (λ (m : Send). m.gate) s.outbox)

-- ---- the marks of what waits

pub mark_more : (bs : List Bool) (i : ℕ) → get_or bs i true ≡ false → marks (set bs i true) ≡ suc (marks bs)
unfolding marks bit
mark_more bs i e = omega (arith, rw e at (count_set (λ _ b. b) 0 bs i true true (in_range true bs i e)))

marks_fewer : (bs : List Bool) (i : ℕ) → marks bs ≤ suc (marks (set bs i false))
unfolding marks bit
marks_fewer bs i = go (ltb i (length bs)) refl
  where
    go : (b : Bool) → ltb i (length bs) ≡ b → marks bs ≤ suc (marks (set bs i false))
    go true l = omega (arith, count_set (λ _ b. b) 0 bs i false false (ltb-true i (length bs) l), bit_most (get_or bs i false))
    go false l = rw (set_past bs i false (ltb-false i _ l)) (omega arith)

-- what is kept by queueing an input, and by marking it for a late check where that is done
pub watch_for_keeps :
    (P : Wires → Type 0) (late : Bool) (w : Wires) (i : ℕ) → ((v : Wires) → P v → P (watch v i)) →
    (late ≡ true → P (late_checks≔ w (set w.late_checks i true))) → P w → P (watch_for late w i)
unfolding watch_for
watch_for_keeps P late w i watched late_marked p = watched _ (if_by P late late_marked (λ _. p))

module _ (c : Circuit) where
  -- ---- one change

  pub show_sized : (w : Wires) (o : ℕ) (v : Value) → SizedWires c w → SizedWires c (show w o v)
  unfolding show outs≔ is_dirty
  show_sized w o v z = record { outs = length-set w.outs o v ∙ z.outs; dirty = z.dirty; queued = z.queued; late = z.late; stale = z.stale; waiting = z.waiting; asked = z.asked; memory = z.memory }

  pub soil_sized : (w : Wires) (g : ℕ) → pure (kind_of_gate c g) ≡ true → SizedWires c w → SizedWires c (soil w g)
  unfolding soil dirty≔ is_dirty
  soil_sized w g p z =
      record {
        outs = z.outs;
        dirty = length-set w.dirty g true ∙ z.dirty;
        queued = z.queued;
        late = z.late;
        stale = set_marked (λ h. pure (kind_of_gate c h) ≡ true) w.dirty g true (λ _. p) z.stale;
        waiting = z.waiting;
        asked = z.asked;
        memory = z.memory;
      }

  pub clean_sized : (w : Wires) (g : ℕ) → SizedWires c w → SizedWires c (clean w g)
  unfolding clean dirty≔ is_dirty
  clean_sized w g z =
      record {
        outs = z.outs;
        dirty = length-set w.dirty g false ∙ z.dirty;
        queued = z.queued;
        late = z.late;
        stale = set_marked (λ h. pure (kind_of_gate c h) ≡ true) w.dirty g false (λ e. absurd (true≢false (sym e))) z.stale;
        waiting = z.waiting;
        asked = z.asked;
        memory = z.memory;
      }

  pub watch_sized : (w : Wires) (i : ℕ) → watching c i ≡ true → SizedWires c w → SizedWires c (watch w i)
  unfolding watch to_check≔ is_dirty snoc
  watch_sized w i q z =
      if_by (SizedWires c) (get_or w.queued i true || leb most_inputs (length w.to_check)) (λ _. z) λ h.
      let e = (either_false (get_or w.queued i true) _ h).0 in
      record {
        outs = z.outs;
        dirty = z.dirty;
        queued = length-set w.queued i true ∙ z.queued;
        late = z.late;
        stale = z.stale;
        waiting = omega (arith, z.waiting, snoc_length w.to_check i, mark_more w.queued i e);
        asked = all_append z.asked (◌∷·◌ q [·]);
        memory = z.memory;
      }

  -- an input is marked for a late check
  pub late_sized : (w : Wires) (i : ℕ) → SizedWires c w → SizedWires c (late_checks≔ w (set w.late_checks i true))
  unfolding late_checks≔ is_dirty
  late_sized w i z =
      record {
        outs = z.outs;
        dirty = z.dirty;
        queued = z.queued;
        late = length-set w.late_checks i true ∙ z.late;
        stale = z.stale;
        waiting = z.waiting;
        asked = z.asked;
        memory = z.memory;
      }

  -- the first that waits is taken
  pub taken_sized : (w : Wires) (i : ℕ) (is : List ℕ) → w.to_check ≡ i ∷ is → SizedWires c w → SizedWires c (taken w i is)
  unfolding taken to_check≔ late_checks≔ is_dirty
  taken_sized w i is e z =
      record {
        outs = z.outs;
        dirty = z.dirty;
        queued = length-set w.queued i false ∙ z.queued;
        late = length-set w.late_checks i false ∙ z.late;
        stale = z.stale;
        waiting = omega (arith, z.waiting, ap length e, marks_fewer w.queued i);
        asked = all_rest (subst (All (λ i. watching c i ≡ true)) e z.asked);
        memory = z.memory;
      }

  pub recompute_sized : (w : Wires) (g : ℕ) → SizedWires c w → SizedWires c (recompute c w g)
  unfolding recompute
  recompute_sized w g z = clean_sized _ g (show_sized w _ _ z)

  -- ---- refreshing: what is kept by computing a gate again of which A holds, as it does of each stale gate

  pub behind_keeps : (P : Wires → Type 0) (f : Wires → ℕ → Wires) → ((w : Wires) (g : ℕ) → P w → P (f w g)) → (w : Wires) (i : ℕ) → P w → P (behind c f w i)
  unfolding behind
  behind_keeps P f k w i p = go (source c i)
    where
      go : (o : Option ℕ) → P (elim o as (λ _. Wires) [ none ↦ w | some o ↦ f w (gate_at_output c o) ])
      go none = p
      go (some o) = k w (gate_at_output c o) p

  module _ (P : Wires → Type 0) (A : ℕ → Type 0) (due : (w : Wires) → P w → (g : ℕ) → is_dirty w g ≡ true → A g)
      (again : (w : Wires) (g : ℕ) → A g → P w → P (recompute c w g)) where
    pub refresh_to_keeps : (n : ℕ) (w : Wires) (g : ℕ) → P w → P (refresh_to c n w g)
    unfolding refresh_to
    refresh_to_keeps zero w g p = p
    refresh_to_keeps (suc n) w g p =
        go (is_dirty w g) refl
        (each_keeps P (behind c (λ v h. refresh_to c n v h)) (behind_keeps P (λ v h. refresh_to c n v h) (λ v h q. refresh_to_keeps n v h q)) w (inputs_of c g) p)
      where
        go :
            (b : Bool) → is_dirty w g ≡ b → P (each (behind c (λ v h. refresh_to c n v h)) w (inputs_of c g)) →
            P (elim b as (λ _. Wires) [ true ↦ recompute c (each (behind c (λ v h. refresh_to c n v h)) w (inputs_of c g)) g | false ↦ w ])
        go true e q = again _ g (due w p g e) q
        go false e q = p

    pub refresh_keeps : (w : Wires) (g : ℕ) → P w → P (refresh c w g)
    unfolding refresh
    refresh_keeps w g p = refresh_to_keeps _ w g p

    pub refresh_all_keeps : (w : Wires) → P w → P (refresh_all c w)
    unfolding refresh_all
    refresh_all_keeps w p = each_keeps P (refresh c) refresh_keeps w (gates c) p

    pub ready_keeps : (w : Wires) (i : ℕ) → P w → P (ready c w i)
    unfolding ready
    ready_keeps w i p = behind_keeps P (refresh c) refresh_keeps w i p

  -- ---- marking: what is kept by marking a pure gate and by queueing an input, for a late check or not

  module _ (P : Wires → Type 0) (soiled : (w : Wires) (g : ℕ) → pure (kind_of_gate c g) ≡ true → P w → P (soil w g))
      (watched : (w : Wires) (i : ℕ) → watching c i ≡ true → P w → P (watch w i)) where
    module _ (late : Bool) (late_marked : late ≡ true → (w : Wires) (i : ℕ) → P w → P (late_checks≔ w (set w.late_checks i true))) where
      record Marks (m : Marking) : Type 0 where
        wires : P m.wires
        for : m.late ≡ late

      mark_reader_keeps : (m : Marking) (i : ℕ) → Marks m → Marks (mark_reader c m i)
      unfolding mark_reader
      mark_reader_keeps m i k =
          if_by Marks (pure (kind_of_gate c (gate_at_input c i)))
          (λ e. if_both Marks _ (record { wires = soiled m.wires (gate_at_input c i) e k.wires; for = k.for }) k)
          (λ e. if_by Marks (watching c i)
          (λ q.
          record {
            wires = watch_for_keeps P m.late m.wires i (λ v. watched v i q) (λ h. late_marked (sym k.for ∙ h) m.wires i k.wires) k.wires;
            for = k.for;
          })
          (λ _. k))

      mark_on_keeps : (n : ℕ) (m : Marking) → Marks m → P (mark_on c n m)
      unfolding mark_on
      mark_on_keeps zero m k = k.wires
      mark_on_keeps (suc n) m k = go m.work (λ r q. mark_on_keeps n r q)
        where
          go :
              (work : List ℕ) → ((r : Marking) → Marks r → P (mark_on c n r)) →
              P (elim work as (λ _. Wires) [
                | [] ↦ m.wires
                | (o ∷ work) ↦ mark_on c n (each (mark_reader c) (record { wires = m.wires; work = work; late = m.late }) (readers_of c o))
              ])
          go [] rec = k.wires
          go (o ∷ work) rec = rec _ (each_keeps Marks (mark_reader c) mark_reader_keeps _ (readers_of c o) (record { wires = k.wires; for = k.for }))

      pub mark_readers_for_keeps : (w : Wires) (o : ℕ) → P w → P (mark_readers_for c late w o)
      unfolding mark_readers_for
      mark_readers_for_keeps w o p = mark_on_keeps _ _ (record { wires = p; for = refl })

    pub mark_readers_keeps : (w : Wires) (o : ℕ) → P w → P (mark_readers c w o)
    unfolding mark_readers
    mark_readers_keeps = mark_readers_for_keeps false (λ e. absurd (true≢false (sym e)))

    -- and by showing a value
    module _ (shows : (w : Wires) (o : ℕ) (v : Value) → P w → P (show w o v)) where
      pub set_out_keeps : (w : Wires) (o : ℕ) (v : Value) → P w → P (set_out c w o v)
      unfolding set_out
      set_out_keeps w o v p = if_both P _ p (mark_readers_keeps _ o (shows w o v p))

      pub set_outs_keeps : (w : Wires) (o : ℕ) (vs : List Value) → P w → P (set_outs c w o vs)
      unfolding set_outs
      set_outs_keeps w o [] p = p
      set_outs_keeps w o (v ∷ vs) p = set_outs_keeps (set_out c w o v) (suc o) vs (set_out_keeps w o v p)

  -- ---- so of each function of the wires

  -- a stale gate is pure
  abbrev pub Pure : ℕ → Type 0
  Pure g = pure (kind_of_gate c g) ≡ true

  again_sized : (w : Wires) (g : ℕ) → Pure g → SizedWires c w → SizedWires c (recompute c w g)
  again_sized w g e z = recompute_sized w g z

  pub refresh_to_sized : (n : ℕ) (w : Wires) (g : ℕ) → SizedWires c w → SizedWires c (refresh_to c n w g)
  refresh_to_sized = refresh_to_keeps (SizedWires c) Pure (λ w z. z.stale) again_sized

  pub refresh_sized : (w : Wires) (g : ℕ) → SizedWires c w → SizedWires c (refresh c w g)
  refresh_sized = refresh_keeps (SizedWires c) Pure (λ w z. z.stale) again_sized

  pub refresh_all_sized : (w : Wires) → SizedWires c w → SizedWires c (refresh_all c w)
  refresh_all_sized = refresh_all_keeps (SizedWires c) Pure (λ w z. z.stale) again_sized

  pub ready_sized : (w : Wires) (i : ℕ) → SizedWires c w → SizedWires c (ready c w i)
  ready_sized = ready_keeps (SizedWires c) Pure (λ w z. z.stale) again_sized

  pub mark_readers_for_sized : (late : Bool) (w : Wires) (o : ℕ) → SizedWires c w → SizedWires c (mark_readers_for c late w o)
  mark_readers_for_sized late = mark_readers_for_keeps (SizedWires c) soil_sized watch_sized late (λ _. late_sized)

  pub mark_readers_sized : (w : Wires) (o : ℕ) → SizedWires c w → SizedWires c (mark_readers c w o)
  mark_readers_sized = mark_readers_keeps (SizedWires c) soil_sized watch_sized

  pub set_out_sized : (w : Wires) (o : ℕ) (v : Value) → SizedWires c w → SizedWires c (set_out c w o v)
  set_out_sized = set_out_keeps (SizedWires c) soil_sized watch_sized show_sized

  pub set_outs_sized : (w : Wires) (o : ℕ) (vs : List Value) → SizedWires c w → SizedWires c (set_outs c w o vs)
  set_outs_sized = set_outs_keeps (SizedWires c) soil_sized watch_sized show_sized
