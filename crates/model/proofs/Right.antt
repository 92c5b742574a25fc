-- What holds of the wires at every moment, with a few exceptions that each have their stretch: a pure gate that is not stale shows what it gives, and none of its
-- sources is stale; a watched input with a stale source waits to be checked; no time source is stale. Here that every function of the wires keeps it.
use mathlib.Core.Path.{◌≡◌, refl, sym, ap, subst, ◌∙◌}
use mathlib.Core.Logic.{◌≢◌, ◌⊎◌, inl, inr}
use mathlib.Core.Bool.{Bool, true, false, not}
use mathlib.Core.List.{List, [], ◌∷◌}
use mathlib.Core.Option.{Option, none, some}
use Prim.Native.Nat.{ℕ, zero, suc, ◌+◌, ◌≤◌, ◌<◌}
use native.Mathlib.Omega.{arith}
use lib.Dec.{eqb}
use lib.ListN.{length, get_or, set}
use lib.Seq.{get_or-set_same, get_or-set_other}
use borrow.Author.Tests.{eqb-true, eqb-false, not-false, not-true}
use Rattle.model.specs.declared.Value.{Value}
use Rattle.model.specs.declared.Value.TheVariants.{Nothing}
use Rattle.model.specs.Base.{if◌then◌otherwise◌, all, each, snoc, among}
use Rattle.model.specs.Kinds.{kind_at, pure, time_source}
use Rattle.model.specs.Circuit.{Circuit, kind_of_gate, input, output, inputs_of, gate_at_input, source, gate_at_output, readers_of, watching}
use Rattle.model.specs.State.{Wires, outs≔, dirty≔, to_check≔, late_checks≔}
use Rattle.model.specs.Wires.{shown, show, is_dirty, is_clean, soil, clean, watch, watch_for, Marking, look, compute, recompute, mark_reader, mark_on, mark_readers_for, mark_readers, invalidate, set_out}
use Rattle.model.proofs.Lists.{if_both, if_by, each_keeps_all, each_brings, among_all, count_most, not_so, clash, among_first, among_later, among_either, among_none, among_neither, neither_among, from_among, mark_kept, marked_here, mark_was, marked_in}
use Rattle.model.proofs.Laid.{Laid}
use Rattle.model.proofs.Checks.{pure_kind}
use Rattle.model.proofs.Sized.{SizedWires, watch_for_keeps, show_sized, soil_sized, watch_sized, late_sized}
use Rattle.model.proofs.Roomy.{few_roomy}
use Rattle.model.proofs.Placing.{pure_in}
use Rattle.model.proofs.Marking.{fresh, to_do, readers_to_do}
use Rattle.model.proofs.Stale.{Due, stale_still, other_stale, compute_same, output_own}
use Rattle.model.proofs.Wired.{Wired}

-- What is excepted for a stretch: the gates of `unsure`, of which nothing is said (time sources, from the start of a tick until they are made stale), the time
-- sources that are stale, and the inputs that were taken to be checked and are not read yet.
pub record Except : Type 0 where
  pub unsure : List ℕ
  pub soiled : List ℕ
  pub taken : List ℕ

-- nothing is
abbrev pub no_exception : Except
no_exception = record { unsure = []; soiled = []; taken = [] }

-- in the opening of a tick, until the time sources are stale
abbrev pub until_timed : Circuit → Except
until_timed c = record { unsure = c.time_sources; soiled = []; taken = [] }

-- an input more was taken
abbrev pub taking : ℕ → Except → Except
taking i t = record { unsure = t.unsure; soiled = t.soiled; taken = i ∷ t.taken }

-- what is left of it where no gate is stale
abbrev pub all_fresh : Except → Except
all_fresh t = record { unsure = t.unsure; soiled = []; taken = [] }

module _ (c : Circuit) where
  -- an output of a gate that is not pure
  abbrev pub Other : ℕ → Type 0
  Other o = pure (kind_of_gate c (gate_at_output c o)) ≡ false

  -- A gate that is not stale. `work` has outputs whose readers are still to be marked, `late` those that may have changed unseen.
  pub record Right (w : Wires) (late work : List ℕ) (g : ℕ) : Type 0 where
    -- no source of it is stale
    pub sources : (i o : ℕ) → among i (inputs_of c g) ≡ true → source c i ≡ some o → is_dirty w (gate_at_output c o) ≡ true → among o work ≡ true
    -- it shows what it gives
    pub shows :
        ((i o : ℕ) → among i (inputs_of c g) ≡ true → source c i ≡ some o → (among o late ≡ false) × (among o work ≡ false)) →
        shown w (output c g 0) ≡ compute c w g

  -- a watched input whose source is stale waits, unless the source's readers are still to be marked
  abbrev pub Waits : Wires → List ℕ → ℕ → Type 0
  Waits w work i =
      watching c i ≡ true → pure (kind_of_gate c (gate_at_input c i)) ≡ false → (o : ℕ) → source c i ≡ some o → is_dirty w (gate_at_output c o) ≡ true →
      (get_or w.queued i true ≡ true) ⊎ (among o work ≡ true)

  -- every gate and input, but for those that t excepts
  pub record AllRight (t : Except) (late work : List ℕ) (w : Wires) : Type 0 where
    pub gates : (g : ℕ) → pure (kind_of_gate c g) ≡ true → is_dirty w g ≡ false → among g t.unsure ≡ false → Right w late work g
    pub inputs : (i : ℕ) → among i t.taken ≡ false → Waits w work i
    pub times : (g : ℕ) → time_source (kind_of_gate c g) ≡ true → is_dirty w g ≡ true → among g t.soiled ≡ true

  -- an input that waits or whose source is to be marked, where more is
  either_way : {A B A' B' : Type 0} → (A → A') → (B → B') → A ⊎ B → A' ⊎ B'
  either_way f g (inl a) = inl (f a)
  either_way f g (inr b) = inr (g b)

  -- with more outputs to be marked
  wider :
      (t : Except) (late : List ℕ) {work more : List ℕ} {w : Wires} → ((o : ℕ) → among o work ≡ true → among o more ≡ true) →
      AllRight t late work w → AllRight t late more w
  wider t late k r =
      record {
        gates = λ g p d n.
            let z = r.gates g p d n in
            record {
              sources = λ i o m e s. k o (z.sources i o m e s);
              shows = λ h. z.shows λ i o m e. ((h i o m e).0, not_so _ λ q. clash (k o q) (h i o m e).1);
            };
        inputs = λ i n a b o e s. either_way (λ x. x) (k o) (r.inputs i n a b o e s);
        times = r.times;
      }

  -- with more outputs that may have changed unseen
  pub excused :
      (t : Except) {late more work : List ℕ} {w : Wires} → ((o : ℕ) → among o late ≡ true → among o more ≡ true) →
      AllRight t late work w → AllRight t more work w
  excused t k r =
      record {
        gates = λ g p d n.
            let z = r.gates g p d n in
            record { sources = z.sources; shows = λ h. z.shows λ i o m e. (not_so _ λ q. clash (k o q) (h i o m e).0, (h i o m e).1) };
        inputs = r.inputs;
        times = r.times;
      }

  -- Other wires that show the same, with the same gates stale, in the same tick. The same inputs wait, or more of them, but for those that t' excepts.
  pub alike_but :
      (t t' : Except) (late work : List ℕ) (w v : Wires) → v.outs ≡ w.outs → v.dirty ≡ w.dirty → v.dt ≡ w.dt → v.uptime ≡ w.uptime →
      t'.unsure ≡ t.unsure → t'.soiled ≡ t.soiled →
      ((i : ℕ) → among i t'.taken ≡ false → (among i t.taken ≡ false) × (get_or w.queued i true ≡ true → get_or v.queued i true ≡ true)) →
      AllRight t late work w → AllRight t' late work v
  unfolding is_dirty shown look
  alike_but t t' late work w v a b x y f k q r =
      let dirty : (h : ℕ) → get_or v.dirty h false ≡ get_or w.dirty h false = λ h. ap (λ (bs : List Bool). get_or bs h false) b in
      let outs : (o : ℕ) → get_or v.outs o Nothing ≡ get_or w.outs o Nothing = λ o. ap (λ (vs : List Value). get_or vs o Nothing) a in
      record {
        gates = λ g p d n.
            let z = r.gates g p (sym (dirty g) ∙ d) (ap (among g) (sym f) ∙ n) in
            record {
              sources = λ i o m e s. z.sources i o m e (sym (dirty (gate_at_output c o)) ∙ s);
              shows = λ h. outs (output c g 0) ∙ z.shows h ∙ sym (compute_same c v w g x y λ i m. seen i (source c i) refl);
            };
        inputs = λ i n l m o e s. let h = q i n in either_way h.1 (λ z. z) (r.inputs i h.0 l m o e (sym (dirty (gate_at_output c o)) ∙ s));
        times = λ g e s. ap (among g) k ∙ r.times g e (sym (dirty g) ∙ s);
      }
    where
      seen : (i : ℕ) (q : Option ℕ) → source c i ≡ q → look c v i ≡ look c w i
      seen i none e = rw (e, look)
      seen i (some o) e = rw (e, look) (ap (λ (vs : List Value). get_or vs o Nothing) a)

  -- where the same inputs wait
  pub alike :
      (t : Except) (late work : List ℕ) (w v : Wires) → v.outs ≡ w.outs → v.dirty ≡ w.dirty → v.dt ≡ w.dt → v.uptime ≡ w.uptime → v.queued ≡ w.queued →
      AllRight t late work w → AllRight t late work v
  alike t late work w v a b x y z r =
      alike_but t t late work w v a b x y refl refl (λ i n. (n, λ e. ap (λ (bs : List Bool). get_or bs i true) z ∙ e)) r

  -- an output that may have changed unseen is to be marked
  pub to_mark : (t : Except) (late : List ℕ) (o : ℕ) {w : Wires} → AllRight t (o ∷ late) [] w → AllRight t late (o ∷ []) w
  to_mark t late o r =
      record {
        gates = λ g p d n.
            let z = r.gates g p d n in
            record {
              sources = λ i q m e s. clash (z.sources i q m e s) (among_none q);
              shows = λ h. z.shows λ i q m e. (neither_among q o late (among_neither q o [] (h i q m e).1).0 (h i q m e).0, among_none q);
            };
        inputs = λ i n a b q e s. either_way (λ x. x) (λ x. clash x (among_none q)) (r.inputs i n a b q e s);
        times = r.times;
      }

  -- an input of g belongs to g
  pub input_own : Laid c → (g i : ℕ) → among i (inputs_of c g) ≡ true → gate_at_input c i ≡ g
  unfolding inputs_of input
  input_own laid g i m =
      let k = from_among (get_or c.first_input g 0 + 0) (length (kind_at (kind_of_gate c g)).ins) i m in
      let e : i ≡ get_or c.first_input g 0 + k.0 = omega (arith, k.2) in
      ap (gate_at_input c) e ∙ laid.input_of g k.0 k.1

  module _ (W : Wired c) (t : Except) (late : List ℕ) where
    -- ---- marking

    -- a pure gate becomes stale; a time source only where that is excepted
    soil_right :
        (w : Wires) (g : ℕ) (work : List ℕ) → pure (kind_of_gate c g) ≡ true → (time_source (kind_of_gate c g) ≡ true → among g t.soiled ≡ true) →
        AllRight t late work w → AllRight t late (output c g 0 ∷ work) (soil w g)
    unfolding soil dirty≔ is_dirty shown compute look
    soil_right w g work q u r =
        record {
          gates = λ h p d n.
              let y = r.gates h p (not_so _ λ e. clash (mark_kept false w.dirty g h e) d) n in
              record {
                sources = λ i o m e s. go o (W.source_in i o e) (λ f. among_later o (output c g 0) work (y.sources i o m e f)) (λ f. f) (mark_was w.dirty g (gate_at_output c o) s);
                shows = λ k. y.shows λ i o m e. ((k i o m e).0, (among_neither o (output c g 0) work (k i o m e).1).1);
              };
          inputs = λ i n a b o e s.
              go o (W.source_in i o e) (λ f. either_way (λ x. x) (among_later o (output c g 0) work) (r.inputs i n a b o e f)) inr (mark_was w.dirty g (gate_at_output c o) s);
          times = λ h e s. timed h e (mark_was w.dirty g h s);
        }
      where
        -- of an output whose gate is stale: it was, or it is the output of g
        go :
            {A : Type 0} (o : ℕ) → o < length c.outputs → (get_or w.dirty (gate_at_output c o) false ≡ true → A) → (among o (output c g 0 ∷ work) ≡ true → A) →
            (gate_at_output c o ≡ g) ⊎ (get_or w.dirty (gate_at_output c o) false ≡ true) → A
        go o l old new (inl e) =
            let a : o ≡ output c g 0 = W.one_output o l (ap (λ x. pure (kind_of_gate c x)) e ∙ q) ∙ ap (λ x. output c x 0) e in
            new (subst (λ x. among x (output c g 0 ∷ work) ≡ true) (sym a) (among_first (output c g 0) work))
        go o l old new (inr e) = old e

        timed : (h : ℕ) → time_source (kind_of_gate c h) ≡ true → (h ≡ g) ⊎ (get_or w.dirty h false ≡ true) → among h t.soiled ≡ true
        timed h e (inl s) = subst (λ x. among x t.soiled ≡ true) (sym s) (u (subst (λ x. time_source (kind_of_gate c x) ≡ true) s e))
        timed h e (inr s) = r.times h e s

    -- the readers of one output, while that output is still to be marked
    record Marks (o : ℕ) (m : Marking) : Type 0 where
      sized : SizedWires c m.wires
      right : AllRight t late (o ∷ m.work) m.wires

    pub watch_right : (w : Wires) (i : ℕ) (work : List ℕ) → AllRight t late work w → AllRight t late work (watch w i)
    unfolding watch to_check≔
    watch_right w i work r =
        if_both (AllRight t late work) _ r
        (alike_but t t late work w (to_check≔ w (snoc w.to_check i) (set w.queued i true)) refl refl refl refl refl refl
        (λ j n. (n, λ e. mark_kept true w.queued i j e)) r)

    late_right : (w : Wires) (i : ℕ) (work : List ℕ) → AllRight t late work w → AllRight t late work (late_checks≔ w (set w.late_checks i true))
    unfolding late_checks≔
    late_right w i work r = alike t late work w (late_checks≔ w (set w.late_checks i true)) refl refl refl refl refl r

    -- an input is queued, for a late check or not
    watch_for_marks : (o : ℕ) (b : Bool) (w : Wires) (i : ℕ) (work : List ℕ) → watching c i ≡ true → SizedWires c w → AllRight t late (o ∷ work) w → Marks o (record { wires = watch_for b w i; work = work; late = b })
    watch_for_marks o b w i work q z r =
        record {
          sized = watch_for_keeps (SizedWires c) b w i (λ v. watch_sized c v i q) (λ _. late_sized c w i z) z;
          right = watch_for_keeps (AllRight t late (o ∷ work)) b w i (λ v. watch_right v i (o ∷ work)) (λ _. late_right w i (o ∷ work) r) r;
        }

    -- a reader of o, whose gate has an input
    reader_marks : (o : ℕ) (m : Marking) (i : ℕ) → time_source (kind_of_gate c (gate_at_input c i)) ≡ false → Marks o m → Marks o (mark_reader c m i)
    unfolding mark_reader
    reader_marks o m i u k =
        if_by (Marks o) (pure (kind_of_gate c (gate_at_input c i)))
        (λ p. if_both (Marks o) _
        (record {
          sized = soil_sized c m.wires (gate_at_input c i) p k.sized;
          right =
              wider t late (swap (output c (gate_at_input c i) 0))
              (soil_right m.wires (gate_at_input c i) (o ∷ m.work) p (λ e. clash e u) k.right);
        }) k)
        (λ _. if_by (Marks o) (watching c i)
        (λ q. watch_for_marks o m.late m.wires i m.work q k.sized k.right) (λ _. k))
      where
        swap : (x q : ℕ) → among q (x ∷ o ∷ m.work) ≡ true → among q (o ∷ x ∷ m.work) ≡ true
        swap x q e = go (among_either q x (o ∷ m.work) e)
          where
            in_rest : (q ≡ o) ⊎ (among q m.work ≡ true) → among q (o ∷ x ∷ m.work) ≡ true
            in_rest (inl p) = subst (λ y. among y (o ∷ x ∷ m.work) ≡ true) (sym p) (among_first o (x ∷ m.work))
            in_rest (inr p) = among_later q o (x ∷ m.work) (among_later q x m.work p)

            go : (q ≡ x) ⊎ (among q (o ∷ m.work) ≡ true) → among q (o ∷ x ∷ m.work) ≡ true
            go (inl p) = among_later q o (x ∷ m.work) (subst (λ y. among y (x ∷ m.work) ≡ true) (sym p) (among_first x m.work))
            go (inr p) = in_rest (among_either q o m.work p)

    -- a stale gate stays stale
    reader_stale : (g : ℕ) (m : Marking) (i : ℕ) → is_dirty m.wires g ≡ true → is_dirty (mark_reader c m i).wires g ≡ true
    unfolding mark_reader soil watch dirty≔ to_check≔ late_checks≔ is_dirty
    reader_stale g m i e =
        if_both Stale _ (if_both Stale _ (mark_kept false m.wires.dirty (gate_at_input c i) g e) e)
        (if_both Stale _ (watch_for_keeps Dirty m.late m.wires i (λ w e. if_both Dirty _ e e) (λ _. e) e) e)
      where
        Stale : Marking → Type 0
        Stale r = get_or r.wires.dirty g false ≡ true

        Dirty : Wires → Type 0
        Dirty w = get_or w.dirty g false ≡ true

    -- the gate of a marked reader is stale
    reader_now :
        (m : Marking) (i : ℕ) → SizedWires c m.wires → pure (kind_of_gate c (gate_at_input c i)) ≡ true →
        is_dirty (mark_reader c m i).wires (gate_at_input c i) ≡ true
    unfolding mark_reader soil dirty≔ is_dirty is_clean if◌then◌otherwise◌
    reader_now m i z p =
        let g = gate_at_input c i in
        let l : g < length m.wires.dirty = omega (arith, pure_in c g p, z.dirty) in
        rw p
        (if_by (λ (r : Marking). get_or r.wires.dirty g false ≡ true) (not (get_or m.wires.dirty g true))
        (λ _. get_or-set_same m.wires.dirty g true false l)
        (λ e. marked_in m.wires.dirty g l (not-false _ e)))

    -- an input that waits goes on waiting
    reader_waits : (j : ℕ) (m : Marking) (i : ℕ) → get_or m.wires.queued j true ≡ true → get_or (mark_reader c m i).wires.queued j true ≡ true
    unfolding mark_reader soil watch dirty≔ to_check≔ late_checks≔
    reader_waits j m i e =
        if_both Waiting _ (if_both Waiting _ e e)
        (if_both Waiting _ (watch_for_keeps Queued m.late m.wires i (λ w e. if_both Queued _ e (mark_kept true w.queued i j e)) (λ _. e) e) e)
      where
        Waiting : Marking → Type 0
        Waiting r = get_or r.wires.queued j true ≡ true

        Queued : Wires → Type 0
        Queued w = get_or w.queued j true ≡ true

    watch_queued : (w : Wires) (i : ℕ) → SizedWires c w → get_or (watch w i).queued i true ≡ true
    unfolding to_check≔
    watch_queued w i z =
        rw ((few_roomy c W.few).watching w i z)
        (if_by (λ (v : Wires). get_or v.queued i true ≡ true) (get_or w.queued i true) (λ e. e) (λ _. marked_here w.queued i))

    -- a marked reader that is watched waits
    reader_queued :
        (m : Marking) (i : ℕ) → SizedWires c m.wires → watching c i ≡ true → pure (kind_of_gate c (gate_at_input c i)) ≡ false →
        get_or (mark_reader c m i).wires.queued i true ≡ true
    unfolding mark_reader watch_for if◌then◌otherwise◌
    reader_queued m i z a b = rw (b, a) (watch_queued _ i (if_both (SizedWires c) m.late (late_sized c m.wires i z) z))

    -- a gate that reads is no time source
    readers_fed : (o : ℕ) → all (λ i. not (time_source (kind_of_gate c (gate_at_input c i)))) (readers_of c o) ≡ true
    readers_fed o = among_all _ (readers_of c o) λ i m. rw (W.fed i (W.source_at i o (W.read_by i o m))) refl

    -- what is so of a reader that was marked
    record Marked (i : ℕ) (m : Marking) : Type 0 where
      stale : pure (kind_of_gate c (gate_at_input c i)) ≡ true → is_dirty m.wires (gate_at_input c i) ≡ true
      waits : watching c i ≡ true → pure (kind_of_gate c (gate_at_input c i)) ≡ false → get_or m.wires.queued i true ≡ true

    -- when all readers of o are marked, o is no longer to be marked
    readers_right :
        (o : ℕ) (w : Wires) (work : List ℕ) (b : Bool) → SizedWires c w → AllRight t late (o ∷ work) w →
        let m = each (mark_reader c) (record { wires = w; work = work; late = b }) (readers_of c o) in
        SizedWires c m.wires × AllRight t late m.work m.wires
    readers_right o w work b z r =
        let k : (m : Marking) (i : ℕ) → not (time_source (kind_of_gate c (gate_at_input c i))) ≡ true → Marks o m → Marks o (mark_reader c m i) =
        λ m i u. reader_marks o m i (not-true _ u) in
        let first : Marks o (record { wires = w; work = work; late = b }) = record { sized = z; right = r } in
        let a = each_keeps_all (Marks o) _ (mark_reader c) k _ (readers_of c o) (readers_fed o) first in
        let m = each (mark_reader c) (record { wires = w; work = work; late = b }) (readers_of c o) in
        let marked : (i : ℕ) → among i (readers_of c o) ≡ true → Marked i m =
        each_brings (Marks o) Marked _ (mark_reader c) k
        (λ m i _ y. record { stale = reader_now m i y.sized; waits = reader_queued m i y.sized })
        (λ i m j y. record { stale = λ p. reader_stale (gate_at_input c i) m j (y.stale p); waits = λ e p. reader_waits i m j (y.waits e p) })
        _ (readers_of c o) (readers_fed o) first in
        let reached : (i q : ℕ) → source c i ≡ some q → q ≡ o → Marked i m = λ i q e s. marked i (subst (λ x. among i (readers_of c x) ≡ true) s (W.reader i q e)) in (
          a.sized,
          record {
            gates = λ g p d n.
                let y = a.right.gates g p d n in
                let apart : (i q : ℕ) → among i (inputs_of c g) ≡ true → source c i ≡ some q → q ≢ o = λ i q j e s.
                let own = input_own W.laid g i j in
                clash (subst (λ h. is_dirty m.wires h ≡ true) own ((reached i q e s).stale (subst (λ h. pure (kind_of_gate c h) ≡ true) (sym own) p))) d in
                record {
                  sources = λ i q j e s. or_else q m.work (λ f. absurd (apart i q j e f)) (λ f. f) (among_either q o m.work (y.sources i q j e s));
                  shows = λ h. y.shows λ i q j e. ((h i q j e).0, neither_among q o m.work (apart i q j e) (h i q j e).1);
                };
            inputs = λ i n w p q e s. waiting i q (reached i q e) w p (a.right.inputs i n w p q e s);
            times = a.right.times;
          },
        )
      where
        or_else : {A : Type 0} (q : ℕ) (os : List ℕ) → (q ≡ o → A) → (among q os ≡ true → A) → (q ≡ o) ⊎ (among q os ≡ true) → A
        or_else q os f g (inl e) = f e
        or_else q os f g (inr e) = g e

        waiting :
            {m : Marking} (i q : ℕ) → (q ≡ o → Marked i m) → watching c i ≡ true → pure (kind_of_gate c (gate_at_input c i)) ≡ false →
            (get_or m.wires.queued i true ≡ true) ⊎ (among q (o ∷ m.work) ≡ true) → (get_or m.wires.queued i true ≡ true) ⊎ (among q m.work ≡ true)
        waiting i q k w p (inl e) = inl e
        waiting {m} i q k w p (inr e) = or_else q m.work (λ f. inl ((k f).waits w p)) inr (among_either q o m.work e)

    mark_on_right :
        (n : ℕ) (w : Wires) (work : List ℕ) (b : Bool) → SizedWires c w → AllRight t late work w → fresh w + length work ≤ n →
        AllRight t late [] (mark_on c n (record { wires = w; work = work; late = b }))
    unfolding mark_on to_do
    mark_on_right zero w [] b z r l = r
    mark_on_right zero w (o ∷ work) b z r l = absurd (omega arith)
    mark_on_right (suc n) w [] b z r l = r
    mark_on_right (suc n) w (o ∷ work) b z r l =
        let a = readers_right o w work b z r in
        mark_on_right n _ _ _ a.0 a.1 (omega (arith, readers_to_do c (record { wires = w; work = work; late = b }) (readers_of c o)))

    pub mark_readers_for_right : (b : Bool) (w : Wires) (o : ℕ) → SizedWires c w → AllRight t late (o ∷ []) w → AllRight t late [] (mark_readers_for c b w o)
    unfolding mark_readers_for fresh
    mark_readers_for_right b w o z r =
        mark_on_right (suc (length c.kinds)) w (o ∷ []) b z r (omega (arith, count_most (λ _ b. not b) 0 w.dirty, z.dirty))

    mark_readers_right : (w : Wires) (o : ℕ) → SizedWires c w → AllRight t late (o ∷ []) w → AllRight t late [] (mark_readers c w o)
    unfolding mark_readers
    mark_readers_right = mark_readers_for_right false

    -- a time source that becomes stale, where that is excepted
    pub invalidate_right :
        (w : Wires) (g : ℕ) → SizedWires c w → pure (kind_of_gate c g) ≡ true → among g t.soiled ≡ true → AllRight t late [] w →
        AllRight t late [] (invalidate c w g)
    unfolding invalidate
    invalidate_right w g z p u r = mark_readers_right (soil w g) (output c g 0) (soil_sized c w g p z) (soil_right w g [] p (λ _. u) r)

    -- ---- another value at an output of a gate that is not pure

    show_right : (w : Wires) (o : ℕ) (v : Value) → Other o → AllRight t late [] w → AllRight t late (o ∷ []) (show w o v)
    unfolding show outs≔ is_dirty shown look
    show_right w o v u r =
        record {
          gates = λ g p d n.
              let y = r.gates g p d n in
              let apart : output c g 0 ≢ o = λ e. clash (ap (λ x. pure (kind_of_gate c x)) (output_own c W.laid g o p (sym e)) ∙ p) u in
              record {
                sources = λ i q m e s. clash (y.sources i q m e s) (among_none q);
                shows = λ h.
                    get_or-set_other w.outs o (output c g 0) v Nothing apart
                    ∙ y.shows (λ i q m e. ((h i q m e).0, among_none q))
                    ∙ sym (compute_same c (show w o v) w g refl refl λ i m. same_look i (source c i) refl (λ q e. (among_neither q o [] (h i q m e).1).0));
              };
          inputs = λ i n a b q e s. either_way (λ x. x) (λ x. clash x (among_none q)) (r.inputs i n a b q e s);
          times = r.times;
        }
      where
        same_look : (i : ℕ) (x : Option ℕ) → source c i ≡ x → ((q : ℕ) → source c i ≡ some q → q ≢ o) → look c (show w o v) i ≡ look c w i
        same_look i none e k = rw (e, look)
        same_look i (some q) e k = rw (e, look) (get_or-set_other w.outs o q v Nothing (k q e))

    -- one that is known to have changed unseen
    pub show_late : (w : Wires) (o : ℕ) (v : Value) → among o late ≡ true → Other o → AllRight t late [] w → AllRight t late [] (show w o v)
    unfolding show outs≔ is_dirty
    show_late w o v a u r =
        record {
          gates = λ g p d n.
              let y = (show_right w o v u r).gates g p d n in
              let x = r.gates g p d n in
              record {
                sources = x.sources;
                shows = λ h. y.shows λ i q m e. ((h i q m e).0, neither_among q o [] (λ s. clash (subst (λ z. among z late ≡ true) (sym s) a) (h i q m e).0) (among_none q));
              };
          inputs = r.inputs;
          times = r.times;
        }

    pub set_out_right : (w : Wires) (o : ℕ) (v : Value) → SizedWires c w → Other o → AllRight t late [] w → AllRight t late [] (set_out c w o v)
    unfolding set_out
    set_out_right w o v z u r =
        if_both (AllRight t late []) _ r
        (mark_readers_right (show w o v) o (show_sized c w o v z) (show_right w o v u r))

    -- ---- a stale gate worked out again, whose sources are not stale

    recompute_gate :
        (w : Wires) (h : ℕ) → SizedWires c w → Due c w h → AllRight t late [] w →
        (g : ℕ) → pure (kind_of_gate c g) ≡ true → is_dirty (recompute c w h) g ≡ false → among g t.unsure ≡ false → Right (recompute c w h) late [] g
    unfolding recompute show clean outs≔ dirty≔ shown look
    recompute_gate w h z due r g p d n = go (eqb g h) refl
      where
        -- no gate reads the output of h, but stale ones
        same_look :
            (i : ℕ) → among i (inputs_of c g) ≡ true → ((q : ℕ) → source c i ≡ some q → is_dirty w (gate_at_output c q) ≡ true → ⊥) →
            (x : Option ℕ) → source c i ≡ x → look c (recompute c w h) i ≡ look c w i
        same_look i m k none e = rw (e, look)
        same_look i m k (some q) e =
            rw (e, look) (get_or-set_other w.outs (output c h 0) q (compute c w h) Nothing λ s.
            k q e (ap (is_dirty w) (output_own c W.laid h q due.is_pure s) ∙ due.stale))

        same_compute : ((i q : ℕ) → among i (inputs_of c g) ≡ true → source c i ≡ some q → is_dirty w (gate_at_output c q) ≡ true → ⊥) → compute c (recompute c w h) g ≡ compute c w g
        same_compute k = compute_same c (recompute c w h) w g refl refl λ i m. same_look i m (λ q e. k i q m e) (source c i) refl

        was_stale : (q : ℕ) → is_dirty (recompute c w h) q ≡ true → is_dirty w q ≡ true
        was_stale q e = (stale_still c w h q e).1

        go : (b : Bool) → eqb g h ≡ b → Right (recompute c w h) late [] g
        go true e =
            let q = eqb-true g h e in
            let fine : (i o : ℕ) → among i (inputs_of c g) ≡ true → source c i ≡ some o → is_dirty w (gate_at_output c o) ≡ true → ⊥ =
            λ i o m s. due.sources i o (subst (λ x. among i (inputs_of c x) ≡ true) q m) s in
            let l : output c h 0 < length w.outs = omega (arith, W.laid.output_in h 0 (pure_kind (kind_of_gate c h) due.is_pure).0, z.outs) in
            record {
              sources = λ i o m s f. absurd (fine i o m s (was_stale _ f));
              shows = λ k. ap (λ x. get_or (set w.outs (output c h 0) (compute c w h)) (output c x 0) Nothing) q
                  ∙ get_or-set_same w.outs (output c h 0) (compute c w h) Nothing l ∙ ap (compute c w) (sym q) ∙ sym (same_compute fine);
            }
        go false e =
            let y = r.gates g p (not_so _ λ s. clash (still s) d) n in
            let apart : output c g 0 ≢ output c h 0 = λ s.
            eqb-false g h e (sym (output_own c W.laid g (output c g 0) p refl) ∙ output_own c W.laid h (output c g 0) due.is_pure s) in
            record {
              sources = λ i o m s f. y.sources i o m s (was_stale _ f);
              shows = λ k. get_or-set_other w.outs (output c h 0) (output c g 0) (compute c w h) Nothing apart ∙ y.shows k
                  ∙ sym (same_compute λ i o m s f. clash (y.sources i o m s f) (among_none o));
            }
          where
            still : is_dirty w g ≡ true → is_dirty (recompute c w h) g ≡ true
            still s = other_stale c w h g (eqb-false g h e) s

    pub recompute_right : (w : Wires) (h : ℕ) → SizedWires c w → Due c w h → AllRight t late [] w → AllRight t late [] (recompute c w h)
    unfolding recompute show clean outs≔ dirty≔
    recompute_right w h z due r =
        record {
          gates = recompute_gate w h z due r;
          inputs = λ i n a b o e s. r.inputs i n a b o e (stale_still c w h (gate_at_output c o) s).1;
          times = λ g e s. r.times g e (stale_still c w h g s).1;
        }
