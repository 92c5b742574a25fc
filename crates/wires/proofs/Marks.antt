-- Marking: one law for each way out of a function.
use Rattle.std.proofs.Common.{◌≡◌, ℕ, zero, suc, ◌+◌, ◌-◌, ◌<◌, ◌≤◌, Bool, true, false, not, ◌||◌, T, leb, List, [], ◌∷◌, map, length, get_or, set, sym, refl, ap, ◌∙◌, subst, ap₂, add-one, arith, get_or-set_same}
use Rattle.words.specs.Words.{words, Stored}
use Rattle.words.specs.Tables.{marked, stack}
use Rattle.words.proofs.Tables.{stack_push, stack_length, digits_length}
use Rattle.model.specs.declared.Value.{Value}
use Rattle.model.specs.Base.{if◌then◌otherwise◌, each, from}
use Rattle.model.specs.Value.{same}
use Rattle.model.specs.Kinds.{pure}
use Rattle.model.specs.Circuit.{Circuit, kind_of_gate, gate_at_input, watching, output, readers_of}
use Rattle.model.specs.State.{Wires, dirty≔, to_check≔, late_checks≔}
use Rattle.model.specs.Wires.{Marking, shown, show, is_clean, soil, watch, watch_for, mark_reader, mark_on, mark_readers_for, mark_readers, invalidate, set_out}
use Rattle.model.proofs.Lists.{if_both}
use Rattle.model.proofs.Sized.{watch_for_keeps}
use Rattle.links.specs.Links.{net, first_reader, reader_count, reader_at}
use Rattle.links.proofs.Reading.{readers_row}
use Rattle.wires.specs.View.{cut, Values, with_wires, values}
use Rattle.wires.specs.Marking.{Area, area_with, area_for, area, Marked, with_marking, marking, cleans, to_do}
use Rattle.wires.proofs.Lists.{left_of, turn_first, turn_next, each_map}
use Rattle.wires.proofs.Area.{cut_poke, cut_peek, sized}

-- ---- the stack in the area

-- place n of the stack becomes o
push : (c : Circuit) (bs bs₁ : List ℕ) (n o : ℕ) → n < 65 → Stored bs bs₁ (4753 + n) o → area c bs₁ ≡ record { values = (area c bs).values; stack = set (area c bs).stack n o; late = (area c bs).late }
unfolding area values
push c bs bs₁ n o h e = rw (e.words, cut_poke (words bs) 17 n o h, e.tail)

places : (c : Circuit) (bs : List ℕ) → 65536 ≤ length bs → length (area c bs).stack ≡ 65
unfolding area
places c bs l = sized bs 17 l (omega arith) (omega arith)

top : (c : Circuit) (bs : List ℕ) (n o : ℕ) → n < 65 → o ≡ get_or (words bs) (4753 + n) 0 → o ≡ get_or (area c bs).stack n 0
unfolding area
top c bs n o h e = e ∙ cut_peek (words bs) 17 n h

-- ---- one reader

module _ (c : Circuit) (bs : List ℕ) (n i g k : ℕ) (b : Bool) (eg : g ≡ gate_at_input c i) (ek : k ≡ kind_of_gate c g) (eb : b ≡ pure k) where
  the_test : pure (kind_of_gate c (gate_at_input c i)) ≡ b
  the_test = sym (eb ∙ ap pure (ek ∙ ap (kind_of_gate c) eg))

  clean_test : (q x : Bool) → q ≡ is_clean (values c bs).wires g → q ≡ x → is_clean (area c bs).values.wires (gate_at_input c i) ≡ x
  unfolding area
  clean_test q x e h = ap (is_clean (values c bs).wires) (sym eg) ∙ sym e ∙ h

  pub reader_stale :
      (q : Bool) → b ≡ true → q ≡ is_clean (values c bs).wires g → q ≡ false → marking c bs n ≡ with_marking (marking c bs n) (mark_reader c (marking c bs n).marking i)
  unfolding mark_reader if◌then◌otherwise◌ marking
  reader_stale q hb eq hq =
      let t : pure (kind_of_gate c (gate_at_input c i)) ≡ true = the_test ∙ hb in
      rw (t, clean_test q false eq hq)

  pub reader_found :
      (q : Bool) (bs₁ bs₂ : List ℕ) (o : ℕ) → 65536 ≤ length bs → n < 65 → b ≡ true → q ≡ is_clean (values c bs).wires g → q ≡ true →
      area c bs₁ ≡ area_with (area c bs) (soil (area c bs).values.wires g) → (o ≡ output c g 0) × (o < 131072) → Stored bs₁ bs₂ (4753 + n) o →
      marking c bs₂ (n + 1) ≡ with_marking (marking c bs n) (mark_reader c (marking c bs n).marking i)
  unfolding mark_reader if◌then◌otherwise◌ marking
  reader_found q bs₁ bs₂ o l h hb eq hq e₁ eo e₂ =
      let t : pure (kind_of_gate c (gate_at_input c i)) ≡ true = the_test ∙ hb in
      let m = places c bs l in
      rw (t, clean_test q true eq hq, push c bs₁ bs₂ n o h e₂, e₁, add-one, stack_push n o (area c bs).stack (omega arith), eo.0, eg)

  pub reader_watched :
      (t : Bool) (bs₁ : List ℕ) → b ≡ false → t ≡ watching c i → t ≡ true → area c bs₁ ≡ area_with (area c bs) (watch_for (area c bs).late (area c bs).values.wires i) →
      marking c bs₁ n ≡ with_marking (marking c bs n) (mark_reader c (marking c bs n).marking i)
  unfolding mark_reader if◌then◌otherwise◌ marking
  reader_watched t bs₁ hb et ht e₁ =
      let p : pure (kind_of_gate c (gate_at_input c i)) ≡ false = the_test ∙ hb in
      let u : watching c i ≡ true = sym et ∙ ht in
      rw (p, u, e₁)

  pub reader_not :
      (t : Bool) → b ≡ false → t ≡ watching c i → t ≡ false → marking c bs n ≡ with_marking (marking c bs n) (mark_reader c (marking c bs n).marking i)
  unfolding mark_reader if◌then◌otherwise◌ marking
  reader_not t hb et ht =
      let p : pure (kind_of_gate c (gate_at_input c i)) ≡ false = the_test ∙ hb in
      let u : watching c i ≡ false = sym et ∙ ht in
      rw (p, u)

-- ---- what is to do

cleans_set : (bs : List Bool) (g : ℕ) → not (get_or bs g true) ≡ true → suc (cleans (set bs g true)) ≡ cleans bs
unfolding cleans
cleans_set [] g h = absurd (subst T (sym h) tt)
cleans_set (true ∷ bs) zero h = absurd (subst T (sym h) tt)
cleans_set (false ∷ bs) zero h = refl
cleans_set (true ∷ bs) (suc g) h = cleans_set bs g h
cleans_set (false ∷ bs) (suc g) h = ap suc (cleans_set bs g h)

cleans_most : (bs : List Bool) → cleans bs ≤ length bs
unfolding cleans
cleans_most [] = omega arith
cleans_most (true ∷ bs) = let q = cleans_most bs in omega arith
cleans_most (false ∷ bs) = let q = cleans_most bs in omega arith

-- there is room for the output of a gate that is not stale
pub room : (c : Circuit) (bs : List ℕ) (n g : ℕ) (q : Bool) → to_do (marking c bs n).marking ≤ 65 → q ≡ is_clean (values c bs).wires g → q ≡ true → n < 65
unfolding to_do marking area is_clean
room c bs n g q l e h = omega (arith, l, stack_length n (cut (words bs)).stack, cleans_set (values c bs).wires.dirty g (sym e ∙ h))

-- no more are on the stack than are to do
pub high : (c : Circuit) (bs : List ℕ) (n : ℕ) → to_do (marking c bs n).marking ≤ 65 → n ≤ 65
unfolding to_do marking
high c bs n h = omega (arith, h, stack_length n (area c bs).stack)

watch_dirty : (w : Wires) (i : ℕ) → (watch w i).dirty ≡ w.dirty
unfolding watch to_check≔
watch_dirty w i = if_both (λ (v : Wires). v.dirty ≡ w.dirty) (get_or w.queued i true || leb 640 (length w.to_check)) refl refl

watch_for_dirty : (late : Bool) (w : Wires) (i : ℕ) → (watch_for late w i).dirty ≡ w.dirty
unfolding late_checks≔
watch_for_dirty late w i = watch_for_keeps (λ (v : Wires). v.dirty ≡ w.dirty) late w i (λ v e. watch_dirty v i ∙ e) (λ _. refl) refl

one_to_do : (c : Circuit) (m : Marking) (i : ℕ) → to_do (mark_reader c m i) ≡ to_do m
unfolding to_do mark_reader if◌then◌otherwise◌ soil dirty≔ is_clean
one_to_do c m i = go (pure (kind_of_gate c (gate_at_input c i))) (not (get_or m.wires.dirty (gate_at_input c i) true)) (watching c i) refl refl refl
  where
    go :
        (p d k : Bool) → pure (kind_of_gate c (gate_at_input c i)) ≡ p → not (get_or m.wires.dirty (gate_at_input c i) true) ≡ d → watching c i ≡ k →
        to_do (mark_reader c m i) ≡ to_do m
    go true true k e f h = rw (e, f, to_do, mark_reader) (let q = cleans_set m.wires.dirty (gate_at_input c i) f in unfold to_do in omega arith)
    go true false k e f h = rw (e, f, to_do, mark_reader)
    go false d true e f h = rw (e, h, to_do, mark_reader, watch_for_dirty)
    go false d false e f h = rw (e, h, to_do, mark_reader)

all_to_do : (c : Circuit) (m : Marking) (is : List ℕ) → to_do (each (mark_reader c) m is) ≡ to_do m
unfolding each
all_to_do c m [] = refl
all_to_do c m (i ∷ is) = all_to_do c (mark_reader c m i) is ∙ one_to_do c m i

module _ (c : Circuit) (m m₁ : Marked) where
  pub reader_to_do : (i : ℕ) → m₁ ≡ with_marking m (mark_reader c m.marking i) → to_do m.marking ≤ 65 → to_do m₁.marking ≤ 65
  reader_to_do i e h = let a : to_do m₁.marking ≡ to_do m.marking = ap (λ (x : Marked). to_do x.marking) e ∙ one_to_do c m.marking i in omega (arith, a, h)

  pub row_to_do : (is : List ℕ) → m₁ ≡ with_marking m (each (mark_reader c) m.marking is) → to_do m.marking ≤ 65 → to_do m₁.marking ≤ 65
  row_to_do is e h = let a : to_do m₁.marking ≡ to_do m.marking = ap (λ (x : Marked). to_do x.marking) e ∙ all_to_do c m.marking is in omega (arith, a, h)

pub less_to_do : (c : Circuit) (bs : List ℕ) (n : ℕ) → to_do (marking c bs n).marking ≤ 65 → to_do (marking c bs (n - 1)).marking ≤ 65
unfolding to_do marking
less_to_do c bs n h = omega (arith, h, stack_length n (area c bs).stack, stack_length (n - 1) (area c bs).stack)

-- ---- the readers of an output

-- one reader of the table of all
abbrev pub mark_at : (l : List ℕ) → Marked → ℕ → Marked
mark_at l m k = with_marking m (mark_reader (net l) m.marking (reader_at l k))

each_marking : (f : Marking → ℕ → Marking) (m : Marked) (xs : List ℕ) → each (λ (u : Marked) (x : ℕ). with_marking u (f u.marking x)) m xs ≡ with_marking m (each f m.marking xs)
unfolding each
each_marking f m [] = refl
each_marking f m (x ∷ xs) = each_marking f (with_marking m (f m.marking x)) xs

pub row_first :
    (l : List ℕ) (m : Marked) (o a n : ℕ) → (a ≡ first_reader l o) × (a < 65536) → (n ≡ reader_count l o) × (n < 65536) →
    left_of (mark_at l) m a n 0 ≡ with_marking m (each (mark_reader (net l)) m.marking (readers_of (net l) o))
row_first l m o a n ea en =
    turn_first (mark_at l) m a n
    ∙ each_marking (λ (u : Marking) (k : ℕ). mark_reader (net l) u (reader_at l k)) m (from a n)
    ∙ ap (with_marking m)
    (sym (each_map (mark_reader (net l)) (reader_at l) m.marking (from a n))
    ∙ ap (each (mark_reader (net l)) m.marking) (ap₂ (λ (x y : ℕ). map (reader_at l) (from x y)) ea.0 en.0 ∙ sym (readers_row l o)))

pub row_next :
    (l : List ℕ) (m m₁ x : Marked) (a n k i : ℕ) → k < n → i ≡ reader_at l (a + k) → m₁ ≡ with_marking m (mark_reader (net l) m.marking i) →
    left_of (mark_at l) m a n k ≡ x → left_of (mark_at l) m₁ a n (k + 1) ≡ x
row_next l m m₁ x a n k i h ei e q =
    turn_next (mark_at l) m a n m₁ x k h (e ∙ ap (λ (j : ℕ). with_marking m (mark_reader (net l) m.marking j)) ei) q

-- ---- rounds

-- what the rounds that are left come to
abbrev pub ended : Circuit → ℕ → Marked → Values
ended c m k = record { wires = mark_on c m k.marking; rest = k.rest }

module _ (c : Circuit) (bs : List ℕ) where
  pub rounds_first : (n m : ℕ) → ended c m (marking c bs n) ≡ with_wires (values c bs) (mark_on c m (marking c bs n).marking)
  unfolding marking area
  rounds_first n m = refl

  pub rounds_empty : (m h : ℕ) (x : Values) → ended c m (marking c bs h) ≡ x → h ≡ 0 → values c bs ≡ x
  unfolding mark_on marking stack area
  rounds_empty zero h x e z = e
  rounds_empty (suc m) zero x e z = e
  rounds_empty (suc m) (suc h) x e z = absurd (omega arith)

  pub rounds_over : (m h : ℕ) (x : Values) → ended c m (marking c bs h) ≡ x → m ≤ 0 → values c bs ≡ x
  unfolding mark_on marking area
  rounds_over zero h x e z = e
  rounds_over (suc m) h x e z = absurd (omega arith)

  pub rounds_next :
      (m h o : ℕ) (x : Values) (k : Marked) → ended c m (marking c bs h) ≡ x → h ≤ 65 → 0 < m → (h ≡ 0 → ⊥) → o ≡ get_or (words bs) (4753 + (h - 1)) 0 →
      k ≡ with_marking (marking c bs (h - 1)) (each (mark_reader c) (marking c bs (h - 1)).marking (readers_of c o)) → ended c (m - 1) k ≡ x
  unfolding mark_on stack marking
  rounds_next zero h o x k e l p z eo ek = absurd (omega arith)
  rounds_next (suc m) zero o x k e l p z eo ek = absurd (z refl)
  rounds_next (suc m) (suc h) o x k e l p z eo ek =
      let u : suc m - 1 ≡ m = omega arith in
      let v : suc h - 1 ≡ h = omega arith in
      let t : o ≡ get_or (area c bs).stack h 0 = top c bs h o (omega arith) (rw v at eo) in
      rw u (ap (ended c m) (rw (v, t) at ek) ∙ e)

dirty_length : (c : Circuit) (bs : List ℕ) → length (values c bs).wires.dirty ≡ length c.kinds
unfolding values
dirty_length c bs = digits_length _ _

module _ (c : Circuit) (bs bs₁ : List ℕ) (o : ℕ) (e₁ : Stored bs bs₁ 4753 o) where
  start_values : values c bs₁ ≡ values c bs
  unfolding area
  start_values = ap (λ (a : Area). a.values) (push c bs bs₁ 0 o (omega arith) e₁)

  start_marking : 65536 ≤ length bs → (marking c bs₁ 1).marking ≡ record { wires = (values c bs).wires; work = o ∷ []; late = (area c bs).late }
  unfolding marking area stack
  start_marking l =
      let m : length (cut (words bs)).stack ≡ 65 = sized bs 17 l (omega arith) (omega arith) in
      ap {B = Marking} (λ (a : Area). record { wires = a.values.wires; work = stack 1 a.stack; late = a.late }) (push c bs bs₁ 0 o (omega arith) e₁)
      ∙ ap {B = Marking} (λ (x : ℕ). record { wires = (values c bs).wires; work = x ∷ []; late = (area c bs).late }) (get_or-set_same (cut (words bs)).stack 0 o 0 (omega arith))

  module _ (n : ℕ) (en : (n ≡ length c.kinds) × (n ≤ 64)) where
    -- at the start one output is on the stack, and at most 64 gates are not stale
    pub start_to_do : 65536 ≤ length bs → to_do (marking c bs₁ 1).marking ≤ 65
    start_to_do l = rw (start_marking l) (few (values c bs).wires (omega (arith, en.0, en.1, cleans_most (values c bs).wires.dirty, dirty_length c bs)))
      where
        few : (w : Wires) → cleans w.dirty ≤ 64 → to_do (record { wires = w; work = o ∷ []; late = (area c bs).late }) ≤ 65
        few w h = unfold to_do in omega (arith, h)

    pub marked_readers :
        (v : Values) → 65536 ≤ length bs → v ≡ with_wires (values c bs₁) (mark_on c (n + 1) (marking c bs₁ 1).marking) →
        v ≡ with_wires (values c bs) (mark_readers_for c (area c bs).late (values c bs).wires o)
    unfolding mark_readers_for
    marked_readers v l e =
        e ∙ ap₂ (λ (x : Values) (k : Marking). with_wires x (mark_on c (n + 1) k)) start_values (start_marking l)
        ∙ ap (λ (k : ℕ). with_wires (values c bs) (mark_on c k (record { wires = (values c bs).wires; work = o ∷ []; late = (area c bs).late }))) (add-one n ∙ ap suc en.0)

-- ---- what marking is for

pub set_marking : (c : Circuit) (bs bs₁ : List ℕ) (late : Bool) (x : ℕ) → 65536 ≤ length bs → late ≡ marked x → Stored bs bs₁ 5461 x → area c bs₁ ≡ area_for (area c bs) late
unfolding area values
set_marking c bs bs₁ late x l q e =
    let m : length (cut (words bs)).marking_late ≡ 1 = sized bs 22 l (omega arith) (omega arith) in
    rw (e.words, cut_poke (words bs) 22 0 x (omega arith), e.tail, get_or-set_same (cut (words bs)).marking_late 0 x 0 (omega arith), q)

pub marked_for :
    (c : Circuit) (bs bs₁ : List ℕ) (v : Values) (o : ℕ) (late : Bool) → area c bs₁ ≡ area_for (area c bs) late →
    v ≡ with_wires (values c bs₁) (mark_readers_for c (area c bs₁).late (values c bs₁).wires o) → v ≡ with_wires (values c bs) (mark_readers_for c late (values c bs).wires o)
unfolding area
marked_for c bs bs₁ v o late e₁ e = e ∙ ap (λ (a : Area). with_wires a.values (mark_readers_for c a.late a.values.wires o)) e₁

-- of an output that is no Var written
pub marked_plainly : (c : Circuit) (v v₁ : Values) (o : ℕ) → v₁ ≡ with_wires v (mark_readers_for c false v.wires o) → v₁ ≡ with_wires v (mark_readers c v.wires o)
unfolding mark_readers
marked_plainly c v v₁ o e = e

pub invalidated :
    (c : Circuit) (bs bs₁ : List ℕ) (v : Values) (g o : ℕ) → area c bs₁ ≡ area_with (area c bs) (soil (area c bs).values.wires g) → (o ≡ output c g 0) × (o < 131072) →
    v ≡ with_wires (values c bs₁) (mark_readers c (values c bs₁).wires o) → v ≡ with_wires (values c bs) (invalidate c (values c bs).wires g)
unfolding invalidate area
invalidated c bs bs₁ v g o e₁ eo e =
    e ∙ ap₂ (λ (x : Values) (p : ℕ). with_wires x (mark_readers c x.wires p)) (ap (λ (a : Area). a.values) e₁) eo.0

module _ (c : Circuit) (v : Values) (o : ℕ) (old x : Value) (t : Bool) (eo : old ≡ shown v.wires o) (et : t ≡ same old x) where
  pub set_same : t ≡ true → v ≡ with_wires v (set_out c v.wires o x)
  unfolding set_out if◌then◌otherwise◌
  set_same h = let q : same (shown v.wires o) x ≡ true = sym (et ∙ ap (λ (u : Value). same u x) eo) ∙ h in rw q

  pub set_new :
      (v₁ v₂ : Values) → t ≡ false → v₁ ≡ with_wires v (show v.wires o x) → v₂ ≡ with_wires v₁ (mark_readers c v₁.wires o) →
      v₂ ≡ with_wires v (set_out c v.wires o x)
  unfolding set_out if◌then◌otherwise◌
  set_new v₁ v₂ h e₁ e₂ =
      let q : same (shown v.wires o) x ≡ false = sym (et ∙ ap (λ (u : Value). same u x) eo) ∙ h in
      rw q (e₂ ∙ ap (λ (u : Values). with_wires u (mark_readers c u.wires o)) e₁)
