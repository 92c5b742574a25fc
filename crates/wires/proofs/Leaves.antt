-- What the functions that read and write the tables come to: one law for each way out of one.
use Rattle.std.proofs.Common.{◌≡◌, ℕ, ◌+◌, ◌*◌, ◌/◌, ◌%◌, ◌^◌, ◌<◌, ◌≤◌, min, Bool, true, false, not, ◌||◌, eqb, leb, List, map, length, get_or, take, set, sym, refl, ap, ◌∙◌, ap₂, add-one, arith, length-take, get_or-take, get_or-set_same, ne_eqb, le-leb}
use mathlib.Core.Bool.{or-true}
use borrow.Author.Tests.{lt-leb}
use lib.Bits.{bit_or, bit_xor}
use lib.ListN.{get_or-eq_default}
use lib.Seq.{set_out, set-get_or}
use Rattle.words.specs.Words.{words, Stored}
use Rattle.words.specs.Tables.{marked, digits}
use Rattle.words.proofs.Tables.{take_set, digits_length, digits_get, digits_or, digits_xor, one_digit, map_marked_set, map_marked_get, ring_length, ring_push}
use Rattle.model.specs.declared.Value.{Value}
use Rattle.model.specs.declared.Value.TheVariants.{Nothing}
use Rattle.model.specs.Base.{if◌then◌otherwise◌, both, snoc}
use Rattle.model.specs.Value.{content_of}
use Rattle.model.specs.Circuit.{Circuit}
use Rattle.model.specs.State.{Wires, outs≔, dirty≔, to_check≔, late_checks≔}
use Rattle.model.specs.Wires.{shown, show, is_dirty, is_clean, soil, clean, watch, watch_for}
use Rattle.links.specs.Links.{cell, net}
use Rattle.links.proofs.Reading.{inputs_counted}
use Rattle.wires.specs.Held.{held, tag_of}
use Rattle.wires.specs.View.{cut, with_wires, values}
use Rattle.wires.specs.Marking.{Area, area_with, area}
use Rattle.wires.proofs.Lists.{both_set, both_get}
use Rattle.wires.proofs.Area.{cut_poke, cut_peek, sized}
use Rattle.wires.proofs.Tags.{held_again}

-- a count that the code has read is that of the circuit, and at most the table's
abbrev pub Counts : ℕ → ℕ → ℕ → Type 0
Counts most n m = (n ≡ m) × (n ≤ most)

-- ---- marks

-- a mark of a table that has a word for each
flag_at : (k i x : ℕ) (xs : List ℕ) (d : Bool) → i < k → i < length xs → x ≡ get_or xs i 0 → get_or (take k (map marked xs)) i d ≡ marked x
flag_at k i x xs d h l e = get_or-take k (map marked xs) i d h ∙ map_marked_get xs i d l ∙ ap marked (sym e)

-- no mark there, where its digit is 0
pub unmarked_at : (k g d : ℕ) (b : Bool) → g < k → eqb (d / 2 ^ g % 2) 0 ≡ not (get_or (digits k d) g b)
unmarked_at k g d b h = not_not (eqb (d / 2 ^ g % 2) 0) ∙ ap not (sym (digits_get k d g b h))
  where
    not_not : (b : Bool) → b ≡ not (not b)
    not_not true = refl
    not_not false = refl

-- ---- outputs

module _ (c : Circuit) (bs : List ℕ) (o n : ℕ) (en : Counts 576 n (length c.outputs)) where
  pub shown_in :
      (k b : ℕ) (r : Value) → 65536 ≤ length bs → o < n → k ≡ get_or (words bs) (8 + o) 0 → b ≡ get_or (words bs) (584 + o) 0 →
      r ≡ held k b → r ≡ shown (values c bs).wires o
  unfolding values shown
  shown_in k b r l h ek eb er =
      let t = cut (words bs) in
      let mk : length t.out_tags ≡ 576 = sized bs 8 l (omega arith) (omega arith) in
      let mb : length t.out_contents ≡ 576 = sized bs 9 l (omega arith) (omega arith) in
      let pk : k ≡ get_or t.out_tags o 0 = ek ∙ cut_peek (words bs) 8 o (omega arith) in
      let pb : b ≡ get_or t.out_contents o 0 = eb ∙ cut_peek (words bs) 9 o (omega arith) in
      er ∙ ap₂ held pk pb
      ∙ sym (get_or-take (length c.outputs) (both held t.out_tags t.out_contents) o Nothing (omega (arith, en.0))
      ∙ both_get held t.out_tags t.out_contents o 0 0 Nothing (omega arith) (omega arith))

  outs_few : length (values c bs).wires.outs ≤ n
  unfolding values
  outs_few = omega (arith, en.0, length-take (length c.outputs) (both held (cut (words bs)).out_tags (cut (words bs)).out_contents))

  pub shown_out : n ≤ o → Nothing ≡ shown (values c bs).wires o
  unfolding shown
  shown_out h = sym (get_or-eq_default (values c bs).wires.outs Nothing {n = o} (omega (arith, outs_few)))

  pub show_in :
      (bs₁ bs₂ : List ℕ) (k b : ℕ) (v : Value) → o < n → k ≡ tag_of v → Stored bs bs₁ (8 + o) k → b ≡ content_of v → Stored bs₁ bs₂ (584 + o) b →
      values c bs₂ ≡ with_wires (values c bs) (show (values c bs).wires o v)
  unfolding values show outs≔
  show_in bs₁ bs₂ k b v h ek e₁ eb e₂ =
      rw (
        e₂.words,
        cut_poke (words bs₁) 9 o b (omega arith),
        e₁.words,
        cut_poke (words bs) 8 o k (omega arith),
        e₂.tail,
        e₁.tail,
        ek,
        eb,
        both_set held (cut (words bs)).out_tags (cut (words bs)).out_contents o (tag_of v) (content_of v),
        take_set (length c.outputs) (both held (cut (words bs)).out_tags (cut (words bs)).out_contents) o (held (tag_of v) (content_of v)),
        held_again v,
      )

  pub show_out : (v : Value) → n ≤ o → values c bs ≡ with_wires (values c bs) (show (values c bs).wires o v)
  unfolding show outs≔
  show_out v h = rw (set_out (values c bs).wires.outs o v (omega (arith, outs_few)))

-- ---- stale gates

module _ (c : Circuit) (bs : List ℕ) (d : ℕ) (ed : d ≡ get_or (words bs) 3 0) where
  dirty_word : d ≡ get_or (cut (words bs)).dirty 0 0
  dirty_word = ed ∙ cut_peek (words bs) 3 0 (omega arith)

  pub the_dirty : digits (length c.kinds) d ≡ (values c bs).wires.dirty
  unfolding values
  the_dirty = ap (digits (length c.kinds)) dirty_word

pub dirty_put :
    (c : Circuit) (bs bs₁ : List ℕ) (x : ℕ) → 65536 ≤ length bs → Stored bs bs₁ 3 x →
    area c bs₁ ≡ area_with (area c bs) (dirty≔ (values c bs).wires (digits (length c.kinds) x))
unfolding area values dirty≔
dirty_put c bs bs₁ x l e =
    let m : length (cut (words bs)).dirty ≡ 1 = sized bs 3 l (omega arith) (omega arith) in
    rw (e.words, cut_poke (words bs) 3 0 x (omega arith), e.tail, get_or-set_same (cut (words bs)).dirty 0 x 0 (omega arith))

module _ (c : Circuit) (bs : List ℕ) (g n : ℕ) (en : Counts 64 n (length c.kinds)) where
  pub dirty_in : (d : ℕ) → g < n → d ≡ get_or (words bs) 3 0 → marked (d / 2 ^ g % 2) ≡ is_dirty (values c bs).wires g
  unfolding values is_dirty
  dirty_in d h e = rw (dirty_word c bs d e) (sym (digits_get (length c.kinds) (get_or (cut (words bs)).dirty 0 0) g false (omega (arith, en.0))))

  pub clean_in : (d : ℕ) → g < n → d ≡ get_or (words bs) 3 0 → eqb (d / 2 ^ g % 2) 0 ≡ is_clean (values c bs).wires g
  unfolding values is_clean
  clean_in d h e = rw (dirty_word c bs d e) (unmarked_at (length c.kinds) g (get_or (cut (words bs)).dirty 0 0) true (omega (arith, en.0)))

  dirty_length : length (values c bs).wires.dirty ≡ n
  unfolding values
  dirty_length = digits_length _ _ ∙ sym en.0

  pub dirty_out : n ≤ g → false ≡ is_dirty (values c bs).wires g
  unfolding is_dirty
  dirty_out h = sym (get_or-eq_default (values c bs).wires.dirty false {n = g} (omega (arith, dirty_length)))

  pub clean_out : n ≤ g → false ≡ is_clean (values c bs).wires g
  unfolding is_clean
  clean_out h = ap not (sym (get_or-eq_default (values c bs).wires.dirty true {n = g} (omega (arith, dirty_length))))

  pub soil_in :
      (bs₁ : List ℕ) → 65536 ≤ length bs → g < n → Stored bs bs₁ 3 (bit_or (get_or (words bs) 3 0) (2 ^ g)) →
      area c bs₁ ≡ area_with (area c bs) (soil (area c bs).values.wires g)
  unfolding soil area
  soil_in bs₁ l h s =
      dirty_put c bs bs₁ (bit_or (get_or (words bs) 3 0) (2 ^ g)) l s
      ∙ ap (λ (x : List Bool). area_with (area c bs) (dirty≔ (values c bs).wires x))
      (digits_or (length c.kinds) (get_or (words bs) 3 0) g ∙ ap (λ (x : List Bool). set x g true) (the_dirty c bs (get_or (words bs) 3 0) refl))

  pub soil_out : n ≤ g → area c bs ≡ area_with (area c bs) (soil (area c bs).values.wires g)
  unfolding soil area dirty≔
  soil_out h = rw (set_out (values c bs).wires.dirty g true (omega (arith, dirty_length)))

  module _ (d : ℕ) (h : g < n) (e : d ≡ get_or (words bs) 3 0) where
    dirty_at : get_or (values c bs).wires.dirty g false ≡ marked (d / 2 ^ g % 2)
    dirty_at = ap (λ (x : List Bool). get_or x g false) (sym (the_dirty c bs d e)) ∙ digits_get (length c.kinds) d g false (omega (arith, en.0))

    pub cleaned :
        (bs₁ : List ℕ) → 65536 ≤ length bs → (d / 2 ^ g % 2 ≡ 0 → ⊥) → Stored bs bs₁ 3 (bit_xor d (1 * 2 ^ g % 2 ^ 64)) →
        values c bs₁ ≡ with_wires (values c bs) (clean (values c bs).wires g)
    unfolding clean area
    cleaned bs₁ l f s =
        let m : get_or (digits (length c.kinds) d) g false ≡ true = ap (λ (x : List Bool). get_or x g false) (the_dirty c bs d e) ∙ dirty_at ∙ ap not (ne_eqb (d / 2 ^ g % 2) 0 f) in
        ap (λ (a : Area). a.values) (dirty_put c bs bs₁ (bit_xor d (1 * 2 ^ g % 2 ^ 64)) l s)
        ∙ ap (λ (x : List Bool). with_wires (values c bs) (dirty≔ (values c bs).wires x))
        (ap (λ (x : ℕ). digits (length c.kinds) (bit_xor d x)) (one_digit g (omega arith)) ∙ digits_xor (length c.kinds) d g m ∙ ap (λ (x : List Bool). set x g false) (the_dirty c bs d e))

    pub clean_already : d / 2 ^ g % 2 ≡ 0 → values c bs ≡ with_wires (values c bs) (clean (values c bs).wires g)
    unfolding clean dirty≔
    clean_already z =
        let q : set (values c bs).wires.dirty g false ≡ (values c bs).wires.dirty =
        ap (λ (b : Bool). set (values c bs).wires.dirty g b) (sym (dirty_at ∙ ap marked z)) ∙ set-get_or (values c bs).wires.dirty g false in
        rw q

  pub clean_past : n ≤ g → values c bs ≡ with_wires (values c bs) (clean (values c bs).wires g)
  unfolding clean dirty≔
  clean_past h = rw (set_out (values c bs).wires.dirty g false (omega (arith, dirty_length)))

-- ---- inputs that wait

stays : (w : Wires) (i : ℕ) → (get_or w.queued i true || leb 640 (length w.to_check)) ≡ true → watch w i ≡ w
unfolding watch if◌then◌otherwise◌
stays w i e = rw e

goes :
    (w : Wires) (i : ℕ) → get_or w.queued i true ≡ false → leb 640 (length w.to_check) ≡ false →
    watch w i ≡ to_check≔ w (snoc w.to_check i) (set w.queued i true)
unfolding watch if◌then◌otherwise◌
goes w i a b = rw (a, b)

pub count_word : (c : Circuit) (bs : List ℕ) (m : ℕ) → m ≡ get_or (words bs) 6 0 → length (values c bs).wires.to_check ≡ m
unfolding values
count_word c bs m e = ring_length _ _ _ ∙ sym (cut_peek (words bs) 6 0 (omega arith)) ∙ sym e

module _ (c : Circuit) (bs : List ℕ) (i n : ℕ) (en : Counts 640 n (length c.pins)) where
  queued_word : (x : ℕ) → 65536 ≤ length bs → i < n → x ≡ get_or (words bs) (1160 + i) 0 → get_or (values c bs).wires.queued i true ≡ marked x
  unfolding values
  queued_word x l h e =
      let m : length (cut (words bs)).queued ≡ 640 = sized bs 10 l (omega arith) (omega arith) in
      flag_at (length c.pins) i x (cut (words bs)).queued true (omega (arith, en.0)) (omega arith) (e ∙ cut_peek (words bs) 10 i (omega arith))

  pub queued_few : length (values c bs).wires.queued ≤ n
  unfolding values
  queued_few = omega (arith, en.0, length-take (length c.pins) (map marked (cut (words bs)).queued))

  unwatched : (get_or (values c bs).wires.queued i true || leb 640 (length (values c bs).wires.to_check)) ≡ true → area c bs ≡ area_with (area c bs) (watch (area c bs).values.wires i)
  unfolding area
  unwatched e = ap (λ (w : Wires). area_with (area c bs) w) (sym (stays (values c bs).wires i e))

  pub watch_past : n ≤ i → area c bs ≡ area_with (area c bs) (watch (area c bs).values.wires i)
  watch_past h = unwatched (ap (λ (b : Bool). b || leb 640 (length (values c bs).wires.to_check)) (get_or-eq_default (values c bs).wires.queued true {n = i} (omega (arith, queued_few))))

  module _ (x : ℕ) (l : 65536 ≤ length bs) (h : i < n) (ex : x ≡ get_or (words bs) (1160 + i) 0) where
    pub watch_already : (x ≡ 0 → ⊥) → area c bs ≡ area_with (area c bs) (watch (area c bs).values.wires i)
    watch_already f = unwatched (ap (λ (b : Bool). b || leb 640 (length (values c bs).wires.to_check)) (queued_word x l h ex ∙ ap not (ne_eqb x 0 f)))

    module _ (m : ℕ) (z : x ≡ 0) (em : m ≡ get_or (words bs) 6 0) where
      pub watch_full : 640 ≤ m → area c bs ≡ area_with (area c bs) (watch (area c bs).values.wires i)
      watch_full k =
          unwatched (ap (λ (b : Bool). get_or (values c bs).wires.queued i true || b) (le-leb 640 (length (values c bs).wires.to_check) (omega (arith, count_word c bs m em))) ∙ or-true (get_or (values c bs).wires.queued i true))

      joins :
          (p : ℕ) (bs₁ bs₂ bs₃ : List ℕ) → m < 640 → p ≡ get_or (words bs) 5 0 → Stored bs bs₁ (1160 + i) 1 → Stored bs₁ bs₂ (1800 + (p % 1024 + m) % 1024) i →
          Stored bs₂ bs₃ 6 (m + 1) → area c bs₃ ≡ area_with (area c bs) (to_check≔ (values c bs).wires (snoc (values c bs).wires.to_check i) (set (values c bs).wires.queued i true))
      unfolding area values to_check≔ snoc
      joins p bs₁ bs₂ bs₃ k ep e₁ e₂ e₃ =
          let t = cut (words bs) in
          let a : length t.count ≡ 1 = sized bs 6 l (omega arith) (omega arith) in
          let b : length t.slots ≡ 1024 = sized bs 11 l (omega arith) (omega arith) in
          let q : m ≡ get_or t.count 0 0 = em ∙ cut_peek (words bs) 6 0 (omega arith) in
          let r : p ≡ get_or t.head 0 0 = ep ∙ cut_peek (words bs) 5 0 (omega arith) in
          rw (
            e₃.words,
            cut_poke (words bs₂) 6 0 (m + 1) (omega arith),
            e₂.words,
            cut_poke (words bs₁) 11 ((p % 1024 + m) % 1024) i (omega arith),
            e₁.words,
            cut_poke (words bs) 10 i 1 (omega arith),
            e₃.tail,
            e₂.tail,
            e₁.tail,
            get_or-set_same t.count 0 (m + 1) 0 (omega arith),
            map_marked_set t.queued i 1,
            take_set (length c.pins) (map marked t.queued) i true,
            add-one,
            ← q,
            ← r,
            ring_push m p i t.slots (omega arith) b,
          )

      pub watch_in :
          (p : ℕ) (bs₁ bs₂ bs₃ : List ℕ) → m < 640 → p ≡ get_or (words bs) 5 0 → Stored bs bs₁ (1160 + i) 1 → Stored bs₁ bs₂ (1800 + (p % 1024 + m) % 1024) i →
          Stored bs₂ bs₃ 6 (m + 1) → area c bs₃ ≡ area_with (area c bs) (watch (area c bs).values.wires i)
      unfolding area
      watch_in p bs₁ bs₂ bs₃ k ep e₁ e₂ e₃ =
          let a : get_or (values c bs).wires.queued i true ≡ false = queued_word x l h ex ∙ ap marked z in
          let b : leb 640 (length (values c bs).wires.to_check) ≡ false = lt-leb 640 (length (values c bs).wires.to_check) (omega (arith, count_word c bs m em)) in
          joins p bs₁ bs₂ bs₃ k ep e₁ e₂ e₃ ∙ ap (λ (w : Wires). area_with (area c bs) w) (sym (goes (values c bs).wires i a b))

-- ---- inputs marked for a late check

module _ (c : Circuit) (bs : List ℕ) (i : ℕ) where
  late_off : (x : ℕ) → x ≡ get_or (words bs) 5461 0 → x ≡ 0 → (area c bs).late ≡ false
  unfolding area
  late_off x e z = ap marked (sym (e ∙ cut_peek (words bs) 22 0 (omega arith)) ∙ z)

  late_on : (x : ℕ) → x ≡ get_or (words bs) 5461 0 → (x ≡ 0 → ⊥) → (area c bs).late ≡ true
  unfolding area
  late_on x e f = ap marked (sym (e ∙ cut_peek (words bs) 22 0 (omega arith))) ∙ ap not (ne_eqb x 0 f)

  -- marked, if marking is for a late check
  abbrev marked_late : Wires → Wires
  marked_late w = if (area c bs).late then late_checks≔ w (set w.late_checks i true) otherwise w

  pub mark_not_late : (x : ℕ) → x ≡ get_or (words bs) 5461 0 → x ≡ 0 → area c bs ≡ area_with (area c bs) (marked_late (area c bs).values.wires)
  unfolding if◌then◌otherwise◌
  mark_not_late x ex z = rw (late_off x ex z) refl

module _ (c : Circuit) (bs : List ℕ) (i n : ℕ) (en : Counts 640 n (length c.pins)) where
  pub late_few : length (values c bs).wires.late_checks ≤ n
  unfolding values
  late_few = omega (arith, en.0, length-take (length c.pins) (map marked (cut (words bs)).late_checks))

  pub late_in : (x : ℕ) → 65536 ≤ length bs → i < n → x ≡ get_or (words bs) (4818 + i) 0 → marked x ≡ get_or (values c bs).wires.late_checks i false
  unfolding values
  late_in x l h e =
      let m : length (cut (words bs)).late_checks ≡ 640 = sized bs 18 l (omega arith) (omega arith) in
      sym (flag_at (length c.pins) i x (cut (words bs)).late_checks false (omega (arith, en.0)) (omega arith) (e ∙ cut_peek (words bs) 18 i (omega arith)))

  pub late_past : n ≤ i → false ≡ get_or (values c bs).wires.late_checks i false
  late_past h = sym (get_or-eq_default (values c bs).wires.late_checks false {n = i} (omega (arith, late_few)))

late_most : (l bs : List ℕ) → length (values (net l) bs).wires.late_checks ≤ 640
late_most l bs = let n = inputs_counted l (min (cell l 2) 640) refl in omega (arith, n.1, late_few (net l) bs 0 _ n)

module _ (l bs : List ℕ) (i x : ℕ) (ex : x ≡ get_or (words bs) 5461 0) (f : x ≡ 0 → ⊥) where
  pub mark_late_in : (bs₁ : List ℕ) → i < 640 → Stored bs bs₁ (4818 + i) 1 → area (net l) bs₁ ≡ area_with (area (net l) bs) (marked_late (net l) bs i (area (net l) bs).values.wires)
  mark_late_in bs₁ h e = put ∙ ap (area_with (area (net l) bs)) (unfold if◌then◌otherwise◌ in rw (late_on (net l) bs i x ex f) refl)
    where
      put : area (net l) bs₁ ≡ area_with (area (net l) bs) (late_checks≔ (area (net l) bs).values.wires (set (area (net l) bs).values.wires.late_checks i true))
      put = unfold area values late_checks≔ in rw (
        e.words,
        cut_poke (words bs) 18 i 1 (omega arith),
        e.tail,
        map_marked_set (cut (words bs)).late_checks i 1,
        take_set (length (net l).pins) (map marked (cut (words bs)).late_checks) i true,
      )

  -- no circuit has that input
  pub mark_late_past : 640 ≤ i → area (net l) bs ≡ area_with (area (net l) bs) (marked_late (net l) bs i (area (net l) bs).values.wires)
  unfolding if◌then◌otherwise◌
  mark_late_past h = rw (late_on (net l) bs i x ex f) (unfold area late_checks≔ in rw (set_out (values (net l) bs).wires.late_checks i true (omega (arith, late_most l bs))))

-- an input may be marked for a late check before it waits, or after
late_after :
    (late : Bool) (w : Wires) (i : ℕ) → (if late then late_checks≔ (watch w i) (set (watch w i).late_checks i true) otherwise watch w i) ≡ watch_for late w i
unfolding watch_for if◌then◌otherwise◌ watch late_checks≔ to_check≔
late_after false w i = refl
late_after true w i = go (get_or w.queued i true || leb 640 (length w.to_check))
  where
    go : (b : Bool) → late_checks≔ (if b then w otherwise to_check≔ w (snoc w.to_check i) (set w.queued i true)) (set (if b then w otherwise to_check≔ w (snoc w.to_check i) (set w.queued i true)).late_checks i true)
        ≡ (if b then late_checks≔ w (set w.late_checks i true) otherwise to_check≔ (late_checks≔ w (set w.late_checks i true)) (snoc w.to_check i) (set w.queued i true))
    go true = unfold if◌then◌otherwise◌ in refl
    go false = unfold if◌then◌otherwise◌ late_checks≔ to_check≔ in refl

pub watched_for :
    (a a₁ a₂ : Area) (i : ℕ) → a₁ ≡ area_with a (watch a.values.wires i) →
    a₂ ≡ area_with a₁ (if a₁.late then late_checks≔ a₁.values.wires (set a₁.values.wires.late_checks i true) otherwise a₁.values.wires) →
    a₂ ≡ area_with a (watch_for a.late a.values.wires i)
watched_for a a₁ a₂ i e₁ e₂ =
    e₂
    ∙ ap (λ (x : Area). area_with x (if x.late then late_checks≔ x.values.wires (set x.values.wires.late_checks i true) otherwise x.values.wires)) e₁
    ∙ ap (area_with a) (late_after a.late a.values.wires i)
