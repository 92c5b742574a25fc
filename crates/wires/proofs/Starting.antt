-- The wires at the start of a run: the area cleared, gates prepared, first checks awaited.
use Rattle.std.proofs.Common.{◌≡◌, ℕ, zero, suc, ◌+◌, ◌<◌, ◌≤◌, min, Bool, true, false, eqb, leb, List, [], ◌∷◌, ◌++◌, map, length, get_or, take, drop, set, replicate, sym, refl, ap, ◌∙◌, ap₂, append_assoc, suc-add, zero-add, add-one, arith, length-append, drop-cons, drop-drop, take_at, ext_get_or, drop_at, ne_eqb, leb-true}
use lib.ListN.{length-map, get_or-map}
use lib.Seq.{set_at, set-append_seam}
use Rattle.words.specs.Words.{words, tail, Stored}
use Rattle.words.specs.Tables.{tables, base, marked, digits, marks, ring}
use Rattle.words.proofs.Laws.{words_long}
use Rattle.words.proofs.Tables.{marks_length}
use Rattle.model.specs.declared.Value.{Value}
use Rattle.model.specs.Base.{if◌then◌otherwise◌, both, keep, each, from}
use Rattle.model.specs.Value.{value_of}
use Rattle.wires.specs.Held.{held_by, held}
use Rattle.model.specs.Kinds.{pure}
use Rattle.model.specs.Circuit.{Circuit, kind_of_gate, output, setting, watching, gates_of, gates_such}
use Rattle.model.specs.State.{Wires, outs≔, dirty≔}
use Rattle.model.specs.Wires.{show, soil, watch, refresh_all}
use Rattle.model.specs.Opening.{wires_fresh, wires_at_start}
use Rattle.model.proofs.Lists.{both_true, each_such, from_length, map_from}
use Rattle.links.specs.Links.{cell, net}
use Rattle.links.proofs.Reading.{inputs_counted, outputs_counted}
use Rattle.wires.specs.View.{sizes, of, cut, last_of, pulse_of, Values, with_wires, values}
use Rattle.wires.specs.Marking.{Area, area_with, area}
use Rattle.wires.specs.Start.{blank, prepared, awaited}

-- ---- the area cleared

-- n words 0
unfoldable pub zeros : ℕ → List ℕ
zeros zero = []
zeros (suc n) = 0 ∷ zeros n

zeros_length : (n : ℕ) → length (zeros n) ≡ n
unfolding zeros
zeros_length zero = refl
zeros_length (suc n) = ap suc (zeros_length n)

zeros_add : (a b : ℕ) → zeros (a + b) ≡ zeros a ++ zeros b
unfolding zeros
zeros_add zero b = ap zeros (zero-add b)
zeros_add (suc a) b = rw (suc-add a b) (ap (λ (l : List ℕ). 0 ∷ l) (zeros_add a b))

zeros_more : (k : ℕ) (r : List ℕ) → zeros k ++ 0 ∷ r ≡ zeros (k + 1) ++ r
unfolding zeros
zeros_more zero r = refl
zeros_more (suc k) r = ap (λ (l : List ℕ). 0 ∷ l) (zeros_more k r) ∙ ap (λ (n : ℕ). zeros n ++ r) (let e : suc (k + 1) ≡ suc k + 1 = omega arith in e)

pub clear_first : (bs : List ℕ) → words bs ≡ zeros 0 ++ drop 0 (words bs)
unfolding zeros
clear_first bs = refl

pub clear_next :
    (bs₀ bs bs₁ : List ℕ) (k : ℕ) → 65536 ≤ length bs₀ → k < 5462 → words bs ≡ zeros k ++ drop k (words bs₀) → Stored bs bs₁ k 0 →
    words bs₁ ≡ zeros (k + 1) ++ drop (k + 1) (words bs₀)
clear_next bs₀ bs bs₁ k l h e s =
    let m : k < length (words bs₀) = omega (arith, words_long 8192 bs₀ (omega arith)) in
    s.words
    ∙ ap (λ (w : List ℕ). set w k 0) (e ∙ ap (λ (r : List ℕ). zeros k ++ r) (drop-cons (words bs₀) k 0 m))
    ∙ set_at (zeros k) (get_or (words bs₀) k 0) (drop (suc k) (words bs₀)) 0 k (zeros_length k)
    ∙ zeros_more k (drop (suc k) (words bs₀))
    ∙ ap (λ (n : ℕ). zeros (k + 1) ++ drop n (words bs₀)) (sym (add-one k))

abbrev zero_tables : List ℕ → List (List ℕ)
zero_tables [] = []
zero_tables (n ∷ ns) = zeros n ∷ zero_tables ns

tables_zeros : (ns r : List ℕ) → tables ns (zeros (base ns (length ns)) ++ r) ≡ zero_tables ns ++ (r ∷ [])
tables_zeros [] r = unfold zeros in refl
tables_zeros (n ∷ ns) r =
    rw (
      zeros_add n (base ns (length ns)),
      append_assoc (zeros n) (zeros (base ns (length ns))) r,
      take_at (zeros n) (zeros (base ns (length ns)) ++ r) n (zeros_length n),
      drop_at (zeros n) (zeros (base ns (length ns)) ++ r) n (zeros_length n),
      tables_zeros ns r,
    )

tables_rest : (ns ws : List ℕ) → get_or (tables ns ws) (length ns) [] ≡ drop (base ns (length ns)) ws
tables_rest [] ws = refl
tables_rest (n ∷ ns) ws = tables_rest ns (drop n ws) ∙ drop-drop (base ns (length ns)) n ws

rest_is : (ws : List ℕ) → (cut ws).rest ≡ drop 5462 ws
unfolding cut
rest_is ws = tables_rest sizes ws

cut_zeros : (r : List ℕ) → cut (zeros 5462 ++ r) ≡ of (zero_tables sizes ++ (r ∷ []))
unfolding cut
cut_zeros r = ap of (tables_zeros sizes r)

one_zero : get_or (zeros 1) 0 0 ≡ 0
unfolding zeros
one_zero = refl

rows : {A : Type 0} (f : ℕ → ℕ → A) (k m : ℕ) → k ≤ m → take k (both f (zeros m) (zeros m)) ≡ replicate k (f 0 0)
unfolding zeros both
rows f zero m h = refl
rows f (suc k) zero h = absurd (omega arith)
rows f (suc k) (suc m) h = ap (λ (l : List _). f 0 0 ∷ l) (rows f k m (omega arith))

flags : (k m : ℕ) → k ≤ m → take k (map marked (zeros m)) ≡ replicate k false
unfolding zeros
flags zero m h = refl
flags (suc k) zero h = absurd (omega arith)
flags (suc k) (suc m) h = ap (λ (l : List Bool). false ∷ l) (flags k m (omega arith))

downs : (bs : List Bool) (k m : ℕ) → k ≤ m → k ≤ length bs → take k (both pulse_of bs (zeros m)) ≡ replicate k 0
unfolding zeros both pulse_of
downs bs zero m h l = refl
downs bs (suc k) zero h l = absurd (omega arith)
downs [] (suc k) (suc m) h l = absurd (omega arith)
downs (true ∷ bs) (suc k) (suc m) h l = ap (λ (r : List ℕ). 0 ∷ r) (downs bs k m (omega arith) (omega arith))
downs (false ∷ bs) (suc k) (suc m) h l = ap (λ (r : List ℕ). 0 ∷ r) (downs bs k m (omega arith) (omega arith))

no_digits : (n : ℕ) → digits n 0 ≡ replicate n false
unfolding digits
no_digits zero = refl
no_digits (suc n) = ap (λ (l : List Bool). false ∷ l) (no_digits n)

pub cleared :
    (c : Circuit) (bs₀ bs : List ℕ) → length c.outputs ≤ 576 → length c.pins ≤ 640 → words bs ≡ zeros 5462 ++ drop 5462 (words bs₀) → tail bs ≡ tail bs₀ →
    values c bs ≡ with_wires (values c bs₀) (blank c)
unfolding values blank ring held held_by value_of last_of
cleared c bs₀ bs lo li ew et =
    let m : length (marks (zeros 9)) ≡ 576 = marks_length (zeros 9) ∙ (let q = zeros_length 9 in omega arith) in
    rw (
      ew,
      cut_zeros (drop 5462 (words bs₀)),
      et,
      rest_is (words bs₀),
      one_zero,
      rows held (length c.outputs) 576 lo,
      rows last_of (length c.pins) 640 li,
      flags (length c.pins) 640 li,
      downs (marks (zeros 9)) (length c.outputs) 576 lo (omega arith),
      no_digits (length c.kinds),
    )

pub clear_last :
    (l bs₀ bs : List ℕ) (k : ℕ) → k ≤ 5462 → 5462 ≤ k → words bs ≡ zeros k ++ drop k (words bs₀) → tail bs ≡ tail bs₀ →
    values (net l) bs ≡ with_wires (values (net l) bs₀) (blank (net l))
clear_last l bs₀ bs k h m ew et =
    let e : k ≡ 5462 = omega arith in
    cleared (net l) bs₀ bs (omega (arith, outputs_counted l (min (cell l 3) 576) refl)) (omega (arith, inputs_counted l (min (cell l 2) 640) refl))
    (ew ∙ ap (λ (n : ℕ). zeros n ++ drop n (words bs₀)) e) et

-- ---- rows filled from left to right

pub fill_all :
    {A : Type 0} (f : ℕ → A) (d : A) (s : List A → ℕ → List A) → ((xs r : List A) → s (xs ++ d ∷ r) (length xs) ≡ xs ++ f (length xs) ∷ r) →
    (xs : List A) (k : ℕ) → each s (xs ++ replicate k d) (from (length xs) k) ≡ xs ++ map f (from (length xs) k)
unfolding each from
fill_all f d s h xs zero = refl
fill_all {A} f d s h xs (suc k) =
    let n : length (xs ++ (f (length xs) ∷ [])) ≡ suc (length xs) = omega (arith, length-append xs (f (length xs) ∷ [])) in
    ap (λ (l : List A). each s l (from (suc (length xs)) k)) (h xs (replicate k d) ∙ sym (append_assoc xs (f (length xs) ∷ []) (replicate k d)))
    ∙ ap (λ (i : ℕ). each s (xs ++ (f (length xs) ∷ []) ++ replicate k d) (from i k)) (sym n)
    ∙ fill_all f d s h (xs ++ (f (length xs) ∷ [])) k
    ∙ append_assoc xs (f (length xs) ∷ []) (map f (from (length (xs ++ (f (length xs) ∷ []))) k))
    ∙ ap (λ (i : ℕ). xs ++ f (length xs) ∷ map f (from i k)) n

map_places : {B : Type 0} (p : ℕ → B) (xs : List ℕ) → map (λ g. p (get_or xs g 0)) (from 0 (length xs)) ≡ map p xs
map_places p xs =
    ext_get_or (p 0) _ _ (length-map (from 0 (length xs)) (λ g. p (get_or xs g 0)) ∙ from_length 0 (length xs) ∙ sym (length-map xs p))
    λ i h. map_from (λ g. p (get_or xs g 0)) 0 (length xs) i (p 0) (omega (arith, length-map (from 0 (length xs)) (λ g. p (get_or xs g 0)), from_length 0 (length xs)))
    ∙ ap (λ (j : ℕ). p (get_or xs j 0)) (zero-add i) ∙ sym (get_or-map p xs i 0)

-- ---- gates prepared

pure_not_var : (k : ℕ) → pure k ≡ true → eqb k 5 ≡ false
unfolding pure
pure_not_var k e = let l = leb-true k 4 (both_true (leb 1 k) (leb k 4) e).1 in ne_eqb k 5 (λ q. omega arith)

module _ (c : Circuit) where
  -- a pure gate's mark, a Var's initial
  unfoldable mark_pure : List Bool → ℕ → List Bool
  mark_pure ds g = if pure (kind_of_gate c g) then set ds g true otherwise ds

  unfoldable put_initial : List Value → ℕ → List Value
  put_initial vs g = set vs (output c g 0) (setting c g 0)

  prepared_all :
      (w : Wires) (gs : List ℕ) →
      each (prepared c) w gs ≡ outs≔ (dirty≔ w (each mark_pure w.dirty gs)) (each put_initial w.outs (keep (λ g. eqb (kind_of_gate c g) 5) gs))
  unfolding each keep prepared mark_pure put_initial if◌then◌otherwise◌ outs≔ dirty≔ soil show
  prepared_all w [] = refl
  prepared_all w (g ∷ gs) = go (pure (kind_of_gate c g)) (eqb (kind_of_gate c g) 5) refl refl (λ v. prepared_all v gs)
    where
      go :
          (p q : Bool) → pure (kind_of_gate c g) ≡ p → eqb (kind_of_gate c g) 5 ≡ q →
          ((v : Wires) → each (prepared c) v gs ≡ outs≔ (dirty≔ v (each mark_pure v.dirty gs)) (each put_initial v.outs (keep (λ g. eqb (kind_of_gate c g) 5) gs))) →
          each (prepared c) w (g ∷ gs) ≡ outs≔ (dirty≔ w (each mark_pure w.dirty (g ∷ gs))) (each put_initial w.outs (keep (λ g. eqb (kind_of_gate c g) 5) (g ∷ gs)))
      go true q e f rec = let n = pure_not_var (kind_of_gate c g) e in rw (e, n, each, keep) (rec (soil w g))
      go false true e f rec = rw (e, f, each, keep) (rec (show w (output c g 0) (setting c g 0)))
      go false false e f rec = rw (e, f, each, keep) (rec w)

  marked_all : each mark_pure (replicate (length c.kinds) false) (from 0 (length c.kinds)) ≡ map pure c.kinds
  unfolding kind_of_gate
  marked_all = fill_all (λ g. pure (kind_of_gate c g)) false mark_pure seam [] (length c.kinds) ∙ map_places pure c.kinds
    where
      seam : (xs r : List Bool) → mark_pure (xs ++ false ∷ r) (length xs) ≡ xs ++ pure (kind_of_gate c (length xs)) ∷ r
      seam xs r = unfold mark_pure if◌then◌otherwise◌ in go (pure (kind_of_gate c (length xs)))
        where
          go : (b : Bool) → (if b then set (xs ++ false ∷ r) (length xs) true otherwise (xs ++ false ∷ r)) ≡ xs ++ b ∷ r
          go true = unfold if◌then◌otherwise◌ in set-append_seam xs false r true
          go false = unfold if◌then◌otherwise◌ in refl

  prepared_blank : refresh_all c (each (prepared c) (blank c) (from 0 (length c.kinds))) ≡ wires_fresh c
  unfolding wires_fresh blank gates_of gates_such put_initial kind_of_gate outs≔ dirty≔
  prepared_blank =
      ap (refresh_all c)
      (prepared_all (blank c) (from 0 (length c.kinds))
      ∙ ap (λ (ds : List Bool). outs≔ (dirty≔ (blank c) ds) (each put_initial (blank c).outs (keep (λ g. eqb (kind_of_gate c g) 5) (from 0 (length c.kinds))))) marked_all)

  pub prepare_pure :
      (bs bs₁ : List ℕ) (g k : ℕ) (b : Bool) → k ≡ kind_of_gate c g → b ≡ pure k → b ≡ true → area c bs₁ ≡ area_with (area c bs) (soil (area c bs).values.wires g) →
      values c bs₁ ≡ with_wires (values c bs) (prepared c (values c bs).wires g)
  unfolding prepared if◌then◌otherwise◌ area
  prepare_pure bs bs₁ g k b ek eb h e =
      let t : pure (kind_of_gate c g) ≡ true = sym (eb ∙ ap pure ek) ∙ h in
      rw t (ap (λ (a : Area). a.values) e)

  module _ (v : Values) (g k : ℕ) (b : Bool) (ek : k ≡ kind_of_gate c g) (eb : b ≡ pure k) (h : b ≡ false) where
    pub prepare_var :
        (v₁ : Values) (o : ℕ) (x : Value) → k ≡ 5 → (o ≡ output c g 0) × (o < 131072) → x ≡ setting c g 0 → v₁ ≡ with_wires v (show v.wires o x) →
        v₁ ≡ with_wires v (prepared c v.wires g)
    unfolding prepared if◌then◌otherwise◌
    prepare_var v₁ o x f eo ex e =
        let t : pure (kind_of_gate c g) ≡ false = sym (eb ∙ ap pure ek) ∙ h in
        let u : kind_of_gate c g ≡ 5 = sym ek ∙ f in
        rw (t, u) (e ∙ ap₂ (λ (p : ℕ) (y : Value). with_wires v (show v.wires p y)) eo.0 ex)

    pub prepare_other : (k ≡ 5 → ⊥) → v ≡ with_wires v (prepared c v.wires g)
    unfolding prepared if◌then◌otherwise◌
    prepare_other f =
        let t : pure (kind_of_gate c g) ≡ false = sym (eb ∙ ap pure ek) ∙ h in
        let u : eqb (kind_of_gate c g) 5 ≡ false = ne_eqb (kind_of_gate c g) 5 (λ q. f (ek ∙ q)) in
        rw (t, u)

  -- ---- first checks

  pub started :
      (bs : List ℕ) (v₁ v₂ v₃ v₄ : Values) → v₁ ≡ with_wires (values c bs) (blank c) → v₂ ≡ with_wires v₁ (each (prepared c) v₁.wires (from 0 (length c.kinds))) →
      v₃ ≡ with_wires v₂ (refresh_all c v₂.wires) → v₄ ≡ with_wires v₃ (each (awaited c) v₃.wires (from 0 (length c.pins))) →
      v₄ ≡ with_wires (values c bs) (wires_at_start c)
  unfolding wires_at_start awaited
  started bs v₁ v₂ v₃ v₄ e₁ e₂ e₃ e₄ =
      let p : v₂ ≡ with_wires (values c bs) (each (prepared c) (blank c) (from 0 (length c.kinds))) = e₂ ∙ ap (λ (u : Values). with_wires u (each (prepared c) u.wires (from 0 (length c.kinds)))) e₁ in
      let q : v₃ ≡ with_wires (values c bs) (wires_fresh c) = e₃ ∙ ap (λ (u : Values). with_wires u (refresh_all c u.wires)) p ∙ ap (with_wires (values c bs)) prepared_blank in
      e₄ ∙ ap (λ (u : Values). with_wires u (each (awaited c) u.wires (from 0 (length c.pins)))) q
      ∙ ap (with_wires (values c bs)) (each_such (watching c) watch (wires_fresh c) (from 0 (length c.pins)))

  pub await_in :
      (bs bs₁ : List ℕ) (i : ℕ) (b : Bool) → b ≡ watching c i → b ≡ true → area c bs₁ ≡ area_with (area c bs) (watch (area c bs).values.wires i) →
      values c bs₁ ≡ with_wires (values c bs) (awaited c (values c bs).wires i)
  unfolding awaited if◌then◌otherwise◌ area
  await_in bs bs₁ i b eb h e = let q : watching c i ≡ true = sym eb ∙ h in rw q (ap (λ (a : Area). a.values) e)

  pub await_not : (v : Values) (i : ℕ) (b : Bool) → b ≡ watching c i → b ≡ false → v ≡ with_wires v (awaited c v.wires i)
  unfolding awaited if◌then◌otherwise◌
  await_not v i b eb h = let q : watching c i ≡ false = sym eb ∙ h in rw q
