-- The wiring of a circuit that is not refused is as `Wired` says, and a script that is not refused gives what `GivenFine` says.
use mathlib.Core.Path.{◌≡◌, refl, sym, ap, subst, ◌∙◌}
use mathlib.Core.Logic.{◌⊎◌, inl, inr}
use mathlib.Core.Bool.{Bool, true, false, ◌&&◌, ◌||◌, true≢false}
use mathlib.Core.List.{List, [], ◌∷◌, ◌++◌, map}
use mathlib.Core.Option.{Option, none, some}
use Prim.Native.Nat.{ℕ, zero, suc, ◌+◌, ◌*◌, ◌-◌, ◌^◌, ◌≤◌, ◌<◌}
use native.Mathlib.Nat.{zero-add}
use native.Mathlib.Omega.{arith}
use lib.Dec.{leb, ltb, eqb}
use lib.IntN.{pos}
use lib.ListN.{length, get_or, replicate, length-map, length-replicate, get_or-replicate, get_or-append, get_or-map, get_or-eq_default}
use lib.Seq.{get_or-append-add}
use mir.Syntax.{w64}
use mir.ValLaws.{to_z_pos}
use borrow.Author.Tests.{eqb-true, eq-eqb, leb-true, ltb-true, ltb-false}
use Rattle.words.specs.Words.{words}
use Rattle.schedule.specs.Promise.{All}
use Rattle.model.specs.declared.Value.{Value}
use Rattle.model.specs.declared.Value.TheVariants.{Nothing, Int, Float, Bool as Truth}
use Rattle.model.specs.Base.{if◌then◌otherwise◌, keep, all, among, both, from, sum, starts, owners}
use Rattle.model.specs.Value.{as_int, le64, value_of}
use Rattle.model.specs.Kinds.{In, value, kind_at, pure, time_source, receiving, kinds_opened}
use Rattle.model.specs.Circuit.{Circuit, circuit, part, word_at, minus_one, source_of, reads, kind_of_gate, entry_of_loop, input, output, inputs_of, gate_at_input, source, stored_in, setting, gate_at_output, readers_of, gates_such}
use Rattle.model.specs.Script.{stimulus}
use Rattle.model.specs.Run.{allowed, ticks_get}
use Rattle.model.specs.Delays.{nat}
use Rattle.model.specs.Exec.{var}
use Rattle.model.specs.Questions.{Areas, finite, yes_all, question_1, question_3, good_constant, question_2, value_output, int_such_that, good_setting, good_input, names_constant, question_4, question_19, good_length}
use Rattle.model.proofs.Lists.{both_true, all_keep, all_among, among_from, map_from, from_length, not_so, clash, among_either, among_none, among_keep, map_all}
use Rattle.model.proofs.Sizes.{sizes}
use Rattle.model.proofs.Laid.{offset, starts_at, no_kind, Laid, laid, joined_length, kind_in, part_most, part_is, inputs_found}
use Rattle.model.proofs.Asked.{Accepted}
use Rattle.model.proofs.Placing.{heights}
use Rattle.model.proofs.Roomy.{few}
use Rattle.model.proofs.Nesting.{loop_entered}
use Rattle.model.proofs.Reals.{Real, nothing_real, truth_real, int_real, finite_real}
use Rattle.model.proofs.Wired.{Wired}
use Rattle.model.proofs.Sound.{Brings, other_outputs}
use Rattle.model.proofs.Scripts.{stimulus_few, stimulus_each, script_all}
use Rattle.model.proofs.Starting.{AllowedFine}

-- ---- lists

keep_among : (p : ℕ → Bool) (x : ℕ) (xs : List ℕ) → among x (keep p xs) ≡ true → p x ≡ true
unfolding keep if◌then◌otherwise◌
keep_among p x [] e = clash e (among_none x)
keep_among p x (y ∷ xs) e = go (p y) refl e (λ h. keep_among p x xs h)
  where
    go : (b : Bool) → p y ≡ b → among x (if b then y ∷ keep p xs otherwise keep p xs) ≡ true → (among x (keep p xs) ≡ true → p x ≡ true) → p x ≡ true
    go true h e rec = one_of (among_either x y (keep p xs) e)
      where
        one_of : (x ≡ y) ⊎ (among x (keep p xs) ≡ true) → p x ≡ true
        one_of (inl s) = ap p s ∙ h
        one_of (inr s) = rec s
    go false h e rec = rec e

map_real : (f : ℕ → Value) → ((k : ℕ) → Real (f k)) → (xs : List ℕ) (i : ℕ) → Real (get_or (map f xs) i Nothing)
map_real f k [] i = nothing_real
map_real f k (x ∷ xs) zero = k x
map_real f k (x ∷ xs) (suc i) = map_real f k xs i

-- ---- parts in a row: each place belongs to a part

pub record PlaceIn (a : ℕ) (ks : List ℕ) (o : ℕ) : Type 0 where
  pub index : ℕ
  pub inside : ℕ
  pub owner : get_or (owners a ks) o 0 ≡ a + index
  pub some_part : index < length ks
  pub within : inside < get_or ks index 0
  pub place : o ≡ offset ks index + inside

pub place_in : (a : ℕ) (ks : List ℕ) (o : ℕ) → o < sum ks → PlaceIn a ks o
unfolding owners offset sum
place_in a [] o l = absurd (omega arith)
place_in a (k ∷ ks) o l = go (ltb o k) refl (λ q h. place_in (suc a) ks q h)
  where
    go : (b : Bool) → ltb o k ≡ b → ((q : ℕ) → q < sum ks → PlaceIn (suc a) ks q) → PlaceIn a (k ∷ ks) o
    go true e rec =
        let h = ltb-true o k e in
        let m : o < length (replicate k a) = omega (arith, length-replicate k a) in
        record {
          index = 0;
          inside = o;
          owner = get_or-append (replicate k a) (owners (suc a) ks) 0 o m ∙ get_or-replicate k o a 0 h ∙ omega arith;
          some_part = omega arith;
          within = h;
          place = omega arith;
        }
    go false e rec =
        let h = ltb-false o k e in
        let q = o - k in
        let r = rec q (omega arith) in
        let s : o ≡ length (replicate k a) + q = omega (arith, length-replicate k a) in
        record {
          index = suc r.index;
          inside = r.inside;
          owner = ap (λ (n : ℕ). get_or (replicate k a ++ owners (suc a) ks) n 0) s ∙ get_or-append-add (replicate k a) (owners (suc a) ks) q 0 ∙ r.owner ∙ omega arith;
          some_part = omega (arith, r.some_part);
          within = r.within;
          place = omega (arith, r.place);
        }

-- a pure gate has one output
pure_one : (k : ℕ) → pure k ≡ true → length (kind_at k).outs ≡ 1
unfolding kinds_opened
pure_one zero e = absurd (true≢false (sym e))
pure_one (suc zero) e = refl
pure_one (suc (suc zero)) e = refl
pure_one (suc (suc (suc zero))) e = refl
pure_one (suc (suc (suc (suc zero)))) e = refl
pure_one (suc (suc (suc (suc (suc k))))) e =
    let n = suc (suc (suc (suc (suc k)))) in
    absurd (omega (arith, leb-true n 4 (both_true (leb 1 n) (leb n 4) e).1))

-- a time source has no input
time_inputs : (k : ℕ) → time_source k ≡ true → length (kind_at k).ins ≡ 0
unfolding time_source kinds_opened
time_inputs k e = go (eqb k 3) refl e
  where
    go : (b : Bool) → eqb k 3 ≡ b → (b || eqb k 4) ≡ true → length (kind_at k).ins ≡ 0
    go true h e = rw (eqb-true k 3 h)
    go false h e = rw (eqb-true k 4 e)

-- the size of a part, by its kind
pub part_size : (size : ℕ → ℕ) → size 0 ≡ 0 → (ks : List ℕ) (g : ℕ) → get_or (map size ks) g 0 ≡ size (get_or ks g 0)
part_size size e ks g = ap (λ d. get_or (map size ks) g d) (sym e) ∙ get_or-map size ks g 0

timed_in : (c : Circuit) (g : ℕ) → time_source (kind_of_gate c g) ≡ true → g < length c.kinds
unfolding time_source
timed_in c g e = kind_in c g (go (kind_of_gate c g) e)
  where
    go : (k : ℕ) → (eqb k 3 || eqb k 4) ≡ true → 0 < k
    go zero h = absurd (true≢false (sym h))
    go (suc k) h = omega arith

-- the constants that question 2 lets through
good_real : (xs ys : List ℕ) → all (λ b. b) (both good_constant xs ys) ≡ true → (k : ℕ) → Real (get_or (both value_of xs ys) k Nothing)
unfolding both all good_constant value_of if◌then◌otherwise◌
good_real [] [] h k = nothing_real
good_real [] (y ∷ ys) h k = nothing_real
good_real (x ∷ xs) [] h k = nothing_real
good_real (x ∷ xs) (y ∷ ys) h zero = go x (both_true (good_constant x y) _ h).0
  where
    go : (n : ℕ) → good_constant n y ≡ true → Real (value_of n y)
    go zero e = nothing_real
    go (suc zero) e = int_real y
    go (suc (suc zero)) e = finite_real y e
    go (suc (suc (suc n))) e = truth_real _
good_real (x ∷ xs) (y ∷ ys) h (suc k) = good_real xs ys (both_true (good_constant x y) _ h).1 k

-- what question 4 says of an input: its source, and its setting
good_input_source : (c : Circuit) (pin : In) (src k : ℕ) (v : Value) → good_input c pin src k v ≡ true → eqb src minus_one ≡ false → value_output c src ≡ true
unfolding good_input if◌then◌otherwise◌
good_input_source c pin src k v h e =
    let a = (both_true (((if eqb src minus_one then true otherwise value_output c src && pin.source && eqb k 0) && names_constant c k) && (eqb k 0 || pin.constant)) _ h).0 in
    let b = (both_true ((if eqb src minus_one then true otherwise value_output c src && pin.source && eqb k 0) && names_constant c k) _ a).0 in
    let d = (both_true (if eqb src minus_one then true otherwise value_output c src && pin.source && eqb k 0) _ b).0 in
    let f : (value_output c src && pin.source && eqb k 0) ≡ true = rw e at d in
    (both_true (value_output c src) _ (both_true (value_output c src && pin.source) _ f).0).0

good_input_setting : (c : Circuit) (pin : In) (src k : ℕ) (v : Value) → good_input c pin src k v ≡ true → good_setting c pin.setting v ≡ true
unfolding good_input
good_input_setting c pin src k v h =
    (both_true (((if eqb src minus_one then true otherwise value_output c src && pin.source && eqb k 0) && names_constant c k) && (eqb k 0 || pin.constant)) _ h).1

reads_as : (s : Option ℕ) (o : ℕ) → (elim s as (λ _. Bool) [ none ↦ false | some p ↦ eqb o p ]) ≡ true → s ≡ some o
reads_as none o e = absurd (true≢false (sym e))
reads_as (some p) o e = ap some (sym (eqb-true o p e))

module _ (ws : List ℕ) where
  one_output : (o : ℕ) → o < length (circuit ws).outputs → pure (kind_of_gate (circuit ws) (gate_at_output (circuit ws) o)) ≡ true → o ≡ output (circuit ws) (gate_at_output (circuit ws) o) 0
  unfolding circuit kind_of_gate gate_at_output output
  one_output o l e =
      let ks = (circuit ws).kinds in
      let os : ℕ → ℕ = λ k. length (kind_at k).outs in
      let r = place_in 0 (map os ks) o (omega (arith, l, joined_length (λ k. (kind_at k).outs) ks)) in
      let g : get_or (owners 0 (map os ks)) o 0 ≡ r.index = r.owner ∙ zero-add r.index in
      let p : pure (get_or ks r.index 0) ≡ true = subst (λ h. pure (get_or ks h 0) ≡ true) g e in
      let n : get_or (map os ks) r.index 0 ≡ 1 =
      ap (λ d. get_or (map os ks) r.index d) (sym no_kind.1) ∙ get_or-map os ks r.index 0 ∙ pure_one (get_or ks r.index 0) p in
      let s = starts_at 0 (map os ks) r.index r.some_part in
      rw g (omega (arith, r.place, r.within, n, s))

  -- ---- what inputs read

  no_source : source_of minus_one ≡ none
  unfolding source_of if◌then◌otherwise◌
  no_source = refl

  some_source : (w o : ℕ) → source_of w ≡ some o → (eqb w minus_one ≡ false) × (w ≡ o)
  unfolding source_of if◌then◌otherwise◌
  some_source w o e = go (eqb w minus_one) refl e
    where
      go : (b : Bool) → eqb w minus_one ≡ b → (if b then none otherwise some w) ≡ some o → (eqb w minus_one ≡ false) × (w ≡ o)
      go true h e = let t : true ≡ false = cc in absurd (true≢false t)
      go false h e = (h, cc)

  -- word i of the sources
  record ReadBy (i o : ℕ) : Type 0 where
    inside : i < word_at ws 2
    word : word_at ws (4 + 2 * (word_at ws 1 + word_at ws 0) + i) ≡ o
    given : eqb o minus_one ≡ false

  module _ (bytes : List ℕ) (q₁ : question_1 bytes ws ≡ true) where
    read_by : (i o : ℕ) → source (circuit ws) i ≡ some o → ReadBy i o
    unfolding circuit source source_of word_at
    read_by i o e =
        let k = 4 + 2 * word_at ws 1 + 2 * word_at ws 0 in
        let I = word_at ws 2 in
        let l = part ws k I in
        let z = sizes bytes ws q₁ in
        let w = get_or l i minus_one in
        let f : source_of w ≡ some o = sym (get_or-map source_of l i minus_one) ∙ ap (λ d. get_or (map source_of l) i d) no_source ∙ e in
        let r = some_source w o f in
        let h : i < I = in_list l I (ltb i (length l)) refl r.0 (part_most ws k I) in
        let a : w ≡ get_or ws (k + i) 0 =
        ap (λ (x : List ℕ). get_or x i minus_one) (part_is ws k I (omega (arith, z.counted))) ∙ map_from (λ j. get_or ws (k + j) 0) 0 I i minus_one h
        ∙ ap (λ n. get_or ws (k + n) 0) (zero-add i) in
        let b : 4 + 2 * (word_at ws 1 + word_at ws 0) + i ≡ k + i = omega arith in
        record {
          inside = h;
          word = ap (λ n. get_or ws n 0) b ∙ sym a ∙ r.1;
          given = ap (λ n. eqb n minus_one) (sym r.1) ∙ r.0;
        }
      where
        in_list : (l : List ℕ) (n : ℕ) (b : Bool) → ltb i (length l) ≡ b → eqb (get_or l i minus_one) minus_one ≡ false → length l ≤ n → i < n
        in_list l n true t g m = omega (arith, ltb-true i _ t)
        in_list l n false t g m =
            clash (ap (λ x. eqb x minus_one) (get_or-eq_default l minus_one (ltb-false i (length l) t)) ∙ eq-eqb minus_one minus_one refl) g

    -- ---- question 4

    module _ (q₄ : question_4 ws (circuit ws) ≡ true) where
      asked :
          (i : ℕ) → i < word_at ws 2 →
          good_input (circuit ws) (get_or (circuit ws).pins i value) (word_at ws (4 + 2 * (word_at ws 1 + word_at ws 0) + i))
          (word_at ws (4 + 2 * (word_at ws 1 + word_at ws 0) + word_at ws 2 + i)) (stored_in (circuit ws) i) ≡ true
      unfolding question_4
      asked i l = all_among _ (from 0 (word_at ws 2)) q₄ i (rw zero-add at (among_from 0 (word_at ws 2) i l))

      source_in : (i o : ℕ) → source (circuit ws) i ≡ some o → o < length (circuit ws).outputs
      unfolding value_output
      source_in i o e =
          let r = read_by i o e in
          let a = asked i r.inside in
          go (good_input_source (circuit ws) (get_or (circuit ws).pins i value) _ (word_at ws (4 + 2 * (word_at ws 1 + word_at ws 0) + word_at ws 2 + i)) (stored_in (circuit ws) i) a)
          r.word r.given
        where
          go : {w : ℕ} → ((eqb w minus_one ≡ false) → value_output (circuit ws) w ≡ true) → w ≡ o → eqb o minus_one ≡ false → o < length (circuit ws).outputs
          go k e g = ltb-true o _ (both_true (ltb o (length (circuit ws).outputs)) _ (subst (λ x. value_output (circuit ws) x ≡ true) e (k (ap (λ x. eqb x minus_one) e ∙ g)))).0

      reader : (i o : ℕ) → source (circuit ws) i ≡ some o → among i (readers_of (circuit ws) o) ≡ true
      unfolding circuit source readers_of reads
      reader i o e =
          let l = source_in i o e in
          let ss = (circuit ws).sources in
          let f : ℕ → List ℕ = λ p. keep (reads p ss) (from 0 (word_at ws 2)) in
          let a : get_or (map f (from 0 (length (circuit ws).outputs))) o [] ≡ f o = map_from f 0 (length (circuit ws).outputs) o [] l ∙ ap f (zero-add o) in
          let b : reads o ss i ≡ true = rw (e, reads) (eq-eqb o o refl) in
          rw a (among_keep (reads o ss) i (from 0 (word_at ws 2)) (rw zero-add at (among_from 0 (word_at ws 2) i (read_by i o e).inside)) b)

      read_as : (i o : ℕ) → among i (readers_of (circuit ws) o) ≡ true → source (circuit ws) i ≡ some o
      unfolding circuit source readers_of reads
      read_as i o m = in_row (ltb o (length (circuit ws).outputs)) refl
        where
          f : ℕ → List ℕ
          f p = keep (reads p (circuit ws).sources) (from 0 (word_at ws 2))

          in_row : (b : Bool) → ltb o (length (circuit ws).outputs) ≡ b → source (circuit ws) i ≡ some o
          in_row true l =
              let e : get_or (map f (from 0 (length (circuit ws).outputs))) o [] ≡ f o = map_from f 0 (length (circuit ws).outputs) o [] (ltb-true o (length (circuit ws).outputs) l) ∙ ap f (zero-add o) in
              reads_as (get_or (circuit ws).sources i none) o (keep_among (reads o (circuit ws).sources) i (from 0 (word_at ws 2)) (subst (λ (r : List ℕ). among i r ≡ true) e m))
          in_row false l =
              let n : length (map f (from 0 (length (circuit ws).outputs))) ≡ length (circuit ws).outputs = length-map (from 0 (length (circuit ws).outputs)) f ∙ from_length 0 (length (circuit ws).outputs) in
              let p : length (map f (from 0 (length (circuit ws).outputs))) ≤ o = omega (arith, n, ltb-false o (length (circuit ws).outputs) l) in
              let e : get_or (map f (from 0 (length (circuit ws).outputs))) o [] ≡ [] = get_or-eq_default (map f (from 0 (length (circuit ws).outputs))) [] p in
              clash (subst (λ (r : List ℕ). among i r ≡ true) e m) (among_none i)

      -- ---- what a VarSet writes

      module _ (q₃ : question_3 ws (circuit ws) ≡ true) where
        source_at : (i o : ℕ) → source (circuit ws) i ≡ some o → i < length (circuit ws).pins
        source_at i o e = omega (arith, (read_by i o e).inside, inputs_found ws q₃)

        -- where an input stands: in the part of its gate
        placed : (i : ℕ) → i < length (circuit ws).pins → PlaceIn 0 (map (λ k. length (kind_at k).ins) (circuit ws).kinds) i
        unfolding circuit
        placed i l = place_in 0 (map (λ k. length (kind_at k).ins) (circuit ws).kinds) i (omega (arith, l, joined_length (λ k. (kind_at k).ins) (circuit ws).kinds))

        own_input : (i : ℕ) → i < length (circuit ws).pins → among i (inputs_of (circuit ws) (gate_at_input (circuit ws) i)) ≡ true
        unfolding circuit kind_of_gate gate_at_input inputs_of input
        own_input i l =
            let ks = (circuit ws).kinds in
            let is : ℕ → ℕ = λ k. length (kind_at k).ins in
            let r = placed i l in
            let g : get_or (owners 0 (map is ks)) i 0 ≡ r.index = r.owner ∙ zero-add r.index in
            let s = starts_at 0 (map is ks) r.index r.some_part in
            let e : i ≡ get_or (starts 0 (map is ks)) r.index 0 + 0 + r.inside = omega (arith, r.place, s) in
            rw g (subst (λ (j : ℕ). among j (from (get_or (starts 0 (map is ks)) r.index 0 + 0) (is (get_or ks r.index 0))) ≡ true) (sym e)
            (among_from _ _ r.inside (omega (arith, r.within, part_size is no_kind.0 ks r.index))))

        fed : (i : ℕ) → i < length (circuit ws).pins → time_source (kind_of_gate (circuit ws) (gate_at_input (circuit ws) i)) ≡ false
        unfolding circuit kind_of_gate gate_at_input
        fed i l =
            let ks = (circuit ws).kinds in
            let is : ℕ → ℕ = λ k. length (kind_at k).ins in
            let r = placed i l in
            let g : get_or (owners 0 (map is ks)) i 0 ≡ r.index = r.owner ∙ zero-add r.index in
            rw g (not_so _ λ e. omega (arith, r.within, part_size is no_kind.0 ks r.index, time_inputs (get_or ks r.index 0) e))

        pub var_setting : (g : ℕ) → eqb (kind_of_gate (circuit ws) g) 19 ≡ true → int_such_that (λ h. eqb (kind_of_gate (circuit ws) h) 5) (setting (circuit ws) g 1) ≡ true
        unfolding setting good_setting kinds_opened
        var_setting g e =
            let c = circuit ws in
            let k = eqb-true (kind_of_gate c g) 19 e in
            let h : 1 < length (kind_at (kind_of_gate c g)).ins = rw k (omega arith) in
            let m : input c g 1 < word_at ws 2 = omega (arith, (laid ws).input_in g 1 h, inputs_found ws q₃) in
            let a = good_input_setting c (get_or c.pins (input c g 1) value) (word_at ws (4 + 2 * (word_at ws 1 + word_at ws 0) + input c g 1))
            (word_at ws (4 + 2 * (word_at ws 1 + word_at ws 0) + word_at ws 2 + input c g 1)) (stored_in c (input c g 1)) (asked (input c g 1) m) in
            subst (λ (x : In). good_setting c x.setting (stored_in c (input c g 1)) ≡ true) ((laid ws).pin_is g 1 h ∙ ap (λ n. get_or (kind_at n).ins 1 value) k) a

        var_other : (g : ℕ) → eqb (kind_of_gate (circuit ws) g) 19 ≡ true → pure (kind_of_gate (circuit ws) (gate_at_output (circuit ws) (var (circuit ws) g))) ≡ false
        unfolding var int_such_that as_int nat kinds_opened
        var_other g e = go (setting (circuit ws) g 1) (var_setting g e)
          where
            go :
                (v : Value) → int_such_that (λ h. eqb (kind_of_gate (circuit ws) h) 5) v ≡ true →
                pure (kind_of_gate (circuit ws) (gate_at_output (circuit ws) (output (circuit ws) (nat (as_int (pos 0) v)) 0))) ≡ false
            go Nothing h = absurd (true≢false (sym h))
            go (Float b) h = absurd (true≢false (sym h))
            go (Truth t) h = absurd (true≢false (sym h))
            go (Int b) h =
                let c = circuit ws in
                let k = eqb-true (kind_of_gate c b) 5 h in
                let l : b < length c.kinds = kind_in c b (omega (arith, k)) in
                let a : b < 2 ^ 63 = omega (arith, l, (few bytes ws q₁ q₃).gates) in
                let m : 0 < length (kind_at (kind_of_gate c b)).outs = rw k (omega arith) in
                rw (to_z_pos w64 b a) (ap (λ x. pure (kind_of_gate c x)) ((laid ws).output_of b 0 m) ∙ ap pure k)

  -- ---- the constants

  module _ (q₂ : question_2 ws ≡ true) where
    constants_real : (k : ℕ) → Real (get_or (circuit ws).constants k Nothing)
    unfolding circuit question_2 yes_all
    constants_real zero = nothing_real
    constants_real (suc k) = good_real (part ws 4 (word_at ws 1)) (part ws (4 + word_at ws 1) (word_at ws 1)) q₂ k

    stored_real : (i : ℕ) → Real (stored_in (circuit ws) i)
    unfolding circuit stored_in
    stored_real i = map_real (λ k. get_or (circuit ws).constants k Nothing) constants_real (part ws (4 + 2 * word_at ws 1 + 2 * word_at ws 0 + word_at ws 2) (word_at ws 2)) i

-- ---- the entry of a Loop

entry_other :
    (bytes ws : List ℕ) → question_1 bytes ws ≡ true → question_19 (circuit ws) ≡ true →
    let c = circuit ws in (g : ℕ) → eqb (kind_of_gate c g) 29 ≡ true → pure (kind_of_gate c (gate_at_output c (output c (entry_of_loop c g) 1))) ≡ false
unfolding kinds_opened
entry_other bytes ws q₁ q g h =
    let c = circuit ws in
    let k = (loop_entered bytes ws q₁ q g h).0 in
    let m : 1 < length (kind_at (kind_of_gate c (entry_of_loop c g))).outs = rw k (omega arith) in
    ap (λ x. pure (kind_of_gate c x)) ((laid ws).output_of (entry_of_loop c g) 1 m) ∙ ap pure k

-- ---- all of it

pub wired : (areas : Option Areas) (cb sb : List ℕ) → Accepted areas cb sb → Wired (circuit (words cb))
unfolding circuit gates_such kind_of_gate
wired areas cb sb a =
    let ws = words cb in
    let c = circuit ws in
    record {
      laid = laid ws;
      heights = heights c a.order;
      few = few cb ws a.sizes a.gates;
      reader = reader ws cb a.sizes a.inputs;
      read_by = read_as ws cb a.sizes a.inputs;
      source_at = source_at ws cb a.sizes a.inputs a.gates;
      source_in = source_in ws cb a.sizes a.inputs;
      own_input = own_input ws cb a.sizes a.inputs a.gates;
      fed = fed ws cb a.sizes a.inputs a.gates;
      one_output = one_output ws;
      timed = λ g e. among_keep (λ h. time_source (get_or c.kinds h 0)) g (from 0 (length c.kinds)) (gate_among c g (timed_in c g e)) e;
      stopwatches = all_keep (λ g. eqb (get_or c.kinds g 0) 15) (from 0 (length c.kinds));
      receivers = all_keep (λ g. receiving (get_or c.kinds g 0)) (from 0 (length c.kinds));
      entry_other = entry_other cb ws a.sizes a.bodies;
      var_other = var_other ws cb a.sizes a.inputs a.gates;
      stored = stored_real ws a.constants;
    }
  where
    gate_among : (c : Circuit) (g : ℕ) → g < length c.kinds → among g (from 0 (length c.kinds)) ≡ true
    gate_among c g l = rw zero-add at (among_from 0 (length c.kinds) g l)

-- ---- the script

-- a WorldEvent has one value output
stimulus_brings :
    (c : Circuit) → Laid c → ((k : ℕ) → Real (get_or c.constants k Nothing)) → (g k : ℕ) → eqb (kind_of_gate c g) 28 ≡ true → Brings c (stimulus c.constants g k)
unfolding stimulus kinds_opened
stimulus_brings c laid real g k e =
    record {
      others = λ i l. other_outputs c laid g 28 1 1 (eqb-true (kind_of_gate c g) 28 e) refl (omega arith) i (omega (arith, l, stimulus_few c.constants g k));
      real = stimulus_each Real c.constants g k (real k);
    }

-- and a length that question 9 lets through is finite
length_finite : (d : ℕ) → good_length d ≡ true → finite d ≡ true
unfolding good_length
length_finite d h = (both_true (finite d) _ (both_true (finite d && le64 0 d) _ h).0).0

pub gets_fine :
    (areas : Option Areas) (cb sb : List ℕ) → Accepted areas cb sb →
    let c = circuit (words cb) in All (AllowedFine c) (ticks_get c (words sb))
unfolding allowed
gets_fine areas cb sb a =
    let c = circuit (words cb) in
    map_all (AllowedFine c) _
    (script_all (λ dt. finite dt ≡ true) (Brings c) areas cb sb a (λ i. length_finite _) (stimulus_brings c (laid (words cb)) (constants_real (words cb) a.constants)))
