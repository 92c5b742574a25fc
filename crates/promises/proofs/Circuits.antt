-- What is used of a circuit and a script that are not refused holds of them.
use mathlib.Core.Path.{◌≡◌, refl, sym, ap, subst, ◌∙◌}
use mathlib.Core.Logic.{inl, inr}
use mathlib.Core.Bool.{Bool, true, false, ◌&&◌, ◌||◌, true≢false, or-true}
use mathlib.Core.List.{List, [], ◌∷◌, map}
use mathlib.Core.Option.{Option, none}
use Prim.Native.Nat.{ℕ, zero, suc, ◌+◌, ◌*◌, ◌-◌, ◌^◌, ◌%◌, ◌≤◌, ◌<◌}
use native.Mathlib.Nat.{zero-add}
use native.Mathlib.Omega.{arith}
use lib.Dec.{leb, ltb, eqb}
use lib.IntN.{pos}
use lib.ListN.{length, get_or, take, drop, length-map, get_or-map, get_or-eq_default}
use mir.Syntax.{w64}
use mir.ValLaws.{to_z_pos}
use borrow.Author.Tests.{eqb-true, leb-true, ltb-true, ltb-false}
use Rattle.words.specs.Words.{words}
use Rattle.words.proofs.Laws.{Below, words_below}
use Rattle.schedule.specs.Promise.{All}
use Rattle.model.specs.declared.Value.{Value}
use Rattle.model.specs.declared.Value.TheVariants.{Nothing, Int, Float, Bool as Truth}
use Rattle.model.specs.Base.{if◌then◌otherwise◌, all, among, both, from, starts, owners}
use Rattle.model.specs.Value.{as_int, value_of}
use Rattle.model.specs.Kinds.{In, value, Watch, never, if_driven, always, Kind, table, kind_at, kinds_opened}
use Rattle.model.specs.Circuit.{Circuit, circuit, part, word_at, is_watched, has_source, kind_of_gate, entry_of_loop, input, output, source, stored_in, setting, gate_at_input, watching, gates_such}
use Rattle.model.specs.Script.{most_ticks, stimulus, given, script}
use Rattle.model.specs.State.{Act}
use Rattle.model.specs.Delays.{nat}
use Rattle.model.specs.Exec.{var}
use Rattle.model.specs.Settle.{most_checks}
use Rattle.model.specs.Run.{most_steps, Allowed, allow, allowed, gets}
use Rattle.model.specs.Questions.{Areas, within, yes_all, question_1, question_3, good_constant, question_2, value_output, int_such_that, question_4, question_8}
use Rattle.model.proofs.Lists.{both_true, all_keep, all_among, among_from, map_all}
use Rattle.schedule.proofs.Members.{all_map}
use Rattle.model.proofs.Sizes.{within_true}
use Rattle.model.proofs.Laid.{offset, starts_at, no_kind, laid, joined_length, joined_at, kind_in, part_most}
use Rattle.model.proofs.Asked.{Accepted}
use Rattle.model.proofs.Roomy.{few}
use Rattle.model.proofs.Nesting.{loop_entered}
use Rattle.model.proofs.Counted.{few_checks, few_moving}
use Rattle.model.proofs.Scripts.{stimulus_few, stimulus_each, script_all}
use Rattle.model.proofs.Wiring.{place_in, part_size, var_setting, wired}
use Rattle.records.specs.Whole.{driven}
use Rattle.promises.proofs.Times.{Length, length_good}
use Rattle.promises.proofs.Values.{Proper}
use Rattle.promises.proofs.Shape.{PinFits, Shaped, value_at, values_at}
use Rattle.promises.proofs.Settles.{Fitting, world_good}
use Rattle.promises.proofs.Worlds.{Gets}

-- ---- the kinds

-- an input that is not watched whatever it reads
quiet : In → Bool
quiet p = elim p.watch [ never ↦ true | if_driven ↦ true | always ↦ false ]

-- only kinds 6 to 10 and 12 have an input that is always watched; a kind has at most 16 inputs
kind_ok : ℕ → Kind → Bool
kind_ok n k = (among n (6 ∷ 7 ∷ 8 ∷ 9 ∷ 10 ∷ 12 ∷ []) || all quiet k.ins) && leb (length k.ins) 16

kinds_ok : (n : ℕ) → kind_ok n (kind_at n) ≡ true
unfolding kind_ok quiet kinds_opened among all from
kinds_ok n = go (ltb n 32) refl
  where
    past : (n : ℕ) → 32 ≤ n → kind_at n ≡ record { ins = []; outs = [] }
    past zero l = absurd (omega arith)
    past (suc n) l = let m : length table ≤ n = omega arith in get_or-eq_default table (record { ins = []; outs = [] }) m

    go : (b : Bool) → ltb n 32 ≡ b → kind_ok n (kind_at n) ≡ true
    go true e = all_among (λ k. kind_ok k (kind_at k)) (from 0 32) refl n (rw zero-add at (among_from 0 32 n (ltb-true n 32 e)))
    go false e = rw (past n (ltb-false n 32 e), or-true)

module _ (k : ℕ) where
  known : ((among k (6 ∷ 7 ∷ 8 ∷ 9 ∷ 10 ∷ 12 ∷ []) || all quiet (kind_at k).ins) ≡ true) × (leb (length (kind_at k).ins) 16 ≡ true)
  unfolding kind_ok
  known = both_true (among k (6 ∷ 7 ∷ 8 ∷ 9 ∷ 10 ∷ 12 ∷ []) || all quiet (kind_at k).ins) _ (kinds_ok k)

  always_kind : (p : ℕ) → (get_or (kind_at k).ins p value).watch ≡ always → among k (6 ∷ 7 ∷ 8 ∷ 9 ∷ 10 ∷ 12 ∷ []) ≡ true
  unfolding quiet kinds_opened all
  always_kind p e = go (among k (6 ∷ 7 ∷ 8 ∷ 9 ∷ 10 ∷ 12 ∷ [])) known.0
    where
      calm : Watch → Bool
      calm w = elim w [ never ↦ true | if_driven ↦ true | always ↦ false ]

      each_quiet : (ps : List In) (p : ℕ) → all quiet ps ≡ true → quiet (get_or ps p value) ≡ true
      each_quiet [] p h = refl
      each_quiet (x ∷ ps) zero h = (both_true (quiet x) _ h).0
      each_quiet (x ∷ ps) (suc p) h = each_quiet ps p (both_true (quiet x) _ h).1

      go : (b : Bool) → (b || all quiet (kind_at k).ins) ≡ true → b ≡ true
      go true h = refl
      go false h = absurd (true≢false (sym (sym (ap calm e) ∙ each_quiet (kind_at k).ins p h)))

-- a watched pin
pin_fits :
    (c : Circuit) (g p i : ℕ) → input c g p ≡ i → p < length (kind_at (kind_of_gate c g)).ins → is_watched (get_or (kind_at (kind_of_gate c g)).ins p value) (source c i) ≡ true → PinFits c g p
unfolding is_watched driven
pin_fits c g p i e l h = go (get_or (kind_at (kind_of_gate c g)).ins p value).watch refl h
  where
    watched_by : Watch → Bool
    watched_by x = elim x [ never ↦ false | if_driven ↦ has_source (source c (input c g p)) | always ↦ false ]

    go : (x : Watch) → (get_or (kind_at (kind_of_gate c g)).ins p value).watch ≡ x → (elim x as (λ _. Bool) [ never ↦ false | if_driven ↦ has_source (source c i) | always ↦ true ]) ≡ true → PinFits c g p
    go never q h = absurd (true≢false (sym h))
    go if_driven q h = inr (omega (arith, l, leb-true (length (kind_at (kind_of_gate c g)).ins) 16 (known (kind_of_gate c g)).1), ap watched_by q ∙ ap (λ n. has_source (source c n)) e ∙ h)
    go always q h = inl (always_kind (kind_of_gate c g) p q)

-- ---- lists

drop_below : (m n : ℕ) (xs : List ℕ) → Below m xs → Below m (drop n xs)
drop_below m zero xs b = b
drop_below m (suc n) [] b = b
drop_below m (suc n) (x ∷ xs) b = drop_below m n xs (λ i. b (suc i))

take_below : (m n : ℕ) (xs : List ℕ) → 0 < m → Below m xs → Below m (take n xs)
take_below m zero xs l b i = l
take_below m (suc n) [] l b i = l
take_below m (suc n) (x ∷ xs) l b zero = b 0
take_below m (suc n) (x ∷ xs) l b (suc i) = take_below m n xs l (λ i. b (suc i)) i

part_below : (ws : List ℕ) (k n : ℕ) → Below (2 ^ 64) ws → Below (2 ^ 64) (part ws k n)
unfolding part
part_below ws k n b = take_below (2 ^ 64) n (drop k ws) (omega arith) (drop_below (2 ^ 64) k ws b)

both_at :
    {A B : Type 0} (f : A → B → Bool) (xs : List A) (ys : List B) (i : ℕ) (a : A) (b : B) → get_or (both f xs ys) i false ≡ true →
    (i < length xs) × (f (get_or xs i a) (get_or ys i b) ≡ true)
unfolding both
both_at f [] [] i a b e = absurd (true≢false (sym e))
both_at f [] (y ∷ ys) i a b e = absurd (true≢false (sym e))
both_at f (x ∷ xs) [] i a b e = absurd (true≢false (sym e))
both_at f (x ∷ xs) (y ∷ ys) zero a b e = (omega arith, e)
both_at f (x ∷ xs) (y ∷ ys) (suc i) a b e = let r = both_at f xs ys i a b e in (omega (arith, r.0), r.1)

-- the constants that question 2 lets through
good_proper : (xs ys : List ℕ) → Below (2 ^ 64) ys → all (λ b. b) (both good_constant xs ys) ≡ true → (k : ℕ) → Proper (get_or (both value_of xs ys) k Nothing)
unfolding both all good_constant value_of if◌then◌otherwise◌
good_proper [] [] b h k = tt
good_proper [] (y ∷ ys) b h k = tt
good_proper (x ∷ xs) [] b h k = tt
good_proper (x ∷ xs) (y ∷ ys) b h zero = go x (both_true (good_constant x y) _ h).0
  where
    go : (n : ℕ) → good_constant n y ≡ true → Proper (value_of n y)
    go zero e = tt
    go (suc zero) e = tt
    go (suc (suc zero)) e = (e, b 0)
    go (suc (suc (suc n))) e = tt
good_proper (x ∷ xs) (y ∷ ys) b h (suc k) = good_proper xs ys (λ i. b (suc i)) (both_true (good_constant x y) _ h).1 k

-- ---- the circuit

module _ (ws : List ℕ) where
  watched_pin : (i : ℕ) → watching (circuit ws) i ≡ true → PinFits (circuit ws) (gate_at_input (circuit ws) i) (i - input (circuit ws) (gate_at_input (circuit ws) i) 0)
  unfolding circuit watching kind_of_gate gate_at_input input source driven is_watched
  watched_pin i h =
      let c = circuit ws in
      let ks = c.kinds in
      let is : ℕ → ℕ = λ k. length (kind_at k).ins in
      let r = both_at is_watched c.pins c.sources i value none h in
      let P = place_in 0 (map is ks) i (omega (arith, r.0, joined_length (λ k. (kind_at k).ins) ks)) in
      let g = P.index in
      let p = P.inside in
      let eg : get_or (owners 0 (map is ks)) i 0 ≡ g = P.owner ∙ zero-add g in
      let lg : g < length ks = omega (arith, P.some_part, length-map ks is) in
      let lp : p < is (get_or ks g 0) = omega (arith, P.within, part_size is no_kind.0 ks g) in
      let st : get_or (starts 0 (map is ks)) g 0 ≡ offset (map is ks) g = omega (arith, starts_at 0 (map is ks) g P.some_part) in
      let ep : i - (get_or (starts 0 (map is ks)) g 0 + 0) ≡ p = omega (arith, st, P.place) in
      let ei : get_or (starts 0 (map is ks)) g 0 + p ≡ i = omega (arith, st, P.place) in
      let pin : get_or c.pins i value ≡ get_or (kind_at (get_or ks g 0)).ins p value = ap (λ n. get_or c.pins n value) P.place ∙ joined_at (λ k. (kind_at k).ins) ks g p value lg lp in
      let w : is_watched (get_or (kind_at (get_or ks g 0)).ins p value) (get_or c.sources i none) ≡ true = ap (λ (x : In). is_watched x (get_or c.sources i none)) (sym pin) ∙ r.1 in
      let z : PinFits c g p = pin_fits c g p i ei lp w in
      subst (λ (n : ℕ). PinFits c n (i - input c n 0)) (sym eg) (subst (λ (n : ℕ). PinFits c g n) (sym ep) z)

  -- what a VarSet writes
  var_shows :
      (bytes : List ℕ) → question_1 bytes ws ≡ true → question_4 ws (circuit ws) ≡ true → question_3 ws (circuit ws) ≡ true →
      (g : ℕ) → eqb (kind_of_gate (circuit ws) g) 19 ≡ true → value_output (circuit ws) (var (circuit ws) g) ≡ true
  unfolding var int_such_that as_int nat kinds_opened
  var_shows bytes q₁ q₄ q₃ g e = go (setting (circuit ws) g 1) (var_setting ws bytes q₁ q₄ q₃ g e)
    where
      go :
          (v : Value) → int_such_that (λ h. eqb (kind_of_gate (circuit ws) h) 5) v ≡ true →
          value_output (circuit ws) (output (circuit ws) (nat (as_int (pos 0) v)) 0) ≡ true
      go Nothing h = absurd (true≢false (sym h))
      go (Float b) h = absurd (true≢false (sym h))
      go (Truth t) h = absurd (true≢false (sym h))
      go (Int b) h =
          let c = circuit ws in
          let k = eqb-true (kind_of_gate c b) 5 h in
          let a : b < 2 ^ 63 = omega (arith, kind_in c b (omega (arith, k)), (few bytes ws q₁ q₃).gates) in
          rw (to_z_pos w64 b a) (value_at c (laid ws) b 5 0 k refl)

  -- the Index of a Loop's entry
  entry_shows : (e : ℕ) → kind_of_gate (circuit ws) e ≡ 30 → value_output (circuit ws) (output (circuit ws) e 1) ≡ true
  unfolding kinds_opened
  entry_shows e k = value_at (circuit ws) (laid ws) e 30 1 k refl

  module _ (low : Below (2 ^ 64) ws) (q₂ : question_2 ws ≡ true) where
    constants_proper : (k : ℕ) → Proper (get_or (circuit ws).constants k Nothing)
    unfolding circuit question_2 yes_all
    constants_proper zero = tt
    constants_proper (suc k) =
        good_proper (part ws 4 (word_at ws 1)) (part ws (4 + word_at ws 1) (word_at ws 1)) (part_below ws (4 + word_at ws 1) (word_at ws 1) low) q₂ k

    stored_proper : (i : ℕ) → Proper (stored_in (circuit ws) i)
    unfolding circuit stored_in
    stored_proper i =
        let named : ℕ → Value = λ k. get_or (circuit ws).constants k Nothing in
        let l = part ws (4 + 2 * word_at ws 1 + 2 * word_at ws 0 + word_at ws 2) (word_at ws 2) in
        subst (λ (v : Value). Proper v) (sym (get_or-map named l i 0)) (constants_proper (get_or l i 0))

pub shaped : (areas : Option Areas) (cb sb : List ℕ) → Below 256 cb → Accepted areas cb sb → Shaped (circuit (words cb))
unfolding circuit gates_such kind_of_gate
shaped areas cb sb low a =
    let ws = words cb in
    let c = circuit ws in
    let f = few cb ws a.sizes a.gates in
    record {
      wired = wired areas cb sb a;
      var_shows = var_shows ws cb a.sizes a.inputs a.gates;
      entry_shows = λ g h. entry_shows ws (entry_of_loop c g) (loop_entered cb ws a.sizes a.bodies g h).0;
      stored = stored_proper ws (words_below cb low) a.constants;
      clocks = all_keep (λ g. eqb (get_or c.kinds g 0) 14) (from 0 (length c.kinds));
      few_counted = omega (arith, few_checks ws f, few_moving ws f (most_checks c));
      watched_pin = watched_pin ws;
    }

-- ---- the script

-- a WorldEvent has one value output
stimulus_fits :
    (c : Circuit) → Shaped c → ((k : ℕ) → Proper (get_or c.constants k Nothing)) → (g k : ℕ) → eqb (kind_of_gate c g) 28 ≡ true → Fitting c (stimulus c.constants g k)
unfolding stimulus kinds_opened all from
stimulus_fits c Z proper g k e =
    record {
      unit = world_good c g e;
      others = λ i l. values_at c Z.wired.laid g 28 1 1 (eqb-true (kind_of_gate c g) 28 e) refl i (omega (arith, l, stimulus_few c.constants g k));
      row = stimulus_each Proper c.constants g k (proper k);
    }

given_most : (ds ns : List ℕ) (bs : List Act) → length (given ds ns bs) ≤ length ds
unfolding given
given_most [] [] bs = omega arith
given_most [] (n ∷ ns) bs = omega arith
given_most (d ∷ ds) [] bs = omega arith
given_most (d ∷ ds) (n ∷ ns) bs = omega (arith, given_most ds ns (drop n bs))

-- a script gives no more ticks than its size says
pub script_ticks : (c : Circuit) (limit : ℕ) (ws : List ℕ) → length (gets c limit ws) ≤ word_at ws 0
unfolding script allowed
script_ticks c limit ws =
    let T = word_at ws 0 in
    let S = word_at ws 1 in
    let acts = both (stimulus c.constants) (part ws (2 + 2 * T) S) (part ws (2 + 2 * T + S) S) in
    let g = given (part ws 2 T) (part ws (2 + T) T) acts in
    omega (arith, length-map {B = Allowed} g (allow limit), given_most (part ws 2 T) (part ws (2 + T) T) acts, part_most ws 2 T)

pub script_most : (c : Circuit) (limit : ℕ) (sb : List ℕ) → question_8 sb (words sb) ≡ true → length (gets c limit (words sb)) ≤ most_ticks
unfolding question_8
script_most c limit sb q =
    let ws = words sb in
    let T = word_at ws 0 in
    let a = eqb (length sb % 8) 0 && leb 2 (length ws) in
    let h₁ = both_true (a && within 0 most_ticks T && within 0 65535 (word_at ws 1)) _ q in
    let h₂ = both_true (a && within 0 most_ticks T) _ h₁.0 in
    omega (arith, script_ticks c limit ws, (within_true 0 most_ticks T (both_true a _ h₂.0).1).1)

pub script_gets :
    (areas : Option Areas) (cb sb : List ℕ) → Below 256 cb → Below 256 sb → Accepted areas cb sb → Shaped (circuit (words cb)) → (limit : ℕ) → limit ≤ most_steps →
    let c = circuit (words cb) in All (Gets c) (gets c limit (words sb))
unfolding allowed
script_gets areas cb sb low below a Z limit l =
    let c = circuit (words cb) in
    let lengths = part_below (words sb) 2 (word_at (words sb) 0) (words_below sb below) in
    let g = script_all Length (Fitting c) areas cb sb a (λ i. length_good _ (lengths i)) (stimulus_fits c Z (constants_proper (words cb) (words_below cb low) a.constants)) in
    map_all (Gets c) (allow limit) (all_map (λ x q. record { given = q; limit = l }) g)
