-- Question 6 says what document 01 says: it is answered yes exactly where there is an order in which each pure gate comes after its pure sources.
use mathlib.Core.Path.{◌≡◌, refl, sym, ap, ◌∙◌}
use mathlib.Core.Bool.{Bool, true, false, not, ◌||◌, true≢false}
use mathlib.Core.List.{List, map}
use mathlib.Core.Option.{Option, none, some}
use Prim.Native.Nat.{ℕ, zero, suc, ◌+◌, ◌≤◌, ◌<◌}
use native.Mathlib.Nat.{zero-add}
use native.Mathlib.Omega.{arith}
use lib.Dec.{ltb}
use lib.ListN.{length, get_or, length-map, get_or-map, get_or-eq_default}
use borrow.Author.Tests.{ltb-true, ltb-false, lt-ltb, le-ltb}
use Rattle.model.specs.Base.{if◌then◌otherwise◌, all, among, from}
use Rattle.model.specs.Value.{bit}
use Rattle.model.specs.Kinds.{pure}
use Rattle.model.specs.Circuit.{Circuit, kind_of_gate, inputs_of, source, gate_at_output, gates}
use Rattle.model.specs.Questions.{yes_all, source_placed, place, place_on, question_6}
use Rattle.model.proofs.Lists.{all_among, among_all, all_places, places_all, map_from, from_length}

-- An order of the gates, by heights: each pure gate is above its pure sources.
pub record Ordered (c : Circuit) : Type 0 where
  pub height : ℕ → ℕ
  pub above :
      (g i o : ℕ) → g < length c.kinds → pure (kind_of_gate c g) ≡ true → among i (inputs_of c g) ≡ true → source c i ≡ some o →
      pure (kind_of_gate c (gate_at_output c o)) ≡ true → height (gate_at_output c o) < height g

-- ---- the first number that passes a test

-- among those below n, or else n
first : (ℕ → Bool) → ℕ → ℕ
first p zero = 0
first p (suc n) = if p 0 then 0 otherwise suc (first (λ k. p (suc k)) n)

first_least : (p : ℕ → Bool) (n k : ℕ) → k ≤ n → p k ≡ true → (first p n ≤ k) × (p (first p n) ≡ true)
unfolding first if◌then◌otherwise◌
first_least p zero k h e = let z : k ≡ 0 = omega arith in (omega arith, ap p (sym z) ∙ e)
first_least p (suc n) zero h e = rw e (omega arith, e)
first_least p (suc n) (suc k) h e = go (p 0) refl (first_least (λ j. p (suc j)) n k (omega arith) e)
  where
    go :
        (b : Bool) → p 0 ≡ b → (first (λ j. p (suc j)) n ≤ k) × (p (suc (first (λ j. p (suc j)) n)) ≡ true) →
        ((if b then 0 otherwise suc (first (λ j. p (suc j)) n)) ≤ suc k) × (p (if b then 0 otherwise suc (first (λ j. p (suc j)) n)) ≡ true)
    go true q r = (omega arith, q)
    go false q r = (omega arith, r.1)

-- ---- how many of the first n lie below a height

lower : (ℕ → ℕ) → ℕ → ℕ → ℕ
lower h m zero = 0
lower h m (suc n) = bit (ltb (h n) m) + lower h m n

below_bit : (a m n : ℕ) → m ≤ n → bit (ltb a m) ≤ bit (ltb a n)
unfolding bit
below_bit a m n l = go (ltb a m) (ltb a n) refl refl
  where
    go : (x y : Bool) → ltb a m ≡ x → ltb a n ≡ y → bit x ≤ bit y
    go true true e f = omega arith
    go true false e f = absurd (omega (arith, ltb-true a m e, ltb-false a n f))
    go false true e f = omega arith
    go false false e f = omega arith

lower_mono : (h : ℕ → ℕ) (m m' n : ℕ) → m ≤ m' → lower h m n ≤ lower h m' n
unfolding lower
lower_mono h m m' zero l = omega arith
lower_mono h m m' (suc n) l = omega (arith, below_bit (h n) m m' l, lower_mono h m m' n l)

-- one that is lower itself counts
lower_less : (h : ℕ → ℕ) (m g n : ℕ) → g < n → h g < m → suc (lower h (h g) n) ≤ lower h m n
unfolding lower bit
lower_less h m g zero l k = absurd (omega arith)
lower_less h m g (suc n) l k = go (ltb g n) refl (λ q. lower_less h m g n q k)
  where
    go :
        (b : Bool) → ltb g n ≡ b → (g < n → suc (lower h (h g) n) ≤ lower h m n) →
        suc (bit (ltb (h n) (h g)) + lower h (h g) n) ≤ bit (ltb (h n) m) + lower h m n
    go true e rec = omega (arith, rec (ltb-true g n e), below_bit (h n) (h g) m (omega arith))
    go false e rec =
        let q : n ≡ g = omega (arith, ltb-false g n e) in
        let a : ltb (h n) (h g) ≡ false = le-ltb (h n) (h g) (omega (arith, ap h q)) in
        let b : ltb (h n) m ≡ true = lt-ltb (h n) m (omega (arith, ap h q)) in
        rw (a, b) (omega (arith, lower_mono h (h g) m n (omega arith)))

lower_most : (h : ℕ → ℕ) (m n : ℕ) → lower h m n ≤ n
unfolding lower bit
lower_most h m zero = omega arith
lower_most h m (suc n) = go (ltb (h n) m) (lower_most h m n)
  where
    go : (b : Bool) → lower h m n ≤ n → bit b + lower h m n ≤ suc n
    go true l = omega arith
    go false l = omega arith

module _ (c : Circuit) where
  -- ---- the rounds

  -- what is placed after n rounds
  unfoldable pub placed : ℕ → List Bool
  placed n = place_on c n (map (λ k. not (pure k)) c.kinds)

  pub place_on_suc : (n : ℕ) (bs : List Bool) → place_on c (suc n) bs ≡ place c (place_on c n bs)
  unfolding place_on
  place_on_suc zero bs = refl
  place_on_suc (suc n) bs = place_on_suc n (place c bs)

  -- before the first round: what is not pure
  placed_first : (g : ℕ) → get_or (placed 0) g true ≡ not (pure (kind_of_gate c g))
  unfolding placed place_on kind_of_gate pure
  placed_first g = get_or-map (λ k. not (pure k)) c.kinds g 0

  placed_next :
      (n g : ℕ) → g < length c.kinds →
      get_or (placed (suc n)) g true ≡ (not (pure (kind_of_gate c g)) || all (source_placed c (placed n)) (inputs_of c g))
  unfolding placed gates place
  placed_next n g h =
      rw (place_on_suc n (map (λ k. not (pure k)) c.kinds))
      (map_from _ 0 (length c.kinds) g true h ∙ ap (λ x. not (pure (kind_of_gate c x)) || all (source_placed c (placed n)) (inputs_of c x)) (zero-add g))

  pub placed_length : (n : ℕ) → length (placed n) ≡ length c.kinds
  unfolding placed place_on place gates
  placed_length zero = length-map c.kinds (λ k. not (pure k))
  placed_length (suc n) =
      rw (place_on_suc n (map (λ k. not (pure k)) c.kinds)) (length-map (from 0 (length c.kinds)) _ ∙ from_length 0 (length c.kinds))

  -- a gate that is not pure is placed
  impure : (n g : ℕ) → pure (kind_of_gate c g) ≡ false → get_or (placed n) g true ≡ true
  impure zero g e = placed_first g ∙ ap not e
  impure (suc n) g e = go (ltb g (length c.kinds)) refl
    where
      go : (b : Bool) → ltb g (length c.kinds) ≡ b → get_or (placed (suc n)) g true ≡ true
      go true l = rw (placed_next n g (ltb-true g _ l), e)
      go false l = get_or-eq_default (placed (suc n)) true (omega (arith, placed_length (suc n), ltb-false g (length c.kinds) l))

  -- a pure gate is one of the circuit's
  pub pure_in : (g : ℕ) → pure (kind_of_gate c g) ≡ true → g < length c.kinds
  unfolding kind_of_gate pure
  pure_in g e = go (ltb g (length c.kinds)) refl
    where
      go : (b : Bool) → ltb g (length c.kinds) ≡ b → g < length c.kinds
      go true l = ltb-true g _ l
      go false l =
          let k : get_or c.kinds g 0 ≡ 0 = get_or-eq_default c.kinds 0 (ltb-false g _ l) in
          absurd (true≢false (sym (rw k at e)))

  source_some : (bs : List Bool) (i o : ℕ) → source c i ≡ some o → source_placed c bs i ≡ true → get_or bs (gate_at_output c o) true ≡ true
  unfolding source_placed
  source_some bs i o e h = rw (e, source_placed) at h

  source_is : (bs : List Bool) (i o : ℕ) → source c i ≡ some o → get_or bs (gate_at_output c o) true ≡ true → source_placed c bs i ≡ true
  unfolding source_placed
  source_is bs i o e h = rw (e, source_placed) h

  no_source : (bs : List Bool) (i : ℕ) → source c i ≡ none → source_placed c bs i ≡ true
  unfolding source_placed
  no_source bs i e = rw (e, source_placed)

  -- ---- from the answer to an order: a gate's height is the round in which it is placed

  -- An order with heights from 1, for pure gates, up to the number of gates.
  pub record Heights : Type 0 where
    pub height : ℕ → ℕ
    pub least : (g : ℕ) → pure (kind_of_gate c g) ≡ true → 1 ≤ height g
    pub most : (g : ℕ) → height g ≤ length c.kinds
    pub above :
        (g i o : ℕ) → pure (kind_of_gate c g) ≡ true → among i (inputs_of c g) ≡ true → source c i ≡ some o → height (gate_at_output c o) < height g

  round : ℕ → ℕ
  round g = first (λ n. get_or (placed n) g true) (length c.kinds)

  pub heights : question_6 c ≡ true → Heights
  unfolding question_6 yes_all placed round
  heights q =
      record {
        height = round;
        least = λ g p. go g p (round g) refl;
        most = λ g. (in_time g).0;
        above = λ g i o p m e. later g i o p m e (round g) refl;
      }
    where
      in_time : (g : ℕ) → (round g ≤ length c.kinds) × (get_or (placed (round g)) g true ≡ true)
      in_time g = first_least (λ n. get_or (placed n) g true) (length c.kinds) (length c.kinds) (omega arith) (all_places (placed (length c.kinds)) q g)

      not_yet : (g : ℕ) → pure (kind_of_gate c g) ≡ true → round g ≡ 0 → ⊥
      not_yet g p e =
          let t : get_or (placed 0) g true ≡ true = rw e at (in_time g).1 in
          true≢false (sym t ∙ placed_first g ∙ ap not p)

      go : (g : ℕ) → pure (kind_of_gate c g) ≡ true → (k : ℕ) → round g ≡ k → 1 ≤ round g
      go g p zero e = absurd (not_yet g p e)
      go g p (suc k) e = omega arith

      later :
          (g i o : ℕ) → pure (kind_of_gate c g) ≡ true → among i (inputs_of c g) ≡ true → source c i ≡ some o →
          (k : ℕ) → round g ≡ k → round (gate_at_output c o) < round g
      later g i o p m e zero f = absurd (not_yet g p f)
      later g i o p m e (suc k) f =
          let t : get_or (placed (suc k)) g true ≡ true = rw f at (in_time g).1 in
          let a : (not (pure (kind_of_gate c g)) || all (source_placed c (placed k)) (inputs_of c g)) ≡ true = sym (placed_next k g (pure_in g p)) ∙ t in
          let b : all (source_placed c (placed k)) (inputs_of c g) ≡ true = rw p at a in
          let s = source_some (placed k) i o e (all_among _ _ b i m) in
          omega (arith, (first_least (λ n. get_or (placed n) (gate_at_output c o) true) (length c.kinds) k (omega (arith, (in_time g).0)) s).0)

  pub ordered : question_6 c ≡ true → Ordered c
  ordered q = let h = heights q in record { height = h.height; above = λ g i o l p m e r. h.above g i o p m e }

  -- ---- from an order to the answer: a gate is placed in the round after so many as gates are lower

  module _ (z : Ordered c) where
    below : ℕ → ℕ
    below g = lower z.height (z.height g) (length c.kinds)

    placed_by : (n g : ℕ) → below g < n → get_or (placed n) g true ≡ true
    unfolding below
    placed_by zero g l = absurd (omega arith)
    placed_by (suc n) g l = go (pure (kind_of_gate c g)) refl (λ h k. placed_by n h k)
      where
        go : (b : Bool) → pure (kind_of_gate c g) ≡ b → ((h : ℕ) → below h < n → get_or (placed n) h true ≡ true) → get_or (placed (suc n)) g true ≡ true
        go false e rec = impure (suc n) g e
        go true e rec = placed_next n g (pure_in g e) ∙ rw e (among_all _ (inputs_of c g) λ i m. of_source i m (source c i) refl)
          where
            of_gate :
                (i o : ℕ) → among i (inputs_of c g) ≡ true → source c i ≡ some o →
                (b : Bool) → pure (kind_of_gate c (gate_at_output c o)) ≡ b → get_or (placed n) (gate_at_output c o) true ≡ true
            of_gate i o m f false p = impure n (gate_at_output c o) p
            of_gate i o m f true p =
                let h = gate_at_output c o in
                rec h (omega (arith, l, lower_less z.height (z.height g) h (length c.kinds) (pure_in h p) (z.above g i o (pure_in g e) e m f p)))

            of_source : (i : ℕ) → among i (inputs_of c g) ≡ true → (x : Option ℕ) → source c i ≡ x → source_placed c (placed n) i ≡ true
            of_source i m none f = no_source (placed n) i f
            of_source i m (some o) f = source_is (placed n) i o f (of_gate i o m f (pure (kind_of_gate c (gate_at_output c o))) refl)

    pub order_suffices : question_6 c ≡ true
    unfolding question_6 yes_all placed below
    order_suffices = places_all (placed (length c.kinds)) λ g. go g (pure (kind_of_gate c g)) refl
      where
        go : (g : ℕ) (b : Bool) → pure (kind_of_gate c g) ≡ b → get_or (placed (length c.kinds)) g true ≡ true
        go g false e = impure (length c.kinds) g e
        go g true e =
            let n = length c.kinds in
            let m = suc (z.height g) in
            placed_by n g (omega (arith, lower_less z.height m g n (pure_in g e) (omega arith), lower_most z.height m n))
