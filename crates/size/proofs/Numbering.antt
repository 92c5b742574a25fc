-- The rounds in which each gate gets its number: after k of them each gate that is placed has the number of its steps.
use Prim.Native.Nat.{ℕ, suc, ◌+◌, ◌-◌, ◌≤◌, ◌<◌}
use mathlib.Core.Path.{◌≡◌, refl, sym, ap, ◌∙◌}
use mathlib.Core.Logic.{◌⊎◌, inl, inr}
use mathlib.Core.Bool.{Bool, true, false, not}
use mathlib.Core.List.{List, [], ◌∷◌, map, map-map}
use native.Mathlib.Nat.{zero-add}
use native.Mathlib.Numerals.{add-one}
use native.Mathlib.Omega.{arith}
use lib.Bits.{bit_and}
use lib.Dec.{ltb, eqb}
use lib.ListN.{length, get_or, set, replicate, length-map, length-set, length-replicate}
use lib.Seq.{get_or-set_same, get_or-set_other}
use borrow.Author.Tests.{ltb-true, ltb-false, eqb-true, eqb-false, not-true}
use Rattle.model.specs.Base.{all, among, each, sum, from}
use Rattle.model.specs.Circuit.{Circuit, gates}
use Rattle.model.proofs.Lists.{each_keeps, among_all, both_true, clash, map_from, from_length, all_same, among_either, among_none, in_range}
use Rattle.links.specs.Links.{gates_of_word}
use Rattle.circuit.specs.Gates.{with_gate, gates_where, waits, word_of_bits}
use Rattle.circuit.proofs.Unplaced.{unplaced, gates_apart, none_left, rounds_next, rounds_over, rounds_last}
use Rattle.figures.specs.Figures.{place, placed, passed_on, all_passed_on, no_ring, steps_of_gate}
use Rattle.figures.proofs.Rounds.{is_placed, placed_length, none_placed, placed_at, placed_stays, placed_on, no_steps, gate_steps}
use Rattle.size.specs.Numbers.{cap, with_number, numbered, Numbers}
use Rattle.size.proofs.Capped.{capped_sum}
use Rattle.size.proofs.Newly.{words_fewer, newly, all_newly, among_newly}

module _ (c : Circuit) where
  -- ---- the gates that are placed

  -- after k rounds
  abbrev pub after : ℕ → List Bool
  after k = placed (all_passed_on c) k

  passed_length : length (all_passed_on c) ≡ length c.kinds
  unfolding all_passed_on gates
  passed_length = length-map (from 0 (length c.kinds)) (passed_on c) ∙ from_length 0 (length c.kinds)

  pub after_length : (k : ℕ) → length (after k) ≡ length c.kinds
  after_length k = placed_length (all_passed_on c) k ∙ passed_length

  passed_at : (g : ℕ) → g < length c.kinds → get_or (all_passed_on c) g [] ≡ passed_on c g
  unfolding all_passed_on gates
  passed_at g l = map_from (passed_on c) 0 (length c.kinds) g [] l ∙ ap (passed_on c) (zero-add g)

  -- whether gate g is placed in a round
  ready : List Bool → ℕ → Bool
  ready bs g = all (λ h. get_or bs h true) (passed_on c g)

  round_is : (k : ℕ) → after (suc k) ≡ map (ready (after k)) (from 0 (length c.kinds))
  unfolding placed place all_passed_on gates ready
  round_is k = map-map (all (λ h. get_or (after k) h true)) (passed_on c) (from 0 (length c.kinds))

  -- before the first round: all gates
  pub ring_first : (n w : ℕ) → n ≡ length c.kinds → w ≡ gates_where (λ _. true) n → w ≡ unplaced (after 0)
  unfolding unplaced placed gates_where all_passed_on gates
  ring_first n w en e = rw (e, en) (ap word_of_bits (sym (map-map not (λ _. false) (map (passed_on c) (from 0 (length c.kinds))) ∙ map-map (λ _. true) (passed_on c) (from 0 (length c.kinds)))))

  -- one round, where `words` has what each gate passes on to
  pub ring_next :
      (n k w v : ℕ) (words : List ℕ) → n ≡ length c.kinds → n ≤ 64 → ((g : ℕ) → g < n → get_or words g 0 ≡ each with_gate 0 (passed_on c g)) →
      w ≡ unplaced (after k) → v ≡ gates_where (waits words w) n → v ≡ unplaced (after (k + 1))
  unfolding ready
  ring_next n k w v words en l a ew ev =
      let b : length (after k) ≤ 64 = omega (arith, after_length k) in
      rounds_next (length c.kinds) ready after round_is k w v words
      (λ g m. ap (λ (x : ℕ). eqb (bit_and x (unplaced (after k))) 0) (a g (omega arith)) ∙ gates_apart (after k) (passed_on c g) b) ew (rw en at ev)

  all_ready : (bs : List Bool) → ((i : ℕ) → get_or bs i true ≡ true) → (g : ℕ) → ready bs g ≡ true
  unfolding ready
  all_ready bs h g = yes_each (passed_on c g)
    where
      yes_each : (gs : List ℕ) → all (λ x. get_or bs x true) gs ≡ true
      yes_each gs = among_all (λ x. get_or bs x true) gs (λ i m. h i)

  stays : (k i : ℕ) → get_or (after k) i true ≡ true → get_or (after (k + 1)) i true ≡ true
  stays k i h = rw add-one (placed_stays (all_passed_on c) k i h)

  -- a round leaves no more than there were
  pub ring_fewer : (k w v : ℕ) → w ≡ unplaced (after k) → v ≡ unplaced (after (k + 1)) → v ≤ w
  ring_fewer k w v e f = omega (arith, e, f, words_fewer (after k) (after (k + 1)) (after_length k ∙ sym (after_length (k + 1))) (stays k))

  -- ---- the numbers

  -- what is right of the numbers after k rounds
  pub record NumberedAfter (k : ℕ) (ns : List ℕ) : Type 0 where
    pub room : 64 ≤ length ns
    pub right : (g : ℕ) → get_or (after k) g true ≡ true → get_or ns g 0 ≡ cap (steps_of_gate c g)

  pub none_numbered : (ns : List ℕ) → ns ≡ replicate 64 0 → NumberedAfter 0 ns
  unfolding steps_of_gate cap
  none_numbered ns e =
      record {
        room = omega (arith, ap (λ (xs : List ℕ). length xs) e, length-replicate {A = ℕ} 64 0);
        right = λ g h. go g h (ltb g (length c.kinds)) refl;
      }
    where
      go : (g : ℕ) → get_or (after 0) g true ≡ true → (b : Bool) → ltb g (length c.kinds) ≡ b → get_or ns g 0 ≡ cap (steps_of_gate c g)
      go g h true q = clash h (none_placed (all_passed_on c) g (omega (arith, ltb-true g (length c.kinds) q, passed_length)))
      go g h false q =
          ap (λ (xs : List ℕ). get_or xs g 0) e ∙ all_same 64 g 0
          ∙ sym (ap cap (no_steps (all_passed_on c) (length c.kinds) g (omega (arith, ltb-false g (length c.kinds) q, passed_length))))

  module _ (k : ℕ) (m : k < length c.kinds) (few : length c.kinds ≤ 64) where
    -- what a round places is a gate
    there : (g : ℕ) → newly (after k) (after (k + 1)) g ≡ true → g < length c.kinds
    there g q =
        let t = both_true (not (get_or (after k) g true)) (get_or (after (k + 1)) g true) q in
        omega (arith, in_range true (after k) g (not-true (get_or (after k) g true) t.0), after_length k)

    -- the number that a gate gets in round k + 1
    gets : (ns : List ℕ) (g : ℕ) → NumberedAfter k ns → newly (after k) (after (k + 1)) g ≡ true → each (with_number ns) 1 (passed_on c g) ≡ cap (steps_of_gate c g)
    unfolding steps_of_gate cap
    gets ns g r q =
        let G = length c.kinds in
        let t = both_true (not (get_or (after k) g true)) (get_or (after (k + 1)) g true) q in
        let l = there g q in
        let p : is_placed (all_passed_on c) (suc k) g ≡ true = rw (← add-one) t.1 in
        let a : all (λ h. get_or (after k) h true) (passed_on c g) ≡ true = ap (all (λ h. get_or (after k) h true)) (sym (passed_at g l)) ∙ sym (placed_at (all_passed_on c) k g) ∙ p in
        let d : suc k + (G - suc k) ≡ G = omega arith in
        let z : is_placed (all_passed_on c) G g ≡ true = rw d at (placed_on (all_passed_on c) (suc k) (G - suc k) g p) in
        let s : steps_of_gate c g ≡ suc (sum (map (steps_of_gate c) (passed_on c g))) =
        gate_steps (all_passed_on c) G g (omega (arith, l, passed_length)) z ∙ ap (λ (gs : List ℕ). suc (sum (map (steps_of_gate c) gs))) (passed_at g l)
        in
        let o : 1 + sum (map (steps_of_gate c) (passed_on c g)) ≡ suc (sum (map (steps_of_gate c) (passed_on c g))) = omega arith in
        capped_sum (λ h. get_or (after k) h true) (steps_of_gate c) ns 1 (passed_on c g) a r.right ∙ ap cap (o ∙ sym s)

    Right : List ℕ → ℕ → Type 0
    Right ns i = get_or ns i 0 ≡ cap (steps_of_gate c i)

    module _ (ns : List ℕ) (g : ℕ) (r : NumberedAfter k ns) (q : newly (after k) (after (k + 1)) g ≡ true) where
      -- then its number is right, and every other that was
      right_now : (i : ℕ) → (i ≡ g) ⊎ Right ns i → Right (numbered c ns g) i
      unfolding numbered Right
      right_now i h = go (eqb i g) refl h
        where
          v : ℕ
          v = each (with_number ns) 1 (passed_on c g)

          go : (b : Bool) → eqb i g ≡ b → (i ≡ g) ⊎ Right ns i → Right (set ns g v) i
          go true e h =
              let z = eqb-true i g e in
              ap (λ (x : ℕ). get_or (set ns g v) x 0) z ∙ get_or-set_same ns g v 0 (omega (arith, r.room, there g q, few)) ∙ gets ns g r q ∙ ap (λ (x : ℕ). cap (steps_of_gate c x)) (sym z)
          go false e (inl z) = absurd (eqb-false i g e z)
          go false e (inr h) = get_or-set_other ns g i v 0 (eqb-false i g e) ∙ h

      still_after : NumberedAfter k (numbered c ns g)
      unfolding numbered Right
      still_after = record { room = omega (arith, r.room, length-set ns g (each (with_number ns) 1 (passed_on c g))); right = λ j p. right_now j (inr (r.right j p)) }

      right_on : (gs : List ℕ) (i : ℕ) → Right ns i ⊎ (among i (g ∷ gs) ≡ true) → Right (numbered c ns g) i ⊎ (among i gs ≡ true)
      right_on gs i (inl e) = inl (right_now i (inr e))
      right_on gs i (inr e) = go (among_either i g gs e)
        where
          go : (i ≡ g) ⊎ (among i gs ≡ true) → Right (numbered c ns g) i ⊎ (among i gs ≡ true)
          go (inl z) = inl (right_now i (inl z))
          go (inr z) = inr z

    -- so it is with each of some gates that this round places
    all_get : (gs ns : List ℕ) → all (newly (after k) (after (k + 1))) gs ≡ true → NumberedAfter k ns → (i : ℕ) → Right ns i ⊎ (among i gs ≡ true) → Right (each (numbered c) ns gs) i
    unfolding all each
    all_get [] ns a r i (inl h) = h
    all_get [] ns a r i (inr h) = clash h (among_none i)
    all_get (g ∷ gs) ns a r i h =
        let t = both_true (newly (after k) (after (k + 1)) g) (all (newly (after k) (after (k + 1))) gs) a in
        all_get gs (numbered c ns g) t.1 (still_after ns g r t.0) i (right_on ns g r t.0 gs i h)

    -- Round k + 1: the gates that are not left any more get their numbers.
    numbers_next :
        (w v : ℕ) (ns ns₁ : List ℕ) → w ≡ unplaced (after k) → v ≡ unplaced (after (k + 1)) → NumberedAfter k ns →
        ns₁ ≡ each (numbered c) ns (gates_of_word (w - v)) → NumberedAfter (k + 1) ns₁
    unfolding numbered Right
    numbers_next w v ns ns₁ ew ev r e =
        record {
          room = omega (arith, ap (λ (xs : List ℕ). length xs) e, r.room, each_keeps (λ xs. length xs ≡ length ns) (numbered c) (λ xs g h. length-set xs g _ ∙ h) ns (gates_of_word (w - v)) refl);
          right = λ i p. ap (λ (xs : List ℕ). get_or xs i 0) e ∙ rw (ew, ev) (all_get newer ns (all_newly (after k) (after (k + 1)) long (stays k)) r i (go i p (get_or (after k) i true) refl));
        }
      where
        long : length (after k) ≡ length (after (k + 1))
        long = after_length k ∙ sym (after_length (k + 1))

        newer : List ℕ
        newer = gates_of_word (unplaced (after k) - unplaced (after (k + 1)))

        go : (i : ℕ) → get_or (after (k + 1)) i true ≡ true → (b : Bool) → get_or (after k) i true ≡ b → Right ns i ⊎ (among i newer ≡ true)
        go i p true e = inl (r.right i e)
        go i p false e =
            inr (among_newly (after k) (after (k + 1)) long (stays k) i (omega (arith, in_range true (after k) i e, after_length k, few)) (rw (e, p)))

  pub ring_numbers :
      (n k w v : ℕ) (ns ns₁ : List ℕ) → n ≡ length c.kinds → n ≤ 64 → k < n → w ≡ unplaced (after k) → v ≡ unplaced (after (k + 1)) → NumberedAfter k ns →
      ns₁ ≡ each (numbered c) ns (gates_of_word (w - v)) → NumberedAfter (k + 1) ns₁
  ring_numbers n k w v ns ns₁ en few l ew ev r e = numbers_next k (omega arith) (omega arith) w v ns ns₁ ew ev r e

  -- ---- the end

  -- where all are placed each gate has its number
  all_numbered : (k : ℕ) (ns : List ℕ) → NumberedAfter k ns → ((i : ℕ) → get_or (after k) i true ≡ true) → Numbers c ns
  all_numbered k ns r h g = r.right g (h g)

  -- before all rounds, where none is left
  pub ring_over :
      (n k w : ℕ) (ns : List ℕ) → n ≡ length c.kinds → k < n → w ≡ unplaced (after k) → NumberedAfter k ns → w ≡ 0 →
      (true ≡ no_ring c) × (◌≡◌ {A = Bool} true true → Numbers c ns)
  unfolding no_ring
  ring_over n k w ns en l e r z =
      (sym (rounds_over (length c.kinds) ready after round_is all_ready k w (omega arith) e z), λ _. all_numbered k ns r (none_left (after k) w e z))

  -- after all
  pub ring_last :
      (n k w : ℕ) (ns : List ℕ) → n ≡ length c.kinds → k ≤ n → n ≤ k → w ≡ unplaced (after k) → NumberedAfter k ns →
      (eqb w 0 ≡ no_ring c) × (eqb w 0 ≡ true → Numbers c ns)
  unfolding no_ring
  ring_last n k w ns en l m e r =
      (rounds_last (length c.kinds) ready after round_is k w (omega arith) e, λ z. all_numbered k ns r (none_left (after k) w e (eqb-true w 0 z)))
