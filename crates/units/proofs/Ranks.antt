-- What the proofs of `place` and `file` cite: a list by rank, where an entry's rank is that of its gate.
use Prim.Native.Nat.{ℕ, zero, suc, ◌+◌, ◌-◌, ◌≤◌, ◌<◌}
use mathlib.Core.Path.{◌≡◌, sym, ap, ◌∙◌}
use mathlib.Core.Bool.{Bool, true, false, cond}
use mathlib.Core.List.{List, ◌∷◌, map}
use native.Mathlib.Omega.{arith}
use native.Mathlib.Numerals.{add-one}
use borrow.Author.Tests.{le-leb, lt-leb, lt-ltb, le-ltb}
use lib.Dec.{leb, ltb}
use lib.ListN.{length, get_or, set, length-map, length-set}
use lib.Seq.{get_or-set_same, get_or-set_other}
use Rattle.lists.specs.Lists.{downward, stacked, Filed, NoRoom, Done}
use Rattle.lists.proofs.Stacks.{stacked_is, downward_other, stacked_set}
use Rattle.model.specs.Circuit.{Circuit, rank_of_gate}
use Rattle.model.specs.State.{Act}
use Rattle.units.specs.View.{gate_of, act_of}
use Rattle.units.specs.Raising.{by_rank}

-- what holds on both sides of a choice
cond_both : {A : Type 0} (P : A → Type 0) (b : Bool) (s t : A) → P s → P t → P (cond b s t)
cond_both P true s t p q = p
cond_both P false s t p q = q

module _ (c : Circuit) where
  -- the rank of an entry's gate
  abbrev pub entry_rank : ℕ → ℕ
  entry_rank x = rank_of_gate c (gate_of x)

  -- What the loop of `place` leaves: words i down to 1 move up by one as long as their rank is not above x's, and x comes below them.
  unfoldable pub placed : ℕ → ℕ → List ℕ → List ℕ
  placed x zero w = set w 1 x
  placed x (suc i) w =
      cond (leb (entry_rank (get_or w (suc i) 0)) (entry_rank x)) (placed x i (set w (suc (suc i)) (get_or w (suc i) 0))) (set w (suc (suc i)) x)

  -- the words above stay
  placed_above : (x i j : ℕ) (w : List ℕ) → suc i < j → get_or (placed x i w) j 0 ≡ get_or w j 0
  unfolding placed
  placed_above x zero j w h = get_or-set_other w 1 j x 0 (omega arith)
  placed_above x (suc i) j w h =
      cond_both (λ (l : List ℕ). get_or l j 0 ≡ get_or w j 0) (leb (entry_rank (get_or w (suc i) 0)) (entry_rank x)) _ _
      (placed_above x i j _ (omega arith) ∙ get_or-set_other w (suc (suc i)) j _ 0 (omega arith))
      (get_or-set_other w (suc (suc i)) j x 0 (omega arith))

  -- one turn, whatever the test says
  placed_turn : (x n : ℕ) (w : List ℕ) → suc (suc n) < length w
      → ((w' : List ℕ) → suc n < length w' → map (act_of c) (downward (suc n) (placed x n w')) ≡ by_rank c (act_of c x) (map (act_of c) (downward n w')))
      → (b : Bool)
      → map (act_of c) (downward (suc (suc n)) (cond b (placed x n (set w (suc (suc n)) (get_or w (suc n) 0))) (set w (suc (suc n)) x)))
      ≡ cond b (act_of c (get_or w (suc n) 0) ∷ by_rank c (act_of c x) (map (act_of c) (downward n w))) (act_of c x ∷ map (act_of c) (downward (suc n) w))
  unfolding downward
  placed_turn x n w h on true =
      let w' : List ℕ = set w (suc (suc n)) (get_or w (suc n) 0) in
      let l : suc n < length w' = rw length-set (omega arith) in
      let a : get_or (placed x n w') (suc (suc n)) 0 ≡ get_or w (suc n) 0 = placed_above x n (suc (suc n)) w' (omega arith) ∙ get_or-set_same w (suc (suc n)) (get_or w (suc n) 0) 0 h in
      let b : map (act_of c) (downward (suc n) (placed x n w')) ≡ by_rank c (act_of c x) (map (act_of c) (downward n w)) =
      on w' l ∙ ap (λ (k : List ℕ). by_rank c (act_of c x) (map (act_of c) k)) (downward_other n (suc (suc n)) (get_or w (suc n) 0) w (omega arith)) in
      λ j. act_of c (a j) ∷ b j
  placed_turn x n w h on false =
      let a : get_or (set w (suc (suc n)) x) (suc (suc n)) 0 ≡ x = get_or-set_same w (suc (suc n)) x 0 h in
      let b : downward (suc n) (set w (suc (suc n)) x) ≡ downward (suc n) w = downward_other (suc n) (suc (suc n)) x w (omega arith) in
      λ j. act_of c (a j) ∷ map (act_of c) (b j)

  -- x stands where its rank says
  placed_ranked : (x n : ℕ) (w : List ℕ) → suc n < length w → map (act_of c) (downward (suc n) (placed x n w)) ≡ by_rank c (act_of c x) (map (act_of c) (downward n w))
  unfolding placed downward by_rank act_of
  placed_ranked x zero w h = rw (get_or-set_same w 1 x 0 h)
  placed_ranked x (suc n) w h = placed_turn x n w h (placed_ranked x n) (leb (entry_rank (get_or w (suc n) 0)) (entry_rank x))

  -- what the loop leaves is what `place` ensures
  pub place_done : (x n : ℕ) (w w' : List ℕ) → n + 2 ≤ length w → w' ≡ placed x n w → map (act_of c) (downward (n + 1) w') ≡ by_rank c (act_of c x) (map (act_of c) (downward n w))
  place_done x n w w' l e = rw (add-one, e) (placed_ranked x n w (omega arith))

  -- an entry moves up
  placed_keep : (x i : ℕ) (w : List ℕ) → 0 < i → entry_rank (get_or w i 0) ≤ entry_rank x → placed x i w ≡ placed x (i - 1) (set w (i + 1) (get_or w i 0))
  unfolding placed
  placed_keep x zero w h k = absurd (omega arith)
  placed_keep x (suc i) w h k =
      let e : suc i - 1 ≡ i = omega arith in
      rw (e, add-one, le-leb (entry_rank (get_or w (suc i) 0)) (entry_rank x) k)

  -- x has found its place
  placed_stop : (x i : ℕ) (w : List ℕ) → 0 < i → entry_rank x < entry_rank (get_or w i 0) → placed x i w ≡ set w (i + 1) x
  unfolding placed
  placed_stop x zero w h k = absurd (omega arith)
  placed_stop x (suc i) w h k = rw (add-one, lt-leb (entry_rank (get_or w (suc i) 0)) (entry_rank x) k)

  -- the turns of the loop: r is what all turns come to
  module _ (x i y g s t : ℕ) (w w' r : List ℕ) (es : s ≡ entry_rank x) (h : 0 < i) (inv : placed x i w ≡ r) (e : y ≡ get_or w (i - 1 + 1) 0) (eg : g ≡ gate_of y) (et : t ≡ rank_of_gate c g) where
    here : y ≡ get_or w i 0
    here = let p : i - 1 + 1 ≡ i = omega arith in e ∙ ap (λ (j : ℕ). get_or w j 0) p

    above : i - 1 + 2 ≡ i + 1
    above = omega arith

    pub place_stop : s < t → w' ≡ set w (i - 1 + 2) x → w' ≡ r
    place_stop k q = q ∙ ap (λ (j : ℕ). set w j x) above ∙ sym (placed_stop x i w h (rw (es, et, eg, here) at k)) ∙ inv

    pub place_keep : t ≤ s → w' ≡ set w (i - 1 + 2) y → placed x (i - 1) w' ≡ r
    place_keep k q = rw (q, above, here) (sym (placed_keep x i w h (rw (es, et, eg, here) at k)) ∙ inv)

  -- all entries have moved up
  pub place_last : (x i : ℕ) (w w' r : List ℕ) → i ≤ 0 → placed x i w ≡ r → w' ≡ set w 1 x → w' ≡ r
  unfolding placed
  place_last x zero w w' r h inv s = s ∙ inv
  place_last x (suc i) w w' r h inv s = absurd (omega arith)

  -- What `file` ensures: its answer, and the list that was l.
  abbrev pub File : ℕ → List Act → Filed → List Act → Type 0
  File x l r k = (r ≡ cond (ltb (length l) 256) Done NoRoom) × (k ≡ cond (ltb (length l) 256) (by_rank c (act_of c x) l) l)

  -- `file` of a list that is full
  pub file_full : (x n : ℕ) (w : List ℕ) → n ≡ length (stacked 256 w) → 256 ≤ n → File x (map (act_of c) (stacked 256 w)) NoRoom (map (act_of c) (stacked 256 w))
  file_full x n w e h =
      let k : ltb (length (map (act_of c) (stacked 256 w))) 256 ≡ false = le-ltb (length (map (act_of c) (stacked 256 w))) 256 (omega (arith, length-map (stacked 256 w) (act_of c))) in
      (rw k, rw k)

  -- `file` with room
  pub file_done : (x n : ℕ) (w w1 w2 : List ℕ) → 0 < length w1 → n ≡ length (stacked 256 w) → n < 256
      → map (act_of c) (downward (n + 1) w1) ≡ by_rank c (act_of c x) (map (act_of c) (downward n w)) → w2 ≡ set w1 0 (n + 1)
      → File x (map (act_of c) (stacked 256 w)) Done (map (act_of c) (stacked 256 w2))
  file_done x n w w1 w2 l e h e1 e2 =
      let k : ltb (length (map (act_of c) (stacked 256 w))) 256 ≡ true = lt-ltb (length (map (act_of c) (stacked 256 w))) 256 (omega (arith, length-map (stacked 256 w) (act_of c))) in
      (rw k, rw (k, e2, stacked_set 256 (n + 1) w1 l (omega arith), stacked_is 256 n w e) e1)
