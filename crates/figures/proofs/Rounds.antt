-- Laws of the rounds, for any list of what each gate passes on to: once a gate is placed it stays so, and its steps stay as they are; then they are one, and
-- those of all that it passes on to.
use Prim.Native.Nat.{ℕ, zero, suc, ◌+◌, ◌≤◌, ◌<◌}
use mathlib.Core.Path.{◌≡◌, refl, sym, ap, ◌∙◌}
use mathlib.Core.Bool.{Bool, true, false}
use mathlib.Core.List.{List, [], ◌∷◌, map}
use native.Mathlib.Omega.{arith}
use lib.Dec.{ltb}
use lib.ListN.{length, get_or, length-map, get_or-map, get_or-eq_default}
use borrow.Author.Tests.{ltb-true, ltb-false}
use Rattle.model.specs.Base.{all, sum}
use Rattle.model.proofs.Lists.{both_true, clash}
use Rattle.figures.specs.Figures.{place, placed, count, counted}

-- ---- lists

-- a sum of what two functions give that agree wherever a test passes
pub sum_same :
    {A : Type 0} (p : A → Bool) (f g : A → ℕ) (xs : List A) → all p xs ≡ true → ((x : A) → p x ≡ true → f x ≡ g x) → sum (map f xs) ≡ sum (map g xs)
unfolding all sum
sum_same p f g [] h e = refl
sum_same p f g (x ∷ xs) h e =
    let t = both_true (p x) (all p xs) h in
    omega (arith, e x t.0, sum_same p f g xs t.1 e)

-- what passes one test passes another
all_too : {A : Type 0} (p q : A → Bool) (xs : List A) → ((x : A) → p x ≡ true → q x ≡ true) → all p xs ≡ true → all q xs ≡ true
unfolding all
all_too p q [] k h = refl
all_too p q (x ∷ xs) k h =
    let t = both_true (p x) (all p xs) h in
    rw (k x t.0, all_too p q xs k t.1)

-- what is mapped, place by place
map_at : {A B : Type 0} (f : A → B) (xs : List A) (i : ℕ) (a : A) (b : B) → i < length xs → get_or (map f xs) i b ≡ f (get_or xs i a)
map_at f [] i a b h = absurd (omega arith)
map_at f (x ∷ xs) zero a b h = refl
map_at f (x ∷ xs) (suc i) a b h = map_at f xs i a b (omega arith)

module _ (passed : List (List ℕ)) where
  -- whether gate g is placed after n rounds; one that is not there is
  abbrev pub is_placed : ℕ → ℕ → Bool
  is_placed n g = get_or (placed passed n) g true

  -- its steps, of calls that go n gates deep
  abbrev pub steps_at : ℕ → ℕ → ℕ
  steps_at n g = get_or (counted passed n) g 0

  pub placed_length : (n : ℕ) → length (placed passed n) ≡ length passed
  unfolding placed place
  placed_length zero = length-map passed _
  placed_length (suc n) = length-map passed _

  pub counted_length : (n : ℕ) → length (counted passed n) ≡ length passed
  unfolding counted count
  counted_length zero = length-map passed _
  counted_length (suc n) = length-map passed _

  -- before the first round no gate is placed
  pub none_placed : (g : ℕ) → g < length passed → is_placed 0 g ≡ false
  unfolding placed
  none_placed g l = map_at (λ _. false) passed g [] true l

  -- a round, gate by gate
  pub placed_at : (n g : ℕ) → is_placed (suc n) g ≡ all (is_placed n) (get_or passed g [])
  unfolding placed place all
  placed_at n g = get_or-map (all (is_placed n)) passed g []

  pub counted_at : (n g : ℕ) → g < length passed → steps_at (suc n) g ≡ suc (sum (map (steps_at n) (get_or passed g [])))
  unfolding counted count
  counted_at n g l = map_at (λ gs. suc (sum (map (steps_at n) gs))) passed g [] 0 l

  -- a gate that is not there has no steps
  pub no_steps : (n g : ℕ) → length passed ≤ g → steps_at n g ≡ 0
  no_steps n g l = get_or-eq_default (counted passed n) 0 (omega (arith, counted_length n))

  -- Once a gate is placed it stays so.
  pub placed_stays : (n g : ℕ) → is_placed n g ≡ true → is_placed (suc n) g ≡ true
  placed_stays zero g h = go (ltb g (length passed)) refl
    where
      go : (b : Bool) → ltb g (length passed) ≡ b → is_placed 1 g ≡ true
      go true e = clash h (none_placed g (ltb-true g (length passed) e))
      go false e = get_or-eq_default (placed passed 1) true (omega (arith, placed_length 1, ltb-false g (length passed) e))
  placed_stays (suc n) g h =
      placed_at (suc n) g ∙ all_too (is_placed n) (is_placed (suc n)) (get_or passed g []) (λ x. placed_stays n x) (sym (placed_at n g) ∙ h)

  pub placed_on : (n k g : ℕ) → is_placed n g ≡ true → is_placed (n + k) g ≡ true
  placed_on n zero g h = let e : n + 0 ≡ n = omega arith in rw e h
  placed_on n (suc k) g h = let e : n + suc k ≡ suc (n + k) = omega arith in rw e (placed_stays (n + k) g (placed_on n k g h))

  -- Once a gate is placed its steps stay as they are.
  pub steps_stay : (n g : ℕ) → is_placed n g ≡ true → (m : ℕ) → n ≤ m → steps_at (suc m) g ≡ steps_at m g
  steps_stay zero g h m l = go (ltb g (length passed)) refl
    where
      go : (b : Bool) → ltb g (length passed) ≡ b → steps_at (suc m) g ≡ steps_at m g
      go true e = clash h (none_placed g (ltb-true g (length passed) e))
      go false e = no_steps (suc m) g (ltb-false g (length passed) e) ∙ sym (no_steps m g (ltb-false g (length passed) e))
  steps_stay (suc n) g h zero l = absurd (omega arith)
  steps_stay (suc n) g h (suc m) l = go (λ x p. steps_stay n x p m (omega arith)) (ltb g (length passed)) refl
    where
      go : ((x : ℕ) → is_placed n x ≡ true → steps_at (suc m) x ≡ steps_at m x) → (b : Bool) → ltb g (length passed) ≡ b → steps_at (suc (suc m)) g ≡ steps_at (suc m) g
      go rec true e =
          let i = ltb-true g (length passed) e in
          counted_at (suc m) g i
          ∙ ap suc (sum_same (is_placed n) (steps_at (suc m)) (steps_at m) (get_or passed g []) (sym (placed_at n g) ∙ h) rec)
          ∙ sym (counted_at m g i)
      go rec false e = no_steps (suc (suc m)) g (ltb-false g (length passed) e) ∙ sym (no_steps (suc m) g (ltb-false g (length passed) e))

  -- The steps of a gate that is placed after n rounds are one, and those of all that it passes on to.
  pub gate_steps : (n g : ℕ) → g < length passed → is_placed n g ≡ true → steps_at n g ≡ suc (sum (map (steps_at n) (get_or passed g [])))
  gate_steps n g l h = sym (steps_stay n g h n (omega arith)) ∙ counted_at n g l
