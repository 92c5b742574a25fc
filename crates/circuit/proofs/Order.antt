-- The questions one after the other: what each way out of a function that asks several answers.
use Prim.Native.Nat.{ℕ, zero, suc, ◌*◌, max}
use mathlib.Core.Path.{◌≡◌, refl, sym, ap, ◌∙◌}
use native.Mathlib.Omega.{arith}
use mathlib.Core.Bool.{Bool, true, false, not, ◌&&◌}
use mathlib.Core.List.{List}
use mathlib.Core.Option.{Option, none, some}
use lib.Dec.{leb}
use Rattle.words.specs.Words.{words}
use Rattle.model.specs.Base.{if◌then◌otherwise◌}
use Rattle.model.specs.Circuit.{Circuit, circuit}
use Rattle.model.specs.Questions.{Areas, question_1, question_2, question_3, question_4, question_5, question_19, question_6, question_7, queues, circuit_refusal, script_refusal, or_else, refusal}
use Rattle.links.specs.Links.{cells, net}
use Rattle.links.proofs.Net.{net_cells}
use Rattle.circuit.specs.Refusals.{words_refusal, links_refusal, areas_refusal, made_by, links_after}

-- ---- questions 1 to 3

module _ (s : List ℕ) (t : Bool) (a : t ≡ question_1 s (words s)) where
  pub no_1 : not t ≡ true → 1 ≡ words_refusal s
  unfolding words_refusal if◌then◌otherwise◌
  no_1 h = rw (← a, h)

  module _ (h : not t ≡ false) (u : Bool) (b : u ≡ question_2 (words s)) where
    pub no_2 : not u ≡ true → 2 ≡ words_refusal s
    unfolding words_refusal if◌then◌otherwise◌
    no_2 k = rw (← a, h, ← b, k)

    module _ (k : not u ≡ false) (v : Bool) (d : v ≡ question_3 (words s) (circuit (words s))) where
      pub no_3 : not v ≡ true → 3 ≡ words_refusal s
      unfolding words_refusal if◌then◌otherwise◌
      no_3 l = rw (← a, h, ← b, k, ← d, l)

      pub yes_3 : not v ≡ false → 0 ≡ words_refusal s
      unfolding words_refusal if◌then◌otherwise◌
      yes_3 l = rw (← a, h, ← b, k, ← d, l)

-- where its words are not refused
pub record WordsPassed (s : List ℕ) : Type 0 where
  pub sizes : question_1 s (words s) ≡ true
  pub constants : question_2 (words s) ≡ true
  pub gates : question_3 (words s) (circuit (words s)) ≡ true

pub words_passed : (s : List ℕ) → words_refusal s ≡ 0 → WordsPassed s
unfolding words_refusal if◌then◌otherwise◌
words_passed s h = go (question_1 s (words s)) refl (question_2 (words s)) refl (question_3 (words s) (circuit (words s))) refl h
  where
    go :
        (a : Bool) → question_1 s (words s) ≡ a → (b : Bool) → question_2 (words s) ≡ b → (d : Bool) → question_3 (words s) (circuit (words s)) ≡ d →
        ◌≡◌ {A = ℕ} (if not a then 1 otherwise if not b then 2 otherwise if not d then 3 otherwise 0) 0 → WordsPassed s
    go false e b f d g h = absurd (omega (arith, h))
    go true e false f d g h = absurd (omega (arith, h))
    go true e true f false g h = absurd (omega (arith, h))
    go true e true f true g h = record { sizes = e; constants = f; gates = g }

-- the links that are made show the circuit
pub links_show : (s l : List ℕ) → words_refusal s ≡ 0 → l ≡ cells (circuit (words s)) → net l ≡ circuit (words s)
links_show s l h e = ap net e ∙ net_cells s (words_passed s h).sizes (words_passed s h).gates

-- ---- questions 4, 5, 19, 6 and 7

module _ (s l : List ℕ) (p : words_refusal s ≡ 0) (z : l ≡ cells (circuit (words s))) (t : Bool) (a : t ≡ question_4 (words s) (net l)) where
  four : t ≡ question_4 (words s) (circuit (words s))
  four = a ∙ ap (question_4 (words s)) (links_show s l p z)

  pub no_4 : not t ≡ true → 4 ≡ links_refusal (words s) (circuit (words s))
  unfolding links_refusal if◌then◌otherwise◌
  no_4 h = rw (← four, h)

  module _ (h : not t ≡ false) (u : Bool) (b : u ≡ question_5 (words s) (net l)) where
    five : u ≡ question_5 (words s) (circuit (words s))
    five = b ∙ ap (question_5 (words s)) (links_show s l p z)

    pub no_5 : not u ≡ true → 5 ≡ links_refusal (words s) (circuit (words s))
    unfolding links_refusal if◌then◌otherwise◌
    no_5 k = rw (← four, h, ← five, k)

    module _ (k : not u ≡ false) (i : Bool) (f : i ≡ question_19 (net l)) where
      nineteen : i ≡ question_19 (circuit (words s))
      nineteen = f ∙ ap question_19 (links_show s l p z)

      pub no_19 : not i ≡ true → 19 ≡ links_refusal (words s) (circuit (words s))
      unfolding links_refusal if◌then◌otherwise◌
      no_19 j = rw (← four, h, ← five, k, ← nineteen, j)

      module _ (j : not i ≡ false) (v : Bool) (d : v ≡ question_6 (net l)) where
        six : v ≡ question_6 (circuit (words s))
        six = d ∙ ap question_6 (links_show s l p z)

        pub no_6 : not v ≡ true → 6 ≡ links_refusal (words s) (circuit (words s))
        unfolding links_refusal if◌then◌otherwise◌
        no_6 m = rw (← four, h, ← five, k, ← nineteen, j, ← six, m)

        module _ (m : not v ≡ false) (n : ℕ) (q : n ≡ queues (circuit (words s))) (w : Bool) (e : w ≡ leb n 8) where
          seven : w ≡ question_7 none (circuit (words s))
          unfolding question_7
          seven = e ∙ ap (λ (x : ℕ). leb x 8) q

          pub no_7 : not w ≡ true → 7 ≡ links_refusal (words s) (circuit (words s))
          unfolding links_refusal if◌then◌otherwise◌
          no_7 x = rw (← four, h, ← five, k, ← nineteen, j, ← six, m, ← seven, x)

          pub yes_7 : not w ≡ false → 0 ≡ links_refusal (words s) (circuit (words s))
          unfolding links_refusal if◌then◌otherwise◌
          yes_7 x = rw (← four, h, ← five, k, ← nineteen, j, ← six, m, ← seven, x)

-- ---- both groups, and the script

-- a number that is not 0 is the answer, and otherwise what comes later
pub first_number : (x a b : ℕ) → x ≡ a → (x ≡ 0 → ⊥) → x ≡ or_else a b
unfolding or_else
first_number x zero b e n = absurd (n e)
first_number x (suc a) b e n = e

pub later_number : (x y a b : ℕ) → x ≡ a → x ≡ 0 → y ≡ b → y ≡ or_else a b
unfolding or_else
later_number x y a b e z f = f ∙ ap (λ (n : ℕ). or_else n b) (sym z ∙ e)

two_groups : (s : List ℕ) → circuit_refusal none s ≡ or_else (words_refusal s) (links_refusal (words s) (circuit (words s)))
unfolding circuit_refusal words_refusal links_refusal or_else if◌then◌otherwise◌
two_groups s =
    go (question_1 s (words s)) (question_2 (words s)) (question_3 (words s) (circuit (words s))) (links_refusal (words s) (circuit (words s)))
  where
    go :
        (a b d : Bool) (n : ℕ) →
        (if not a then 1 otherwise if not b then 2 otherwise if not d then 3 otherwise n) ≡ or_else (if not a then 1 otherwise if not b then 2 otherwise if not d then 3 otherwise 0) n
    go false b d n = refl
    go true false d n = refl
    go true true false n = refl
    go true true true n = refl

-- refused by its words: the links are as they were
pub refused_early :
    (s l : List ℕ) (x : ℕ) → x ≡ words_refusal s → (x ≡ 0 → ⊥) → (x ≡ circuit_refusal none s) × (l ≡ links_after s l)
unfolding links_after made_by
refused_early s l x e n = (first_number x _ _ e n ∙ sym (two_groups s), go (words_refusal s) e)
  where
    go : (m : ℕ) → x ≡ m → l ≡ made_by m s l
    go zero f = absurd (n f)
    go (suc m) f = refl

-- the links are made, and the rest is asked of them
pub asked_all :
    (s l l₁ : List ℕ) (x y : ℕ) → x ≡ words_refusal s → x ≡ 0 → l₁ ≡ cells (circuit (words s)) → y ≡ links_refusal (words s) (circuit (words s)) →
    (y ≡ circuit_refusal none s) × (l₁ ≡ links_after s l)
unfolding links_after made_by
asked_all s l l₁ x y e z f g = (later_number x y _ _ e z g ∙ sym (two_groups s), f ∙ ap (λ (n : ℕ). made_by n s l) (sym z ∙ e))

-- ---- the areas

-- question 7 with areas, once it was answered yes without
areas_later : (A : Areas) (s : List ℕ) → circuit_refusal (some A) s ≡ or_else (circuit_refusal none s) (areas_refusal A (circuit (words s)))
unfolding circuit_refusal question_7 areas_refusal or_else if◌then◌otherwise◌
areas_later A s =
    let c = circuit (words s) in
    let k = leb (queues c) 8 in
    go (question_1 s (words s)) (question_2 (words s)) (question_3 (words s) c) (question_4 (words s) c) (question_5 (words s) c) (question_19 c) (question_6 c) k
    (leb 65536 A.values) (leb 65536 A.units) (leb (65536 * max 1 (queues c)) A.delays)
  where
    go :
        (a b d e f i g k x y z : Bool) →
        (if not a then 1 otherwise if not b then 2 otherwise if not d then 3 otherwise if not e then 4 otherwise if not f then 5 otherwise if not i then 19 otherwise if not g then 6
        otherwise if not (k && x && y && z) then 7 otherwise 0)
        ≡ or_else
        (if not a then 1 otherwise if not b then 2 otherwise if not d then 3 otherwise if not e then 4 otherwise if not f then 5 otherwise if not i then 19 otherwise if not g then 6 otherwise if not k then 7 otherwise 0)
        (if k && x && y && z then 0 otherwise 7)
    go false b d e f i g k x y z = refl
    go true false d e f i g k x y z = refl
    go true true false e f i g k x y z = refl
    go true true true false f i g k x y z = refl
    go true true true true false i g k x y z = refl
    go true true true true true false g k x y z = refl
    go true true true true true true false k x y z = refl
    go true true true true true true true false x y z = refl
    go true true true true true true true true false y z = refl
    go true true true true true true true true true false z = refl
    go true true true true true true true true true true false = refl
    go true true true true true true true true true true true = refl

module _ (A : Areas) (c : Circuit) (n : ℕ) (q : n ≡ queues c) (t : Bool)
    (a : t ≡ (leb n 8 && leb 65536 A.values && leb 65536 A.units && leb (65536 * max 1 n) A.delays)) where
  lent : t ≡ question_7 (some A) c
  unfolding question_7
  lent = a ∙ ap (λ (m : ℕ). leb m 8 && leb 65536 A.values && leb 65536 A.units && leb (65536 * max 1 m) A.delays) q

  pub areas_enough : t ≡ true → 0 ≡ areas_refusal A c
  unfolding areas_refusal if◌then◌otherwise◌
  areas_enough h = rw (← lent, h)

  pub areas_short : t ≡ false → 7 ≡ areas_refusal A c
  unfolding areas_refusal if◌then◌otherwise◌
  areas_short h = rw (← lent, h)

module _ (A : Areas) (s : List ℕ) (x : ℕ) (e : x ≡ circuit_refusal none s) where
  -- refused whatever is lent
  pub lent_early : (x ≡ 0 → ⊥) → x ≡ circuit_refusal (some A) s
  lent_early n = first_number x _ _ e n ∙ sym (areas_later A s)

  -- else by the areas
  pub lent_late : (y : ℕ) → x ≡ 0 → y ≡ areas_refusal A (circuit (words s)) → y ≡ circuit_refusal (some A) s
  lent_late y z f = later_number x y _ _ e z f ∙ sym (areas_later A s)

module _ (A : Option Areas) (s p : List ℕ) (x : ℕ) (e : x ≡ circuit_refusal A s) where
  -- the circuit refuses the call
  pub asked_early : (x ≡ 0 → ⊥) → x ≡ refusal A s p
  unfolding refusal
  asked_early n = first_number x _ _ e n

  -- else the script may
  pub asked_late : (y : ℕ) → x ≡ 0 → y ≡ script_refusal (circuit (words s)) p → y ≡ refusal A s p
  unfolding refusal
  asked_late y z f = later_number x y _ _ e z f

-- where the first of two numbers decides
none_first : (n m : ℕ) → or_else n m ≡ 0 → n ≡ 0
unfolding or_else
none_first zero m h = refl
none_first (suc n) m h = h

-- a circuit that is not refused with areas is not refused without
pub none_lent : (A : Option Areas) (s : List ℕ) → circuit_refusal A s ≡ 0 → circuit_refusal none s ≡ 0
none_lent none s h = h
none_lent (some A) s h = none_first (circuit_refusal none s) (areas_refusal A (circuit (words s))) (sym (areas_later A s) ∙ h)

-- and has good sizes
pub words_good : (s : List ℕ) → circuit_refusal none s ≡ 0 → words_refusal s ≡ 0
words_good s h = none_first (words_refusal s) (links_refusal (words s) (circuit (words s))) (sym (two_groups s) ∙ h)

pub sizes_good : (A : Option Areas) (s : List ℕ) (x : ℕ) → x ≡ circuit_refusal A s → x ≡ 0 → question_1 s (words s) ≡ true
sizes_good A s x e z = (words_passed s (words_good s (none_lent A s (sym e ∙ z)))).sizes
