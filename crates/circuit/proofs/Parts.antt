-- Questions 3, 7, 9 and 10 from what is asked of their parts.
use Prim.Native.Nat.{ℕ, suc, ◌+◌, ◌*◌, ◌/◌, ◌≤◌, ◌<◌, max}
use mathlib.Core.Path.{◌≡◌, refl, sym, ap, ◌∙◌}
use mathlib.Core.Bool.{Bool, true, false, not, ◌&&◌, and_assoc, and_comm}
use mathlib.Core.List.{List, [], ◌∷◌, map}
use mathlib.Core.Option.{none, some}
use native.Mathlib.Nat.{add-zero}
use native.Mathlib.Omega.{arith}
use borrow.Author.Tests.{le-leb, lt-leb, leb-true, leb-false}
use lib.Dec.{eqb, leb, leb-suc-suc}
use lib.ListN.{length, get_or}
use Rattle.words.specs.Words.{words}
use Rattle.words.proofs.Laws.{words_long}
use Rattle.model.specs.Base.{if◌then◌otherwise◌, all, keep, from, sum}
use Rattle.model.specs.Kinds.{kind_at}
use Rattle.model.specs.Circuit.{Circuit, part, word_at, circuit, circuit_opened, kind_of_gate}
use Rattle.model.specs.Questions.{Areas, within, question_1, question_3, question_7, question_8, question_9, question_10, names_constant, queues, good_length, script_refusal}
use Rattle.model.proofs.Lists.{both_length}
use Rattle.model.proofs.Laid.{part_length}
use Rattle.circuit.proofs.Loops.{all_alike, within_zero}
use Rattle.circuit.proofs.Sized.{sized}

-- ---- tests one after the other

pub and_yes : (t u x : Bool) → (t && u) ≡ x → t ≡ true → u ≡ x
and_yes t u x e h = rw h at e

pub and_no : (t u x : Bool) → (t && u) ≡ x → t ≡ false → t ≡ x
and_no t u x e h = h ∙ rw h at e

swapped : (a b c : Bool) → (a && c && b) ≡ (a && b && c)
swapped a b c = and_assoc a c b ∙ ap (λ (x : Bool). a && x) (and_comm c b) ∙ sym (and_assoc a b c)

-- ---- question 3

-- the word of rank and body is at most the last one of body b exactly where the body is at most b
place_within : (b w : ℕ) → within 0 (65536 * b + 65535) w ≡ within 0 b (w / 65536)
place_within b w = within_zero (65536 * b + 65535) w ∙ go (leb (w / 65536) b) refl ∙ sym (within_zero b (w / 65536))
  where
    go : (t : Bool) → leb (w / 65536) b ≡ t → leb w (65536 * b + 65535) ≡ t
    go true e = let l = leb-true (w / 65536) b e in le-leb w (65536 * b + 65535) (omega arith)
    go false e = let l = leb-false (w / 65536) b e in lt-leb w (65536 * b + 65535) (omega arith)

places_within : (b : ℕ) (ws : List ℕ) → all (within 0 (65536 * b + 65535)) ws ≡ all (within 0 b) (map (λ w. w / 65536) ws)
unfolding all
places_within b [] = refl
places_within b (w ∷ ws) = λ j. place_within b w j && places_within b ws j

pub gates_are :
    (ws : List ℕ) (G K I : ℕ) (t u : Bool) → G ≡ get_or ws 0 0 → K ≡ get_or ws 1 0 → I ≡ get_or ws 2 0 →
    t ≡ (all (within 1 31) (part ws (4 + 2 * K) G) && eqb (sum (map (λ k. length (kind_at k).ins) (part ws (4 + 2 * K) G))) I) →
    u ≡ all (within 0 4259839) (part ws (4 + 2 * K + G) G) → (t && u) ≡ question_3 ws (circuit ws)
unfolding question_3 circuit word_at
gates_are ws G K I t u g k i et eu =
    rw (et, eu ∙ places_within 64 (part ws (4 + 2 * K + G) G), ← g, ← k, ← i)
    (swapped (all (within 1 31) (part ws (4 + 2 * K) G)) (all (within 0 64) (map (λ w. w / 65536) (part ws (4 + 2 * K + G) G))) (eqb (sum (map (λ k. length (kind_at k).ins) (part ws (4 + 2 * K) G))) I))

-- ---- question 7

-- Those places of a list at which something that passes stands are as many as pass.
keep_places : (p : ℕ → Bool) (f : ℕ → ℕ) (a : ℕ) (xs : List ℕ) → ((j : ℕ) → j < length xs → f (a + j) ≡ get_or xs j 0)
    → length (keep (λ g. p (f g)) (from a (length xs))) ≡ length (keep p xs)
unfolding keep from if◌then◌otherwise◌
keep_places p f a [] e = refl
keep_places p f a (x ∷ xs) e =
    let h : f a ≡ x = sym (ap f (add-zero a)) ∙ e 0 (omega arith) in
    rw h (go (p x) (keep_places p f (suc a) xs (λ j l. let i : suc a + j ≡ a + suc j = omega arith in ap f i ∙ e (suc j) (omega arith))))
  where
    go : (b : Bool) → length (keep (λ g. p (f g)) (from (suc a) (length xs))) ≡ length (keep p xs)
        → length (if b then a ∷ keep (λ g. p (f g)) (from (suc a) (length xs)) otherwise keep (λ g. p (f g)) (from (suc a) (length xs)))
        ≡ length (if b then x ∷ keep p xs otherwise keep p xs)
    go true h = ap suc h
    go false h = h

pub queues_are : (ws : List ℕ) (G K r : ℕ) → G ≡ get_or ws 0 0 → K ≡ get_or ws 1 0 → r ≡ length (keep (within 16 17) (part ws (4 + 2 * K) G)) → r ≡ queues (circuit ws)
unfolding queues circuit_opened
queues_are ws G K r g k e =
    e ∙ rw (g, k) (sym (keep_places (within 16 17) (λ j. get_or (part ws (4 + 2 * get_or ws 1 0) (get_or ws 0 0)) j 0) 0 (part ws (4 + 2 * get_or ws 1 0) (get_or ws 0 0)) (λ j l. let i : 0 + j ≡ j = omega arith in rw i)))

-- A call that is lent no areas.
pub few_are : (c : Circuit) (n : ℕ) (t : Bool) → n ≡ queues c → t ≡ leb n 8 → t ≡ question_7 none c
unfolding question_7
few_are c n t e h = rw (← e) h

-- A call that is lent areas.
pub areas_are :
    (c : Circuit) (a : Areas) (n : ℕ) (t : Bool) → n ≡ queues c → t ≡ (leb n 8 && leb 65536 a.values && leb 65536 a.units && leb (65536 * max 1 n) a.delays) →
    t ≡ question_7 (some a) c
unfolding question_7
areas_are c a n t e h = rw (← e) h

-- ---- question 9

pub ticks_are :
    (ws : List ℕ) (T S : ℕ) (t u : Bool) → T ≡ get_or ws 0 0 → S ≡ get_or ws 1 0 → t ≡ all good_length (part ws 2 T) →
    u ≡ (all (within 0 64) (part ws (2 + T) T) && eqb (sum (part ws (2 + T) T)) S) → (t && u) ≡ question_9 ws
unfolding question_9 word_at
ticks_are ws T S t u et es e₁ e₂ =
    rw (e₁, e₂, ← et, ← es) (sym (and_assoc (all good_length (part ws 2 T)) (all (within 0 64) (part ws (2 + T) T)) (eqb (sum (part ws (2 + T) T)) S)))

-- ---- question 10

names : (s : List ℕ) → question_1 s (words s) ≡ true → (k : ℕ) → names_constant (circuit (words s)) k ≡ within 0 (get_or (words s) 1 0) k
unfolding names_constant circuit word_at
names s h k =
    let z = sized s h in
    let K = get_or (words s) 1 0 in
    let l : 4 + K + K ≤ length (words s) = words_long (4 + K + K) s (omega arith) in
    let a : length (part (words s) 4 K) ≡ K = part_length (words s) 4 K (omega arith) in
    let b : length (part (words s) (4 + K) K) ≡ K = part_length (words s) (4 + K) K l in
    rw (both_length _ (part (words s) 4 K) (part (words s) (4 + K) K) (a ∙ sym b), a) (leb-suc-suc k K ∙ sym (within_zero K k))

pub stimuli_are :
    (s ws : List ℕ) (G K T S : ℕ) (t u : Bool) → question_1 s (words s) ≡ true → G ≡ get_or (words s) 0 0 → K ≡ get_or (words s) 1 0 → S ≡ get_or ws 1 0 → T ≡ get_or ws 0 0 →
    t ≡ all (λ g. eqb (get_or (part (words s) (4 + 2 * K) G) g 0) 28) (part ws (2 + 2 * T) S) → u ≡ all (within 0 K) (part ws (2 + 2 * T + S) S) →
    (t && u) ≡ question_10 ws (circuit (words s))
unfolding question_10 kind_of_gate word_at
stimuli_are s ws G K T S t u h g k es et e₁ e₂ =
    let a = all_alike (names_constant (circuit (words s))) (within 0 (get_or (words s) 1 0)) (names s h) (part ws (2 + 2 * T + S) S) in
    rw (e₁, e₂, ← et, ← es, a, g, k, kinds_are (words s))
  where
    kinds_are : (ws : List ℕ) → (circuit ws).kinds ≡ part ws (4 + 2 * get_or ws 1 0) (get_or ws 0 0)
    kinds_are ws = unfold circuit in unfold word_at in refl

-- ---- a script's refusal

module _ (c : Circuit) (s : List ℕ) (t : Bool) (e : t ≡ question_8 s (words s)) where
  pub refused_8 : not t ≡ true → 8 ≡ script_refusal c s
  unfolding script_refusal if◌then◌otherwise◌
  refused_8 h = rw (← e, h)

  module _ (h : not t ≡ false) (u : Bool) (f : u ≡ question_9 (words s)) where
    pub refused_9 : not u ≡ true → 9 ≡ script_refusal c s
    unfolding script_refusal if◌then◌otherwise◌
    refused_9 k = rw (← e, h, ← f, k)

    module _ (k : not u ≡ false) (v : Bool) (g : v ≡ question_10 (words s) c) where
      pub refused_10 : not v ≡ true → 10 ≡ script_refusal c s
      unfolding script_refusal if◌then◌otherwise◌
      refused_10 l = rw (← e, h, ← f, k, ← g, l)

      pub not_refused : not v ≡ false → 0 ≡ script_refusal c s
      unfolding script_refusal if◌then◌otherwise◌
      not_refused l = rw (← e, h, ← f, k, ← g, l)
