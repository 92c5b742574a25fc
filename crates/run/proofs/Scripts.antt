-- What a script that is not refused gives to each tick.
use Prim.Native.Nat.{ℕ, zero, suc, ◌+◌, ◌-◌, ◌*◌, ◌%◌, ◌^◌, ◌≤◌, ◌<◌}
use mathlib.Core.Path.{◌≡◌, refl, sym, ap, ap₂, ◌∙◌}
use mathlib.Core.Bool.{Bool, true, false}
use mathlib.Core.List.{List, [], ◌∷◌}
use native.Mathlib.Omega.{arith}
use lib.Dec.{ltb, eqb}
use borrow.Author.Tests.{ltb-true, ltb-false, eqb-true}
use lib.ListN.{length, get_or, take, drop, length-drop, drop_of_length-le, get_or-eq_default}
use lib.Seq.{drop-drop, get_or-drop, get_or-take, length-take-le}
use Rattle.model.specs.Base.{all, both, sum}
use Rattle.model.specs.Circuit.{Circuit, part, word_at, kind_of_gate}
use Rattle.model.specs.Script.{Given, stimulus, given, script}
use Rattle.model.specs.State.{Act}
use Rattle.model.specs.Run.{Allowed, allow, allowed, gets}
use Rattle.model.specs.Questions.{names_constant}
use Rattle.model.proofs.Lists.{both_true}
use Rattle.opening.specs.Opening.{stimuli_of}
use Rattle.run.specs.Running.{GoodScript}

-- ---- parts of lists

both_take : {A B C : Type 0} (f : A → B → C) (n : ℕ) (xs : List A) (ys : List B) → take n (both f xs ys) ≡ both f (take n xs) (take n ys)
unfolding both
both_take f zero xs ys = refl
both_take f (suc n) [] [] = refl
both_take f (suc n) [] (y ∷ ys) = refl
both_take f (suc n) (x ∷ xs) [] = refl
both_take f (suc n) (x ∷ xs) (y ∷ ys) = ap (λ (l : List _). f x y ∷ l) (both_take f n xs ys)

both_none : {A B C : Type 0} (f : A → B → C) (xs : List A) → both f xs [] ≡ []
unfolding both
both_none f [] = refl
both_none f (x ∷ xs) = refl

none_both : {A B C : Type 0} (f : A → B → C) (ys : List B) → both f [] ys ≡ []
unfolding both
none_both f [] = refl
none_both f (y ∷ ys) = refl

both_drop : {A B C : Type 0} (f : A → B → C) (n : ℕ) (xs : List A) (ys : List B) → drop n (both f xs ys) ≡ both f (drop n xs) (drop n ys)
unfolding both
both_drop f zero xs ys = refl
both_drop f (suc n) [] [] = refl
both_drop f (suc n) [] (y ∷ ys) = sym (none_both f (drop n ys))
both_drop f (suc n) (x ∷ xs) [] = sym (both_none f (drop n xs))
both_drop f (suc n) (x ∷ xs) (y ∷ ys) = both_drop f n xs ys

-- n of a part's elements, from its u-th on
part_of : (ws : List ℕ) (a u n m : ℕ) → u + n ≤ m → take n (drop u (part ws a m)) ≡ part ws (a + u) n
unfolding part
part_of ws a u n m h = ap (take n) (take_over (drop a ws) u n m h) ∙ shorter n (m - u) (drop u (drop a ws)) (omega arith) ∙ ap (take n) (drop-drop u a ws)
  where
    nothing : (x : ℕ) → ◌≡◌ {A = List ℕ} [] (take x [])
    nothing zero = refl
    nothing (suc x) = refl

    take_over : (l : List ℕ) (u n m : ℕ) → u + n ≤ m → drop u (take m l) ≡ take (m - u) (drop u l)
    take_over l zero n m h = ap (λ (x : ℕ). take x l) (let e : m ≡ m - 0 = omega arith in e)
    take_over l (suc u) n zero h = absurd (omega arith)
    take_over [] (suc u) n (suc m) h = nothing (suc m - suc u)
    take_over (x ∷ l) (suc u) n (suc m) h = take_over l u n m (omega arith) ∙ ap (λ (y : ℕ). take y (drop u l)) (let e : m - u ≡ suc m - suc u = omega arith in e)

    shorter : (n m : ℕ) (l : List ℕ) → n ≤ m → take n (take m l) ≡ take n l
    shorter zero m l h = refl
    shorter (suc n) zero l h = absurd (omega arith)
    shorter (suc n) (suc m) [] h = refl
    shorter (suc n) (suc m) (x ∷ l) h = ap (λ (y : List ℕ). x ∷ y) (shorter n m l (omega arith))

-- ---- what each tick gets

-- so many stimuli went to the first k ticks
abbrev pub used : List ℕ → ℕ → ℕ
used ns k = sum (take k ns)

pub given_next :
    (ds ns : List ℕ) (acts : List Act) (k : ℕ) → length ds ≡ length ns → k < length ds →
    drop k (given ds ns acts) ≡ record { dt = get_or ds k 0; stimuli = take (get_or ns k 0) (drop (used ns k) acts) } ∷ drop (suc k) (given ds ns acts)
unfolding given sum
given_next [] ns acts k e h = absurd (omega arith)
given_next (d ∷ ds) [] acts k e h = absurd (omega arith)
given_next (d ∷ ds) (n ∷ ns) acts zero e h = refl
given_next (d ∷ ds) (n ∷ ns) acts (suc k) e h =
    given_next ds ns (drop n acts) k (omega arith) (omega arith)
    ∙ ap (λ (l : List Act). record { dt = get_or ds k 0; stimuli = take (get_or ns k 0) l } ∷ drop (suc k) (given ds ns (drop n acts))) (drop-drop (used ns k) n acts)

pub given_length : (ds ns : List ℕ) (acts : List Act) → length ds ≡ length ns → length (given ds ns acts) ≡ length ds
unfolding given
given_length [] [] acts e = refl
given_length [] (n ∷ ns) acts e = refl
given_length (d ∷ ds) [] acts e = absurd (omega arith)
given_length (d ∷ ds) (n ∷ ns) acts e = ap suc (given_length ds ns (drop n acts) (omega arith))

pub used_next : (ns : List ℕ) (k : ℕ) → k < length ns → used ns (suc k) ≡ used ns k + get_or ns k 0
unfolding sum
used_next [] k h = absurd (omega arith)
used_next (n ∷ ns) zero h = omega arith
used_next (n ∷ ns) (suc k) h = let i = used_next ns k (omega arith) in omega arith

pub used_most : (ns : List ℕ) (k : ℕ) → used ns k ≤ sum ns
unfolding sum
used_most [] zero = omega arith
used_most [] (suc k) = omega arith
used_most (n ∷ ns) zero = omega arith
used_most (n ∷ ns) (suc k) = let i = used_most ns k in omega arith

-- ---- a script that is not refused

-- elements that pass a test
all_at : (p : ℕ → Bool) (l : List ℕ) (i : ℕ) → all p l ≡ true → i < length l → p (get_or l i 0) ≡ true
unfolding all
all_at p [] i e h = absurd (omega arith)
all_at p (x ∷ l) zero e h = (both_true (p x) (all p l) e).0
all_at p (x ∷ l) (suc i) e h = all_at p l i (both_true (p x) (all p l) e).1 (omega arith)

-- two that agree on elements that pass their tests
both_same :
    {C : Type 0} (f g : ℕ → ℕ → C) (p q : ℕ → Bool) → ((x y : ℕ) → p x ≡ true → q y ≡ true → f x y ≡ g x y) →
    (xs ys : List ℕ) → all p xs ≡ true → all q ys ≡ true → both f xs ys ≡ both g xs ys
unfolding both all
both_same f g p q e [] [] a b = refl
both_same f g p q e [] (y ∷ ys) a b = refl
both_same f g p q e (x ∷ xs) [] a b = refl
both_same f g p q e (x ∷ xs) (y ∷ ys) a b =
    let a₁ = both_true (p x) (all p xs) a in
    let b₁ = both_true (q y) (all q ys) b in
    ap₂ (λ (z : _) (l : List _). z ∷ l) (e x y a₁.0 b₁.0) (both_same f g p q e xs ys a₁.1 b₁.1)

sub_all : (p : ℕ → Bool) (n : ℕ) (l : List ℕ) → all p l ≡ true → all p (take n l) ≡ true
unfolding all
sub_all p zero l e = refl
sub_all p (suc n) [] e = refl
sub_all p (suc n) (x ∷ l) e =
    let t = both_true (p x) (all p l) e in
    rw (t.0, sub_all p n l t.1) refl

rest_all : (p : ℕ → Bool) (n : ℕ) (l : List ℕ) → all p l ≡ true → all p (drop n l) ≡ true
unfolding all
rest_all p zero l e = e
rest_all p (suc n) [] e = refl
rest_all p (suc n) (x ∷ l) e = rest_all p n l (both_true (p x) (all p l) e).1

named : (c : Circuit) (y : ℕ) → names_constant c y ≡ true → y < length c.constants
unfolding names_constant
named c y f = ltb-true y (length c.constants) f

-- a gate of some kind is one of the circuit's
gate_in : (c : Circuit) (g : ℕ) → eqb (kind_of_gate c g) 28 ≡ true → g < length c.kinds
unfolding kind_of_gate
gate_in c g e = go (ltb g (length c.kinds)) refl
  where
    go : (b : Bool) → ltb g (length c.kinds) ≡ b → g < length c.kinds
    go true h = ltb-true g (length c.kinds) h
    go false h =
        let z : get_or c.kinds g 0 ≡ 0 = get_or-eq_default c.kinds 0 (ltb-false g (length c.kinds) h) in
        let y = eqb-true (get_or c.kinds g 0) 28 e in
        absurd (omega arith)

part_length : (ws : List ℕ) (a n : ℕ) → a + n ≤ length ws → length (part ws a n) ≡ n
unfolding part
part_length ws a n h = length-take-le n (drop a ws) (let e = length-drop a ws in omega arith)

part_at : (ws : List ℕ) (a n k : ℕ) → k < n → get_or (part ws a n) k 0 ≡ word_at ws (a + k)
unfolding part word_at
part_at ws a n k h = get_or-take n (drop a ws) k 0 h ∙ get_or-drop a ws k 0

module _ (c : Circuit) (ws : List ℕ) (good : GoodScript c ws) where
  abbrev T : ℕ
  T = word_at ws 0

  abbrev N : ℕ
  N = word_at ws 1

  -- how many stimuli each tick gets
  abbrev pub counts_of : List ℕ
  counts_of = part ws (2 + T) T

  -- the stimuli of the first k ticks
  abbrev pub used_by : ℕ → ℕ
  used_by k = used counts_of k

  counts_length : length counts_of ≡ T
  counts_length = part_length ws (2 + T) T (let e = good.words in omega arith)

  count_is : (k : ℕ) → k < T → get_or counts_of k 0 ≡ word_at ws (2 + T + k)
  count_is k h = part_at ws (2 + T) T k h

  pub used_by_next : (k : ℕ) → k < T → used_by (k + 1) ≡ used_by k + word_at ws (2 + T + k)
  used_by_next k h =
      ap used_by (let e : k + 1 ≡ suc k = omega arith in e) ∙ used_next counts_of k (let e = counts_length in omega arith) ∙ ap (λ (x : ℕ). used_by k + x) (count_is k h)

  -- what the next tick gets is there
  pub used_fits : (k : ℕ) → k < T → used_by k + word_at ws (2 + T + k) ≤ N
  used_fits k h = let e = used_by_next k h in let f = used_most counts_of (k + 1) in let g = good.counts in omega arith

  pub script_length : length (script c.constants ws) ≡ T
  unfolding script
  script_length = given_length (part ws 2 T) counts_of _ (part_length ws 2 T (let e = good.words in omega arith) ∙ sym counts_length) ∙ part_length ws 2 T (let e = good.words in omega arith)

  -- what tick k + 1 gets
  pub script_next :
      (k : ℕ) → k < T →
      drop k (script c.constants ws)
      ≡ record { dt = word_at ws (2 + k); stimuli = stimuli_of c ws (2 + 2 * T + used_by k) (2 + 2 * T + N + used_by k) (word_at ws (2 + T + k)) } ∷ drop (k + 1) (script c.constants ws)
  unfolding script stimuli_of stimulus
  script_next k h =
      let a = 2 + 2 * T in
      let l = good.words in
      let n = word_at ws (2 + T + k) in
      let acts = both (stimulus c.constants) (part ws a N) (part ws (a + N) N) in
      let fits = used_fits k h in
      let two : length (part ws 2 T) ≡ T = part_length ws 2 T (omega arith) in
      let e : drop k (given (part ws 2 T) counts_of acts) ≡ record { dt = get_or (part ws 2 T) k 0; stimuli = take (get_or counts_of k 0) (drop (used_by k) acts) } ∷ drop (suc k) (given (part ws 2 T) counts_of acts)
      = given_next (part ws 2 T) counts_of acts k (two ∙ sym counts_length) (omega arith) in
      let s : take n (drop (used_by k) acts) ≡ stimuli_of c ws (a + used_by k) (a + N + used_by k) n
      = ap (take n) (both_drop (stimulus c.constants) (used_by k) (part ws a N) (part ws (a + N) N))
      ∙ both_take (stimulus c.constants) n (drop (used_by k) (part ws a N)) (drop (used_by k) (part ws (a + N) N))
      ∙ both_same (stimulus c.constants) (λ g m. stimulus c.constants (g % 2 ^ 16) (m % 2 ^ 16)) (λ g. eqb (kind_of_gate c g) 28) (names_constant c) alike
      (take n (drop (used_by k) (part ws a N))) (take n (drop (used_by k) (part ws (a + N) N)))
      (sub_all (λ g. eqb (kind_of_gate c g) 28) n _ (rest_all (λ g. eqb (kind_of_gate c g) 28) (used_by k) _ good.gates))
      (sub_all (names_constant c) n _ (rest_all (names_constant c) (used_by k) _ good.constants))
      ∙ ap₂ (both (λ g m. stimulus c.constants (g % 2 ^ 16) (m % 2 ^ 16))) (part_of ws a (used_by k) n N fits) (part_of ws (a + N) (used_by k) n N fits) in
      e
      ∙ ap₂ (λ (d : ℕ) (z : List Act). record { dt = d; stimuli = z } ∷ drop (suc k) (given (part ws 2 T) counts_of acts)) (part_at ws 2 T k h) (ap (λ (x : ℕ). take x (drop (used_by k) acts)) (count_is k h) ∙ s)
      ∙ ap (λ (x : ℕ). record { dt = word_at ws (2 + k); stimuli = stimuli_of c ws (a + used_by k) (a + N + used_by k) n } ∷ drop x (given (part ws 2 T) counts_of acts)) (let z : suc k ≡ k + 1 = omega arith in z)
    where
      alike : (x y : ℕ) → eqb (kind_of_gate c x) 28 ≡ true → names_constant c y ≡ true → stimulus c.constants x y ≡ stimulus c.constants (x % 2 ^ 16) (y % 2 ^ 16)
      alike x y e f =
          let i = gate_in c x e in
          let j = named c y f in
          let p = good.few_gates in
          let q = good.few_constants in
          ap₂ (stimulus c.constants) (let z : x ≡ x % 2 ^ 16 = omega arith in z) (let z : y ≡ y % 2 ^ 16 = omega arith in z)

-- ---- with the steps that each tick may make

allowed_drop : (limit : ℕ) (gs : List Given) (k : ℕ) → drop k (allowed limit gs) ≡ allowed limit (drop k gs)
unfolding allowed
allowed_drop limit gs zero = refl
allowed_drop limit [] (suc k) = refl
allowed_drop limit (g ∷ gs) (suc k) = allowed_drop limit gs k

pub gets_next :
    (c : Circuit) (limit : ℕ) (ws : List ℕ) (k : ℕ) (g : Given) → drop k (script c.constants ws) ≡ g ∷ drop (k + 1) (script c.constants ws) →
    drop k (gets c limit ws) ≡ allow limit g ∷ drop (k + 1) (gets c limit ws)
unfolding allowed
gets_next c limit ws k g e =
    let gs = script c.constants ws in
    allowed_drop limit gs k ∙ ap (allowed limit) e ∙ ap (λ (is : List Allowed). allow limit g ∷ is) (sym (allowed_drop limit gs (k + 1)))

pub gets_over : (c : Circuit) (limit : ℕ) (ws : List ℕ) (k : ℕ) → length (script c.constants ws) ≤ k → drop k (gets c limit ws) ≡ []
unfolding allowed
gets_over c limit ws k h =
    let gs = script c.constants ws in
    allowed_drop limit gs k ∙ ap (allowed limit) (drop_of_length-le gs {i = k} h)
