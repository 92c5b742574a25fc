-- Question 19: what each way out of the small functions shows, and the loops.
use Prim.Native.Nat.{ℕ, zero, suc, ◌+◌, ◌-◌, ◌≤◌, ◌<◌}
use mathlib.Core.Path.{◌≡◌, refl, sym, ap, ◌∙◌}
use mathlib.Core.Bool.{Bool, true, false, ◌&&◌, and_assoc, and_comm}
use mathlib.Core.List.{List, [], ◌∷◌, map}
use native.Mathlib.Nat.{zero-add, add-zero}
use native.Mathlib.Omega.{arith}
use lib.Dec.{eqb}
use lib.ListN.{length, get_or}
use borrow.Author.Tests.{eq-eqb, ne_eqb}
use Rattle.model.specs.declared.Value.{Value}
use Rattle.model.specs.declared.Value.TheVariants.{Nothing, Int, Float, Bool as Truth}
use Rattle.model.specs.Value.{same}
use Rattle.model.specs.Base.{if◌then◌otherwise◌, all, keep, from}
use Rattle.model.specs.Circuit.{Call, Circuit, names, kind_of_gate, body_of_gate, input, stored_in, setting, gate_at_input, gate_at_output, gates}
use Rattle.model.specs.Questions.{calls_inside, in_a_body, entries_of, has_entry, comes_out, question_19}
use Rattle.model.proofs.Lists.{all_map, from_first, from_none}
use Rattle.links.specs.Links.{listed, call_of, first_call, call_count, target, net}
use Rattle.links.proofs.Reading.{calls_row, listed_from}

-- ---- calls

module _ (c : Circuit) (o t : ℕ) where
  -- the test of one call of output o, with this target
  abbrev pub inside : Bool
  inside = eqb (body_of_gate c (gate_at_output c o)) (body_of_gate c (gate_at_input c (call_of t).to))

  pub ends_alike :
      (g a i h b : ℕ) → g ≡ gate_at_output c o → a ≡ body_of_gate c g → i ≡ (call_of t).to → h ≡ gate_at_input c i → b ≡ body_of_gate c h → eqb a b ≡ inside
  ends_alike g a i h b eg ea ei eh eb = rw (ea, eg, eb, eh, ei)

-- the calls of output o, one after the other
pub row_tested : (l : List ℕ) (o first n : ℕ) → (first ≡ first_call l o) × (first < 65536) → (n ≡ call_count l o) × (n < 65536) →
    all (λ k. inside (net l) o (target l (first + k))) (from 0 n) ≡ calls_inside (net l) o
unfolding calls_inside listed
row_tested l o first n ef en =
    let c = net l in
    let p : Call → Bool = λ k. eqb (body_of_gate c (gate_at_output c o)) (body_of_gate c (gate_at_input c k.to)) in
    sym (all_map p (λ k. call_of (target l (first + k))) (from 0 n))
    ∙ ap (λ (ks : List Call). all p ks)
    (listed_from (λ k. call_of (target l k)) first n
    ∙ (λ j. map (λ k. call_of (target l k)) (from (ef.0 j) (en.0 j)))
    ∙ sym (calls_row l o))

-- ---- bodies

module _ (c : Circuit) (g b : ℕ) (e : b ≡ body_of_gate c g) where
  pub outside : b ≡ 0 → true ≡ in_a_body c g
  unfolding in_a_body
  outside h = let q : eqb (body_of_gate c g) 0 ≡ true = eq-eqb _ 0 (sym e ∙ h) in rw q

  pub of_a_loop : (k : ℕ) → (b ≡ 0 → ⊥) → k ≡ kind_of_gate c (b - 1) → eqb k 29 ≡ in_a_body c g
  unfolding in_a_body
  of_a_loop k h ek = let q : eqb (body_of_gate c g) 0 ≡ false = ne_eqb _ 0 (λ z. h (e ∙ z)) in rw (q, ek, e)

-- ---- going outwards

module _ (c : Circuit) where
  pub way_out : (n b : ℕ) (x : Bool) → b ≡ 0 → comes_out c n b ≡ x → true ≡ x
  unfolding comes_out
  way_out zero b x h e = sym (eq-eqb b 0 h) ∙ e
  way_out (suc n) b x h e = rw (eq-eqb b 0 h) at e

  pub way_on : (n k b b₁ : ℕ) (x : Bool) → k < n → (b ≡ 0 → ⊥) → b₁ ≡ body_of_gate c (b - 1) → comes_out c (n - k) b ≡ x → comes_out c (n - (k + 1)) b₁ ≡ x
  unfolding comes_out
  way_on n k b b₁ x l h eb e =
      let m : n - k ≡ suc (n - (k + 1)) = omega arith in
      rw eb (rw (m, ne_eqb b 0 h) at e)

  pub way_ends : (n k b : ℕ) (x : Bool) → n ≤ k → comes_out c (n - k) b ≡ x → eqb b 0 ≡ x
  unfolding comes_out
  way_ends n k b x l e = let m : n - k ≡ 0 = omega arith in rw m at e

-- ---- entries

module _ (c : Circuit) (g e k : ℕ) (ek : k ≡ kind_of_gate c e) where
  pub entry_named : (v : Value) (t : Bool) → k ≡ 30 → v ≡ setting c e 0 → t ≡ same v (Int g) → t ≡ names c.kinds c.stored c.first_input g e
  unfolding names kind_of_gate setting stored_in input
  entry_named v t h ev et =
      let q : eqb (get_or c.kinds e 0) 30 ≡ true = eq-eqb _ 30 (sym ek ∙ h) in
      rw q (et ∙ ap (λ (x : Value). same x (Int g)) (ev ∙ ap (λ i. get_or c.stored i Nothing) (add-zero (get_or c.first_input e 0))))

  pub no_entry : (k ≡ 30 → ⊥) → false ≡ names c.kinds c.stored c.first_input g e
  unfolding names kind_of_gate
  no_entry h = let q : eqb (get_or c.kinds e 0) 30 ≡ false = ne_eqb _ 30 (λ z. h (ek ∙ z)) in rw q

-- a value that is no Int is no gate's number
pub no_number : (v : Value) (g : ℕ) → ((b : ℕ) → v ≡ Int b → ⊥) → false ≡ same v (Int g)
unfolding same
no_number Nothing g h = refl
no_number (Int b) g h = absurd (h b refl)
no_number (Float b) g h = refl
no_number (Truth t) g h = refl

-- a gate that is no Loop needs none
pub no_loop : (c : Circuit) (g k : ℕ) → k ≡ kind_of_gate c g → (k ≡ 29 → ⊥) → true ≡ has_entry c g
unfolding has_entry
no_loop c g k ek h = let q : eqb (kind_of_gate c g) 29 ≡ false = ne_eqb _ 29 (λ z. h (ek ∙ z)) in rw q

module _ (p q : ℕ → Bool) (n : ℕ) where
  -- of the numbers from i on, with m before them, one passes p, and those that pass p pass q
  unfoldable pub one_from : ℕ → ℕ → Bool
  one_from m i = eqb (m + length (keep p (from i (n - i)))) 1 && all q (keep p (from i (n - i)))

  pub one_first : one_from 0 0 ≡ (eqb (length (keep p (from 0 n))) 1 && all q (keep p (from 0 n)))
  unfolding one_from
  one_first =
      let e : n - 0 ≡ n = omega arith in
      rw (e, zero-add (length (keep p (from 0 n))))

  one_turn : (m i : ℕ) (b : Bool) → i < n → p i ≡ b → one_from m i ≡ (if b then (q i && one_from (m + 1) (i + 1)) otherwise one_from m (i + 1))
  unfolding one_from keep all if◌then◌otherwise◌
  one_turn m i b h e = rw (from_first i n h, e) (go b)
    where
      rest : List ℕ
      rest = keep p (from (i + 1) (n - (i + 1)))

      swap : (x y z : Bool) → (x && (y && z)) ≡ (y && (x && z))
      swap x y z = sym (and_assoc x y z) ∙ ap (λ (w : Bool). w && z) (and_comm x y) ∙ and_assoc y x z

      go : (b : Bool) →
          (eqb (m + length (if b then i ∷ keep p (from (i + 1) (n - (i + 1))) otherwise keep p (from (i + 1) (n - (i + 1))))) 1
          && all q (if b then i ∷ keep p (from (i + 1) (n - (i + 1))) otherwise keep p (from (i + 1) (n - (i + 1)))))
          ≡ (if b then (q i && (eqb (m + 1 + length (keep p (from (i + 1) (n - (i + 1))))) 1 && all q (keep p (from (i + 1) (n - (i + 1))))))
          otherwise (eqb (m + length (keep p (from (i + 1) (n - (i + 1))))) 1 && all q (keep p (from (i + 1) (n - (i + 1))))))
      go true =
          let s : m + suc (length rest) ≡ m + 1 + length rest = omega arith in
          rw s (swap (eqb (m + 1 + length rest) 1) (q i) (all q rest))
      go false = refl

  pub one_none : (m m₁ i : ℕ) (t x : Bool) → i < n → t ≡ p i → t ≡ false → m₁ ≡ m → one_from m i ≡ x → one_from m₁ (i + 1) ≡ x
  unfolding if◌then◌otherwise◌
  one_none m m₁ i t x h et y em e = rw em (sym (one_turn m i false h (sym et ∙ y)) ∙ e)

  pub one_more : (m m₁ i : ℕ) (t x : Bool) → i < n → t ≡ p i → t ≡ true → q i ≡ true → m₁ ≡ m + 1 → one_from m i ≡ x → one_from m₁ (i + 1) ≡ x
  unfolding if◌then◌otherwise◌
  one_more m m₁ i t x h et y z em e = rw em (sym (one_turn m i true h (sym et ∙ y) ∙ rw z) ∙ e)

  pub one_stop : (m i : ℕ) (t x : Bool) → i < n → t ≡ p i → t ≡ true → q i ≡ false → one_from m i ≡ x → false ≡ x
  unfolding if◌then◌otherwise◌
  one_stop m i t x h et y z e = sym (one_turn m i true h (sym et ∙ y) ∙ rw z) ∙ e

  pub one_last : (m i : ℕ) (x : Bool) → n ≤ i → one_from m i ≡ x → eqb m 1 ≡ x
  unfolding one_from keep all
  one_last m i x h e = go (eqb m 1) (rw (from_none i n h, add-zero m) at e)
    where
      go : (b : Bool) → (b && true) ≡ x → b ≡ x
      go true e = e
      go false e = e

-- the entries of a Loop, one after the other
pub entries_tested : (c : Circuit) (g k n : ℕ) → k ≡ kind_of_gate c g → k ≡ 29 → (n ≡ length c.kinds) × (n ≤ 64) →
    one_from (names c.kinds c.stored c.first_input g) (λ e. eqb (body_of_gate c e) (suc g)) n 0 0 ≡ has_entry c g
unfolding has_entry entries_of gates
entries_tested c g k n ek h en =
    let q : eqb (kind_of_gate c g) 29 ≡ true = eq-eqb _ 29 (sym ek ∙ h) in
    rw (q, ← en.0) (one_first (names c.kinds c.stored c.first_input g) (λ e. eqb (body_of_gate c e) (suc g)) n)

-- the body of an entry of gate g
pub in_own_body : (c : Circuit) (g e b : ℕ) → b ≡ body_of_gate c e → b ≡ g + 1 → eqb (body_of_gate c e) (suc g) ≡ true
in_own_body c g e b eb h = eq-eqb _ (suc g) (sym eb ∙ h ∙ omega arith)

pub in_another : (c : Circuit) (g e b : ℕ) → b ≡ body_of_gate c e → (b ≡ g + 1 → ⊥) → eqb (body_of_gate c e) (suc g) ≡ false
in_another c g e b eb h = ne_eqb _ (suc g) (λ z. h (eb ∙ z ∙ omega arith))

-- ---- gates

module _ (c : Circuit) where
  -- the test of one gate
  abbrev pub placed : ℕ → Bool
  placed g = in_a_body c g && has_entry c g && comes_out c (length c.kinds) (body_of_gate c g)

-- three tests of each at once
all_three : (f h k : ℕ → Bool) (xs : List ℕ) → (all f xs && all h xs && all k xs) ≡ all (λ g. f g && h g && k g) xs
unfolding all
all_three f h k [] = refl
all_three f h k (x ∷ xs) = go (f x) (h x) (k x) (all f xs) (all h xs) (all k xs) (all_three f h k xs)
  where
    go : (a b d p q r : Bool) → (p && q && r) ≡ all (λ g. f g && h g && k g) xs →
        ((a && p) && (b && q) && (d && r)) ≡ (a && b && d && all (λ g. f g && h g && k g) xs)
    go false b d p q r e = refl
    go true false d false q r e = refl
    go true false d true q r e = refl
    go true true false false q r e = refl
    go true true false true false r e = refl
    go true true false true true r e = refl
    go true true true p q r e = e

-- ---- the whole question

module _ (c : Circuit) (t : Bool) (et : t ≡ all (calls_inside c) (from 0 (length c.outputs))) where
  pub calls_leave : t ≡ false → false ≡ question_19 c
  unfolding question_19
  calls_leave h = let q : all (calls_inside c) (from 0 (length c.outputs)) ≡ false = sym et ∙ h in rw q

  pub gates_asked : t ≡ true → (u : Bool) → u ≡ all (placed c) (gates c) → u ≡ question_19 c
  unfolding question_19
  gates_asked h u eu =
      let q : all (calls_inside c) (from 0 (length c.outputs)) ≡ true = sym et ∙ h in
      rw q (eu ∙ sym (all_three (in_a_body c) (has_entry c) (λ g. comes_out c (length c.kinds) (body_of_gate c g)) (gates c)))
