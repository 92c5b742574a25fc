-- Where question 19 was answered yes: a Loop has its entry (`loop_entered`), calls stay in their body (`calls_stay`), and Loops nest no deeper than there are
-- gates (`loops_shallow`).
use mathlib.Core.Path.{◌≡◌, sym, ap, ◌∙◌}
use mathlib.Core.Bool.{Bool, true, false, ◌&&◌, true≢false}
use mathlib.Core.List.{List, [], ◌∷◌}
use mathlib.Core.Logic.{◌⊎◌, inl, inr}
use Prim.Native.Nat.{ℕ, zero, suc, ◌+◌, ◌-◌, ◌<◌}
use native.Mathlib.Nat.{zero-add}
use native.Mathlib.Omega.{arith}
use lib.Dec.{eqb}
use lib.ListN.{length, get_or}
use borrow.Author.Tests.{eqb-true, ne_eqb}
use Rattle.model.specs.Base.{if◌then◌otherwise◌, all, keep, among, from}
use Rattle.model.specs.Circuit.{Call, Circuit, circuit, word_at, names, kind_of_gate, entry_of_loop, body_of_gate, gate_at_input, gate_at_output, calls_of, gates}
use Rattle.model.specs.Questions.{calls_inside, in_a_body, entries_of, has_entry, comes_out, question_1, question_19}
use Rattle.model.proofs.Lists.{both_true, all_keep, all_among, among_from, among_first, among_later, among_either, map_from}
use Rattle.model.proofs.Laid.{gates_found, kind_in}
use Rattle.model.proofs.Kept.{gate_in}

-- a member that passed a test was a member before
among_kept : (p : ℕ → Bool) (xs : List ℕ) (e : ℕ) → among e (keep p xs) ≡ true → among e xs ≡ true
unfolding keep if◌then◌otherwise◌
among_kept p [] e h = h
among_kept p (x ∷ xs) e h = go (p x) h (among_kept p xs e)
  where
    first : (e ≡ x) ⊎ (among e (keep p xs) ≡ true) → (among e (keep p xs) ≡ true → among e xs ≡ true) → among e (x ∷ xs) ≡ true
    first (inl k) rec = rw k (among_first x xs)
    first (inr k) rec = among_later e x xs (rec k)

    go : (b : Bool) → among e (if b then x ∷ keep p xs otherwise keep p xs) ≡ true → (among e (keep p xs) ≡ true → among e xs ≡ true) → among e (x ∷ xs) ≡ true
    go true h rec = first (among_either e x (keep p xs) h) rec
    go false h rec = among_later e x xs (rec h)

module _ (c : Circuit) where
  abbrev Loop : ℕ → Type 0
  Loop g = eqb (kind_of_gate c g) 29 ≡ true

  -- at most n Loops stand one in the body of the other, from body b inwards
  abbrev pub Shallow : ℕ → ℕ → Type 0
  Shallow zero b = (g : ℕ) → Loop g → body_of_gate c g ≡ b → ⊥
  Shallow (suc n) b = (g : ℕ) → Loop g → body_of_gate c g ≡ b → Shallow n (suc g)

  -- from body b there are n bodies outwards, and b is not 0, or n is 0
  abbrev Below : ℕ → ℕ → Type 0
  Below zero b = Unit {0}
  Below (suc n) b = comes_out c n b ≡ false

  below_in : (n g b : ℕ) → body_of_gate c g ≡ b → Below n b → comes_out c n (suc g) ≡ false
  unfolding comes_out
  below_in zero g b e h = ne_eqb (suc g) 0 (λ z. omega arith)
  below_in (suc n) g b e h =
      let k : suc g - 1 ≡ g = omega arith in
      let z : eqb (suc g) 0 ≡ false = ne_eqb (suc g) 0 (λ z. omega arith) in
      rw (z, k, e) h

  -- ---- what question 19 says of a Loop

  one_of : (p : ℕ → Bool) (l : List ℕ) → length l ≡ 1 → all p l ≡ true → (among (get_or l 0 0) l ≡ true) × (p (get_or l 0 0) ≡ true)
  unfolding all
  one_of p [] h a = absurd (omega arith)
  one_of p (e ∷ l) h a = (among_first e l, (both_true (p e) (all p l) a).0)

  -- its four parts
  abbrev CallsIn : Bool
  CallsIn = all (calls_inside c) (from 0 (length c.outputs))

  abbrev BodiesIn : Bool
  BodiesIn = all (in_a_body c) (gates c)

  abbrev EntriesIn : Bool
  EntriesIn = all (has_entry c) (gates c)

  abbrev RingsOut : Bool
  RingsOut = all (λ g. comes_out c (length c.kinds) (body_of_gate c g)) (gates c)

  -- the first entry that names a Loop, which is the only one
  pub loop_entry :
      question_19 c ≡ true → (g : ℕ) → Loop g →
      let e = get_or (entries_of c g) 0 0 in
      (among e (gates c) ≡ true) × (body_of_gate c e ≡ suc g) × (kind_of_gate c e ≡ 30)
  unfolding question_19 has_entry entries_of names kind_of_gate
  loop_entry q g l =
      let p = names c.kinds c.stored c.first_input g in
      let k = eqb-true (kind_of_gate c g) 29 l in
      let n : eqb (kind_of_gate c g) 0 ≡ false = ne_eqb (kind_of_gate c g) 0 (λ z. omega (arith, k)) in
      let h₁ = (both_true (CallsIn && BodiesIn && EntriesIn) RingsOut q).0 in
      let h₂ = (both_true (CallsIn && BodiesIn) EntriesIn h₁).1 in
      let h = all_among (has_entry c) (gates c) h₂ g (gate_in c g n) in
      let r = both_true (eqb (length (entries_of c g)) 1) _ (rw l at h) in
      let o = one_of (λ e. eqb (body_of_gate c e) (suc g)) (entries_of c g) (eqb-true _ 1 r.0) r.1 in
      let e = get_or (entries_of c g) 0 0 in
      let m = all_among p (keep p (gates c)) (all_keep p (gates c)) e o.0 in
      (among_kept p (gates c) e o.0, eqb-true _ _ o.1, eqb-true _ 30 (both_true _ _ m).0)

  out_of : question_19 c ≡ true → (g : ℕ) → Loop g → comes_out c (length c.kinds) (suc g) ≡ true
  unfolding question_19
  out_of q g l =
      let e = loop_entry q g l in
      let h = all_among (λ g. comes_out c (length c.kinds) (body_of_gate c g)) (gates c) (both_true (CallsIn && BodiesIn && EntriesIn) RingsOut q).1 (get_or (entries_of c g) 0 0) e.0 in
      ap (comes_out c (length c.kinds)) (sym e.1) ∙ h

  -- the calls of an output stay in its body
  pub calls_stay :
      question_19 c ≡ true → (o : ℕ) → o < length c.outputs →
      all (λ (k : Call). eqb (body_of_gate c (gate_at_output c o)) (body_of_gate c (gate_at_input c k.to))) (calls_of c o) ≡ true
  unfolding question_19 calls_inside
  calls_stay q o l =
      let h₁ = (both_true (CallsIn && BodiesIn && EntriesIn) RingsOut q).0 in
      let h₂ = (both_true (CallsIn && BodiesIn) EntriesIn h₁).0 in
      let h₃ = (both_true CallsIn BodiesIn h₂).0 in
      let m : among o (from 0 (length c.outputs)) ≡ true = rw zero-add at (among_from 0 (length c.outputs) o l) in
      all_among (calls_inside c) (from 0 (length c.outputs)) h₃ o m

  -- ---- so they nest no deeper

  nest : question_19 c ≡ true → (n deep b : ℕ) → n + deep ≡ length c.kinds → Below n b → Shallow deep b
  nest q n zero b e h =
      λ g l i.
      let k : n ≡ length c.kinds = omega arith in
      true≢false (sym (out_of q g l) ∙ ap (λ m. comes_out c m (suc g)) (sym k) ∙ below_in n g b i h)
  nest q n (suc deep) b e h = λ g l i. nest q (suc n) deep (suc g) (omega arith) (below_in n g b i h)

  -- from any body inwards
  pub loops_shallow : question_19 c ≡ true → (b : ℕ) → Shallow (length c.kinds) b
  loops_shallow q b = nest q 0 (length c.kinds) b (omega arith) tt

-- ---- the entry, as it is looked up

entry_is : (bytes ws : List ℕ) → question_1 bytes ws ≡ true → (g : ℕ) → g < length (circuit ws).kinds → entry_of_loop (circuit ws) g ≡ get_or (entries_of (circuit ws) g) 0 0
unfolding circuit entry_of_loop entries_of gates
entry_is bytes ws q g l =
    let c = circuit ws in
    let n = gates_found bytes ws q in
    let first : ℕ → ℕ → ℕ = λ n g. get_or (keep (names c.kinds c.stored c.first_input g) (from 0 n)) 0 0 in
    map_from (first (word_at ws 0)) 0 (word_at ws 0) g 0 (omega (arith, n)) ∙ ap (first (word_at ws 0)) (zero-add g) ∙ ap (λ m. first m g) (sym n)

-- the entry of a Loop is one, and lies in its body
pub loop_entered :
    (bytes ws : List ℕ) → question_1 bytes ws ≡ true → question_19 (circuit ws) ≡ true →
    let c = circuit ws in (g : ℕ) → eqb (kind_of_gate c g) 29 ≡ true → (kind_of_gate c (entry_of_loop c g) ≡ 30) × (body_of_gate c (entry_of_loop c g) ≡ suc g)
loop_entered bytes ws a d g l =
    let c = circuit ws in
    let e = entry_is bytes ws a g (kind_in c g (omega (arith, eqb-true (kind_of_gate c g) 29 l))) in
    let h = loop_entry c d g l in
    (ap (kind_of_gate c) e ∙ h.2, ap (body_of_gate c) e ∙ h.1)
