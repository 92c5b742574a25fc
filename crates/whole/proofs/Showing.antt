-- What outputs show: one law for each way out of the test of one, and the test of a row of them.
use mathlib.Core.Path.{◌≡◌, refl, sym, ap, ◌∙◌}
use mathlib.Core.Bool.{Bool, true, false, not, ◌&&◌, ◌||◌}
use mathlib.Core.List.{List, [], ◌∷◌}
use Prim.Native.Nat.{ℕ, suc, ◌+◌, ◌*◌, ◌≤◌, ◌<◌}
use native.Mathlib.Omega.{arith}
use lib.Dec.{eqb}
use lib.ListN.{length, get_or, drop}
use lib.Seq.{drop-cons}
use borrow.Author.Tests.{eq-eqb, ne_eqb}
use Rattle.words.specs.Words.{words}
use Rattle.model.specs.Base.{if◌then◌otherwise◌, all, both}
use Rattle.model.specs.Kinds.{Out, fires, shows, passes}
use Rattle.model.specs.Circuit.{Circuit}
use Rattle.model.specs.Questions.{yes_all, value_output, good_constant}
use Rattle.circuit.proofs.Asking.{no, yes, shows_value, output_shows}
use Rattle.circuit.proofs.Loops.{left, left_first, left_next, left_last}
use Rattle.records.specs.Whole.{good_output, good_outputs}

-- ---- one output

-- No constant has kind 0, so kind 0 is good only with content 0.
pub nothing_shown : (o : Out) (k b : ℕ) → k ≡ 0 → eqb b 0 ≡ good_output o k b
unfolding good_output good_constant if◌then◌otherwise◌
nothing_shown o k b h =
    let g : good_constant k b ≡ false = ap (λ (x : ℕ). good_constant x b) h ∙ none b in
    rw (eq-eqb k 0 h, g) (or_none (eqb b 0) (elim o [ fires ↦ false | shows ↦ true | passes ↦ true ]))
  where
    none : (b : ℕ) → good_constant 0 b ≡ false
    none b = refl

    or_none : (a s : Bool) → a ≡ (a || (s && false))
    or_none true s = refl
    or_none false true = refl
    or_none false false = refl

module _ (c : Circuit) (o k b : ℕ) (n : k ≡ 0 → ⊥) (s : Bool) (e : s ≡ value_output c o) where
  -- whether it shows a value decides
  as_constant : good_output (get_or c.outputs o fires) k b ≡ (s && good_constant k b)
  unfolding good_output shows_value
  as_constant =
      let q : shows_value (get_or c.outputs o fires) ≡ s = output_shows c o (get_or c.outputs o fires) (shows_value (get_or c.outputs o fires)) refl refl ∙ sym e in
      rw (ne_eqb k 0 n) (ap (λ (x : Bool). x && good_constant k b) q)

  pub exec_shows : not s ≡ true → false ≡ good_output (get_or c.outputs o fires) k b
  exec_shows h = sym (as_constant ∙ rw (no s s refl h))

  pub value_shows : (t : Bool) → not s ≡ false → t ≡ good_constant k b → t ≡ good_output (get_or c.outputs o fires) k b
  value_shows t h et = et ∙ sym (as_constant ∙ rw (yes s s refl h))

-- ---- a row of outputs: three columns side by side

module _ (c : Circuit) (s : List ℕ) (k n : ℕ) where
  -- whether the outputs that are left, when i are passed, are good
  unfoldable pub outputs_left : ℕ → Bool
  outputs_left i = yes_all (both (λ f b. f b) (both good_output (drop i c.outputs) (left (words s) k n i)) (left (words s) (k + n) n i))

  pub outputs_first : outputs_left 0 ≡ good_outputs c (words s) k n
  unfolding outputs_left good_outputs
  outputs_first = rw (left_first (words s) k n, left_first (words s) (k + n) n)

  module _ (i v w : ℕ) (t x : Bool) (few : n ≤ length c.outputs) (l : (k + 2 * n) * 8 ≤ length s) (a : outputs_left i ≡ x) (h : i < n)
      (e : v ≡ get_or (words s) (k + i) 0) (e' : w ≡ get_or (words s) (k + n + i) 0) (q : t ≡ good_output (get_or c.outputs i fires) v w) where
    split : outputs_left i ≡ (t && outputs_left (i + 1))
    unfolding outputs_left yes_all all both
    split =
        let z : i + 1 ≡ suc i = omega arith in
        rw (left_next s k n i (omega (arith, l)) h, left_next s (k + n) n i (omega (arith, l)) h, drop-cons c.outputs i fires (omega (arith, h, few)), q, e, e', z)

    pub outputs_next : not t ≡ false → outputs_left (i + 1) ≡ x
    outputs_next y = sym (split ∙ rw (yes t t refl y)) ∙ a

    pub outputs_stop : not t ≡ true → false ≡ x
    outputs_stop y = sym (split ∙ rw (no t t refl y)) ∙ a

  pub outputs_last : (i : ℕ) (x : Bool) → outputs_left i ≡ x → n ≤ i → true ≡ x
  unfolding outputs_left yes_all all both
  outputs_last i x a l = sym (rw (left_last (words s) k n i l, left_last (words s) (k + n) n i l) (none_left (drop i c.outputs))) ∙ a
    where
      none_left : (os : List Out) → yes_all (both (λ f b. f b) (both good_output os []) []) ≡ true
      none_left [] = refl
      none_left (o ∷ os) = refl
