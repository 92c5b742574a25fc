-- Kinds and contents that pass are those of a value.
use mathlib.Core.Path.{◌≡◌, refl, sym}
use mathlib.Core.Bool.{Bool, true, false, not, ◌&&◌, ◌||◌, true≢false}
use mathlib.Core.List.{List, [], ◌∷◌, map}
use Prim.Native.Nat.{ℕ, ◌≤◌}
use native.Mathlib.Omega.{arith}
use lib.Dec.{leb, eqb}
use lib.ListN.{length}
use borrow.Author.Tests.{eqb-true, eqb-false, leb-true}
use Rattle.model.specs.Base.{if◌then◌otherwise◌, all, both}
use Rattle.model.specs.Value.{bit, kind_of, content_of, value_of}
use Rattle.model.specs.Kinds.{Out, fires, shows, passes}
use Rattle.model.specs.Questions.{within, finite, yes_all, good_constant}
use Rattle.model.proofs.Lists.{both_true}
use Rattle.records.specs.Whole.{good_output}

-- the two words of a value
abbrev Held : ℕ → ℕ → Type 0
Held k b = (kind_of (value_of k b) ≡ k) × (content_of (value_of k b) ≡ b)

held_nothing : (k b : ℕ) → k ≡ 0 → b ≡ 0 → Held k b
unfolding kind_of content_of value_of
held_nothing k b ek eb = rw (ek, eb) (refl, refl)

held_int : (k b : ℕ) → k ≡ 1 → Held k b
unfolding kind_of content_of value_of
held_int k b ek = rw ek (refl, refl)

held_float : (k b : ℕ) → k ≡ 2 → Held k b
unfolding kind_of content_of value_of
held_float k b ek = rw ek (refl, refl)

bit_of : (b : ℕ) → b ≤ 1 → bit (not (eqb b 0)) ≡ b
unfolding bit
bit_of b h = go (eqb b 0) refl
  where
    go : (t : Bool) → eqb b 0 ≡ t → bit (not t) ≡ b
    go true e = sym (eqb-true b 0 e)
    go false e = let n = eqb-false b 0 e in omega (arith, h, n)

held_bool : (k b : ℕ) → k ≡ 3 → b ≤ 1 → Held k b
unfolding kind_of content_of value_of
held_bool k b ek h = rw ek (refl, bit_of b h)

held_constant : (k b : ℕ) → good_constant k b ≡ true → Held k b
unfolding good_constant if◌then◌otherwise◌ within
held_constant k b = go (eqb k 1) refl (eqb k 2) refl (eqb k 3) refl
  where
    go :
        (x : Bool) → eqb k 1 ≡ x → (y : Bool) → eqb k 2 ≡ y → (z : Bool) → eqb k 3 ≡ z →
        (if x then true otherwise (if y then finite b otherwise (if z then within 0 1 b otherwise false))) ≡ true → Held k b
    go true ex y ey z ez h = held_int k b (eqb-true k 1 ex)
    go false ex true ey z ez h = held_float k b (eqb-true k 2 ey)
    go false ex false ey true ez h = held_bool k b (eqb-true k 3 ez) (leb-true b 1 (both_true (leb 0 b) (leb b 1) h).1)
    go false ex false ey false ez h = absurd (true≢false (sym h))

held_output : (o : Out) (k b : ℕ) → good_output o k b ≡ true → Held k b
unfolding good_output
held_output o k b = go (eqb k 0) refl (eqb b 0) refl
  where
    go :
        (x : Bool) → eqb k 0 ≡ x → (y : Bool) → eqb b 0 ≡ y →
        ((x && y) || ((elim o [ fires ↦ false | shows ↦ true | passes ↦ true ]) && good_constant k b)) ≡ true → Held k b
    go true ex true ey h = held_nothing k b (eqb-true k 0 ex) (eqb-true b 0 ey)
    go true ex false ey h = held_constant k b (both_true (elim o [ fires ↦ false | shows ↦ true | passes ↦ true ]) (good_constant k b) h).1
    go false ex y ey h = held_constant k b (both_true (elim o [ fires ↦ false | shows ↦ true | passes ↦ true ]) (good_constant k b) h).1

-- of all outputs
pub held_all :
    (os : List Out) (ks bs : List ℕ) → length ks ≡ length bs → length ks ≤ length os →
    yes_all (both (λ f b. f b) (both good_output os ks) bs) ≡ true →
    (map kind_of (both value_of ks bs) ≡ ks) × (map content_of (both value_of ks bs) ≡ bs)
unfolding both yes_all all
held_all os [] [] e l h = (refl, refl)
held_all os [] (b ∷ bs) e l h = absurd (omega (arith, e))
held_all os (k ∷ ks) [] e l h = absurd (omega (arith, e))
held_all [] (k ∷ ks) (b ∷ bs) e l h = absurd (omega (arith, l))
held_all (o ∷ os) (k ∷ ks) (b ∷ bs) e l h =
    let t = both_true (good_output o k b) (yes_all (both (λ f b. f b) (both good_output os ks) bs)) h in
    let p = held_output o k b t.0 in
    let q = held_all os ks bs (omega (arith, e)) (omega (arith, l)) t.1 in
    (λ j. p.0 j ∷ q.0 j, λ j. p.1 j ∷ q.1 j)
