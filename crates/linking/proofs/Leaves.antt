-- What the builder's functions without a loop cite, one law for each way out.
use Prim.Native.Nat.{ℕ, zero, suc, ◌+◌, ◌-◌, ◌*◌, ◌%◌, ◌^◌, ◌≤◌, ◌<◌}
use mathlib.Core.Path.{◌≡◌, refl, sym, ap, ◌∙◌}
use mathlib.Core.Bool.{Bool, true, false, ◌&&◌}
use mathlib.Core.List.{List, [], ◌∷◌}
use native.Mathlib.Nat.{two-pow-succ}
use native.Mathlib.Omega.{arith}
use borrow.Author.Tests.{lt-ltb, le-ltb, le-leb, lt-leb, eq-eqb, ne_eqb, leb-true}
use lib.Dec.{leb}
use lib.ListN.{length, get_or, set, replicate}
use lib.Pow.{pow_mono}
use lib.Seq.{set_out, sets}
use Rattle.floats.proofs.Bits.{unit_is}
use Rattle.model.specs.Base.{if◌then◌otherwise◌, joined}
use Rattle.model.specs.Questions.{within}
use Rattle.model.proofs.Lists.{both_true}
use Rattle.links.specs.Links.{gates_at, sources_at, stored_kinds_at, stored_contents_at, inputs_at, outputs_at, constant_kinds_at, constant_contents_at, total, listed}
use Rattle.linking.specs.Building.{written, below, named_word, gate_bit, outs_at, bits_of, gate_cell, input_cells, output_cells, lists_written, named_by, entered, entries_found, word_cells, gates_written, inputs_written, constants_written, all_written}
use Rattle.linking.proofs.Loops.{below_next, below_add}

-- ---- cells

pub put_past : (l : List ℕ) (i v : ℕ) → length l ≤ i → l ≡ set l i v
put_past l i v h = sym (set_out l i v h)

-- ---- names

pub named_none : (ws : List ℕ) (a n k : ℕ) → k ≡ 0 → 0 ≡ named_word ws a n k
unfolding named_word if◌then◌otherwise◌
named_none ws a n k e = rw (eq-eqb k 0 e)

pub named_past : (ws : List ℕ) (a n k : ℕ) → (k ≡ 0 → ⊥) → n < k → 0 ≡ named_word ws a n k
unfolding named_word if◌then◌otherwise◌
named_past ws a n k e h = rw (ne_eqb k 0 e, lt-ltb n k h)

pub named_in : (ws : List ℕ) (a n k v : ℕ) → (k ≡ 0 → ⊥) → k ≤ n → v ≡ get_or ws (a + (k - 1)) 0 → v ≡ named_word ws a n k
unfolding named_word if◌then◌otherwise◌
named_in ws a n k v e h q = rw (ne_eqb k 0 e, le-ltb n k h) q

-- ---- words of gates

pub bit_low : (low high kind g : ℕ) → kind < low → 0 ≡ gate_bit low high kind g
unfolding gate_bit within if◌then◌otherwise◌
bit_low low high kind g h = rw (lt-leb low kind h)

pub bit_high : (low high kind g : ℕ) → low ≤ kind → high < kind → 0 ≡ gate_bit low high kind g
unfolding gate_bit within if◌then◌otherwise◌
bit_high low high kind g h k = rw (le-leb low kind h, lt-leb kind high k)

pub bit_in : (low high kind g : ℕ) → low ≤ kind → kind ≤ high → g < 64 → 1 * 2 ^ g % 18446744073709551616 ≡ gate_bit low high kind g
unfolding gate_bit within if◌then◌otherwise◌
bit_in low high kind g h k l =
    rw (le-leb low kind h, le-leb kind high k) (unit_is g l)

-- one bit at most is set
bit_most : (low high kind g : ℕ) → gate_bit low high kind g ≤ 2 ^ g
unfolding gate_bit if◌then◌otherwise◌
bit_most low high kind g = go (within low high kind)
  where
    go : (b : Bool) → (if b then 2 ^ g otherwise 0) ≤ 2 ^ g
    go true = omega arith
    go false = omega arith

-- of two ranges of kinds that do not meet, one bit at most is set
pub two_bits_most : (low high low₁ high₁ kind g : ℕ) → high < low₁ → gate_bit low high kind g + gate_bit low₁ high₁ kind g ≤ 2 ^ g
unfolding gate_bit if◌then◌otherwise◌ within
two_bits_most low high low₁ high₁ kind g h = go (leb low kind && leb kind high) refl (leb low₁ kind && leb kind high₁) refl
  where
    go :
        (a : Bool) → (leb low kind && leb kind high) ≡ a → (b : Bool) → (leb low₁ kind && leb kind high₁) ≡ b →
        (if a then 2 ^ g otherwise 0) + (if b then 2 ^ g otherwise 0) ≤ 2 ^ g
    go true e true d =
        let p = leb-true kind high (both_true (leb low kind) (leb kind high) e).1 in
        let q = leb-true low₁ kind (both_true (leb low₁ kind) (leb kind high₁) d).0 in
        absurd (omega arith)
    go true e false d = omega arith
    go false e true d = omega arith
    go false e false d = omega arith

-- the bits below g make less than bit g
bits_below : (f : ℕ → ℕ) → ((g : ℕ) → f g ≤ 2 ^ g) → (g : ℕ) → below f g < 2 ^ g
unfolding below
bits_below f h zero = omega arith
bits_below f h (suc g) = let a = bits_below f h g in let b = h g in omega (arith, two-pow-succ g)

-- one more bit fits
pub bits_fit : (low high : ℕ) (kind : ℕ → ℕ) (g x v k : ℕ) → g < 64 → x ≡ below (λ h. gate_bit low high (kind h) h) g → k ≡ kind g → v ≡ gate_bit low high k g → x + v < 18446744073709551616
bits_fit low high kind g x v k l e q d =
    let t : 2 ^ suc g ≤ 2 ^ 64 = pow_mono l in
    omega (arith, bits_below (λ h. gate_bit low high (kind h) h) (λ h. bit_most low high (kind h) h) g, bit_most low high k g, two-pow-succ g)

pub bits_next :
    (low high : ℕ) (kind : ℕ → ℕ) (g x v k : ℕ) → x ≡ below (λ h. gate_bit low high (kind h) h) g → k ≡ kind g → v ≡ gate_bit low high k g →
    x + v ≡ below (λ h. gate_bit low high (kind h) h) (g + 1)
bits_next low high kind g x v k e q d =
    below_next (λ h. gate_bit low high (kind h) h) x v g e (d ∙ ap (λ (y : ℕ). gate_bit low high y g) q)

-- the words of two ranges together
pub two_words : (ws : List ℕ) (kinds n low high low₁ high₁ : ℕ) →
    bits_of ws kinds n low high + bits_of ws kinds n low₁ high₁ ≡ below (λ g. gate_bit low high (get_or ws (kinds + g) 0) g + gate_bit low₁ high₁ (get_or ws (kinds + g) 0) g) n
unfolding bits_of
two_words ws kinds n low high low₁ high₁ = sym (below_add (λ g. gate_bit low high (get_or ws (kinds + g) 0) g) (λ g. gate_bit low₁ high₁ (get_or ws (kinds + g) 0) g) n)

-- they fit one word, where they are of buffers and of Queues
pub two_words_fit : (ws : List ℕ) (kinds n a b : ℕ) → n ≤ 64 → a ≡ bits_of ws kinds n 10 13 → b ≡ bits_of ws kinds n 16 17 → a + b < 18446744073709551616
two_words_fit ws kinds n a b h ea eb =
    let t : 2 ^ n ≤ 2 ^ 64 = pow_mono h in
    let f : ℕ → ℕ = λ g. gate_bit 10 13 (get_or ws (kinds + g) 0) g + gate_bit 16 17 (get_or ws (kinds + g) 0) g in
    let q : below f n < 2 ^ n = bits_below f (λ g. two_bits_most 10 13 16 17 (get_or ws (kinds + g) 0) g (omega arith)) n in
    omega (arith, two_words ws kinds n 10 13 16 17)

-- ---- one store after the other

pub four_stored : (l l₁ l₂ l₃ l₄ : List ℕ) (a b c d : ℕ) → l₁ ≡ set l 0 a → l₂ ≡ set l₁ 1 b → l₃ ≡ set l₂ 2 c → l₄ ≡ set l₃ 3 d → l₄ ≡ sets l 0 (a ∷ b ∷ c ∷ d ∷ [])
four_stored l l₁ l₂ l₃ l₄ a b c d e₁ e₂ e₃ e₄ = rw (e₄, e₃, e₂, e₁)

pub words_stored : (ws : List ℕ) (kinds n : ℕ) (l l₁ l₂ l₃ l₄ l₅ : List ℕ) → l₁ ≡ set l 4 (bits_of ws kinds n 3 4) → l₂ ≡ set l₁ 5 (bits_of ws kinds n 10 13 + bits_of ws kinds n 16 17) →
    l₃ ≡ set l₂ 6 (bits_of ws kinds n 14 14) → l₄ ≡ set l₃ 7 (bits_of ws kinds n 15 15) → l₅ ≡ set l₄ 8 (bits_of ws kinds n 26 27) → l₅ ≡ sets l 4 (word_cells ws kinds n)
unfolding word_cells
words_stored ws kinds n l l₁ l₂ l₃ l₄ l₅ e₁ e₂ e₃ e₄ e₅ = rw (e₅, e₄, e₃, e₂, e₁)

-- ---- one group of tables after the other

pub gates_are : (ws : List ℕ) (kinds G s K I O : ℕ) (es l l₁ l₂ l₃ l₄ : List ℕ) → es ≡ entered (named_by ws kinds s K) G (replicate 64 0) → l₁ ≡ sets l 0 (G ∷ K ∷ I ∷ O ∷ []) → l₂ ≡ sets l₁ 4 (word_cells ws kinds G) →
    l₃ ≡ written l₂ gates_at G (gate_cell ws kinds G es) → l₄ ≡ sets l₃ outputs_at (joined (listed G (output_cells ws kinds))) → l₄ ≡ gates_written ws kinds G s K I O l
unfolding gates_written entries_found
gates_are ws kinds G s K I O es l l₁ l₂ l₃ l₄ e e₁ e₂ e₃ e₄ = rw (e₄, e₃, e₂, e₁, e)

pub inputs_are : (ws : List ℕ) (kinds G s I K : ℕ) (l l₁ l₂ l₃ l₄ : List ℕ) → l₁ ≡ written l sources_at I (λ i. get_or ws (s + i) 0) →
    l₂ ≡ written l₁ stored_kinds_at I (λ i. named_word ws 4 K (get_or ws (s + I + i) 0)) → l₃ ≡ written l₂ stored_contents_at I (λ i. named_word ws (4 + K) K (get_or ws (s + I + i) 0)) →
    l₄ ≡ sets l₃ inputs_at (joined (listed G (input_cells ws kinds s))) → l₄ ≡ inputs_written ws kinds G s I K l
unfolding inputs_written
inputs_are ws kinds G s I K l l₁ l₂ l₃ l₄ e₁ e₂ e₃ e₄ = rw (e₄, e₃, e₂, e₁)

pub constants_are : (ws : List ℕ) (K : ℕ) (l l₁ l₂ : List ℕ) → l₁ ≡ written l constant_kinds_at K (λ k. get_or ws (4 + k) 0) →
    l₂ ≡ written l₁ constant_contents_at K (λ k. get_or ws (4 + K + k) 0) → l₂ ≡ constants_written ws K l
unfolding constants_written
constants_are ws K l l₁ l₂ e₁ e₂ = rw (e₂, e₁)

pub all_are : (ws : List ℕ) (G K I C O : ℕ) (l₁ l₂ l₃ l₄ l₅ : List ℕ) → O ≡ below (outs_at ws (4 + 2 * K)) G → l₁ ≡ replicate total 0 →
    l₂ ≡ gates_written ws (4 + 2 * K) G (4 + 2 * K + 2 * G + I) K I O l₁ → l₃ ≡ inputs_written ws (4 + 2 * K) G (4 + 2 * K + 2 * G) I K l₂ →
    l₄ ≡ lists_written ws (4 + 2 * K + 2 * G) I (4 + 2 * K + 2 * G + 2 * I) C O l₃ → l₅ ≡ constants_written ws K l₄ → l₅ ≡ all_written ws G K I C
unfolding all_written
all_are ws G K I C O l₁ l₂ l₃ l₄ l₅ eo e₁ e₂ e₃ e₄ e₅ = rw (e₅, e₄, e₃, e₂, e₁, eo)
