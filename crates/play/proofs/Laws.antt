-- Laws of the outputs that a circuit has.
use mathlib.Core.Path.{◌≡◌, refl, sym, ap, ◌∙◌}
use Prim.Native.Nat.{ℕ, zero, suc, ◌+◌, ◌-◌, ◌*◌, ◌<◌, ◌≤◌, min}
use mathlib.Core.Bool.{true}
use mathlib.Core.List.{List, map}
use lib.ListN.{length, get_or}
use lib.Seq.{drop-cons}
use native.Mathlib.Omega.{arith}
use Rattle.words.specs.Words.{words}
use Rattle.model.specs.Base.{sum}
use Rattle.model.specs.Kinds.{kind_at}
use Rattle.model.specs.Circuit.{part, word_at, circuit}
use Rattle.model.specs.Questions.{question_1}
use Rattle.model.proofs.Sizes.{sizes}
use Rattle.model.proofs.Laid.{joined_length}
use Rattle.kinds.proofs.Laws.{few_outputs}
use Rattle.play.specs.Outputs.{outputs_from, outputs_of}

-- the outputs of one more gate
pub outputs_next : (ws : List ℕ) (a n g t k w x : ℕ) → g < n → w ≡ get_or ws (a + g) 0 → k ≡ length (kind_at w).outs → t + outputs_from ws (a + g) (n - g) ≡ x → t + k + outputs_from ws (a + (g + 1)) (n - (g + 1)) ≡ x
unfolding outputs_from
outputs_next ws a n g t k w x h ew ek e =
    let p : n - g ≡ suc (n - (g + 1)) = omega (arith, h) in
    let q : a + (g + 1) ≡ suc (a + g) = omega arith in
    let m : outputs_from ws (a + g) (n - g) ≡ length (kind_at (get_or ws (a + g) 0)).outs + outputs_from ws (suc (a + g)) (n - (g + 1)) = rw p refl in
    let r : k ≡ length (kind_at (get_or ws (a + g) 0)).outs = ek ∙ ap (λ (v : ℕ). length (kind_at v).outs) ew in
    rw q (omega (arith, m, r, e))

-- no kind has more than nine outputs
pub few_more : (k w : ℕ) → k ≡ length (kind_at w).outs → k ≤ 9
few_more k w e = omega (arith, e, few_outputs w)

-- all gates are counted
pub outputs_last : (ws : List ℕ) (a n g t x : ℕ) → n ≤ g → t + outputs_from ws (a + g) (n - g) ≡ x → t ≡ x
unfolding outputs_from
outputs_last ws a n g t x h e =
    let p : n - g ≡ 0 = omega (arith, h) in
    let m : outputs_from ws (a + g) (n - g) ≡ 0 = rw p refl in
    omega (arith, m, e)

-- no gate is counted yet
pub outputs_first : (ws : List ℕ) (a n : ℕ) → 0 + outputs_from ws (a + 0) (n - 0) ≡ outputs_from ws a n
outputs_first ws a n =
    let p : n - 0 ≡ n = omega arith in
    let q : a + 0 ≡ a = omega arith in
    rw (p, q) (omega arith)

-- the outputs of a circuit, from its two sizes
pub outputs_are : (ws : List ℕ) (u v g c f r : ℕ) → u ≡ get_or ws 0 0 → g ≡ min u 64 → v ≡ get_or ws 1 0 → c ≡ min v 64 → f ≡ 4 + 2 * c → r ≡ outputs_from ws f g → r ≡ outputs_of ws
unfolding outputs_of
outputs_are ws u v g c f r eu eg ev ec ef e =
    let p : g ≡ min (get_or ws 0 0) 64 = eg ∙ ap (λ (x : ℕ). min x 64) eu in
    let q : f ≡ 4 + 2 * min (get_or ws 1 0) 64 = ef ∙ ap (λ (x : ℕ). 4 + 2 * x) (ec ∙ ap (λ (x : ℕ). min x 64) ev) in
    e ∙ ap (λ (x : ℕ). outputs_from ws x g) q ∙ ap (λ (x : ℕ). outputs_from ws (4 + 2 * min (get_or ws 1 0) 64) x) p

-- the outputs of gates whose kinds are words
kinds_counted : (ws : List ℕ) (k n : ℕ) → k + n ≤ length ws → outputs_from ws k n ≡ sum (map (λ v. length (kind_at v).outs) (part ws k n))
unfolding outputs_from part sum
kinds_counted ws k zero h = refl
kinds_counted ws k (suc n) h = rw (drop-cons ws k 0 (omega arith)) (ap (λ (x : ℕ). length (kind_at (get_or ws k 0)).outs + x) (kinds_counted ws (suc k) n (omega arith)))

-- of a circuit whose sizes are in range they are its own
outputs_counted : (bytes ws : List ℕ) → question_1 bytes ws ≡ true → outputs_of ws ≡ length (circuit ws).outputs
unfolding outputs_of circuit word_at
outputs_counted bytes ws q =
    let s = sizes bytes ws q in
    let g : min (get_or ws 0 0) 64 ≡ get_or ws 0 0 = omega (arith, s.gates) in
    let k : min (get_or ws 1 0) 64 ≡ get_or ws 1 0 = omega (arith, s.constants) in
    rw (g, k)
    (kinds_counted ws (4 + 2 * get_or ws 1 0) (get_or ws 0 0) (omega (arith, s.counted))
    ∙ sym (joined_length (λ v. (kind_at v).outs) (part ws (4 + 2 * get_or ws 1 0) (get_or ws 0 0))))

-- what `outputs` tells
pub outputs_told :
    (bytes : List ℕ) {r : ℕ} → r ≡ outputs_of (words bytes) → r ≤ 576 →
    (r ≡ outputs_of (words bytes)) × ((question_1 bytes (words bytes) ≡ true → r ≡ length (circuit (words bytes)).outputs) × (r ≤ 576))
outputs_told bytes e h = (e, ((λ q. e ∙ outputs_counted bytes (words bytes) q), h))
