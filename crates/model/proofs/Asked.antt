-- Where a call is not refused, each of the questions was answered yes.
use mathlib.Core.Path.{◌≡◌, refl}
use mathlib.Core.Bool.{Bool, true, false, not}
use mathlib.Core.List.{List}
use mathlib.Core.Option.{Option}
use Prim.Native.Nat.{ℕ, zero, suc, ◌≤◌}
use native.Mathlib.Omega.{arith}
use Rattle.words.specs.Words.{words}
use Rattle.model.specs.Base.{if◌then◌otherwise◌}
use Rattle.model.specs.Circuit.{circuit}
use Rattle.model.specs.Questions.{Areas, question_1, question_2, question_3, question_4, question_5, question_19, question_6, question_7, question_8, question_9, question_10, circuit_refusal, script_refusal, or_else, refusal}

pub record Accepted (areas : Option Areas) (circuit_bytes script_bytes : List ℕ) : Type 0 where
  pub sizes : question_1 circuit_bytes (words circuit_bytes) ≡ true
  pub constants : question_2 (words circuit_bytes) ≡ true
  pub gates : question_3 (words circuit_bytes) (circuit (words circuit_bytes)) ≡ true
  pub inputs : question_4 (words circuit_bytes) (circuit (words circuit_bytes)) ≡ true
  pub calls : question_5 (words circuit_bytes) (circuit (words circuit_bytes)) ≡ true
  pub bodies : question_19 (circuit (words circuit_bytes)) ≡ true
  pub order : question_6 (circuit (words circuit_bytes)) ≡ true
  pub room : question_7 areas (circuit (words circuit_bytes)) ≡ true
  pub script_sizes : question_8 script_bytes (words script_bytes) ≡ true
  pub ticks : question_9 (words script_bytes) ≡ true
  pub stimuli : question_10 (words script_bytes) (circuit (words circuit_bytes)) ≡ true

-- a question that did not refuse, and those after it
yes : (b : Bool) (n : ℕ) {x : ℕ} → 1 ≤ n → (if not b then n otherwise x) ≡ 0 → (b ≡ true) × (x ≡ 0)
unfolding if◌then◌otherwise◌
yes true n l h = (refl, h)
yes false n l h = absurd (omega arith)

both_yes : (n m : ℕ) → or_else n m ≡ 0 → (n ≡ 0) × (m ≡ 0)
unfolding or_else
both_yes zero m h = (refl, h)
both_yes (suc n) m h = absurd (omega arith)

pub accepted : (areas : Option Areas) (cb sb : List ℕ) → refusal areas cb sb ≡ 0 → Accepted areas cb sb
unfolding refusal circuit_refusal script_refusal
accepted areas cb sb h =
    let cw = words cb in
    let sw = words sb in
    let c = circuit cw in
    let h₁ = both_yes (circuit_refusal areas cb) (script_refusal c sb) h in
    let h₂ = yes (question_1 cb cw) 1 (omega arith) h₁.0 in
    let h₃ = yes (question_2 cw) 2 (omega arith) h₂.1 in
    let h₄ = yes (question_3 cw c) 3 (omega arith) h₃.1 in
    let h₅ = yes (question_4 cw c) 4 (omega arith) h₄.1 in
    let h₆ = yes (question_5 cw c) 5 (omega arith) h₅.1 in
    let hb = yes (question_19 c) 19 (omega arith) h₆.1 in
    let h₇ = yes (question_6 c) 6 (omega arith) hb.1 in
    let h₈ = yes (question_7 areas c) 7 (omega arith) h₇.1 in
    let h₉ = yes (question_8 sb sw) 8 (omega arith) h₁.1 in
    let h₁₀ = yes (question_9 sw) 9 (omega arith) h₉.1 in
    let h₁₁ = yes (question_10 sw c) 10 (omega arith) h₁₀.1 in
    record {
      sizes = h₂.0;
      constants = h₃.0;
      gates = h₄.0;
      inputs = h₅.0;
      calls = h₆.0;
      bodies = hb.0;
      order = h₇.0;
      room = h₈.0;
      script_sizes = h₉.0;
      ticks = h₁₀.0;
      stimuli = h₁₁.0;
    }
