-- Every log that a run writes is whole records of its circuit, so no reader refuses it with 16. What this says is defined in specs/Logged.antt.
use mathlib.Core.Path.{◌≡◌, refl, sym, ap, subst, ◌∙◌}
use mathlib.Core.Bool.{◌&&◌}
use mathlib.Core.List.{List, [], ◌∷◌, map}
use mathlib.Core.Option.{none, some}
use Prim.Native.Nat.{ℕ, zero, suc, ◌+◌, ◌*◌, ◌/◌, ◌%◌, ◌^◌, ◌<◌}
use native.Mathlib.Omega.{arith}
use lib.Dec.{leb}
use lib.Arith.{mod-mul}
use lib.ListN.{length}
use borrow.Author.Tests.{eq-eqb}
use Rattle.words.specs.Words.{word, words, bytes}
use Rattle.words.proofs.Laws.{length_bytes}
use Rattle.model.specs.Base.{if◌then◌otherwise◌}
use Rattle.model.specs.Circuit.{circuit}
use Rattle.model.specs.Script.{most_ticks}
use Rattle.model.specs.Run.{Played, most_steps, gets, ticks_of, seen}
use Rattle.model.specs.Questions.{Areas, queues, question_7, circuit_refusal, or_else, refusal}
use Rattle.model.specs.Answer.{play, played, answer_to, answer}
use Rattle.model.proofs.Lists.{both_true}
use Rattle.model.proofs.Asked.{accepted}
use Rattle.records.specs.Records.{records_in, records, log_words}
use Rattle.records.specs.Whole.{whole_from, whole, log_refusal}
use Rattle.records.specs.Good.{GoodLog}
use Rattle.records.proofs.Good.{good_whole}
use Rattle.promises.specs.Logged.{WholeRecords, EveryLogWhole, EveryLimitedLogWhole}
use Rattle.promises.proofs.Values.{as_word}
use Rattle.promises.proofs.Logs.{run_logged}
use Rattle.promises.proofs.Circuits.{shaped, script_gets, script_most}

-- eight bytes of a number make its word, from the last one on
module _ (v : ℕ) where
  -- what n bytes hold of it, behind the first k
  abbrev behind : ℕ → ℕ
  behind zero = v
  behind (suc k) = behind k / 256

  next_byte : (k m : ℕ) → 0 < m → behind k % (m * 256) ≡ behind (suc k) % m * 256 + behind k % 256
  next_byte k m l = mod-mul (behind k) l (omega arith)

  word_as : word (behind 0 % 256) (behind 1 % 256) (behind 2 % 256) (behind 3 % 256) (behind 4 % 256) (behind 5 % 256) (behind 6 % 256) (behind 7 % 256) ≡ as_word v
  word_as =
      join _ _ _ _ _ _ _ _ _ _ _ _ _ _ _ (next_byte 0 (2 ^ 56) (omega arith)) (next_byte 1 (2 ^ 48) (omega arith)) (next_byte 2 (2 ^ 40) (omega arith)) (next_byte 3 (2 ^ 32) (omega arith))
      (next_byte 4 (2 ^ 24) (omega arith)) (next_byte 5 (2 ^ 16) (omega arith)) (next_byte 6 256 (omega arith))
    where
      join :
          (a b c d e f g h x₁ x₂ x₃ x₄ x₅ x₆ x : ℕ) → x ≡ x₁ * 256 + a → x₁ ≡ x₂ * 256 + b → x₂ ≡ x₃ * 256 + c → x₃ ≡ x₄ * 256 + d → x₄ ≡ x₅ * 256 + e → x₅ ≡ x₆ * 256 + f →
          x₆ ≡ h * 256 + g → word a b c d e f g h ≡ x
      join a b c d e f g h x₁ x₂ x₃ x₄ x₅ x₆ x p₁ p₂ p₃ p₄ p₅ p₆ p = omega (arith, p₁, p₂, p₃, p₄, p₅, p₆, p)

words_as : (ws : List ℕ) → words (bytes ws) ≡ map as_word ws
unfolding words bytes
words_as [] = refl
words_as (v ∷ ws) = λ j. word_as v j ∷ words_as ws j

pub limited_whole : EveryLimitedLogWhole
unfolding seen whole records
limited_whole areas room limit cb sb lc ls k h =
    let a = accepted (some areas) cb sb h in
    let c = circuit (words cb) in
    let Z = shaped (some areas) cb sb lc a in
    let is = gets c limit (words sb) in
    let l = script_most c limit sb a.script_sizes in
    let m = run_logged c Z room is l (script_gets (some areas) cb sb lc ls a Z limit k) in
    let w = good_whole c most_ticks 1 m.records (omega (arith, m.few, l)) m.good in
    let ws = (seen c (ticks_of c room is)).log in
    let e : words (bytes ws) ≡ log_words m.records = words_as ws ∙ m.words in
    let r : records_in (length c.outputs) most_ticks (words (bytes ws)) ≡ m.records = ap (λ (x : List ℕ). records_in (length c.outputs) most_ticks x) e ∙ w.1 in
    record {
      whole = rw (eq-eqb (length (bytes ws) % 8) 0 (omega (arith, length_bytes ws))) (ap (whole_from c most_ticks 1) e ∙ w.0);
      good = subst (GoodLog c 1) (sym r) m.good;
    }

-- a circuit that is not refused with areas is not refused without
circuit_asked : (areas : Areas) (cb sb : List ℕ) → refusal (some areas) cb sb ≡ 0 → circuit_refusal none cb ≡ 0
unfolding circuit_refusal if◌then◌otherwise◌ question_7
circuit_asked areas cb sb h =
    let a = accepted (some areas) cb sb h in
    let k = leb (queues (circuit (words cb))) 8 in
    let q₁ = (both_true (k && leb 65536 areas.values && leb 65536 areas.units) _ a.room).0 in
    let q₂ = (both_true (k && leb 65536 areas.values) _ q₁).0 in
    let q₃ = (both_true k _ q₂).0 in
    rw (a.sizes, a.constants, a.gates, a.inputs, a.calls, a.bodies, a.order, q₃)

pub every_log_whole : EveryLogWhole
unfolding answer answer_to play log_refusal or_else if◌then◌otherwise◌
every_log_whole areas room cb sb p lc ls e = go (refusal (some areas) cb sb) refl e
  where
    go : (n : ℕ) → refusal (some areas) cb sb ≡ n → answer_to n room cb sb ≡ played p → (log_refusal cb (bytes p.log) ≡ 0) × WholeRecords (circuit (words cb)) (bytes p.log)
    go zero h e =
        let q : play room (circuit (words cb)) (words sb) ≡ p = cc in
        let w = limited_whole areas room most_steps cb sb lc ls (omega arith) h in
        subst (λ (x : Played). (log_refusal cb (bytes x.log) ≡ 0) × WholeRecords (circuit (words cb)) (bytes x.log)) q (rw (circuit_asked areas cb sb h, w.whole), w)
    go (suc n) h e = let z : ◌≡◌ {A = ℕ} 0 1 = cc in absurd (omega (arith, z))
