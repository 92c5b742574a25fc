-- A call, refused or played.
use Prim.Native.Nat.{ℕ, zero, suc, ◌*◌, ◌≤◌}
use mathlib.Core.Path.{◌≡◌, refl, sym, ap, ◌∙◌, subst}
use mathlib.Core.List.{List}
use mathlib.Core.Option.{some}
use native.Mathlib.Omega.{arith}
use Rattle.std.specs.Prelude.{Ok, Err}
use lib.ListN.{length, replicate}
use Rattle.words.specs.Words.{words}
use Rattle.words.proofs.Laws.{Below}
use Rattle.model.specs.Circuit.{Circuit, circuit}
use Rattle.model.specs.Questions.{queues, circuit_refusal, script_refusal, refusal}
use Rattle.model.specs.Run.{Played, most_steps, ticks_of}
use Rattle.model.specs.Answer.{refused, played, play, answer_to, answer, log_after, area_after}
use Rattle.model.proofs.Asked.{Accepted, accepted}
use Rattle.promises.proofs.Promises.{promised}
use Rattle.links.specs.Links.{net}
use Rattle.links.specs.Lent.{least_area}
use Rattle.circuit.proofs.Order.{asked_early, asked_late}
use Rattle.states.specs.View.{queue_at}
use Rattle.unit.specs.Unit.{FewCalls}
use Rattle.run.specs.declared.Played as code
use Rattle.run.specs.Running.{GoodScript, seen_of, Logged}
use Rattle.run.specs.Call.{Call, Left, lent, call_answer, Right}
use Rattle.run.specs.Told.{Answer, told}
use Rattle.run.proofs.Fewer.{few_calls, good_script, large}
use Rattle.run.proofs.Bytes.{logged_bytes}

-- what playing came to
abbrev pub finished : ℕ → ℕ → ℕ → code.Played
finished s t b = record { stop = s; ticks = t; bytes = b }

module _ (k : Call) (n : ℕ) (e : n ≡ refusal (some (lent k)) k.circuit k.script) where
  refused_answer : (n ≡ 0 → ⊥) → call_answer k ≡ refused n
  unfolding answer answer_to
  refused_answer f = ap (λ (m : ℕ). answer_to m (length k.log) k.circuit k.script) (sym e) ∙ go n f
    where
      go : (m : ℕ) → (m ≡ 0 → ⊥) → answer_to m (length k.log) k.circuit k.script ≡ refused m
      go zero f = absurd (f refl)
      go (suc m) f = refl

  -- a call that is refused leaves all as it was
  call_refused : (n ≡ 0 → ⊥) → Right k (record { log = k.log; values = k.values; units = k.units; delays = k.delays }) (λ a. Err n ≡ told a)
  unfolding told log_after area_after
  call_refused f =
      let x = refused_answer f in
      record {
        answer = rw x refl;
        log = rw x refl;
        values = rw x refl;
        units = rw x refl;
        delays = rw x refl;
        promised = promised _ _ _ _;
      }

-- by its circuit
pub circuit_refused :
    (k : Call) (n : ℕ) → n ≡ circuit_refusal (some (lent k)) k.circuit → (n ≡ 0 → ⊥) →
    Right k (record { log = k.log; values = k.values; units = k.units; delays = k.delays }) (λ a. Err n ≡ told a)
circuit_refused k n e f = call_refused k n (asked_early _ _ _ n e f) f

-- ---- a circuit that is not refused
module _ (k : Call) (good : circuit_refusal (some (lent k)) k.circuit ≡ 0) (n : ℕ) (e : n ≡ script_refusal (circuit (words k.circuit)) k.script) where
  asked : n ≡ refusal (some (lent k)) k.circuit k.script
  asked = asked_late _ _ _ 0 (sym good) n refl e

  -- refused by its script
  pub script_refused : (n ≡ 0 → ⊥) → Right k (record { log = k.log; values = k.values; units = k.units; delays = k.delays }) (λ a. Err n ≡ told a)
  script_refused f = call_refused k n asked f

  -- ---- not refused
  module _ (none : n ≡ 0) where
    passed : Accepted (some (lent k)) k.circuit k.script
    passed = accepted (some (lent k)) k.circuit k.script (sym asked ∙ none)

    played_answer : call_answer k ≡ played (play (length k.log) (circuit (words k.circuit)) (words k.script))
    unfolding answer answer_to
    played_answer = ap (λ (m : ℕ). answer_to m (length k.log) k.circuit k.script) (sym asked ∙ none)

    -- the links show the circuit
    module _ (links : List ℕ) (shows : net links ≡ circuit (words k.circuit)) where
      -- what a run needs
      pub few_called : FewCalls (net links)
      few_called = subst FewCalls (sym shows) (few_calls (some (lent k)) k.circuit k.script passed)

      pub fitting : GoodScript (net links) (words k.script)
      fitting = subst (λ (c : Circuit). GoodScript c (words k.script)) (sym shows) (good_script (some (lent k)) k.circuit k.script passed)

      pub large_values : least_area ≤ length k.values
      large_values = (large (lent k) (circuit (words k.circuit)) passed.room).values

      pub large_units : least_area ≤ length k.units
      large_units = (large (lent k) (circuit (words k.circuit)) passed.room).units

      pub large_delays : queue_at (queues (net links)) * 8 ≤ length k.delays
      large_delays =
          let z = large (lent k) (circuit (words k.circuit)) passed.room in
          let x = z.delays in
          let y = z.few_queues in
          let q : queues (net links) ≡ queues (circuit (words k.circuit)) = ap queues shows in
          omega arith

      -- what is seen of the run over the links is what the definition plays
      logged_circuit :
          (log₁ : List ℕ) (size stop t : ℕ) → Logged (seen_of (net links) most_steps (words k.script) (length k.log)) k.log log₁ size stop t →
          Logged (play (length k.log) (circuit (words k.circuit)) (words k.script)) k.log log₁ size stop t
      unfolding play ticks_of
      logged_circuit log₁ size stop t g = subst (λ (c : Circuit). Logged (seen_of c most_steps (words k.script) (length k.log)) k.log log₁ size stop t) shows g

      -- a call that is played
      pub call_played :
          (left : Left) (size stop t : ℕ) → Below 256 k.log → Below 256 left.log →
          Logged (seen_of (net links) most_steps (words k.script) (length k.log)) k.log left.log size stop t → size * 8 ≤ length k.log →
          left.values ≡ replicate (length k.values) 0 → left.units ≡ replicate (length k.units) 0 → left.delays ≡ replicate (length k.delays) 0 →
          Right k left (λ a. Ok (finished stop t (size * 8)) ≡ told a)
      unfolding told log_after area_after
      call_played left size stop t b b₁ g h ev eu ed =
          let x = played_answer in
          let p : Played = play (length k.log) (circuit (words k.circuit)) (words k.script) in
          let y : Logged p k.log left.log size stop t = logged_circuit left.log size stop t g in
          record {
            answer = rw x (alike stop p.stop t p.ticks size (length p.log) y.stop y.ticks y.size);
            log = rw x (logged_bytes p k.log left.log size stop t b b₁ h y);
            values = rw x ev;
            units = rw x eu;
            delays = rw x ed;
            promised = promised _ _ _ _;
          }
        where
          alike : (s s₁ t t₁ a b : ℕ) → s₁ ≡ s → t₁ ≡ t → b ≡ a → ◌≡◌ {A = Answer} (Ok (finished s t (a * 8))) (Ok (finished s₁ t₁ (8 * b)))
          alike s s₁ t t₁ a b es et ea = rw (es, et, (let z : 8 * b ≡ a * 8 = omega arith in z)) refl
