-- No run exceeds either figure. What this says is defined in specs/Within.antt.
use mathlib.Core.Path.{◌≡◌, refl, ap, subst}
use mathlib.Core.Bool.{Bool, true, false, not, ◌&&◌}
use mathlib.Core.List.{List}
use mathlib.Core.Option.{some, none}
use Prim.Native.Nat.{ℕ, zero, suc, ◌*◌, ◌≤◌, ◌<◌}
use native.Mathlib.Omega.{arith}
use lib.Dec.{ltb}
use lib.ListN.{length, get_or-eq_default}
use borrow.Author.Tests.{ltb-true, ltb-false}
use Rattle.words.specs.Words.{words}
use Rattle.schedule.specs.Promise.{All}
use Rattle.model.specs.Base.{if◌then◌otherwise◌, all, from}
use Rattle.model.specs.Kinds.{kind_at}
use Rattle.model.specs.Circuit.{Circuit, circuit, word_at, kind_of_gate, input, inputs_of, gate_at_input}
use Rattle.model.specs.Script.{most_ticks}
use Rattle.model.specs.Run.{most_steps, gets, ticks_of, seen}
use Rattle.model.specs.Questions.{within, question_3, circuit_refusal, or_else}
use Rattle.model.specs.Answer.{play}
use Rattle.model.proofs.Lists.{both_true, from_among}
use Rattle.model.proofs.Sizes.{sizes, all_within}
use Rattle.model.proofs.Laid.{no_kind, kind_in, gates_found}
use Rattle.model.proofs.Wired.{Wired}
use Rattle.model.proofs.Asked.{accepted}
use Rattle.promises.proofs.Circuits.{shaped, script_gets, script_ticks, script_most}
use Rattle.figures.specs.Figures.{no_ring, no_loop, most_unit_steps, most_log_bytes, ring_or_loop, wrong_ticks, size_refusal, Size, refused, figures, size_by, size}
use Rattle.figures.specs.Within.{TickWithin, NoRunExceeds}
use Rattle.figures.proofs.Units.{Weighable}
use Rattle.figures.proofs.Runs.{run_steps}
use Rattle.figures.proofs.Logs.{run_bytes}

-- each input belongs to a gate; one that is not there, to the first
gate_in : (c : Circuit) → Wired c → 1 ≤ length c.kinds → (i : ℕ) → gate_at_input c i < length c.kinds
unfolding gate_at_input inputs_of from
gate_in c Z l i = go (ltb i (length c.pins)) refl
  where
    some_kind : (k p : ℕ) → p < length (kind_at k).ins → 0 < k
    some_kind zero p h = absurd (omega (arith, h, no_kind.0))
    some_kind (suc k) p h = omega arith

    go : (b : Bool) → ltb i (length c.pins) ≡ b → gate_at_input c i < length c.kinds
    go true e =
        let g = gate_at_input c i in
        let p = from_among (input c g 0) (length (kind_at (kind_of_gate c g)).ins) i (Z.own_input i (ltb-true i _ e)) in
        kind_in c g (some_kind (kind_of_gate c g) p.0 p.1)
    go false e = omega (arith, l, past)
      where
        past : gate_at_input c i ≡ 0
        past = get_or-eq_default c.gate_of_input 0 (omega (arith, Z.laid.gates_of_inputs, ltb-false i (length c.pins) e))

kinds_known : (ws : List ℕ) (c : Circuit) → question_3 ws c ≡ true → (g : ℕ) → kind_of_gate c g < 32
unfolding question_3 kind_of_gate
kinds_known ws c q g =
    let h = (both_true (all (within 1 31) c.kinds && all (within 0 64) c.bodies) _ q).0 in
    omega (arith, all_within 1 31 c.kinds (both_true (all (within 1 31) c.kinds) _ h).0 g)

-- ---- where the figures are given

-- a circuit that is not refused with 23
not_refused : (bytes : List ℕ) (T : ℕ) → size_refusal bytes T ≡ 0 → let c = circuit (words bytes) in (no_ring c ≡ true) × (no_loop c ≡ true)
unfolding size_refusal or_else if◌then◌otherwise◌
not_refused bytes T h = let c = circuit (words bytes) in both_true (no_ring c) (no_loop c) (go (circuit_refusal none bytes) (no_ring c && no_loop c) (if not (within 0 most_ticks T) then wrong_ticks otherwise 0) h)
  where
    go : (n : ℕ) (b : Bool) (later : ℕ) → or_else n (if not b then ring_or_loop otherwise later) ≡ 0 → b ≡ true
    go zero true later h = refl
    go zero false later h = absurd (omega (arith, h))
    go (suc n) b later h = absurd (omega (arith, h))

-- which they are
steps_in : Size → ℕ
steps_in (refused n) = 0
steps_in (figures steps bytes) = steps

bytes_in : Size → ℕ
bytes_in (refused n) = 0
bytes_in (figures steps bytes) = bytes

given : Size → ℕ
given (refused n) = 0
given (figures steps bytes) = 1

record Gives (cb : List ℕ) (T steps bytes : ℕ) : Type 0 where
  asked : size_refusal cb T ≡ 0
  steps_are : most_unit_steps (circuit (words cb)) ≡ steps
  bytes_are : most_log_bytes (circuit (words cb)) T ≡ bytes

gives : (cb : List ℕ) (T steps bytes : ℕ) → size cb T ≡ figures steps bytes → Gives cb T steps bytes
unfolding size size_by steps_in bytes_in given
gives cb T steps bytes e = go (size_refusal cb T) refl e
  where
    go : (n : ℕ) → size_refusal cb T ≡ n → size_by n cb T ≡ figures steps bytes → Gives cb T steps bytes
    go zero h e = record { asked = h; steps_are = ap steps_in e; bytes_are = ap bytes_in e }
    go (suc n) h e = absurd (omega (arith, ap given e))

-- ---- the theorem

pub no_run_exceeds : (cb : List ℕ) (T : ℕ) → NoRunExceeds cb T
unfolding play word_at
no_run_exceeds cb T steps bytes e areas room sb lc ls h few =
    let c = circuit (words cb) in
    let r = gives cb T steps bytes e in
    let k = not_refused cb T r.asked in
    let a = accepted (some areas) cb sb h in
    let Z = shaped (some areas) cb sb lc a in
    let W : Weighable c =
    record {
      laid = Z.wired.laid;
      known = kinds_known (words cb) c a.gates;
      entered = gate_in c Z.wired (omega (arith, gates_found cb (words cb) a.sizes, (sizes cb (words cb) a.sizes).some_gate));
      no_ring = k.0;
      no_loop = k.1;
    } in
    let is = gets c most_steps (words sb) in
    let g = script_gets (some areas) cb sb lc ls a Z most_steps (omega arith) in
    record {
      steps = subst (λ (n : ℕ). All (TickWithin c n) (ticks_of c room is)) r.steps_are (run_steps c Z W room is g);
      log =
          subst (λ (n : ℕ). 8 * length (seen c (ticks_of c room is)).log ≤ n) r.bytes_are
          (run_bytes c Z room T is (script_most c most_steps sb a.script_sizes) (omega (arith, script_ticks c most_steps (words sb), few)) g);
    }
