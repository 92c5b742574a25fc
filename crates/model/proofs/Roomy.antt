-- The tests of room in `watch`, `write_once` and `exec-SendEvent` are never met in a run: a circuit that is not refused has few enough gates and inputs, and
-- what waits, what was written and what was sent is listed once.
use mathlib.Core.Path.{◌≡◌, refl, sym, ◌∙◌}
use mathlib.Core.Bool.{Bool, true, false, ◌||◌}
use mathlib.Core.List.{List, [], ◌∷◌, map}
use Prim.Native.Nat.{ℕ, zero, suc, ◌*◌, ◌≤◌}
use native.Mathlib.Omega.{arith}
use lib.Dec.{leb, eqb}
use lib.ListN.{length, get_or, set, length-map, length-set, get_or-map}
use borrow.Author.Tests.{leb-true, lt-leb}
use Rattle.model.specs.Base.{if◌then◌otherwise◌, all, snoc, among, sum}
use Rattle.model.specs.Kinds.{Kind, table, kind_at, kinds_opened}
use Rattle.model.specs.Circuit.{Circuit, most_gates, most_inputs, circuit, word_at, kind_of_gate, gates}
use Rattle.model.specs.State.{Wires, Send, State, to_check≔, written≔}
use Rattle.model.specs.Wires.{watch}
use Rattle.model.specs.Exec.{var, write_once}
use Rattle.model.specs.Questions.{question_1, question_3}
use Rattle.model.proofs.Lists.{all_places, count_most, from_length}
use Rattle.model.proofs.Sizes.{sizes}
use Rattle.model.proofs.Laid.{joined_length, inputs_found, gates_found}
use Rattle.model.proofs.Once.{once_room, among_map}
use Rattle.model.proofs.Sized.{marks, mark_more, SizedWires, Sized}
use Rattle.model.proofs.Kept.{gate_in}

-- as many gates and inputs as question 1 lets through, and so few outputs
pub record Few (c : Circuit) : Type 0 where
  pub gates : length c.kinds ≤ most_gates
  pub inputs : length c.pins ≤ most_inputs
  pub outputs : length c.outputs ≤ 576

-- no kind has more than nine
pub nine_outputs : (k : ℕ) → length (kind_at k).outs ≤ 9
unfolding kinds_opened all
nine_outputs zero = omega arith
nine_outputs (suc k) =
    let p : Kind → Bool = λ x. leb (length x.outs) 9 in
    leb-true _ 9 (sym (get_or-map p table k (record { ins = []; outs = [] })) ∙ all_places (map p table) refl k)

nine_each : (f : ℕ → ℕ) → ((k : ℕ) → f k ≤ 9) → (ks : List ℕ) → sum (map f ks) ≤ 9 * length ks
unfolding sum
nine_each f h [] = omega arith
nine_each f h (k ∷ ks) = omega (arith, h k, nine_each f h ks)

pub few : (bytes ws : List ℕ) → question_1 bytes ws ≡ true → question_3 ws (circuit ws) ≡ true → Few (circuit ws)
unfolding word_at circuit
few bytes ws q r =
    let z = sizes bytes ws q in
    let ks = (circuit ws).kinds in
    let g : length ks ≤ most_gates = omega (arith, gates_found bytes ws q, z.gates) in
    record {
      gates = g;
      inputs = omega (arith, inputs_found ws r, z.inputs);
      outputs = omega (arith, g, joined_length (λ k. (kind_at k).outs) ks, nine_each (λ k. length (kind_at k).outs) nine_outputs ks);
    }

-- the three functions without their tests of room
pub record Roomy (c : Circuit) : Type 0 where
  pub watching :
      (w : Wires) (i : ℕ) → SizedWires c w →
      watch w i ≡ (if get_or w.queued i true then w otherwise to_check≔ w (snoc w.to_check i) (set w.queued i true))
  pub writing :
      (w : Wires) (g : ℕ) → eqb (kind_of_gate c g) 0 ≡ false → SizedWires c w →
      write_once c w (var c g) ≡ (if among (var c g) w.written then w otherwise written≔ w (snoc w.written (var c g)))
  -- a gate that has not sent in this tick finds room in the outbox
  pub sending :
      (s : State) (g : ℕ) → eqb (kind_of_gate c g) 0 ≡ false → Sized c s → among g (map (λ (m : Send). m.gate) s.outbox) ≡ false →
      leb most_gates (length s.outbox) ≡ false

module _ (c : Circuit) (f : Few c) where
  watch_room :
      (w : Wires) (i : ℕ) → SizedWires c w →
      watch w i ≡ (if get_or w.queued i true then w otherwise to_check≔ w (snoc w.to_check i) (set w.queued i true))
  unfolding watch if◌then◌otherwise◌ marks
  watch_room w i z = go (get_or w.queued i true) refl
    where
      go :
          (b : Bool) → get_or w.queued i true ≡ b →
          (if b || leb most_inputs (length w.to_check) then w otherwise to_check≔ w (snoc w.to_check i) (set w.queued i true))
          ≡ (if b then w otherwise to_check≔ w (snoc w.to_check i) (set w.queued i true))
      go true e = refl
      go false e =
          let m = mark_more w.queued i e in
          let n = count_most (λ _ b. b) 0 (set w.queued i true) in
          rw (lt-leb most_inputs (length w.to_check) (omega (arith, m, n, length-set w.queued i true, z.waiting, z.queued, f.inputs))) refl

  write_room :
      (w : Wires) (g : ℕ) → eqb (kind_of_gate c g) 0 ≡ false → SizedWires c w →
      write_once c w (var c g) ≡ (if among (var c g) w.written then w otherwise written≔ w (snoc w.written (var c g)))
  unfolding write_once if◌then◌otherwise◌ gates
  write_room w g h z = go (among (var c g) w.written) refl
    where
      go :
          (b : Bool) → among (var c g) w.written ≡ b →
          (if b || leb most_gates (length w.written) then w otherwise written≔ w (snoc w.written (var c g)))
          ≡ (if b then w otherwise written≔ w (snoc w.written (var c g)))
      go true e = refl
      go false e =
          let r = once_room (var c g) z.memory.written (among_map (var c) g (gates c) (gate_in c g h)) e in
          rw (lt-leb most_gates (length w.written) (omega (arith, r, length-map (gates c) (var c), from_length 0 (length c.kinds), f.gates))) refl

  send_room :
      (s : State) (g : ℕ) → eqb (kind_of_gate c g) 0 ≡ false → Sized c s → among g (map (λ (m : Send). m.gate) s.outbox) ≡ false →
      leb most_gates (length s.outbox) ≡ false
  unfolding gates
  send_room s g h z e =
      let r = once_room g z.outbox (gate_in c g h) e in
      lt-leb most_gates (length s.outbox) (omega (arith, r, length-map s.outbox (λ (m : Send). m.gate), from_length 0 (length c.kinds), f.gates))

pub few_roomy : (c : Circuit) → Few c → Roomy c
few_roomy c f = record { watching = watch_room c f; writing = write_room c f; sending = send_room c f }
