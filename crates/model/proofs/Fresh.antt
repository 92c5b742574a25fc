-- What a unit sees when it begins: the theorems. What they say is defined in specs/Fresh.antt.
use mathlib.Core.Path.{◌≡◌, subst}
use mathlib.Core.Bool.{true, false}
use mathlib.Core.List.{List, [], ◌∷◌, ◌++◌}
use mathlib.Core.Option.{none, some}
use Prim.Native.Nat.{ℕ}
use Rattle.words.specs.Words.{words}
use Rattle.schedule.specs.Schedule.{numbered, Turn}
use Rattle.schedule.specs.Promise.{All, ◌∷·◌}
use Rattle.model.specs.Value.{same}
use Rattle.model.specs.Kinds.{pure}
use Rattle.model.specs.Circuit.{circuit, kind_of_gate, input, source, stored_in, gate_at_output}
use Rattle.model.specs.State.{Wires}
use Rattle.model.specs.Wires.{shown}
use Rattle.model.specs.Run.{ticks_get, machine}
use Rattle.model.specs.Questions.{Areas, refusal, value_output}
use Rattle.model.specs.Order.{NumberedTick, numbered_ticks}
use Rattle.model.specs.Fresh.{read_output, gives, afresh, BeginsFresh, TickFresh, WholeRunFresh}
use Rattle.model.proofs.Asked.{accepted}
use Rattle.model.proofs.Afresh.{afresh_pure_is, afresh_other_is}
use Rattle.model.proofs.Beginning.{run_fresh}
use Rattle.model.proofs.Wiring.{wired, gets_fine}

-- For every circuit and script that are not refused: wherever a unit begins, reading any value output gives what is worked out afresh.
pub begins_fresh : (areas : Areas) (room : ℕ) (cb sb : List ℕ) → refusal (some areas) cb sb ≡ 0 → WholeRunFresh room cb sb
begins_fresh areas room cb sb h =
    let a = accepted (some areas) cb sb h in
    let c = circuit (words cb) in
    run_fresh c (wired (some areas) cb sb a) room (ticks_get c (words sb)) (gets_fine (some areas) cb sb a)

one_of : {A : Type 0} (P : A → Type 0) (pre : List A) (a : A) (post : List A) → All P (pre ++ (a ∷ post)) → P a
one_of P [] a post (◌∷·◌ p q) = p
one_of P (x ∷ pre) a post (◌∷·◌ p q) = one_of P pre a post q

-- The same in one sentence: of any unit u that began in any tick t of the run, and any value output o.
pub each_unit :
    (areas : Areas) (room : ℕ) (cb sb : List ℕ) → refusal (some areas) cb sb ≡ 0 →
    let c = circuit (words cb) in
    (pre : List (NumberedTick c)) (t : NumberedTick c) (post : List (NumberedTick c)) →
    numbered_ticks c room (ticks_get c (words sb)) ≡ pre ++ (t ∷ post) →
    (before : List (Turn (numbered (machine c)))) (u : Turn (numbered (machine c))) (after : List (Turn (numbered (machine c)))) →
    t.late ++ t.main ≡ before ++ (u ∷ after) →
    (o : ℕ) → value_output c o ≡ true → same (read_output c u.from.state.wires o) (afresh c u.from.state.wires o) ≡ true
each_unit areas room cb sb h pre t post e before u after d o v =
    let c = circuit (words cb) in
    let f = one_of (TickFresh c) pre t post (subst (All (TickFresh c)) e (begins_fresh areas room cb sb h)) in
    let Sees : Turn (numbered (machine c)) → Type 0 = λ u. BeginsFresh c u.from u.unit.act in
    ((one_of Sees before u after (subst (All Sees) d f)).begun o v).equal

-- What is worked out afresh, without a depth: of a pure gate what it gives, its sources worked out afresh, and of any other gate what it shows.
pub afresh_is :
    (areas : Areas) (cb sb : List ℕ) → refusal (some areas) cb sb ≡ 0 →
    let c = circuit (words cb) in
    (w : Wires) (o : ℕ) →
    (pure (kind_of_gate c (gate_at_output c o)) ≡ true →
    afresh c w o ≡ gives c w (kind_of_gate c (gate_at_output c o)) (λ p.
    let i = input c (gate_at_output c o) p in elim (source c i) [ none ↦ stored_in c i | some q ↦ afresh c w q ]))
    × (pure (kind_of_gate c (gate_at_output c o)) ≡ false → afresh c w o ≡ shown w o)
afresh_is areas cb sb h w o =
    let c = circuit (words cb) in
    let W = wired (some areas) cb sb (accepted (some areas) cb sb h) in
    (afresh_pure_is c W w o, afresh_other_is c W w o)
