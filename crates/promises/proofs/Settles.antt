-- Settling keeps what holds of states, and raises only units that a record may have.
use mathlib.Core.Path.{◌≡◌, refl, sym, subst, ap, ◌∙◌}
use mathlib.Core.Logic.{inl, inr}
use mathlib.Core.Bool.{Bool, true, false, ◌||◌, true≢false}
use mathlib.Core.List.{List, [], ◌∷◌}
use mathlib.Core.Option.{some}
use Prim.Native.Nat.{ℕ, zero, suc, ◌+◌, ◌-◌, ◌<◌}
use native.Mathlib.Omega.{arith}
use lib.Dec.{eqb}
use lib.ListN.{length, get_or}
use borrow.Author.Tests.{eqb-true, ne_eqb, lt-ltb, le-ltb}
use Rattle.schedule.specs.Schedule.{Raise, When, by_rank}
use Rattle.schedule.specs.Promise.{All, [·], ◌∷·◌}
use Rattle.schedule.proofs.Members.{all_append}
use Rattle.model.specs.declared.Value.{Value}
use Rattle.model.specs.Base.{if◌then◌otherwise◌, among}
use Rattle.model.specs.Kinds.{never, if_driven, always, value, kind_at, receiving, kinds_opened}
use Rattle.model.specs.Circuit.{Circuit, kind_of_gate, input, output, source, has_source, gate_at_input, watching}
use Rattle.model.specs.State.{Act, State, wires≔}
use Rattle.model.specs.Wires.{look, ready}
use Rattle.model.specs.Settle.{Settled, calm, raise, pulse, edge, detect, compared, check, check_on, settle}
use Rattle.model.specs.Record.{listed}
use Rattle.model.specs.Closing.{as_listed}
use Rattle.model.specs.Questions.{value_output, within}
use Rattle.model.proofs.Lists.{if_both, if_by, either_false, clash}
use Rattle.model.proofs.Laid.{kind_in}
use Rattle.model.proofs.Walks.{check_on_keeps}
use Rattle.model.proofs.Underway.{buffer_held, delay_held, count_held, delay_of}
use Rattle.records.specs.Whole.{firing, driven, can_have, good_unit}
use Rattle.promises.proofs.Values.{Proper}
use Rattle.promises.proofs.Shape.{PinFits, Shaped, value_at}
use Rattle.promises.proofs.Wires.{look_proper, ready_tells, refresh_all_tells, pulse_tells, noted_tells, taken_tells}
use Rattle.promises.proofs.States.{Holds, wires_holds}

-- ---- units that a record may have

-- it is a good one, and brings values only to value outputs
pub record Fitting (c : Circuit) (a : Act) : Type 0 where
  pub unit : good_unit c (as_listed a) ≡ true
  pub others : (k : ℕ) → k < length a.row → value_output c (output c a.gate 1 + k) ≡ true
  pub row : All Proper a.row

pub bare : (c : Circuit) (g form : ℕ) → good_unit c (listed g form) ≡ true → Fitting c (record { gate = g; form = form; row = [] })
bare c g form e = record { unit = e; others = λ k l. absurd (omega arith); row = [·] }

module _ (c : Circuit) (g : ℕ) where
  -- a form that a gate can have, which has a kind
  entered : (form : ℕ) → 0 < kind_of_gate c g → can_have c g form ≡ true → good_unit c (listed g form) ≡ true
  unfolding good_unit
  entered form l h = rw (lt-ltb g _ (kind_in c g l), h)

  -- a test that no kind 0 passes
  some_kind : (p : ℕ → Bool) → p 0 ≡ false → p (kind_of_gate c g) ≡ true → 0 < kind_of_gate c g
  some_kind p e h = go (kind_of_gate c g) h
    where
      go : (k : ℕ) → p k ≡ true → 0 < k
      go zero h = clash h e
      go (suc k) h = omega arith

  pub fire_good : firing (kind_of_gate c g) ≡ true → good_unit c (listed g 0) ≡ true
  unfolding can_have if◌then◌otherwise◌ firing within
  fire_good h = entered 0 (some_kind firing refl h) h

  pub event_good : receiving (kind_of_gate c g) ≡ true → good_unit c (listed g 1) ≡ true
  unfolding can_have if◌then◌otherwise◌ receiving
  event_good h = entered 1 (some_kind receiving refl h) h

  pub world_good : eqb (kind_of_gate c g) 28 ≡ true → good_unit c (listed g 2) ≡ true
  unfolding can_have if◌then◌otherwise◌
  world_good h = entered 2 (some_kind (λ k. eqb k 28) refl h) h

  pin_good : (p : ℕ) → p < 16 → driven c g p ≡ true → good_unit c (listed g (16 + p)) ≡ true
  unfolding can_have if◌then◌otherwise◌ driven kinds_opened
  pin_good p l h =
      let e : 16 + p - 16 ≡ p = omega arith in
      let h' : driven c g (16 + p - 16) ≡ true = ap (driven c g) e ∙ h in
      entered (16 + p) (some_kind watched refl h)
      (rw (ne_eqb (16 + p) 0 (λ z. omega (arith, z)), ne_eqb (16 + p) 1 (λ z. omega (arith, z)), ne_eqb (16 + p) 2 (λ z. omega (arith, z)), le-ltb (16 + p) 16 (omega arith), lt-ltb (16 + p) 32 (omega arith)) h')
    where
      watched : ℕ → Bool
      watched k = elim (get_or (kind_at k).ins p value).watch [ never ↦ false | if_driven ↦ has_source (source c (input c g p)) | always ↦ false ]

  edge_good : (o : ℕ) → o < 2 → eqb (kind_of_gate c g) 9 ≡ true → good_unit c (listed g (32 + o)) ≡ true
  unfolding can_have if◌then◌otherwise◌
  edge_good zero l h = entered 32 (some_kind (λ k. eqb k 9) refl h) h
  edge_good (suc zero) l h = entered 33 (some_kind (λ k. eqb k 9) refl h) h
  edge_good (suc (suc o)) l h = absurd (omega arith)

-- all that is raised is
abbrev pub RaisesFit : {P : Type 0} → Circuit → List (Raise State Act P) → Type 0
RaisesFit c rs = All (λ r. Fitting c r.act) rs

module _ (c : Circuit) (Z : Shaped c) where
  pub record SettledHolds (z : Settled) : Type 0 where
    pub state : Holds c z.state
    pub raises : RaisesFit c z.raises

  calm_holds : {s : State} → Holds c s → SettledHolds (calm s)
  unfolding calm
  calm_holds z = record { state = z; raises = [·] }

  raise_holds : {s : State} (when : When) (g form : ℕ) → good_unit c (listed g form) ≡ true → Holds c s → SettledHolds (raise when s g form)
  unfolding raise
  raise_holds when g form e z = record { state = z; raises = ◌∷·◌ (bare c g form e) [·] }

  edge_holds : {s : State} (was now : Value) (hit : State → ℕ → Settled) → Holds c s → SettledHolds (hit s 0) → SettledHolds (hit s 1) → SettledHolds (edge c s was now hit)
  unfolding edge
  edge_holds was now hit z x y = if_both SettledHolds _ x (if_both SettledHolds _ y (calm_holds z))

  pulsed_holds : {s : State} (o : ℕ) → value_output c o ≡ true → Holds c s → SettledHolds (calm (wires≔ s (pulse c s.wires o)))
  pulsed_holds {s} o u z = calm_holds (wires_holds c z (pulse_tells c s.wires o u z.wires))

  detect_holds :
      (when : When) (s : State) (g p : ℕ) (was now : Value) → Proper now → PinFits c g p → Holds c s → SettledHolds (detect c (kind_of_gate c g) when s g p was now)
  unfolding detect kinds_opened among firing within
  detect_holds when s g p was now r w z =
      let k = kind_of_gate c g in
      if_by SettledHolds (eqb k 6) (λ e. raise_holds when g 0 (fire_good c g (rw (eqb-true k 6 e) refl)) z)
      λ n₆. if_by SettledHolds (eqb k 7)
      (λ e. edge_holds was now _ z
      (pulsed_holds _ (value_at c Z.wired.laid g 7 0 (eqb-true k 7 e) refl) z)
      (pulsed_holds _ (value_at c Z.wired.laid g 7 1 (eqb-true k 7 e) refl) z))
      λ n₇. if_by SettledHolds (eqb k 8)
      (λ e. pulsed_holds _ (value_at c Z.wired.laid g 8 0 (eqb-true k 8 e) refl) z)
      λ n₈. if_by SettledHolds (eqb k 9)
      (λ e. edge_holds was now _ z (raise_holds by_rank g 32 (edge_good c g 0 (omega arith) e) z) (raise_holds by_rank g 33 (edge_good c g 1 (omega arith) e) z))
      λ n₉. if_by SettledHolds (eqb k 10 || eqb k 12)
      (λ _. calm_holds (count_held _ (delay_held c g _ (buffer_held _ now _ r (delay_of c s z g)) z)))
      λ n₁. let n = either_false (eqb k 10) _ n₁ in
      let q = pin w n₆ n₇ n₈ n₉ n.0 n.1 in
      if_both SettledHolds _ (raise_holds when g (16 + p) (pin_good c g p q.0 q.1) z) (calm_holds z)
    where
      pin :
          PinFits c g p → eqb (kind_of_gate c g) 6 ≡ false → eqb (kind_of_gate c g) 7 ≡ false → eqb (kind_of_gate c g) 8 ≡ false → eqb (kind_of_gate c g) 9 ≡ false →
          eqb (kind_of_gate c g) 10 ≡ false → eqb (kind_of_gate c g) 12 ≡ false → (p < 16) × (driven c g p ≡ true)
      pin (inl h) a b d e f i = absurd (true≢false (sym (rw (a, b, d, e, f, i) at h)))
      pin (inr h) a b d e f i = h

  check_holds : (when : When) (s : State) (i : ℕ) → watching c i ≡ true → Holds c s → SettledHolds (check c when s i)
  unfolding check compared wires≔
  check_holds when s i q z =
      let f = ready_tells c Z s.wires i z.wires in
      let r = look_proper c Z (ready c s.wires i) i f in
      let y = wires_holds c (wires_holds c z f) (noted_tells c (ready c s.wires i) i (some (look c (ready c s.wires i) i)) f) in
      if_both SettledHolds _ (calm_holds y) (detect_holds when _ (gate_at_input c i) _ _ _ r (Z.watched_pin i q) y)

  check_on_holds : (n : ℕ) (z : Settled) → SettledHolds z → SettledHolds (check_on c n z)
  check_on_holds =
      check_on_keeps c SettledHolds λ z i is e y.
      let a = first (subst (All (λ i. watching c i ≡ true)) e y.state.wires.sized.asked) in
      let x = check_holds _ _ i a (wires_holds c y.state (taken_tells c z.state.wires i is e y.state.wires)) in
      record { state = x.state; raises = all_append y.raises x.raises }
    where
      first : {x : ℕ} {xs : List ℕ} → All (λ i. watching c i ≡ true) (x ∷ xs) → watching c x ≡ true
      first (◌∷·◌ p a) = p

  pub settle_holds : (s : State) → Holds c s → SettledHolds (settle c s)
  unfolding settle
  settle_holds s z = check_on_holds _ _ (calm_holds (wires_holds c z (refresh_all_tells c Z s.wires z.wires)))
