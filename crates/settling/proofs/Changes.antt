-- What a change of a watched input leads to, and what a check comes to: one law for each way out of a function.
use Prim.Native.Nat.{ℕ, ◌+◌, ◌-◌, ◌%◌, ◌≤◌, ◌<◌}
use mathlib.Core.Path.{◌≡◌, refl, sym, ap, ◌∙◌}
use mathlib.Core.Bool.{Bool, true, false, true≢false}
use mathlib.Core.List.{List, [], ◌∷◌}
use mathlib.Core.Logic.{inl, inr, ⊎_elim}
use mathlib.Core.Option.{none, some}
use native.Mathlib.Omega.{arith}
use borrow.Author.Tests.{ne_eqb, leb-true, leb-false}
use types.Run.{OneOf}
use lib.Dec.{eqb, leb}
use lib.ListN.{get_or, set}
use Rattle.schedule.specs.Schedule.{When, by_rank}
use Rattle.model.specs.declared.Value.{Value}
use Rattle.model.specs.declared.Value.TheVariants.{Nothing}
use Rattle.model.specs.Base.{if◌then◌otherwise◌}
use Rattle.model.specs.Value.{value_of, as_float, truthy, same, lt64}
use Rattle.model.specs.Circuit.{Circuit, minus_one, kind_of_gate, input, output, gate_at_input, source, stored_in}
use Rattle.model.specs.State.{State, Wires, wires≔, delays≔, changed≔, last≔}
use Rattle.model.specs.Wires.{look, ready}
use Rattle.model.specs.Delays.{buffer_input}
use Rattle.model.specs.Exec.{count_changed, delay, delay≔, with_countdown, countdown}
use Rattle.model.specs.Settle.{Settled, calm, raise, last_value, unchanged, pulse, edge, detect, compared, check}
use Rattle.links.specs.Links.{sources_at, stored_kinds_at, stored_contents_at, inputs_at, entries, net}
use Rattle.links.proofs.Reading.{entry_out, input_gate, source_none, input_stored}
use Rattle.std.specs.Prelude.{Option, Some, None}
use Rattle.words.specs.Options.{option_of}
use Rattle.wires.specs.View.{Values, with_wires}
use Rattle.states.specs.View.{Delays, starting}
use Rattle.units.specs.View.{entry_of, row_of, act_of, Units}
use Rattle.units.proofs.Parts.{act_of_entry}
use Rattle.areas.specs.Areas.{together, with_state}
use Rattle.settling.specs.declared.Raised.{Raised}
use Rattle.settling.specs.declared.Raised.TheVariants.{Nothing as NoRaise, Entry, MayWait}
use Rattle.settling.specs.declared.Edge.{Edge}
use Rattle.settling.specs.declared.Edge.TheVariants.{Rising, Falling, Level}
use Rattle.settling.specs.Settling.{settled}
use Rattle.settling.specs.Rounds.{hit_by, acted, Acts}

-- ---- how a value moved

module _ (was now : Value) (a b : ℕ) (ea : a ≡ as_float 0 was) (eb : b ≡ as_float 0 now) (t : Bool) (et : t ≡ lt64 a b) where
  pub rises : t ≡ true → (c : Circuit) (s : State) (hit : State → ℕ → Settled) → hit_by Rising s hit ≡ edge c s was now hit
  unfolding hit_by edge if◌then◌otherwise◌
  rises h c s hit = rw (← ea, ← eb, ← et, h)

  module _ (u : Bool) (h : t ≡ false) (eu : u ≡ lt64 b a) where
    pub falls : u ≡ true → (c : Circuit) (s : State) (hit : State → ℕ → Settled) → hit_by Falling s hit ≡ edge c s was now hit
    unfolding hit_by edge if◌then◌otherwise◌
    falls k c s hit = rw (← ea, ← eb, ← et, h, ← eu, k)

    pub stays_level : u ≡ false → (c : Circuit) (s : State) (hit : State → ℕ → Settled) → hit_by Level s hit ≡ edge c s was now hit
    unfolding hit_by edge if◌then◌otherwise◌
    stays_level k c s hit = rw (← ea, ← eb, ← et, h, ← eu, k)

-- ---- entries

-- with 0 nothing is brought
brings_nothing : (c : Circuit) (form : ℕ) → row_of c form 0 ≡ []
unfolding row_of if◌then◌otherwise◌
brings_nothing c form = go (eqb form 2)
  where
    go : (b : Bool) → ◌≡◌ {A = List Value} (if b then [] otherwise []) []
    go true = refl
    go false = refl

-- An entry that brings nothing is an activation of its gate and form.
pub entry_act : (c : Circuit) (g form : ℕ) → g < 65536 → form < 65536 → act_of c (entry_of g form 0) ≡ record { gate = g; form = form; row = [] }
entry_act c g form hg hf =
    act_of_entry c g form 0 hg hf (omega arith) ∙ ap (λ (vs : List Value). record { gate = g; form = form; row = vs }) (brings_nothing c form)

-- ---- what acts

-- the state of an answer
pub settled_at : (c : Circuit) (when : When) (s : State) (r : Raised) → (settled c when s r).state ≡ s
unfolding settled
settled_at c when s NoRaise = refl
settled_at c when s (Entry x) = refl
settled_at c when s (MayWait x) = refl

-- by the state after it
pub acts_by :
    (c : Circuit) (v w : Values) (d e : Delays) (f : When → State → Settled) (r : Raised) →
    ((u : Units) (when : When) → (settled c when (together w u e).state r ≡ f when (together v u d).state) × (together w u e ≡ with_state (together v u d) (together w u e).state)) →
    Acts c v d w e f r
acts_by c v w d e f r h u when =
    let q : (f when (together v u d).state).state ≡ (together w u e).state =
    sym (ap (λ (z : Settled). z.state) (h u when).0) ∙ settled_at c when (together w u e).state r in
    ((h u when).1 ∙ ap (with_state (together v u d)) (sym q), ap (λ (s : State). settled c when s r) q ∙ (h u when).0)

-- ---- an Edge

-- what is known of how the value moved
abbrev MovesSo : Edge → Value → Value → Type 0
MovesSo e was now = (c : Circuit) (s : State) (hit : State → ℕ → Settled) → hit_by e s hit ≡ edge c s was now hit

-- a direction that hits output p
abbrev Hits : Edge → ℕ → Type 0
Hits e p = (s : State) (hit : State → ℕ → Settled) → hit s p ≡ hit_by e s hit

pub rising_hits : (e : Edge) → e ≡ Rising → Hits e 0
unfolding hit_by
rising_hits e h s hit = ap (λ (x : Edge). hit_by x s hit) (sym h)

pub falling_hits : (e : Edge) → e ≡ Falling → Hits e 1
unfolding hit_by
falling_hits e h s hit = ap (λ (x : Edge). hit_by x s hit) (sym h)

-- no direction hits nothing
level_hits : (e : Edge) → e ≡ Level → (s : State) (hit : State → ℕ → Settled) → calm s ≡ hit_by e s hit
unfolding hit_by
level_hits e h s hit = ap (λ (x : Edge). hit_by x s hit) (sym h)

module _ (c : Circuit) (v : Values) (g : ℕ) (was now : Value) (e : Edge) (ee : MovesSo e was now) where
  -- the pulse of an Edge
  abbrev edge_hit : State → ℕ → Settled
  edge_hit t o = calm (wires≔ t (pulse c t.wires (output c g o)))

  pub pulse_hits :
      (p o : ℕ) (w : Values) → Hits e p → (o ≡ output c g p) × (o < 131072) → w ≡ with_wires v (pulse c v.wires o) → (d : Delays) →
      Acts c v d w d (λ _ s. edge c s was now edge_hit) NoRaise
  unfolding settled calm wires≔
  pulse_hits p o w h eo ew d =
      acts_by c v w d d (λ _ s. edge c s was now edge_hit) NoRaise (λ u when. (
        rw (ew, eo.0) (h (together v u d).state edge_hit ∙ ee c (together v u d).state edge_hit),
        rw ew,
      ))

  pub pulse_stays : e ≡ Level → (d : Delays) → Acts c v d v d (λ _ s. edge c s was now edge_hit) NoRaise
  unfolding settled calm
  pulse_stays h d =
      acts_by c v v d d (λ _ s. edge c s was now edge_hit) NoRaise (λ u when. (
        level_hits e h (together v u d).state edge_hit ∙ ee c (together v u d).state edge_hit,
        refl,
      ))

-- ---- raising a gate

-- an entry's raise, by rank
entry_raise :
    (c : Circuit) (g form x : ℕ) (when : When) (s : State) → x ≡ entry_of g form 0 → g < 65536 → form < 65536 → settled c when s (Entry x) ≡ raise by_rank s g form
unfolding settled raise
entry_raise c g form x when s ex hg hf = rw (ex, entry_act c g form hg hf)

-- and of one that may wait
waiting_raise :
    (c : Circuit) (g form x : ℕ) (when : When) (s : State) → x ≡ entry_of g form 0 → g < 65536 → form < 65536 → settled c when s (MayWait x) ≡ raise when s g form
unfolding settled raise
waiting_raise c g form x when s ex hg hf = rw (ex, entry_act c g form hg hf)

-- an EdgeExec
module _ (g : ℕ) (was now : Value) (e : Edge) (ee : MovesSo e was now) where
  pub raise_hits :
      (p x : ℕ) → p < 2 → Hits e p → x ≡ entry_of g (32 + p) 0 → g < 65536 → (c : Circuit) (when : When) (s : State) →
      settled c when s (Entry x) ≡ edge c s was now (λ t o. raise by_rank t g (32 + o))
  raise_hits p x k h ex hg c when s =
      entry_raise c g (32 + p) x when s ex hg (omega arith) ∙ h s (λ t o. raise by_rank t g (32 + o)) ∙ ee c s (λ t o. raise by_rank t g (32 + o))

  pub raise_stays : e ≡ Level → g < 65536 → (c : Circuit) (when : When) (s : State) → settled c when s NoRaise ≡ edge c s was now (λ t o. raise by_rank t g (32 + o))
  unfolding settled calm
  raise_stays h hg c when s = level_hits e h s (λ t o. raise by_rank t g (32 + o)) ∙ ee c s (λ t o. raise by_rank t g (32 + o))

-- an exec pin
module _ (c : Circuit) (g i : ℕ) (now : Value) (t : Bool) (et : t ≡ truthy now) where
  pub pin_true :
      (n p x : ℕ) → t ≡ true → (n ≡ input c g 0) × (n < 131072) → p ≡ i - n → x ≡ entry_of g (16 + p % 65536) 0 → g < 65536 → (truthy now ≡ true → i < 640) → (when : When) (s : State) →
      settled c when s (MayWait x) ≡ (if truthy now then raise when s g (16 + (i - input c g 0)) otherwise calm s)
  unfolding if◌then◌otherwise◌
  pin_true n p x h en ep ex hg hi when s =
      let k : truthy now ≡ true = sym et ∙ h in
      let small : i < 640 = hi k in
      let ef : 16 + p % 65536 ≡ 16 + (i - n) = omega arith in
      rw k (waiting_raise c g (16 + p % 65536) x when s ex hg (omega arith) ∙ ap (raise when s g) (ef ∙ ap (λ (y : ℕ). 16 + (i - y)) en.0))

  pub pin_false :
      t ≡ false → g < 65536 → (truthy now ≡ true → i < 640) → (when : When) (s : State) →
      settled c when s NoRaise ≡ (if truthy now then raise when s g (16 + (i - input c g 0)) otherwise calm s)
  unfolding if◌then◌otherwise◌ settled calm
  pin_false h hg hi when s = let k : truthy now ≡ false = sym et ∙ h in rw k

-- ---- what a change leads to, by kind

-- as another function has it
pub acts_like :
    (c : Circuit) (v w : Values) (d e : Delays) (f k : When → State → Settled) (r : Raised) → ((when : When) (s : State) → f when s ≡ k when s) → Acts c v d w e f r →
    Acts c v d w e k r
acts_like c v w d e f k r h a u when =
    let s = (together v u d).state in (
      (a u when).0 ∙ ap (λ (z : Settled). with_state (together v u d) z.state) (h when s),
      ap (λ (z : Settled). settled c when z.state r) (sym (h when s)) ∙ (a u when).1 ∙ h when s,
    )

-- a gate that has an input is below 65,536
pub gate_small : (l : List ℕ) (i : ℕ) → gate_at_input (net l) i < 65536
gate_small l i = omega (arith, input_gate l i (get_or (entries l 2 640 inputs_at) i 0) refl)

-- the definition at each kind
module _ (c : Circuit) (when : When) (s : State) (g p : ℕ) (was now : Value) (k : ℕ) where
  kind_6 : k ≡ 6 → detect c k when s g p was now ≡ raise when s g 0
  unfolding detect if◌then◌otherwise◌
  kind_6 e = rw e

  kind_7 : k ≡ 7 → edge c s was now (λ t o. calm (wires≔ t (pulse c t.wires (output c g o)))) ≡ detect c k when s g p was now
  unfolding detect if◌then◌otherwise◌
  kind_7 e = rw e

  kind_8 : k ≡ 8 → detect c k when s g p was now ≡ calm (wires≔ s (pulse c s.wires (output c g 0)))
  unfolding detect if◌then◌otherwise◌
  kind_8 e = rw e

  kind_9 : k ≡ 9 → detect c k when s g p was now ≡ edge c s was now (λ t o. raise by_rank t g (32 + o))
  unfolding detect if◌then◌otherwise◌
  kind_9 e = rw e

  kind_buffer : OneOf (10 ∷ 12 ∷ []) k → detect c k when s g p was now ≡ calm (with_countdown c s g (λ d left. buffer_input d now left) (countdown c g (truthy now)))
  unfolding detect if◌then◌otherwise◌
  kind_buffer h = ⊎_elim (λ e. rw e) (λ e. rw e) h

  kind_other :
      ((((Unit {0} × (k ≡ 6 → ⊥)) × (k ≡ 7 → ⊥)) × (k ≡ 8 → ⊥)) × (k ≡ 9 → ⊥)) × (OneOf (10 ∷ 12 ∷ []) k → ⊥) → detect c k when s g p was now ≡ (if truthy now then raise when s g (16 + p) otherwise calm s)
  unfolding detect if◌then◌otherwise◌
  kind_other f =
      rw (
        ne_eqb k 6 f.0.0.0.0.1,
        ne_eqb k 7 f.0.0.0.1,
        ne_eqb k 8 f.0.0.1,
        ne_eqb k 9 f.0.1,
        ne_eqb k 10 (λ e. f.1 (inl e)),
        ne_eqb k 12 (λ e. f.1 (inr e)),
      )

-- the code's arms
module _ (l : List ℕ) (v : Values) (d : Delays) (i g k : ℕ) (was now : Value) (eg : g ≡ gate_at_input (net l) i) (ek : k ≡ kind_of_gate (net l) g) where
  small : g < 65536
  small = omega (arith, gate_small l i)

  known : (when : When) (s : State) → detect (net l) k when s g (i - input (net l) g 0) was now ≡ acted (net l) i was now when s
  unfolding acted
  known when s = rw (← eg, ← ek)

  pub change_6 : (x : ℕ) → k ≡ 6 → x ≡ entry_of g 0 0 → (truthy now ≡ true → i < 640) → Acts (net l) v d v d (acted (net l) i was now) (MayWait x)
  change_6 x e ex hi =
      acts_by (net l) v v d d (acted (net l) i was now) (MayWait x) (λ u when.
      let s = (together v u d).state in
      (waiting_raise (net l) g 0 x when s ex small (omega arith) ∙ sym (kind_6 (net l) when s g _ was now k e) ∙ known when s, refl))

  pub change_7 :
      (w : Values) → k ≡ 7 → ((d : Delays) → Acts (net l) v d w d (λ _ s. edge (net l) s was now (λ t o. calm (wires≔ t (pulse (net l) t.wires (output (net l) g o))))) NoRaise) →
      (truthy now ≡ true → i < 640) → Acts (net l) v d w d (acted (net l) i was now) NoRaise
  change_7 w e h hi = acts_like (net l) v w d d _ (acted (net l) i was now) NoRaise (λ when s. kind_7 (net l) when s g _ was now k e ∙ known when s) (h d)

  pub change_8 :
      (o : ℕ) (w : Values) → k ≡ 8 → (o ≡ output (net l) g 0) × (o < 131072) → w ≡ with_wires v (pulse (net l) v.wires o) → (truthy now ≡ true → i < 640) →
      Acts (net l) v d w d (acted (net l) i was now) NoRaise
  unfolding settled calm wires≔
  change_8 o w e eo ew hi =
      acts_by (net l) v w d d (acted (net l) i was now) NoRaise (λ u when.
      let s = (together v u d).state in
      (rw (ew, eo.0) (sym (kind_8 (net l) when s g _ was now k e) ∙ known when s), rw ew))

  pub change_9 :
      (r : Raised) → k ≡ 9 → (g < 65536 → (c : Circuit) (when : When) (s : State) → settled c when s r ≡ edge c s was now (λ t o. raise by_rank t g (32 + o))) → (truthy now ≡ true → i < 640) →
      Acts (net l) v d v d (acted (net l) i was now) r
  change_9 r e h hi =
      acts_by (net l) v v d d (acted (net l) i was now) r (λ u when.
      let s = (together v u d).state in
      (h small (net l) when s ∙ sym (kind_9 (net l) when s g _ was now k e) ∙ known when s, refl))

  pub change_buffer :
      (x : Delays) → OneOf (10 ∷ 12 ∷ []) k → x ≡ starting d g (λ y left. buffer_input y now left) (countdown (net l) g (truthy now)) → (truthy now ≡ true → i < 640) →
      Acts (net l) v d v x (acted (net l) i was now) NoRaise
  unfolding settled calm delay delay≔ delays≔ count_changed changed≔
  change_buffer x e ex hi =
      acts_by (net l) v v d x (acted (net l) i was now) NoRaise (λ u when.
      let s = (together v u d).state in
      (rw ex (sym (kind_buffer (net l) when s g _ was now k e) ∙ known when s), rw ex))

  pub change_pin :
      (r : Raised) → ((((Unit {0} × (k ≡ 6 → ⊥)) × (k ≡ 7 → ⊥)) × (k ≡ 8 → ⊥)) × (k ≡ 9 → ⊥)) × (OneOf (10 ∷ 12 ∷ []) k → ⊥) →
      (g < 65536 → (truthy now ≡ true → i < 640) → (when : When) (s : State) → settled (net l) when s r ≡ (if truthy now then raise when s g (16 + (i - input (net l) g 0)) otherwise calm s)) →
      (truthy now ≡ true → i < 640) → Acts (net l) v d v d (acted (net l) i was now) r
  change_pin r f h hi =
      acts_by (net l) v v d d (acted (net l) i was now) r (λ u when.
      let s = (together v u d).state in
      (h small hi when s ∙ sym (kind_other (net l) when s g (i - input (net l) g 0) was now k f) ∙ known when s, refl))

-- ---- a check

-- an input past the last reads nothing
look_past : (l : List ℕ) (w : Wires) (i : ℕ) → 640 ≤ i → look (net l) w i ≡ Nothing
unfolding look value_of
look_past l w i h =
    let none_at : none ≡ source (net l) i = source_none l i _ refl (sym (entry_out l 2 640 sources_at i minus_one (omega arith))) in
    let nothing_in : Nothing ≡ stored_in (net l) i =
    input_stored l i 0 0 Nothing (entry_out l 2 640 stored_kinds_at i 0 (omega arith)) (entry_out l 2 640 stored_contents_at i 0 (omega arith)) refl in
    rw (← none_at, look) (sym nothing_in)

-- so one that reads true is among them
pub look_true : (l : List ℕ) (w : Wires) (i : ℕ) (now : Value) → now ≡ look (net l) w i → truthy now ≡ true → i < 640
unfolding truthy
look_true l w i now e h = go (leb 640 i) refl
  where
    go : (b : Bool) → leb 640 i ≡ b → i < 640
    go true q = absurd (true≢false (sym h ∙ ap truthy (e ∙ look_past l w i (leb-true 640 i q))))
    go false q = omega (arith, leb-false 640 i q)

-- what acts after a change of wires
acts_after :
    (c : Circuit) (v v₂ w : Values) (d e : Delays) (f k : When → State → Settled) (r : Raised) (x : Wires) → v₂ ≡ with_wires v x →
    ((u : Units) (when : When) → f when (together v₂ u d).state ≡ k when (together v u d).state) → Acts c v₂ d w e f r → Acts c v d w e k r
acts_after c v v₂ w d e f k r x ev h a u when = (
  (a u when).0
      ∙ ap (λ (z : Settled). with_state (together v₂ u d) z.state) (h u when)
      ∙ ap (λ (y : Values). with_state (together y u d) (k when (together v u d).state).state) ev,
  ap (λ (z : Settled). settled c when z.state r) (sym (h u when)) ∙ (a u when).1 ∙ h u when,
)

module _ (l : List ℕ) (v v₁ v₂ : Values) (d : Delays) (i : ℕ) (m : Option Value) (now : Value)
    (el : option_of m ≡ get_or v.wires.last i none)
    (er : v₁ ≡ with_wires v (ready (net l) v.wires i))
    (eo : now ≡ look (net l) v₁.wires i)
    (es : v₂ ≡ with_wires v₁ (last≔ v₁.wires (set v₁.wires.last i (some now)))) where
  noted : v₂ ≡ with_wires v (last≔ v₁.wires (set v₁.wires.last i (some now)))
  noted = es ∙ ap (λ (y : Values). with_wires y (last≔ v₁.wires (set v₁.wires.last i (some now)))) er

  checked :
      (u : Units) (when : When) →
      (if unchanged (option_of m) now then calm (together v₂ u d).state otherwise acted (net l) i (last_value (option_of m)) now when (together v₂ u d).state)
      ≡ check (net l) when (together v u d).state i
  unfolding check compared acted wires≔
  checked u when = rw (es, eo, er, el)

  module _ (v₃ : Values) (e : Delays) (r : Raised) where
    pub check_first :
        m ≡ None → ((truthy now ≡ true → i < 640) → Acts (net l) v₂ d v₃ e (acted (net l) i Nothing now) r) → Acts (net l) v d v₃ e (λ when s. check (net l) when s i) r
    unfolding unchanged last_value if◌then◌otherwise◌
    check_first em a =
        acts_after (net l) v v₂ v₃ d e (acted (net l) i Nothing now) (λ when s. check (net l) when s i) r _ noted
        (λ u when. ap (λ (x : Option Value). if unchanged (option_of x) now then calm (together v₂ u d).state otherwise acted (net l) i (last_value (option_of x)) now when (together v₂ u d).state) (sym em) ∙ checked u when)
        (a (look_true l v₁.wires i now eo))

    pub check_new :
        (was : Value) (t : Bool) → m ≡ Some was → t ≡ same was now → t ≡ false →
        ((truthy now ≡ true → i < 640) → Acts (net l) v₂ d v₃ e (acted (net l) i was now) r) → Acts (net l) v d v₃ e (λ when s. check (net l) when s i) r
    unfolding unchanged last_value if◌then◌otherwise◌
    check_new was t em et h a =
        acts_after (net l) v v₂ v₃ d e (acted (net l) i was now) (λ when s. check (net l) when s i) r _ noted
        (λ u when.
        ap (λ (b : Bool). if b then calm (together v₂ u d).state otherwise acted (net l) i was now when (together v₂ u d).state) (sym h ∙ et)
        ∙ ap (λ (x : Option Value). if unchanged (option_of x) now then calm (together v₂ u d).state otherwise acted (net l) i (last_value (option_of x)) now when (together v₂ u d).state) (sym em)
        ∙ checked u when)
        (a (look_true l v₁.wires i now eo))

  pub check_same : (was : Value) (t : Bool) → m ≡ Some was → t ≡ same was now → t ≡ true → Acts (net l) v d v₂ d (λ when s. check (net l) when s i) NoRaise
  unfolding unchanged last_value if◌then◌otherwise◌ settled calm
  check_same was t em et h =
      acts_by (net l) v v₂ d d (λ when s. check (net l) when s i) NoRaise (λ u when. (
        ap (λ (b : Bool). if b then calm (together v₂ u d).state otherwise acted (net l) i was now when (together v₂ u d).state) (sym h ∙ et)
            ∙ ap (λ (x : Option Value). if unchanged (option_of x) now then calm (together v₂ u d).state otherwise acted (net l) i (last_value (option_of x)) now when (together v₂ u d).state) (sym em)
            ∙ checked u when,
        ap (λ (y : Values). with_state (together y u d) (together v₂ u d).state) noted,
      ))
