-- No unit causes more steps than the figure, the one not made included.
use mathlib.Core.Path.{◌≡◌, refl, sym, ap, subst}
use mathlib.Core.Logic.{◌⊎◌, inl, inr}
use mathlib.Core.Bool.{Bool, true, false, not}
use mathlib.Core.List.{List, [], ◌∷◌, ◌++◌, map}
use mathlib.Core.Option.{some}
use Prim.Native.Nat.{ℕ, zero, suc, ◌+◌, ◌-◌, ◌≤◌, ◌<◌, max}
use native.Mathlib.Nat.{zero-add}
use native.Mathlib.Omega.{arith}
use lib.Dec.{eqb}
use lib.ListN.{length, get_or}
use borrow.Author.Tests.{not-true}
use Rattle.model.specs.Base.{if◌then◌otherwise◌, all, joined, keep, from, sum, among}
use Rattle.model.specs.Kinds.{value, shows, kind_at}
use Rattle.model.specs.Circuit.{Circuit, Call, kind_of_gate, input, output, gate_at_input, calls_of}
use Rattle.model.specs.State.{Act}
use Rattle.model.specs.Chain.{no_calls}
use Rattle.model.specs.Unit.{World, fired, begin, enter, run_unit}
use Rattle.model.specs.Run.{most_steps}
use Rattle.model.proofs.Lists.{both_true, among_either, among_from, among_keep, clash}
use Rattle.model.proofs.Laid.{Laid}
use Rattle.model.proofs.Deep.{Own, exec_gate_own}
use Rattle.model.proofs.Running.{run_chain_falls}
use Rattle.records.specs.Whole.{can_have}
use Rattle.figures.specs.Figures.{is-E, is_exec, greatest, outputs_of, entered_from, passed_on, no_ring, no_loop, steps_of_gate, steps_of_input, steps_of_output, exec_inputs, exec_outputs, most_of_starts, most_unit_steps}
use Rattle.figures.specs.Within.{caused}
use Rattle.figures.proofs.Gates.{gate_steps, output_weighs}
use Rattle.figures.proofs.Weighing.{at_most_one, weigh, push_weighs, Outweighs, chain_spent}
use Rattle.figures.proofs.Starts.{inside, defaults, E, Exec, Start, starts}

-- ---- sums and greatest numbers

module _ (f : ℕ → ℕ) where
  map_append : (xs ys : List ℕ) → sum (map f (xs ++ ys)) ≡ sum (map f xs) + sum (map f ys)
  unfolding sum
  map_append [] ys = omega arith
  map_append (x ∷ xs) ys = omega (arith, map_append xs ys)

  -- one of several parts
  part_at_most : (p : ℕ → List ℕ) (os : List ℕ) (o : ℕ) → among o os ≡ true → sum (map f (p o)) ≤ sum (map f (joined (map p os)))
  unfolding joined among
  part_at_most p [] o a = clash a refl
  part_at_most p (x ∷ os) o a = go (among_either o x os a) (λ h. part_at_most p os o h)
    where
      go : (o ≡ x) ⊎ (among o os ≡ true) → (among o os ≡ true → sum (map f (p o)) ≤ sum (map f (joined (map p os)))) → sum (map f (p o)) ≤ sum (map f (p x ++ joined (map p os)))
      go (inl e) rec = omega (arith, map_append (p x) (joined (map p os)), ap (λ (n : ℕ). sum (map f (p n))) e)
      go (inr h) rec = omega (arith, map_append (p x) (joined (map p os)), rec h)

  at_most_greatest : (xs : List ℕ) (i : ℕ) → among i xs ≡ true → f i ≤ greatest (map f xs)
  unfolding greatest among
  at_most_greatest [] i a = clash a refl
  at_most_greatest (x ∷ xs) i a = go (among_either i x xs a) (λ h. at_most_greatest xs i h)
    where
      go : (i ≡ x) ⊎ (among i xs ≡ true) → (among i xs ≡ true → f i ≤ greatest (map f xs)) → f i ≤ max (f x) (greatest (map f xs))
      go (inl e) rec = omega (arith, ap f e)
      go (inr h) rec = omega (arith, rec h)

-- one of those that pass a test
kept : (p : ℕ → Bool) (n i : ℕ) → i < n → p i ≡ true → among i (keep p (from 0 n)) ≡ true
kept p n i l h = among_keep p i (from 0 n) (subst (λ (k : ℕ). among k (from 0 n) ≡ true) (zero-add i) (among_from 0 n i l)) h

-- no gate is a Loop
none_loops : (c : Circuit) → no_loop c ≡ true → (g : ℕ) → eqb (kind_of_gate c g) 29 ≡ false
unfolding no_loop kind_of_gate all
none_loops c h g = go c.kinds h g
  where
    go : (ks : List ℕ) → all (λ k. not (eqb k 29)) ks ≡ true → (g : ℕ) → eqb (get_or ks g 0) 29 ≡ false
    go [] h g = refl
    go (k ∷ ks) h zero = not-true (eqb k 29) (both_true (not (eqb k 29)) _ h).0
    go (k ∷ ks) h (suc g) = go ks (both_true (not (eqb k 29)) _ h).1 g

-- output p of gate g is one of its outputs
own_output : (c : Circuit) (g p : ℕ) → p < length (kind_at (kind_of_gate c g)).outs → among (output c g p) (outputs_of c g) ≡ true
unfolding output outputs_of
own_output c g p l =
    let a = get_or c.first_output g 0 in
    let e : a + 0 + p ≡ a + p = omega arith in
    subst (λ (o : ℕ). among o (from (a + 0) (length (kind_at (kind_of_gate c g)).outs)) ≡ true) e (among_from (a + 0) _ p l)

-- What is used of a circuit that has its figures.
pub record Weighable (c : Circuit) : Type 0 where
  pub laid : Laid c
  pub known : (g : ℕ) → kind_of_gate c g < 32
  pub entered : (i : ℕ) → gate_at_input c i < length c.kinds
  pub no_ring : no_ring c ≡ true
  pub no_loop : no_loop c ≡ true

module _ (c : Circuit) (Z : Weighable c) where
  -- an input weighs one, and what its gate passes on to
  input_steps : (i : ℕ) → steps_of_input c i ≡ suc (sum (map (steps_of_gate c) (passed_on c (gate_at_input c i))))
  unfolding steps_of_input
  input_steps i = gate_steps c Z.no_ring (gate_at_input c i) (Z.entered i)

  -- more than what a step of it fires
  outweighs : Outweighs (steps_of_input c) c
  unfolding passed_on steps_of_output Own
  outweighs =
      record {
        one = λ i. omega (arith, input_steps i);
        more = λ s i o e. fires i o (subst (Own c (gate_at_input c i)) e (exec_gate_own c false s i));
        no_loop = none_loops c Z.no_loop;
      }
    where
      fires : (i o : ℕ) → Own c (gate_at_input c i) (some o) → suc (sum (map (steps_of_input c) (map (λ (k : Call). k.to) (calls_of c o)))) ≤ steps_of_input c i
      fires i o w =
          let g = gate_at_input c i in
          let a : among o (outputs_of c g) ≡ true = subst (λ (o : ℕ). among o (outputs_of c g) ≡ true) (sym w.2) (own_output c g w.0 w.1) in
          omega (arith, input_steps i, output_weighs c o, part_at_most (steps_of_gate c) (entered_from c) (outputs_of c g) o a)

  -- ---- where a unit starts

  EWeighs : (i : ℕ) → E c i → steps_of_input c i ≤ most_of_starts c
  unfolding most_of_starts exec_inputs
  EWeighs i h =
      let t : ℕ → Bool = λ i. is-E (get_or c.pins i value) in
      omega (arith, at_most_greatest (steps_of_input c) (exec_inputs c) i (kept t (length c.pins) i (inside is-E c.pins i value defaults.1 h) h))

  exec_weighs : (o : ℕ) → Exec c o → steps_of_output c o ≤ most_of_starts c
  unfolding most_of_starts exec_outputs
  exec_weighs o h =
      let t : ℕ → Bool = λ o. is_exec (get_or c.outputs o shows) in
      omega (arith, at_most_greatest (steps_of_output c) (exec_outputs c) o (kept t (length c.outputs) o (inside is_exec c.outputs o shows defaults.0 h) h))

  begin_weighs : (a : Act) → Start c a.gate a.form → weigh (steps_of_input c) (begin c a) ≤ most_of_starts c
  unfolding begin weigh sum if◌then◌otherwise◌
  begin_weighs a (inl s) = rw s.0 (omega (arith, EWeighs _ s.1))
  begin_weighs a (inr s) = rw s.0 (omega (arith, exec_weighs _ s.1, push_weighs (steps_of_input c) c (fired c a.gate a.form) no_calls, output_weighs c (fired c a.gate a.form)))

  -- Of a unit that a gate can have, in a world with at most 50,000,000 steps left.
  pub unit_within : (w : World) (a : Act) → can_have c a.gate a.form ≡ true → w.left ≤ most_steps → caused w (run_unit c w a) ≤ most_unit_steps c
  unfolding caused most_unit_steps run_unit
  unit_within w a h l =
      let q = begin c a in
      let s = enter c w.state a in
      let spent = chain_spent (steps_of_input c) c outweighs w.left q s in
      let falls = run_chain_falls c w.left q s in
      let start = begin_weighs a (starts c Z.laid Z.known a.gate a.form h) in
      omega (arith, spent, falls, start, l, at_most_one (run_unit c w a).stop)
