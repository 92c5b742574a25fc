-- The figures from the numbers: the greatest of those that pass a test, over all starts; the bytes of a log; no Loop.
use Prim.Native.Nat.{ℕ, ◌+◌, ◌*◌, ◌≤◌, ◌<◌, max}
use mathlib.Core.Path.{◌≡◌, refl, sym, ap, ◌∙◌}
use mathlib.Core.Bool.{Bool, true, false, not}
use mathlib.Core.List.{List, [], ◌∷◌, map}
use native.Mathlib.Nat.{zero-add, mul-le-mul}
use native.Mathlib.Omega.{arith}
use lib.Dec.{eqb}
use lib.ListN.{length, get_or}
use Rattle.std.specs.Prelude.{Option, Some, None}
use Rattle.std.specs.Bool.{then_some}
use Rattle.model.specs.Base.{if◌then◌otherwise◌, keep, all, each, sum, from}
use Rattle.model.specs.Kinds.{value, Out, fires, shows, Loop}
use Rattle.model.specs.Circuit.{Circuit, kind_of_gate, gate_at_input}
use Rattle.model.proofs.Lists.{each_such, all_map, all_pass, default_same}
use Rattle.circuit.proofs.Sources.{row_places}
use Rattle.figures.specs.Figures.{is-E, is_exec, greatest, entered_from, steps_of_gate, steps_of_input, steps_of_output, exec_inputs, exec_outputs, most_of_starts, most_unit_steps, most_record_words, most_log_bytes, no_loop}
use Rattle.size.specs.Numbers.{cap, with_number, Numbers, most_of_inputs, most_of_outputs}
use Rattle.size.proofs.Capped.{capped_sum, cap_greatest, cap_max}

-- ---- the greatest of those that pass a test

module _ (p : ℕ → Bool) (f : ℕ → ℕ) where
  unfoldable pub picked : ℕ → ℕ → ℕ
  picked m i = if p i then max m (f i) otherwise m

  pub pick_some : (m s x i : ℕ) (o : Option ℕ) → o ≡ then_some (p i) (f i) → o ≡ Some x → s ≡ max m x → s ≡ picked m (0 + i)
  unfolding picked if◌then◌otherwise◌
  pick_some m s x i o e h q = rw (zero-add i) (q ∙ go (p i) (sym h ∙ e))
    where
      go : (b : Bool) → Some x ≡ then_some b (f i) → max m x ≡ (if b then max m (f i) otherwise m)
      go true k = let z : x ≡ f i = cc in rw z
      go false k = let z : ◌≡◌ {A = ℕ} 0 1 = cc in absurd (omega arith)

  pub pick_none : (m s i : ℕ) (o : Option ℕ) → o ≡ then_some (p i) (f i) → o ≡ None → s ≡ m → s ≡ picked m (0 + i)
  unfolding picked if◌then◌otherwise◌
  pick_none m s i o e h q = rw (zero-add i) (q ∙ go (p i) (sym h ∙ e))
    where
      go : (b : Bool) → None ≡ then_some b (f i) → m ≡ (if b then max m (f i) otherwise m)
      go true k = let z : ◌≡◌ {A = ℕ} 0 1 = cc in absurd (omega arith)
      go false k = refl

  each_max : (m : ℕ) (xs : List ℕ) → each (λ m i. max m (f i)) m xs ≡ max m (greatest (map f xs))
  unfolding each greatest
  each_max m [] = omega arith
  each_max m (x ∷ xs) = each_max (max m (f x)) xs ∙ omega arith

  pub picked_all : (n : ℕ) → each picked 0 (from 0 n) ≡ greatest (map f (keep p (from 0 n)))
  unfolding picked
  picked_all n = each_such p (λ m i. max m (f i)) 0 (from 0 n) ∙ each_max 0 (keep p (from 0 n)) ∙ omega arith

-- ---- inputs and outputs

module _ (c : Circuit) where
  abbrev pub EAt : ℕ → Bool
  EAt i = is-E (get_or c.pins i value)

  abbrev pub exec_at : ℕ → Bool
  exec_at o = is_exec (get_or c.outputs o shows)

module _ (c : Circuit) (ns : List ℕ) where
  abbrev pub input_number : ℕ → ℕ
  input_number i = get_or ns (gate_at_input c i) 0

  abbrev pub output_number : ℕ → ℕ
  output_number o = each (with_number ns) 0 (entered_from c o)

  pub all_inputs : (n : ℕ) → n ≡ length c.pins → greatest (map input_number (keep (EAt c) (from 0 n))) ≡ most_of_inputs c ns
  unfolding most_of_inputs exec_inputs
  all_inputs n e = rw e

  pub all_outputs : (n : ℕ) → n ≡ length c.outputs → greatest (map output_number (keep (exec_at c) (from 0 n))) ≡ most_of_outputs c ns
  unfolding most_of_outputs exec_outputs
  all_outputs n e = rw e

  -- an output that is there is no other than the default of one that is not
  pub output_counts : (n o : ℕ) (x : Option ℕ) → n ≡ length c.outputs → o < n → x ≡ then_some (is_exec (get_or c.outputs o fires)) (output_number o) → x ≡ then_some (exec_at c o) (output_number o)
  output_counts n o x en l e = e ∙ ap (λ (y : Out). then_some (is_exec y) (output_number o)) (default_same c.outputs o fires shows (omega arith))

  -- The first figure.
  pub figure : (a b r : ℕ) → Numbers c ns → a ≡ most_of_inputs c ns → b ≡ most_of_outputs c ns → r ≡ max a b → r ≡ most_unit_steps c
  unfolding most_unit_steps most_of_starts most_of_inputs most_of_outputs steps_of_input steps_of_output cap
  figure a b r h ea eb er =
      er
      ∙ cap_max a b (greatest (map (steps_of_input c) (exec_inputs c))) (greatest (map (steps_of_output c) (exec_outputs c)))
      (ea ∙ cap_greatest input_number (steps_of_input c) (exec_inputs c) (λ i. h (gate_at_input c i)))
      (eb ∙ cap_greatest output_number (steps_of_output c) (exec_outputs c) output_is)
    where
      output_is : (o : ℕ) → output_number o ≡ cap (steps_of_output c o)
      output_is o =
          capped_sum (λ _. true) (steps_of_gate c) ns 0 (entered_from c o) (all_pass (entered_from c o)) (λ g _. h g) ∙ ap cap (zero-add (sum (map (steps_of_gate c) (entered_from c o))))

-- ---- the bytes

pub bytes_are : (c : Circuit) (n T : ℕ) → n ≡ length c.outputs → 8 * (T * (7 + 2 * 1024 + 2 * 256 + 2 * n)) ≡ most_log_bytes c T
unfolding most_log_bytes most_record_words
bytes_are c n T e = ap (λ (x : ℕ). 8 * (T * (7 + 2 * 1024 + 2 * 256 + 2 * x))) e

-- they fit a word
pub bytes_fit : (T n : ℕ) → T ≤ 100000 → n ≤ 576 → T * (2567 + 2 * n) ≤ 371900000
bytes_fit T n h k = mul-le-mul {n₁ = T} {m₁ = 2567 + 2 * n} {n₂ = 100000} {m₂ = 3719} h (omega arith)

-- ---- no Loop

pub loop_free : (c : Circuit) (n : ℕ) → n ≡ length c.kinds → all (λ g. not (eqb (kind_of_gate c g) Loop)) (from 0 n) ≡ no_loop c
unfolding no_loop kind_of_gate
loop_free c n e =
    rw e
    (sym (all_map (λ b. b) (λ g. not (eqb (get_or c.kinds g 0) Loop)) (from 0 (length c.kinds)))
    ∙ ap (all (λ b. b)) (row_places (λ k. not (eqb k Loop)) c.kinds (λ g. not (eqb (get_or c.kinds g 0) Loop)) 0 (λ i. ap (λ (g : ℕ). not (eqb (get_or c.kinds g 0) Loop)) (zero-add i)))
    ∙ all_map (λ b. b) (λ k. not (eqb k Loop)) c.kinds)
