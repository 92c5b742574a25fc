-- What is used of a circuit that is not refused.
use mathlib.Core.Path.{◌≡◌, refl, sym, ap, ◌∙◌}
use mathlib.Core.Logic.{◌⊎◌}
use mathlib.Core.Bool.{Bool, true, false, true≢false}
use mathlib.Core.List.{List, [], ◌∷◌}
use Prim.Native.Nat.{ℕ, zero, suc, ◌+◌, ◌*◌, ◌-◌, ◌≤◌, ◌<◌}
use native.Mathlib.Omega.{arith}
use lib.Dec.{eqb}
use lib.ListN.{length, get_or}
use borrow.Author.Tests.{lt-ltb}
use Rattle.schedule.specs.Schedule.{most_units}
use Rattle.model.specs.Base.{all, among, from}
use Rattle.model.specs.Kinds.{Out, fires, shows, passes, kind_at}
use Rattle.model.specs.Circuit.{Circuit, kind_of_gate, entry_of_loop, input, output, gate_at_input, stored_in, watching}
use Rattle.model.specs.Exec.{var}
use Rattle.model.specs.Settle.{most_checks}
use Rattle.model.specs.Run.{most_steps}
use Rattle.model.specs.Questions.{value_output}
use Rattle.model.specs.Counted.{most_counted}
use Rattle.model.proofs.Lists.{all_among, among_from}
use Rattle.model.proofs.Laid.{Laid}
use Rattle.model.proofs.Walks.{moving}
use Rattle.model.proofs.Wired.{Wired}
use Rattle.records.specs.Whole.{driven}
use Rattle.promises.proofs.Values.{Proper}

-- whether an output shows values
abbrev pub shows_value : Out → Bool
shows_value fires = false
shows_value shows = true
shows_value passes = true

-- a watched input p of gate g is that of a detector or a value buffer, or an E with a source
abbrev pub PinFits : Circuit → ℕ → ℕ → Type 0
PinFits c g p = (among (kind_of_gate c g) (6 ∷ 7 ∷ 8 ∷ 9 ∷ 10 ∷ 12 ∷ []) ≡ true) ⊎ ((p < 16) × (driven c g p ≡ true))

pub record Shaped (c : Circuit) : Type 0 where
  pub wired : Wired c
  -- a Var's Value and the Index of a Loop's entry are value outputs
  pub var_shows : (g : ℕ) → eqb (kind_of_gate c g) 19 ≡ true → value_output c (var c g) ≡ true
  pub entry_shows : (g : ℕ) → eqb (kind_of_gate c g) 29 ≡ true → value_output c (output c (entry_of_loop c g) 1) ≡ true
  pub stored : (i : ℕ) → Proper (stored_in c i)
  pub clocks : all (λ g. eqb (kind_of_gate c g) 14) c.clocks ≡ true
  -- the narrowings that a tick can count
  pub few_counted : 1 + moving c (most_checks c) + most_steps + most_units * most_checks c ≤ most_counted
  pub watched_pin : (i : ℕ) → watching c i ≡ true → PinFits c (gate_at_input c i) (i - input c (gate_at_input c i) 0)

shown_in : (os : List Out) (p : ℕ) → shows_value (get_or os p fires) ≡ true → p < length os
shown_in [] p e = absurd (true≢false (sym e))
shown_in (x ∷ os) zero e = omega arith
shown_in (x ∷ os) (suc p) e = omega (arith, shown_in os p e)

-- output p of a gate of kind k
pub value_at : (c : Circuit) → Laid c → (g k p : ℕ) → kind_of_gate c g ≡ k → shows_value (get_or (kind_at k).outs p fires) ≡ true → value_output c (output c g p) ≡ true
unfolding value_output
value_at c Z g k p e q =
    let m : p < length (kind_at (kind_of_gate c g)).outs = rw e (shown_in (kind_at k).outs p q) in
    let h = Z.out_is g p m ∙ ap (λ n. get_or (kind_at n).outs p fires) e in
    rw (lt-ltb (output c g p) _ (Z.output_in g p m)) (go (get_or c.outputs (output c g p) fires) (ap shows_value h ∙ q))
  where
    go : (x : Out) → shows_value x ≡ true → (elim x as (λ _. Bool) [ fires ↦ false | shows ↦ true | passes ↦ true ]) ≡ true
    go fires e = e
    go shows e = refl
    go passes e = refl

-- outputs from p on, n of them
pub values_at :
    (c : Circuit) → Laid c → (g k p n : ℕ) → kind_of_gate c g ≡ k → all (λ i. shows_value (get_or (kind_at k).outs i fires)) (from p n) ≡ true →
    (i : ℕ) → i < n → value_output c (output c g p + i) ≡ true
unfolding output
values_at c Z g k p n e q i l =
    let a : get_or c.first_output g 0 + p + i ≡ get_or c.first_output g 0 + (p + i) = omega arith in
    rw a (value_at c Z g k (p + i) e (all_among (λ j. shows_value (get_or (kind_at k).outs j fires)) (from p n) q (p + i) (among_from p n i l)))
