-- Only the Fire of a ChangeDetector and a pin are ever put off.
use mathlib.Core.Path.{◌≡◌, refl}
use mathlib.Core.Logic.{inl, inr}
use Prim.Native.Nat.{ℕ}
use native.Mathlib.Omega.{arith}
use lib.Dec.{eqb}
use borrow.Author.Tests.{eqb-true}
use Rattle.schedule.specs.Schedule.{When, by_rank, put_off, Did}
use Rattle.schedule.specs.Promise.{All, [·], ◌∷·◌}
use Rattle.schedule.proofs.Members.{all_append}
use Rattle.model.specs.declared.Value.{Value}
use Rattle.model.specs.Circuit.{Circuit, kind_of_gate, gate_at_input}
use Rattle.model.specs.State.{Act, State}
use Rattle.model.specs.Chain.{Chained}
use Rattle.model.specs.Settle.{Settled, calm, raise, edge, detect, compared, check, settle}
use Rattle.model.specs.Unit.{World, raises_in, finish_chain, run_unit}
use Rattle.model.specs.Run.{body}
use Rattle.model.specs.PutOff.{Rightly, PutsOffRightly}
use Rattle.model.proofs.Lists.{if_both, if_by, map_all}
use Rattle.model.proofs.Walks.{check_on_keeps}

not_put_off : {A : Type 0} → by_rank ≡ put_off → A
not_put_off h = let z : ◌≡◌ {A = ℕ} 0 1 = cc in absurd (omega arith)

module _ (c : Circuit) where
  abbrev SettledRightly : Settled → Type 0
  SettledRightly z = All (Rightly c) z.raises

  detect_rightly : (when : When) (s : State) (g p : ℕ) (was now : Value) → SettledRightly (detect c (kind_of_gate c g) when s g p was now)
  unfolding detect calm raise edge
  detect_rightly when s g p was now =
      let P = SettledRightly in
      if_by P (eqb (kind_of_gate c g) 6) (λ e. ◌∷·◌ (λ _. inl (eqb-true (kind_of_gate c g) 6 e, refl)) [·]) λ _.
      if_both P _ (if_both P _ [·] (if_both P _ [·] [·]))
      (if_both P _ [·]
      (if_both P _ (if_both P _ (◌∷·◌ not_put_off [·]) (if_both P _ (◌∷·◌ not_put_off [·]) [·]))
      (if_both P _ [·] (if_both P _ (◌∷·◌ (λ _. inr (p, refl)) [·]) [·]))))

  check_rightly : (when : When) (s : State) (i : ℕ) → SettledRightly (check c when s i)
  unfolding check compared calm
  check_rightly when s i = if_both SettledRightly _ [·] (detect_rightly when _ (gate_at_input c i) _ _ _)

  settle_rightly : (s : State) → SettledRightly (settle c s)
  unfolding settle calm
  settle_rightly s = check_on_keeps c SettledRightly (λ z i is e y. all_append y (check_rightly _ _ i)) _ _ [·]

  finish_rightly : (w : World) (r : Chained) → All (Rightly c) (finish_chain c w r).raises
  unfolding finish_chain raises_in
  finish_rightly w r = if_both (λ (d : Did World Act When). All (Rightly c) d.raises) _ (map_all (Rightly c) _ (settle_rightly _)) [·]

  -- of every unit, wherever it begins
  pub put_off_rightly : (w : World) (a : Act) → PutsOffRightly c w a
  unfolding body
  put_off_rightly w a = finish_rightly w (run_unit c w a)
