-- No unit of a run causes more steps than the figure.
use mathlib.Core.Path.{◌≡◌}
use mathlib.Core.Bool.{true}
use mathlib.Core.List.{List}
use Prim.Native.Nat.{ℕ, ◌≤◌}
use native.Mathlib.Omega.{arith}
use lib.Dec.{ltb, eqb}
use lib.ListN.{length}
use Rattle.schedule.specs.Schedule.{Setup, plain, When, Did, Outcome, Closed, Turn}
use Rattle.schedule.specs.Promise.{All}
use Rattle.schedule.specs.Keeping.{DidBring, TurnBegins}
use Rattle.schedule.proofs.Members.{all_map}
use Rattle.schedule.proofs.Theorems.{run_begins}
use Rattle.model.specs.Circuit.{Circuit}
use Rattle.model.specs.State.{Act}
use Rattle.model.specs.Chain.{Chained}
use Rattle.model.specs.Unit.{World, state≔, begin, enter, run_unit, finish_chain}
use Rattle.model.specs.Closing.{write, close}
use Rattle.model.specs.Run.{most_steps, Allowed, opening, body, closing, machine, world_at_start, ticks_of}
use Rattle.model.proofs.Lists.{if_both, both_true}
use Rattle.model.proofs.Running.{run_chain_falls}
use Rattle.records.specs.Whole.{can_have, good_unit}
use Rattle.promises.proofs.Shape.{Shaped}
use Rattle.promises.proofs.Settles.{Fitting}
use Rattle.promises.proofs.Worlds.{WorldHolds, Gets, start_world_holds, opening_brings, body_brings, closing_holds}
use Rattle.figures.specs.Figures.{most_unit_steps}
use Rattle.figures.specs.Within.{UnitWithin, TickWithin}
use Rattle.figures.proofs.Units.{Weighable, unit_within}

-- a good unit is in a form that its gate can have
form_fits : {c : Circuit} {a : Act} → Fitting c a → can_have c a.gate a.form ≡ true
unfolding good_unit
form_fits {c} {a} f = (both_true (ltb a.gate (length c.kinds)) _ f.unit).1

module _ (c : Circuit) (Z : Shaped c) where
  abbrev S : Setup
  S = plain (machine c)

  -- what holds wherever a unit begins: at most 50,000,000 steps are left
  record FewLeft (w : World) : Type 0 where
    holds : WorldHolds c w
    left : w.left ≤ most_steps

  opened : (w : World) (i : Allowed) → Gets c i → FewLeft w → DidBring FewLeft (Fitting c) (opening c w i)
  unfolding opening state≔
  opened w i q p =
      let d = opening_brings c Z w i q p.holds in
      record { world = λ e. record { holds = d.world e; left = q.limit }; raises = d.raises }

  finished : (w : World) (r : Chained) (n : ℕ) → r.left ≤ n → (finish_chain c w r).world.left ≤ n
  unfolding finish_chain state≔
  finished w r n l = if_both (λ (d : Did World Act When). d.world.left ≤ n) (eqb r.stop 0) l l

  ran : (w : World) (a : Act) → Fitting c a → FewLeft w → DidBring FewLeft (Fitting c) (body c w a)
  unfolding body run_unit
  ran w a f p =
      let d = body_brings c Z w a f p.holds in
      let l = run_chain_falls c w.left (begin c a) (enter c w.state a) in
      record { world = λ e. record { holds = d.world e; left = finished w _ most_steps (omega (arith, l, p.left)) }; raises = d.raises }

  closed : (w : World) (i : Allowed) (o : Outcome Act) → FewLeft w → FewLeft (closing c w i o).world
  unfolding closing close write state≔
  closed w i o p =
      record { holds = closing_holds c Z w i o p.holds; left = if_both (λ (k : Closed World). k.world.left ≤ most_steps) _ p.left p.left }

  at_start : (room : ℕ) → FewLeft (world_at_start c room)
  unfolding world_at_start
  at_start room = record { holds = start_world_holds c Z room; left = omega arith }

  pub run_steps : Weighable c → (room : ℕ) (is : List Allowed) → All (Gets c) is → All (TickWithin c (most_unit_steps c)) (ticks_of c room is)
  unfolding ticks_of
  run_steps W room is a = all_map (λ t k. record { late = all_map within k.late; main = all_map within k.main }) (run_begins S FewLeft (Fitting c) (Gets c) opened ran closed is (world_at_start c room) a (at_start room))
    where
      within : (u : Turn S) → TurnBegins S FewLeft (Fitting c) u → UnitWithin c (most_unit_steps c) u
      within u k = unit_within c W u.from u.unit.act (form_fits k.act) k.from.left
