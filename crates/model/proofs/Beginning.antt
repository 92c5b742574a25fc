-- Every unit of a run begins in a sound state, so it reads what is worked out afresh.
use mathlib.Core.Path.{sym, subst, ◌∙◌}
use mathlib.Core.List.{List, []}
use Prim.Native.Nat.{ℕ}
use lib.Dec.{eqb}
use borrow.Author.Tests.{eqb-false}
use Rattle.schedule.specs.Schedule.{Raise, Outcome, Closed, Setup, numbered}
use Rattle.schedule.specs.Promise.{All, [·]}
use Rattle.schedule.specs.Keeping.{DidBring, TickBegins}
use Rattle.schedule.proofs.Theorems.{run_begins}
use Rattle.schedule.proofs.Members.{all_map, all_append}
use Rattle.model.specs.Circuit.{Circuit, output}
use Rattle.model.specs.State.{State, Act}
use Rattle.model.specs.Chain.{Chained}
use Rattle.model.specs.Loops.{run_chain}
use Rattle.model.specs.Unit.{World, state≔, raises_in, begin, enter, run_unit, finish_chain}
use Rattle.model.specs.Closing.{read_outputs, write, close}
use Rattle.model.specs.Run.{Allowed, opening, body, closing, machine, world_at_start}
use Rattle.model.specs.Order.{numbered_ticks}
use Rattle.model.specs.Fresh.{BeginsFresh, TickFresh}
use Rattle.model.proofs.Lists.{if_both, if_by, map_all}
use Rattle.model.proofs.Wired.{Wired}
use Rattle.model.proofs.Right.{no_exception}
use Rattle.model.proofs.Fine.{Fine, set_outs_fine, refresh_all_fine}
use Rattle.model.proofs.Afresh.{fine_fresh}
use Rattle.model.proofs.Sound.{Sound, Brings, wires_sound}
use Rattle.model.proofs.Stepping.{Going, run_chain_going}
use Rattle.model.proofs.Calming.{published_sound}
use Rattle.model.proofs.Starting.{AllowedFine, start_sound, open_tick_sound}

module _ (c : Circuit) (W : Wired c) where
  -- a state in which a unit may begin
  abbrev pub Ready : World → Type 0
  Ready w = Sound c no_exception [] w.state

  raises_bring : {P : Type 0} (w : World) (left : ℕ) (rs : List (Raise State Act P)) → All (λ r. Brings c r.act) rs → All (λ r. Brings c r.act) (raises_in w left rs)
  unfolding raises_in
  raises_bring w left rs a = map_all _ _ a

  -- ---- a unit

  pub enter_sound : (s : State) (a : Act) → Brings c a → Sound c no_exception [] s → Sound c no_exception [] (enter c s a)
  unfolding enter
  enter_sound s a b z = wires_sound c z (set_outs_fine c W no_exception [] a.row s.wires (output c a.gate 1) b.others b.real z.wires)

  entered_going : (w : World) (a : Act) → Brings c a → Ready w → Going c W no_exception (enter c w.state a)
  entered_going w a b z = record { late = []; sound = enter_sound w.state a b z }

  abbrev S : Setup
  S = numbered (machine c)

  finish_brings : (w : World) (r : Chained) → Going c W no_exception r.state → DidBring Ready (Brings c) (finish_chain c w r)
  unfolding finish_chain state≔
  finish_brings w r z =
      let y = published_sound c W no_exception r.state z in
      if_by (DidBring Ready (Brings c)) (eqb r.stop 0)
      (λ _. record { world = λ _. y.state; raises = raises_bring w r.left _ y.raises })
      (λ e. record { world = λ q. absurd (eqb-false r.stop 0 e q); raises = [·] })

  pub body_brings : (w : World) (a : Act) → Brings c a → Ready w → DidBring Ready (Brings c) (body c w a)
  unfolding body run_unit
  body_brings w a b z =
      finish_brings w _ (run_chain_going c W no_exception w.left _ (enter c w.state a) (entered_going w a b z))

  -- ---- the opening and the closing of a tick

  pub opening_brings : (w : World) (i : Allowed) → AllowedFine c i → Ready w → DidBring Ready (Brings c) (opening c w i)
  unfolding opening state≔
  opening_brings w i q z =
      let y = open_tick_sound c W [] w.state i.given q z in
      record { world = λ _. y.state; raises = raises_bring w i.limit _ y.raises }

  read_outputs_sound : (s : State) (stop : ℕ) → Sound c no_exception [] s → Sound c no_exception [] (read_outputs c s stop)
  unfolding read_outputs
  read_outputs_sound s stop z = if_both (Sound c no_exception []) _ (wires_sound c z (refresh_all_fine c W no_exception [] s.wires z.wires)) z

  pub closing_ready : (w : World) (i : Allowed) (o : Outcome Act) → Ready w → Ready (closing c w i o).world
  unfolding closing close write state≔
  closing_ready w i o z =
      let y = read_outputs_sound w.state o.stop z in
      if_both (λ (k : Closed World). Ready k.world) _ y y

  -- ---- the run

  pub run_ready : (room : ℕ) (is : List Allowed) → All (AllowedFine c) is → All (TickBegins S Ready (Brings c)) (numbered_ticks c room is)
  unfolding world_at_start
  run_ready room is a = run_begins S Ready (Brings c) (AllowedFine c) opening_brings body_brings closing_ready is _ a (start_sound c W)

  pub unit_fresh : (w : World) (a : Act) → Brings c a → Ready w → BeginsFresh c w a
  unit_fresh w a b z =
      record {
        begun = fine_fresh c W w.state.wires z.wires;
        entered = fine_fresh c W (enter c w.state a).wires (enter_sound w.state a b z).wires;
        until_set = λ steps e.
            let f = (run_chain_going c W no_exception steps (begin c a) (enter c w.state a) (entered_going w a b z)).sound.wires in
            fine_fresh c W _ (subst (λ (l : List ℕ). Fine c no_exception l (run_chain c steps (begin c a) (enter c w.state a)).state.wires) (sym f.written ∙ e) f);
      }

  pub run_fresh : (room : ℕ) (is : List Allowed) → All (AllowedFine c) is → All (TickFresh c) (numbered_ticks c room is)
  run_fresh room is a =
      all_map (λ k b. all_append (all_map (λ u x. unit_fresh u.from u.unit.act x.act x.from) b.late) (all_map (λ u x. unit_fresh u.from u.unit.act x.act x.from) b.main))
      (run_ready room is a)
