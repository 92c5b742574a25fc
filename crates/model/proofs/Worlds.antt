-- Every world of a run is sized: wherever a unit begins, and after each tick.
use mathlib.Core.List.{List}
use Prim.Native.Nat.{ℕ}
use Rattle.schedule.specs.Schedule.{Raise, Outcome, Closed, numbered, plain, run}
use Rattle.schedule.specs.Promise.{All, [·]}
use Rattle.schedule.specs.Keeping.{DidKeep, TickKeeps}
use Rattle.schedule.proofs.Theorems.{run_keeps}
use Rattle.model.specs.Circuit.{Circuit}
use Rattle.model.specs.State.{State, Act}
use Rattle.model.specs.Chain.{Chained}
use Rattle.model.specs.Unit.{World, state≔, raises_in, finish_chain}
use Rattle.model.specs.Closing.{write, close}
use Rattle.model.specs.Run.{Allowed, opening, body, closing, machine, world_at_start, ticks_of}
use Rattle.model.proofs.Lists.{if_both, map_all}
use Rattle.model.proofs.Laid.{Laid}
use Rattle.model.proofs.Sized.{Sized}
use Rattle.model.proofs.Kept.{wires_sized, RaisesSized, settle_sized, publish_writes_sized, start_sized, open_tick_sized, run_unit_sized, read_outputs_sized}

module _ (c : Circuit) where
  abbrev pub WorldSized : World → Type 0
  WorldSized w = Sized c w.state

  raises_in_sized :
      {P : Type 0} (w : World) (left : ℕ) (rs : List (Raise State Act P)) → RaisesSized c rs → All (λ r. WorldSized r.at) (raises_in w left rs)
  unfolding raises_in state≔
  raises_in_sized w left rs a = map_all _ _ a

  pub finish_chain_sized : (w : World) (r : Chained) → Sized c r.state → DidKeep WorldSized (finish_chain c w r)
  unfolding finish_chain state≔
  finish_chain_sized w r z =
      let y = settle_sized c _ (wires_sized c z (publish_writes_sized c r.state.wires z.wires)) in
      if_both (DidKeep WorldSized) _ (record { world = y.state; raises = raises_in_sized w r.left _ y.raises }) (record { world = z; raises = [·] })

  opening_sized : Laid c → (w : World) (i : Allowed) → WorldSized w → DidKeep WorldSized (opening c w i)
  unfolding opening state≔
  opening_sized laid w i z = let y = open_tick_sized c laid w.state i.given z in record { world = y.state; raises = raises_in_sized w i.limit _ y.raises }

  body_sized : (w : World) (a : Act) → WorldSized w → DidKeep WorldSized (body c w a)
  unfolding body
  body_sized w a z = finish_chain_sized w _ (run_unit_sized c w a z)

  closing_sized : (w : World) (i : Allowed) (o : Outcome Act) → WorldSized w → WorldSized (closing c w i o).world
  unfolding closing close write state≔
  closing_sized w i o z =
      let y = read_outputs_sized c w.state o.stop z in
      if_both (λ (k : Closed World). WorldSized k.world) _ y y

  pub start_world_sized : (room : ℕ) → WorldSized (world_at_start c room)
  unfolding world_at_start
  start_world_sized room = start_sized c

  -- in every world of a run from such a world on, of any script
  pub run_from_sized : Laid c → (is : List Allowed) (w : World) → WorldSized w → All (TickKeeps (numbered (machine c)) WorldSized) (run (numbered (machine c)) is w)
  run_from_sized laid is w z = run_keeps (numbered (machine c)) WorldSized (opening_sized laid) body_sized closing_sized is w z

  -- and of a call, with a log of any size
  pub run_sized : Laid c → (room : ℕ) (is : List Allowed) → All (TickKeeps (plain (machine c)) WorldSized) (ticks_of c room is)
  unfolding ticks_of
  run_sized laid room is = run_keeps (plain (machine c)) WorldSized (opening_sized laid) body_sized closing_sized is _ (start_world_sized room)
