-- Worlds: what holds between units and ticks is kept by the opening, by a unit and by the closing of a tick, as long as there is no stop.
use Prim.Native.Nat.{ℕ, ◌≤◌}
use mathlib.Core.List.{List}
use lib.Dec.{eqb}
use borrow.Author.Tests.{eqb-false}
use Rattle.schedule.specs.Schedule.{Raise, Outcome, Closed}
use Rattle.schedule.specs.Promise.{All, [·]}
use Rattle.schedule.specs.Keeping.{DidBring}
use Rattle.model.specs.Circuit.{Circuit, output}
use Rattle.model.specs.State.{State, Act}
use Rattle.model.specs.Chain.{Chained}
use Rattle.model.specs.Unit.{World, state≔, raises_in, enter, run_unit, finish_chain}
use Rattle.model.specs.Closing.{read_outputs, write, close}
use Rattle.model.specs.Run.{most_steps, Allowed, opening, body, closing, world_at_start}
use Rattle.model.proofs.Lists.{if_both, if_by, map_all}
use Rattle.promises.proofs.Shape.{Shaped}
use Rattle.promises.proofs.Wires.{set_outs_tells, refresh_all_tells, publish_tells}
use Rattle.promises.proofs.States.{Holds, wires_holds}
use Rattle.promises.proofs.Steps.{run_chain_holds}
use Rattle.promises.proofs.Settles.{Fitting, RaisesFit, settle_holds}
use Rattle.promises.proofs.Opens.{GivenGood, open_tick_holds, start_holds}

module _ (c : Circuit) where
  abbrev pub WorldHolds : World → Type 0
  WorldHolds w = Holds c w.state

  -- what a tick gets
  pub record Gets (i : Allowed) : Type 0 where
    pub given : GivenGood c i.given
    pub limit : i.limit ≤ most_steps

  abbrev Brought : {P : Type 0} → List (Raise World Act P) → Type 0
  Brought rs = All (λ r. Fitting c r.act) rs

  raises_fit : {P : Type 0} (w : World) (left : ℕ) (rs : List (Raise State Act P)) → RaisesFit c rs → Brought (raises_in w left rs)
  unfolding raises_in
  raises_fit w left rs a = map_all _ _ a

  module _ (Z : Shaped c) where
    pub start_world_holds : (room : ℕ) → WorldHolds (world_at_start c room)
    unfolding world_at_start
    start_world_holds room = start_holds c Z

    pub opening_brings : (w : World) (i : Allowed) → Gets i → WorldHolds w → DidBring WorldHolds (Fitting c) (opening c w i)
    unfolding opening state≔
    opening_brings w i q z =
        let y = open_tick_holds c Z w.state i.given q.given z in
        record { world = λ _. y.state; raises = raises_fit w i.limit _ y.raises }

    finish_brings : (w : World) (r : Chained) → Holds c r.state → DidBring WorldHolds (Fitting c) (finish_chain c w r)
    unfolding finish_chain state≔
    finish_brings w r z =
        let y = settle_holds c Z _ (wires_holds c z (publish_tells c r.state.wires z.wires)) in
        if_by (DidBring WorldHolds (Fitting c)) (eqb r.stop 0)
        (λ _. record { world = λ _. y.state; raises = raises_fit w r.left _ y.raises })
        (λ e. record { world = λ q. absurd (eqb-false r.stop 0 e q); raises = [·] })

    pub body_brings : (w : World) (a : Act) → Fitting c a → WorldHolds w → DidBring WorldHolds (Fitting c) (body c w a)
    unfolding body run_unit enter
    body_brings w a f z =
        let y = wires_holds c z (set_outs_tells c a.row w.state.wires (output c a.gate 1) f.others f.row z.wires) in
        finish_brings w _ (run_chain_holds c Z w.left _ (enter c w.state a) y)

    pub closing_holds : (w : World) (i : Allowed) (o : Outcome Act) → WorldHolds w → WorldHolds (closing c w i o).world
    unfolding closing close write state≔ read_outputs
    closing_holds w i o z =
        let y = if_both (Holds c) _ (wires_holds c z (refresh_all_tells c Z w.state.wires z.wires)) z in
        if_both (λ (k : Closed World). WorldHolds k.world) _ y y
