-- A turn of a pass: the next one begins and runs.
use Prim.Native.Nat.{ℕ, zero, suc}
use mathlib.Core.Path.{◌≡◌, refl, sym, ap, ◌∙◌}
use mathlib.Core.Bool.{Bool, true, false}
use mathlib.Core.List.{List, [], ◌∷◌, ◌++◌, append_assoc}
use lib.Dec.{eqb}
use Rattle.schedule.specs.Schedule.{When, Filed, Setup, Activation, list_full, Took, empty, took, Raising, raise_all, Passed, no_turn, pass, acts}
use Rattle.model.specs.Base.{if◌then◌otherwise◌}
use Rattle.model.specs.Circuit.{Circuit}
use Rattle.model.specs.State.{Act, wires≔}
use Rattle.model.specs.Chain.{Chained}
use Rattle.model.specs.Settle.{publish_writes, settle}
use Rattle.model.specs.Unit.{World, state≔, run_unit, finish_chain}
use Rattle.model.specs.Run.{body}
use Rattle.units.specs.declared.Place.{Place}
use Rattle.units.specs.View.{Lists}
use Rattle.units.specs.Raising.{activate, place_for}
use Rattle.settling.specs.Settling.{filed_into}
use Rattle.unit.specs.Unit.{Result, with_left, finished, finished_chain, ran}
use Rattle.passes.specs.Waiting.{bare, waiting}
use Rattle.passes.proofs.Filing.{through, raised_as}

module _ (c : Circuit) where
  abbrev S : Setup
  S = bare c

  abbrev E : Type 0
  E = Activation S

  -- ---- a unit, as the scheduler raises what it raised

  -- what raising after a unit came to
  pub record Raises {Q : Type 0} (h : Lists → Q) (k : Raising S Q) (v : World) (z : Result) : Type 0 where
    pub queue : k.queue ≡ h z.lists
    pub world : k.world ≡ state≔ v z.left z.state
    pub stop : k.stop ≡ z.stop

  module _ {Q : Type 0} (h : Lists → Q) (to : Place) (there : When → E → Q → Filed Q) (files : (p : When) (a : Act) (l : Lists) → there p (waiting c a) (h l) ≡ through h (activate c (place_for p to) a l)) where
    pub chain_raises : (v : World) (r : Chained) (l : Lists) →
        let d = finish_chain c v r in
        Raises h (raise_all S there d.raises tt (h l) d.world d.stop) v (finished_chain c to r l)
    unfolding finish_chain finished_chain finished if◌then◌otherwise◌ with_left filed_into raise_all
    chain_raises v r l = go (eqb r.stop 0) refl
      where
        go :
            (b : Bool) → eqb r.stop 0 ≡ b →
            let d = finish_chain c v r in
            Raises h (raise_all S there d.raises tt (h l) d.world d.stop) v (finished_chain c to r l)
        go true e =
            let z = settle c (wires≔ r.state (publish_writes c r.state.wires)) in
            let i = raised_as c h there (λ p. activate c (place_for p to)) files v r.left z.raises l z.state in
            rw e (record { queue = i.queue; world = i.world; stop = i.stop })
        go false e = rw e (record { queue = refl; world = refl; stop = refl })

  -- ---- a pass, turn by turn

  -- two passes that come to the same, but that the first one began these before
  pub record Like {Q : Type 0} (p q : Passed S Q) (before : List Act) : Type 0 where
    pub world : p.world ≡ q.world
    pub queue : p.queue ≡ q.queue
    pub stop : p.stop ≡ q.stop
    pub left : p.left ≡ q.left
    pub begun : acts S p.turns ≡ before ++ acts S q.turns

  pub like_same : {Q : Type 0} (p : Passed S Q) → Like p p []
  like_same p = record { world = refl; queue = refl; stop = refl; left = refl; begun = refl }

  pub like_on : {Q : Type 0} {p q r : Passed S Q} {before then₁ : List Act} → Like p q before → Like q r then₁ → Like p r (before ++ then₁)
  like_on {Q} {p} {q} {r} {before} {then₁} i j =
      record {
        world = i.world ∙ j.world;
        queue = i.queue ∙ j.queue;
        stop = i.stop ∙ j.stop;
        left = i.left ∙ j.left;
        begun = i.begun ∙ ap (λ (x : List Act). before ++ x) j.begun ∙ sym (append_assoc before then₁ (acts S r.turns));
      }

  module _ {Q : Type 0} (h : Lists → Q) (next : Q → Took E Q) (act : E → When → E → Q → Filed Q) where
    module _ (to : Act → Place) (files : (u : Act) (p : When) (a : Act) (l : Lists) → act (waiting c u) p (waiting c a) (h l) ≡ through h (activate c (place_for p (to u)) a l)) where
      -- the next one begins and runs
      pub turn :
          (n : ℕ) (w : World) (l : Lists) (a : Act) (rest : Lists) → next (h l) ≡ took (waiting c a) (h rest) →
          let z = ran c (to a) w.left a w.state rest in
          Like (pass S next act (suc n) tt (h l) w 0) (pass S next act n tt (h z.lists) (state≔ w z.left z.state) z.stop) (a ∷ [])
      unfolding pass body run_unit ran
      turn n w l a rest e =
          let i = chain_raises h (to a) (act (waiting c a)) (files a) w (run_unit c w a) rest in
          rw (e, i.queue, i.world, i.stop) (record { world = refl; queue = refl; stop = refl; left = refl; begun = refl })

    -- nothing waits
    pub no_more : (n : ℕ) (w : World) (l : Lists) → next (h l) ≡ empty → pass S next act n tt (h l) w 0 ≡ no_turn S n tt (h l) w 0
    unfolding pass
    no_more zero w l e = rw e
    no_more (suc n) w l e = rw e

    -- one waits, and none may begin any more
    pub no_room : (w : World) (l : Lists) (u : E) (q : Q) → next (h l) ≡ took u q → pass S next act 0 tt (h l) w 0 ≡ no_turn S 0 tt (h l) w list_full
    unfolding pass
    no_room w l u q e = rw e

    -- after a stop
    pub stopped : (n s : ℕ) (w : World) (l : Lists) → (s ≡ 0 → ⊥) → pass S next act n tt (h l) w s ≡ no_turn S n tt (h l) w s
    unfolding pass
    stopped n zero w l e = absurd (e refl)
    stopped zero (suc s) w l e = refl
    stopped (suc n) (suc s) w l e = refl
