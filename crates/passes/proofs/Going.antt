-- A pass under way: what it began so far, and what is left of it.
use Prim.Native.Nat.{ℕ, suc, ◌+◌}
use mathlib.Core.Path.{◌≡◌, refl, sym, ap, ◌∙◌, subst}
use mathlib.Core.List.{List, [], ◌∷◌, ◌++◌, map, append_assoc, append-nil}
use native.Mathlib.Omega.{arith}
use lib.ListN.{length, length-append}
use Rattle.schedule.specs.Schedule.{When, Filed, Setup, Activation, list_full, Took, empty, took, Passed, no_turn, pass}
use Rattle.schedule.proofs.Erase.{map_append}
use Rattle.model.specs.Base.{snoc}
use Rattle.model.specs.Circuit.{Circuit}
use Rattle.model.specs.State.{Act, State}
use Rattle.model.specs.Unit.{World, state≔}
use Rattle.model.specs.Record.{Listed}
use Rattle.model.specs.Closing.{as_listed}
use Rattle.units.specs.declared.Place.{Place}
use Rattle.units.specs.View.{Lists}
use Rattle.units.specs.Raising.{activate, place_for}
use Rattle.areas.specs.Areas.{Contents, Kept}
use Rattle.chain.specs.declared.Ran.{Ran}
use Rattle.unit.specs.Unit.{ran}
use Rattle.passes.specs.Waiting.{bare, waiting}
use Rattle.passes.specs.Passes.{with_begun, units_left, Passes}
use Rattle.passes.proofs.Filing.{through}
use Rattle.passes.proofs.Turns.{Like, like_same, like_on, turn, no_more, no_room, stopped}

-- a world by its parts
world_is : (w : World) (left : ℕ) (s : State) → w.state ≡ s → w.left ≡ left → w ≡ state≔ w left s
unfolding state≔
world_is w left s e f = λ j. record { state = e j; left = f j; room = w.room; logged = w.logged }

module _ (c : Circuit) where
  abbrev S : Setup
  S = bare c

  module _ {Q : Type 0} (h : Lists → Q) (next : Q → Took (Activation S) Q) (act : Activation S → When → Activation S → Q → Filed Q) where
    -- Since the areas a, with w, it has begun these; the areas are b now, n units may still begin, and the tick may make so many steps more.
    pub record Going (a b : Contents) (w : World) (left n : ℕ) : Type 0 where
      pub before : List Act
      pub like : Like c (pass S next act (units_left a) tt (h a.lists) w 0) (pass S next act n tt (h b.lists) (state≔ w left b.state) 0) before
      pub kept : b.kept ≡ with_begun a.kept (a.kept.begun ++ map as_listed before)
      pub rest : n ≡ units_left b

    -- at its start
    pub going_first : (a : Contents) (w : World) (left : ℕ) → w.state ≡ a.state → w.left ≡ left → Going a a w left (units_left a)
    going_first a w left e f =
        record {
          before = [];
          like = subst (λ (v : World). Like c (pass S next act (units_left a) tt (h a.lists) w 0) (pass S next act (units_left a) tt (h a.lists) v 0) []) (world_is w left a.state e f) (like_same c _);
          kept = ap (with_begun a.kept) (sym (append-nil a.kept.begun));
          rest = refl;
        }

    -- ---- its end

    -- it came to this
    ended :
        (a b : Contents) (r : Ran) (w : World) (p : Passed S Q) (n s : ℕ) (before : List Act) → Like c p (no_turn S n tt (h b.lists) (state≔ w r.left b.state) s) before →
        r.stop ≡ s → n ≡ units_left b → b.kept ≡ with_begun a.kept (a.kept.begun ++ map as_listed before) → Passes c h a b r w p
    ended a b r w p n s before i e f k =
        record {
          world = i.world;
          queue = i.queue;
          stop = i.stop ∙ sym e;
          left = i.left ∙ f;
          kept = k ∙ ap (λ (o : List Act). with_begun a.kept (a.kept.begun ++ map as_listed o)) (sym (i.begun ∙ append-nil before));
        }

    -- nothing waits
    pub going_none :
        (a b : Contents) (r : Ran) (w : World) (left n : ℕ) → next (h b.lists) ≡ empty → r.left ≡ left → r.stop ≡ 0 → Going a b w left n →
        Passes c h a b r w (pass S next act (units_left a) tt (h a.lists) w 0)
    going_none a b r w left n e f o g =
        ended a b r w _ n 0 g.before
        (subst (λ (q : Passed S Q). Like c (pass S next act (units_left a) tt (h a.lists) w 0) q g.before) (no_more c h next act n _ b.lists e ∙ ap (λ (m : ℕ). no_turn S n tt (h b.lists) (state≔ w m b.state) 0) (sym f)) g.like)
        o g.rest g.kept

    -- one waits, and none may begin any more
    pub going_over :
        (a b : Contents) (r : Ran) (w : World) (left : ℕ) (u : Activation S) (q : Q) → next (h b.lists) ≡ took u q → r.left ≡ left → r.stop ≡ list_full → Going a b w left 0 →
        Passes c h a b r w (pass S next act (units_left a) tt (h a.lists) w 0)
    going_over a b r w left u q e f o g =
        ended a b r w _ 0 list_full g.before
        (subst (λ (p : Passed S Q). Like c (pass S next act (units_left a) tt (h a.lists) w 0) p g.before) (no_room c h next act _ b.lists u q e ∙ ap (λ (m : ℕ). no_turn S 0 tt (h b.lists) (state≔ w m b.state) list_full) (sym f)) g.like)
        o g.rest g.kept

    -- ---- a unit

    module _ (to : Act → Place) (files : (u : Act) (p : When) (a : Act) (l : Lists) → act (waiting c u) p (waiting c a) (h l) ≡ through h (activate c (place_for p (to u)) a l)) where
      -- The next one begins and runs, to no stop.
      pub going_on :
          (a b b₁ : Contents) (w : World) (left n : ℕ) (x : Act) (rest : Lists) → next (h b.lists) ≡ took (waiting c x) (h rest) →
          let z = ran c (to x) left x b.state rest in
          b₁.state ≡ z.state → b₁.lists ≡ z.lists → b₁.kept ≡ with_begun b.kept (snoc b.kept.begun (as_listed x)) → z.stop ≡ 0 →
          Going a b w left (suc n) → Going a b₁ w z.left n
      unfolding snoc state≔
      going_on a b b₁ w left n x rest e s l k stop g =
          let z = ran c (to x) left x b.state rest in
          let i = turn c h next act to files n (state≔ w left b.state) b.lists x rest e in
          record {
            before = g.before ++ (x ∷ []);
            like =
                subst (λ (o : ℕ). Like c (pass S next act (units_left a) tt (h a.lists) w 0) (pass S next act n tt (h b₁.lists) (state≔ w z.left b₁.state) o) (g.before ++ (x ∷ []))) stop
                (subst (λ (o : Lists). Like c (pass S next act (units_left a) tt (h a.lists) w 0) (pass S next act n tt (h o) (state≔ w z.left b₁.state) z.stop) (g.before ++ (x ∷ []))) (sym l)
                (subst (λ (o : State). Like c (pass S next act (units_left a) tt (h a.lists) w 0) (pass S next act n tt (h z.lists) (state≔ w z.left o) z.stop) (g.before ++ (x ∷ []))) (sym s)
                (like_on c g.like i)));
            kept = k ∙ ap (λ (q : Kept). with_begun q (q.begun ++ (as_listed x ∷ []))) g.kept ∙ ap (with_begun a.kept) (append_assoc a.kept.begun (map as_listed g.before) (as_listed x ∷ []) ∙ ap (λ (r : List Listed). a.kept.begun ++ r) (sym (map_append as_listed g.before (x ∷ []))));
            rest = let q : length b₁.kept.begun ≡ length b.kept.begun + 1 = ap (λ (r : Kept). length r.begun) k ∙ length-append b.kept.begun (as_listed x ∷ []) in let r = g.rest in omega arith;
          }

      -- a unit came to a stop
      pub going_stop :
          (a b b₁ : Contents) (r : Ran) (w : World) (left n : ℕ) (x : Act) (rest : Lists) → next (h b.lists) ≡ took (waiting c x) (h rest) →
          let z = ran c (to x) left x b.state rest in
          b₁.state ≡ z.state → b₁.lists ≡ z.lists → b₁.kept ≡ with_begun b.kept (snoc b.kept.begun (as_listed x)) → r.left ≡ z.left → r.stop ≡ z.stop → (r.stop ≡ 0 → ⊥) →
          Going a b w left (suc n) → Passes c h a b₁ r w (pass S next act (units_left a) tt (h a.lists) w 0)
      unfolding snoc state≔
      going_stop a b b₁ r w left n x rest e s l k f o not_zero g =
          let z = ran c (to x) left x b.state rest in
          let i = turn c h next act to files n (state≔ w left b.state) b.lists x rest e in
          let p = pass S next act (units_left a) tt (h a.lists) w 0 in
          ended a b₁ r w p n z.stop (g.before ++ (x ∷ []))
          (subst (λ (m : ℕ). Like c p (no_turn S n tt (h b₁.lists) (state≔ w m b₁.state) z.stop) (g.before ++ (x ∷ []))) (sym f)
          (subst (λ (m : Lists). Like c p (no_turn S n tt (h m) (state≔ w z.left b₁.state) z.stop) (g.before ++ (x ∷ []))) (sym l)
          (subst (λ (m : State). Like c p (no_turn S n tt (h z.lists) (state≔ w z.left m) z.stop) (g.before ++ (x ∷ []))) (sym s)
          (subst (λ (m : Passed S Q). Like c p m (g.before ++ (x ∷ []))) (stopped c h next act n z.stop _ z.lists (λ y. not_zero (o ∙ y)))
          (like_on c g.like i)))))
          o
          (let q : length b₁.kept.begun ≡ length b.kept.begun + 1 = ap (λ (y : Kept). length y.begun) k ∙ length-append b.kept.begun (as_listed x ∷ []) in let y = g.rest in omega arith)
          (k ∙ ap (λ (q : Kept). with_begun q (q.begun ++ (as_listed x ∷ []))) g.kept ∙ ap (with_begun a.kept) (append_assoc a.kept.begun (map as_listed g.before) (as_listed x ∷ []) ∙ ap (λ (y : List Listed). a.kept.begun ++ y) (sym (map_append as_listed g.before (x ∷ [])))))
