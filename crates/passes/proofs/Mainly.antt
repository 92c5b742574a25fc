-- The loop of the main pass.
use Prim.Native.Nat.{ℕ, ◌+◌, ◌-◌, ◌≤◌, ◌<◌}
use mathlib.Core.Path.{◌≡◌, refl, sym, ap, ◌∙◌, subst}
use mathlib.Core.List.{List, [], ◌∷◌, map}
use mathlib.Core.Option.{none, some}
use native.Mathlib.Omega.{arith}
use lib.ListN.{length, drop}
use Rattle.schedule.specs.Schedule.{empty, took, next_main, activate_main, main_pass}
use Rattle.std.specs.Prelude.{Option, None, Some}
use Rattle.model.specs.Circuit.{Circuit, rank_of_gate}
use Rattle.model.specs.State.{Act as UnitAct}
use Rattle.model.specs.Unit.{World}
use Rattle.wires.specs.View.{Values}
use Rattle.states.specs.View.{Delays}
use Rattle.units.specs.declared.Place.{Place}
use Rattle.units.specs.declared.Place.TheVariants.{After}
use Rattle.units.specs.View.{gate_of, act_of, Lists, Units}
use Rattle.units.specs.Raising.{pending≔, with_lists}
use Rattle.units.specs.Calls.{first_of, act_taken}
use Rattle.areas.specs.Areas.{Contents, together}
use Rattle.chain.specs.declared.Ran.{Ran}
use Rattle.unit.specs.declared.Act.TheVariants.{Waiting}
use Rattle.unit.specs.Unit.{act_in, ran}
use Rattle.passes.specs.Waiting.{bare, waiting, for_main}
use Rattle.passes.specs.Passes.{units_left, Passes}
use Rattle.passes.specs.Taking.{over, one_begun, Works}
use Rattle.passes.proofs.Filing.{main_files}
use Rattle.passes.proofs.Going.{Going, going_first}
use Rattle.passes.proofs.Beginning.{drop_none}
use Rattle.passes.proofs.Loops.{turn_on, turn_stop, turn_none, turn_over}

-- the lists without the first that is pending
abbrev pub rest_main : Lists → Lists
rest_main l = pending≔ l (drop 1 l.pending)

module _ (c : Circuit) where
  empty_main : (p q : List UnitAct) → none ≡ first_of p → next_main (bare c) (record { pending = map (waiting c) p; carried = map (waiting c) q }) ≡ empty
  unfolding next_main first_of
  empty_main [] q e = refl
  empty_main (a ∷ p) q e = cc

  took_main :
      (p q : List UnitAct) (x : UnitAct) → some x ≡ first_of p →
      next_main (bare c) (record { pending = map (waiting c) p; carried = map (waiting c) q }) ≡ took (waiting c x) (record { pending = map (waiting c) (drop 1 p); carried = map (waiting c) q })
  unfolding next_main first_of
  took_main [] q x e = cc
  took_main (a ∷ p) q x e = let f : x ≡ a = cc in rw f refl

  -- where a unit's raises go
  abbrev pub after : UnitAct → Place
  after u = After (rank_of_gate c u.gate)

  abbrev pub GoingMain : Contents → Contents → World → ℕ → ℕ → Type 0
  GoingMain a b w left n = Going c (for_main c) (next_main (bare c)) (activate_main (bare c)) a b w left n

-- The main pass under way since the areas a, with so many steps that the tick might make: b are the areas now, n units may still begin, and the tick may make so many steps more.
pub record Mainly (c : Circuit) (a b : Contents) (left₀ left n : ℕ) : Type 0 where
  pub going : (w : World) → w.state ≡ a.state → w.left ≡ left₀ → GoingMain c a b w left n

-- how many units may still begin
going_rest : {c : Circuit} {a b : Contents} {left₀ left n : ℕ} → Mainly c a b left₀ left n → n ≡ units_left b
going_rest {c} {a} {b} {left₀} {left} {n} g = (g.going (record { state = a.state; left = left₀; room = 0; logged = [] }) refl refl).rest

-- it came to this
abbrev pub MainDone : Circuit → Contents → Contents → Ran → ℕ → Type 0
MainDone c a b r left₀ =
    (w : World) → w.state ≡ a.state → w.left ≡ left₀ → Passes c (for_main c) a b r w (main_pass (bare c) (units_left a) tt (for_main c a.lists) w 0)

module _ (c : Circuit) where
  pub main_first : (a : Contents) (left n : ℕ) → n ≡ units_left a → Mainly c a a left left n
  main_first a left n e =
      record {
        going = λ w s f. subst (λ (m : ℕ). GoingMain c a a w left m) (sym e) (going_first c (for_main c) (next_main (bare c)) (activate_main (bare c)) a w left s f);
      }

  module _ (vs : Values) (U U₁ : Units) (D : Delays) (a : Contents) (left₀ left n : ℕ) (m : Option ℕ) (t : (act_taken (act_of c) m ≡ first_of U.lists.pending) × (U₁ ≡ with_lists U (rest_main U.lists))) (z : 0 < n) (g : Mainly c a (together vs U D) left₀ left n) where
    -- there is room for one more
    pub main_room : length U₁.begun < 1024
    main_room = let p : length U₁.begun ≡ length U.begun = ap (λ (u : Units). length u.begun) t.1 in let q = going_rest g in omega arith

    -- nothing waits
    pub main_none : (r : Ran) → m ≡ None → r.left ≡ left → r.stop ≡ 0 → MainDone c a (together vs U₁ D) r left₀
    unfolding act_taken main_pass
    main_none r h f o w i j =
        let p : none ≡ first_of U.lists.pending = ap (act_taken (act_of c)) (sym h) ∙ t.0 in
        let same : U₁ ≡ U = t.1 ∙ ap (λ (k : List UnitAct). with_lists U (pending≔ U.lists k)) (drop_none U.lists.pending p) in
        turn_none c (for_main c) (next_main (bare c)) (activate_main (bare c)) vs U U₁ D a r w left n same (empty_main c U.lists.pending U.lists.carried p) f o (g.going w i j)

    module _ (small : (g : ℕ) → rank_of_gate c g < 65536) (b₁ : Contents) (r : Ran) (y v reached : ℕ) (h : m ≡ Some y) (ev : (v ≡ gate_of y) × (v < 65536)) (er : reached ≡ rank_of_gate c v) (q : Works b₁ r (one_begun (together vs U₁ D).kept (act_in c U₁.events (Waiting y))) (ran c (After reached) left (act_in c U₁.events (Waiting y)) (together vs U₁ D).state U₁.lists)) where
      taken_here : some (act_of c y) ≡ first_of U.lists.pending
      unfolding act_taken
      taken_here = ap (act_taken (act_of c)) (sym h) ∙ t.0

      reached_here : reached ≡ rank_of_gate c (act_of c y).gate
      unfolding act_of
      reached_here = er ∙ ap (rank_of_gate c) ev.0

      works_here : Works b₁ r (one_begun (together vs U₁ D).kept (act_of c y)) (ran c (After (rank_of_gate c (act_of c y).gate)) left (act_of c y) (together vs U₁ D).state U₁.lists)
      unfolding act_in
      works_here = subst (λ (k : ℕ). Works b₁ r (one_begun (together vs U₁ D).kept (act_of c y)) (ran c (After k) left (act_of c y) (together vs U₁ D).state U₁.lists)) reached_here q

      -- it began and ran, to no stop
      pub main_on : r.stop ≡ 0 → (k : ℕ) → k + 1 ≡ n → Mainly c a b₁ left₀ r.left k
      main_on s k e =
          let p : n - 1 ≡ k = omega arith in
          subst (λ (m : ℕ). Mainly c a b₁ left₀ r.left m) p
          record {
            going = λ w i j. turn_on c (for_main c) (next_main (bare c)) (activate_main (bare c)) (after c) (λ u. main_files c small (waiting c u)) vs U U₁ D a b₁ r w left (act_of c y) (rest_main U.lists) t.1 (took_main c U.lists.pending U.lists.carried (act_of c y) taken_here) works_here n s z (g.going w i j);
          }

      -- it came to a stop
      pub main_stop : (r.stop ≡ 0 → ⊥) → MainDone c a b₁ r left₀
      unfolding main_pass
      main_stop s w i j =
          turn_stop c (for_main c) (next_main (bare c)) (activate_main (bare c)) (after c) (λ u. main_files c small (waiting c u)) vs U U₁ D a b₁ r w left (act_of c y) (rest_main U.lists) t.1 (took_main c U.lists.pending U.lists.carried (act_of c y) taken_here) works_here n s z (g.going w i j)

  -- none may begin any more
  pub main_end : (a b : Contents) (r : Ran) (left₀ left n : ℕ) → n ≤ 0 → (r.left ≡ left) × (r.stop ≡ over (first_of b.lists.pending)) → Mainly c a b left₀ left n → MainDone c a b r left₀
  unfolding main_pass
  main_end a b r left₀ left n z e g w i j =
      let l = b.lists in
      turn_over c (for_main c) (next_main (bare c)) (activate_main (bare c)) a b r w left n (first_of l.pending) (empty_main c l.pending l.carried) (rest_main l) (took_main c l.pending l.carried) e.0 e.1 z (g.going w i j)
