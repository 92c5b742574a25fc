-- The loop of the late pass.
use Prim.Native.Nat.{ℕ, ◌+◌, ◌-◌, ◌≤◌, ◌<◌}
use mathlib.Core.Path.{◌≡◌, refl, sym, ap, ◌∙◌, subst}
use mathlib.Core.List.{List, [], ◌∷◌}
use mathlib.Core.Option.{Option, none, some}
use Rattle.std.specs.Prelude.{Option as Found, None, Some}
use native.Mathlib.Omega.{arith}
use lib.ListN.{length}
use Rattle.schedule.specs.Schedule.{empty, took, next_late, activate_late, late_pass}
use Rattle.model.specs.Circuit.{Circuit}
use Rattle.model.specs.State.{Act as UnitAct}
use Rattle.model.specs.Unit.{World}
use Rattle.wires.specs.View.{Values}
use Rattle.states.specs.View.{Delays}
use Rattle.units.specs.declared.Place.TheVariants.{Late}
use Rattle.units.specs.View.{Lists, Units}
use Rattle.units.specs.Raising.{with_lists}
use Rattle.areas.specs.Areas.{Contents, together}
use Rattle.chain.specs.declared.Ran.{Ran}
use Rattle.unit.specs.declared.Act.{Act}
use Rattle.unit.specs.Unit.{act_in, ran}
use Rattle.passes.specs.Waiting.{bare, waiting, for_late}
use Rattle.passes.specs.Passes.{units_left, Passes}
use Rattle.passes.specs.Taking.{next_of, rest_of, act_next, Takes, over, one_begun, Works}
use Rattle.passes.proofs.Filing.{late_files}
use Rattle.passes.proofs.Going.{Going, going_first}
use Rattle.passes.proofs.Kept.{Later, later, ran_later}
use Rattle.passes.proofs.Loops.{turn_on, turn_stop, turn_none, turn_over}

-- a list of each kind
abbrev four : List UnitAct → List UnitAct → List UnitAct → List UnitAct → Lists
four k d p q = record { late = k; delivered = d; pending = p; carried = q }

later_rest : (l : Lists) (k : List UnitAct) → later (rest_of l k) ≡ later l
unfolding rest_of
later_rest l [] = refl
later_rest l (a ∷ k) = refl

rest_empty : (k d p q : List UnitAct) → none ≡ next_of k d → rest_of (four k d p q) k ≡ four k d p q
unfolding rest_of next_of
rest_empty [] [] p q e = refl
rest_empty [] (a ∷ d) p q e = cc
rest_empty (b ∷ k) d p q e = cc

-- of lists
abbrev next_in : Lists → Option UnitAct
next_in l = next_of l.late l.delivered

abbrev rest_in : Lists → Lists
rest_in l = rest_of l l.late

module _ (c : Circuit) where
  empty_late : (k d p q : List UnitAct) → none ≡ next_of k d → next_late (bare c) (for_late c (four k d p q)) ≡ empty
  unfolding next_late next_of
  empty_late [] [] p q e = refl
  empty_late [] (a ∷ d) p q e = cc
  empty_late (b ∷ k) d p q e = cc

  took_late : (k d p q : List UnitAct) (x : UnitAct) → some x ≡ next_of k d → next_late (bare c) (for_late c (four k d p q)) ≡ took (waiting c x) (for_late c (rest_of (four k d p q) k))
  unfolding next_late next_of rest_of
  took_late [] [] p q x e = cc
  took_late [] (a ∷ d) p q x e = let f : x ≡ a = cc in rw f refl
  took_late (b ∷ k) d p q x e = let f : x ≡ b = cc in rw f refl

  abbrev pub GoingLate : Contents → Contents → World → ℕ → ℕ → Type 0
  GoingLate a b w left n = Going c (for_late c) (next_late (bare c)) (activate_late (bare c)) a b w left n

-- The late pass under way since the areas a, with so many steps that the tick might make: b are the areas now, n units may still begin, and the tick may make so many steps more.
pub record Lately (c : Circuit) (a b : Contents) (left₀ left n : ℕ) : Type 0 where
  pub going : (w : World) → w.state ≡ a.state → w.left ≡ left₀ → GoingLate c a b w left n
  pub later : later b.lists ≡ later a.lists

-- how many units may still begin
going_rest : {c : Circuit} {a b : Contents} {left₀ left n : ℕ} → Lately c a b left₀ left n → n ≡ units_left b
going_rest {c} {a} {b} {left₀} {left} {n} g = (g.going (record { state = a.state; left = left₀; room = 0; logged = [] }) refl refl).rest

-- it came to this
abbrev pub LateDone : Circuit → Contents → Contents → Ran → ℕ → Type 0
LateDone c a b r left₀ =
    ((w : World) → w.state ≡ a.state → w.left ≡ left₀ → Passes c (for_late c) a b r w (late_pass (bare c) (units_left a) tt (for_late c a.lists) w 0))
    × ((b.lists.pending ≡ a.lists.pending) × (b.lists.carried ≡ a.lists.carried))

both_later : (l k : Lists) → later l ≡ later k → (l.pending ≡ k.pending) × (l.carried ≡ k.carried)
both_later l k e = (ap (λ (x : Later). x.pending) e, ap (λ (x : Later). x.carried) e)

module _ (c : Circuit) where
  pub late_first : (a : Contents) (left n : ℕ) → n ≡ units_left a → Lately c a a left left n
  late_first a left n e =
      record {
        going = λ w s f. subst (λ (m : ℕ). GoingLate c a a w left m) (sym e) (going_first c (for_late c) (next_late (bare c)) (activate_late (bare c)) a w left s f);
        later = refl;
      }

  module _ (vs : Values) (U U₁ : Units) (D : Delays) (a : Contents) (left₀ left n : ℕ) (m : Found Act) (t : Takes c U U₁ m) (z : 0 < n) (g : Lately c a (together vs U D) left₀ left n) where
    -- there is room for one more
    pub late_room : length U₁.begun < 1024
    late_room = let p : length U₁.begun ≡ length U.begun = ap (λ (u : Units). length u.begun) t.rest in let q = going_rest g in omega arith

    -- nothing waits
    pub late_none : (r : Ran) → m ≡ None → r.left ≡ left → r.stop ≡ 0 → LateDone c a (together vs U₁ D) r left₀
    unfolding act_next late_pass
    late_none r h f o =
        let p : none ≡ next_in U.lists = ap (act_next c U.events) (sym h) ∙ t.next in
        let l = U.lists in
        let same : U₁ ≡ U = t.rest ∙ ap (with_lists U) (rest_empty l.late l.delivered l.pending l.carried p) in (
          λ w s v. turn_none c (for_late c) (next_late (bare c)) (activate_late (bare c)) vs U U₁ D a r w left n same (empty_late c l.late l.delivered l.pending l.carried p) f o (g.going w s v),
          both_later U₁.lists a.lists (ap (λ (u : Units). later u.lists) same ∙ g.later),
        )

    module _ (b₁ : Contents) (r : Ran) (y : Act) (h : m ≡ Some y) (q : Works b₁ r (one_begun (together vs U₁ D).kept (act_in c U₁.events y)) (ran c Late left (act_in c U₁.events y) (together vs U₁ D).state U₁.lists)) where
      abbrev act_here : UnitAct
      act_here = act_in c U.events y

      taken_here : some act_here ≡ next_in U.lists
      unfolding act_next
      taken_here = ap (act_next c U.events) (sym h) ∙ t.next

      works_here : Works b₁ r (one_begun (together vs U₁ D).kept act_here) (ran c Late left act_here (together vs U₁ D).state U₁.lists)
      works_here = subst (λ (x : UnitAct). Works b₁ r (one_begun (together vs U₁ D).kept x) (ran c Late left x (together vs U₁ D).state U₁.lists)) (ap (λ (u : Units). act_in c u.events y) t.rest) q

      later_here : later b₁.lists ≡ later a.lists
      later_here =
          ap later q.lists ∙ ran_later c left (act_in c U₁.events y) (together vs U₁ D).state U₁.lists ∙ ap (λ (u : Units). later u.lists) t.rest ∙ later_rest U.lists U.lists.late ∙ g.later

      -- it began and ran, to no stop
      pub late_on : r.stop ≡ 0 → (k : ℕ) → k + 1 ≡ n → Lately c a b₁ left₀ r.left k
      late_on s k e =
          let l = U.lists in
          let p : n - 1 ≡ k = omega arith in
          subst (λ (m : ℕ). Lately c a b₁ left₀ r.left m) p
          record {
            going = λ w i j. turn_on c (for_late c) (next_late (bare c)) (activate_late (bare c)) (λ _. Late) (λ u. late_files c (waiting c u)) vs U U₁ D a b₁ r w left act_here (rest_in l) t.rest (took_late c l.late l.delivered l.pending l.carried act_here taken_here) works_here n s z (g.going w i j);
            later = later_here;
          }

      -- it came to a stop
      pub late_stop : (r.stop ≡ 0 → ⊥) → LateDone c a b₁ r left₀
      unfolding late_pass
      late_stop s =
          let l = U.lists in (
            λ w i j. turn_stop c (for_late c) (next_late (bare c)) (activate_late (bare c)) (λ _. Late) (λ u. late_files c (waiting c u)) vs U U₁ D a b₁ r w left act_here (rest_in l) t.rest (took_late c l.late l.delivered l.pending l.carried act_here taken_here) works_here n s z (g.going w i j),
            both_later b₁.lists a.lists later_here,
          )

  -- none may begin any more
  pub late_end : (a b : Contents) (r : Ran) (left₀ left n : ℕ) → n ≤ 0 → (r.left ≡ left) × (r.stop ≡ over (next_in b.lists)) → Lately c a b left₀ left n → LateDone c a b r left₀
  unfolding late_pass
  late_end a b r left₀ left n z e g =
      let l = b.lists in (
        λ w i j. turn_over c (for_late c) (next_late (bare c)) (activate_late (bare c)) a b r w left n (next_in l) (empty_late c l.late l.delivered l.pending l.carried) (rest_in l) (took_late c l.late l.delivered l.pending l.carried) e.0 e.1 z (g.going w i j),
        both_later b.lists a.lists g.later,
      )
