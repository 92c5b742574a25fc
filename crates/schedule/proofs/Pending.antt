-- What the opening raises to pending begins in the main pass of a tick without a stop: the pass starts with all of it, and ends when nothing is pending.
use mathlib.Core.Path.{◌≡◌, refl, ap}
use mathlib.Core.List.{List, [], ◌∷◌}
use mathlib.Core.Bool.{Bool, true, false, cond}
use Prim.Native.Nat.{ℕ, ◌+◌, ◌≤◌}
use native.Mathlib.Omega.{arith}
use Rattle.schedule.specs.Schedule.{Raise, When, Place, to_late, to_delivered, to_pending, Setup, Filed, full, filed, OpenQ, list_full, most_units, Activation, push_all, activate_open, raise_on, raise_all, next_late, activate_late, next_main, activate_main, late_pass, main_pass, Turn, acts, outcome, tick}
use Rattle.schedule.specs.Promise.{total, units, raised_by, is_carried, carried_of, raised_to_carry}
use Rattle.schedule.specs.Pending.{pends, for_main, BeginsPending}
use Rattle.schedule.proofs.Steps.{room_is, pass_steps}
use Rattle.schedule.proofs.Weigh.{total_append, push_weigh, main_passes_weigh}
use Rattle.schedule.proofs.Ticks.{fitted, ticked, passes_from, passes_end, main_none}
use Rattle.schedule.proofs.Carry.{tick_carry}

module _ (S : Setup) (m : S.machine.Act → ℕ) where
  open S use {Tag, after}
  open S.machine use {W, In, Act, opening, body}

  -- an activation counts for what it runs
  abbrev μ : Activation S → ℕ
  μ e = m e.act

  activate_pends : (p : Place) (e : Activation S) (q q₁ : OpenQ (Activation S)) → activate_open S p e q ≡ filed q₁ → total μ q₁.pending ≡ total μ q.pending + cond (pends p) (μ e) 0
  unfolding activate_open
  activate_pends to_late e q q₁ h = omega (arith, ap (λ (q : OpenQ (Activation S)). total μ q.pending) (room_is q.lateq.late _ h).0)
  activate_pends to_delivered e q q₁ h = omega (arith, ap (λ (q : OpenQ (Activation S)). total μ q.pending) (room_is q.lateq.delivered _ h).0)
  activate_pends to_pending e q q₁ h = omega (arith, ap (λ (q : OpenQ (Activation S)). total μ q.pending) (room_is q.pending _ h).0, push_weigh S μ e q.pending)

  one_more : (b : Bool) (a : Act) (l : List Act) → total m (cond b (a ∷ l) l) ≡ cond b (m a) 0 + total m l
  one_more true a l = refl
  one_more false a l = omega arith

  -- all of it waits when the opening is over
  raised_pends :
      (rs : List (Raise W Act Place)) (t : Tag) (q : OpenQ (Activation S)) (w : W) (s : ℕ) → (raise_all S (activate_open S) rs t q w s).stop ≡ 0 →
      total μ (raise_all S (activate_open S) rs t q w s).queue.pending ≡ total μ q.pending + total m (for_main S rs)
  unfolding raise_all
  raised_pends [] t q w s h = omega arith
  raised_pends (r ∷ rs) t q w s h =
      go (activate_open S r.place (record { act = r.act; tag = t }) q) refl h (λ q₁. raised_pends rs (after t) q₁ w s)
    where
      e : Activation S
      e = record { act = r.act; tag = t }

      go :
          (x : Filed (OpenQ (Activation S))) → activate_open S r.place e q ≡ x →
          (raise_on S x e (record { raised = []; queue = q; next = t; world = r.at; stop = list_full }) (λ q'. raise_all S (activate_open S) rs (after t) q' w s)).stop ≡ 0 →
          ((q₁ : OpenQ (Activation S)) → (raise_all S (activate_open S) rs (after t) q₁ w s).stop ≡ 0 →
          total μ (raise_all S (activate_open S) rs (after t) q₁ w s).queue.pending ≡ total μ q₁.pending + total m (for_main S rs)) →
          total μ (raise_on S x e (record { raised = []; queue = q; next = t; world = r.at; stop = list_full }) (λ q'. raise_all S (activate_open S) rs (after t) q' w s)).queue.pending
          ≡ total μ q.pending + total m (for_main S (r ∷ rs))
      go full k h rec = absurd (omega arith)
      go (filed q₁) k h rec = omega (arith, rec q₁ h, activate_pends r.place e q q₁ k, one_more (pends r.place) r.act (for_main S rs))

  -- what is carried was raised in the pass
  carried_of_few : (u : Activation S) (es : List (Activation S)) (rs : List (Raise W Act When)) → total μ (carried_of S u es rs) ≤ total μ es
  carried_of_few u [] rs = omega arith
  carried_of_few u (e ∷ es) [] = omega arith
  carried_of_few u (e ∷ es) (r ∷ rs) = go (is_carried S u r.place e) (carried_of_few u es rs)
    where
      go : (b : Bool) → total μ (carried_of S u es rs) ≤ total μ es → total μ (cond b (e ∷ carried_of S u es rs) (carried_of S u es rs)) ≤ μ e + total μ es
      go true h = omega arith
      go false h = omega arith

  carried_few : (us : List (Turn S)) → total μ (raised_to_carry S us) ≤ total μ (raised_by S us)
  carried_few [] = omega arith
  carried_few (u ∷ us) =
      omega (
        arith,
        carried_of_few u.unit u.raised (body u.from u.unit.act).raises,
        carried_few us,
        total_append μ (carried_of S u.unit u.raised (body u.from u.unit.act).raises) (raised_to_carry S us),
        total_append μ u.raised (raised_by S us),
      )

  acts_weigh : (us : List (Turn S)) → total m (acts S us) ≡ total μ (units S us)
  acts_weigh [] = refl
  acts_weigh (u ∷ us) = omega (arith, acts_weigh us)

pub begins_pending : (S : Setup) (w : S.machine.W) (i : S.machine.In) (came : List (Activation S)) (t : S.Tag) → BeginsPending S w i (tick S w i came t)
unfolding tick late_pass main_pass
begins_pending S w i came t h m =
    let d = S.machine.opening w i in
    let q : OpenQ (Activation S) = record { lateq = record { late = push_all S came []; delivered = [] }; pending = [] } in
    let o = raise_all S (activate_open S) d.raises t q d.world d.stop in
    let l = late_pass S most_units o.next o.queue.lateq o.world o.stop in
    let z = main_pass S l.left l.next (record { pending = o.queue.pending; carried = [] }) l.world l.stop in
    let late = (pass_steps S (next_late S) (activate_late S) most_units o.next o.queue.lateq o.world o.stop).steps in
    let main = (pass_steps S (next_main S) (activate_main S) l.left l.next (record { pending = o.queue.pending; carried = [] }) l.world l.stop).steps in
    let h₃ : z.stop ≡ 0 = fitted (S.machine.closing z.world i (outcome S l.turns z.turns z.queue.carried z.stop)).fits z.stop h in
    let h₁ : o.stop ≡ 0 = passes_from S (next_late S) (activate_late S) late (passes_from S (next_main S) (activate_main S) main h₃) in
    omega (
      arith,
      raised_pends S m d.raises t q d.world d.stop h₁,
      main_passes_weigh S (μ S m) main,
      main_none S (μ S m) z.queue (passes_end S (next_main S) (activate_main S) main h₃),
      ap (total (μ S m)) (tick_carry S (ticked S w i came t)),
      carried_few S m z.turns,
      acts_weigh S m z.turns,
    )
