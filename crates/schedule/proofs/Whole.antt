-- The order promise holds of every run.
use mathlib.Core.Path.{◌≡◌, refl, ap}
use mathlib.Core.List.{List, [], ◌∷◌, ◌++◌}
use mathlib.Core.Bool.{cond}
use Prim.Native.Nat.{ℕ, zero, suc, ◌+◌, ◌≤◌, zero-le}
use native.Mathlib.Omega.{arith}
use lib.ListN.{length}
use lib.Dec.{eqb}
use borrow.Author.Tests.{le-leb}
use Rattle.schedule.specs.Schedule.{numbered, Machine, Turn, tick, go_on, run_on, run}
use Rattle.schedule.specs.Promise.{total, Raised, Played, times, units, raised_by, begun, has_run, raised, Orderly, Each, over, last, on, raises, begins, Numbered, all_raised, FirstLate, Order}
use Rattle.schedule.proofs.Weigh.{total_append, total_one}
use Rattle.schedule.proofs.Ticks.{Ticked, ticked, tick_ran, main_keeps, tick_keeps, kept}
use Rattle.schedule.proofs.Ranked.{tick_sorted}
use Rattle.schedule.proofs.Fresh.{coming, tick_fresh, tick_numbered, numbered_append}
use Rattle.schedule.proofs.Carry.{tick_carry}
use Rattle.schedule.proofs.Leading.{Rising, none_rises, tick_rising, tick_led}
use Rattle.schedule.proofs.Told.{tick_told}

module _ (M : Machine) where
  open M use {W, In}

  abbrev is : ℕ → Raised M → ℕ
  is x e = cond (eqb e.tag x) 1 0

  length_units : (us : List (Turn (numbered M))) → total (λ _. 1) (units (numbered M) us) ≡ length us
  length_units [] = refl
  length_units (u ∷ us) = omega (arith, length_units us)

  -- ---- a tick
  module _ {c : List (Raised M)} {t₀ : ℕ} {k : Played M} (T : Ticked (numbered M) c t₀ k) where
    -- what x may still come to: carried into a tick, or yet to be given
    potential : (x : ℕ) → times M x (begun (numbered M) k) + (times M x k.carried + coming x k.next) ≤ times M x c + coming x t₀
    potential x = omega (arith, tick_keeps (numbered M) (is x) T, tick_fresh M x T)

    -- what the main pass began or carried was raised in this tick
    main_new : (x : ℕ) → times M x (units (numbered M) k.main) + times M x k.carried ≤ times M x (raised (numbered M) k)
    main_new x =
        omega (
          arith,
          main_keeps (numbered M) (is x) T,
          total_append (is x) k.opened (raised_by (numbered M) k.late ++ raised_by (numbered M) k.main),
          total_append (is x) (raised_by (numbered M) k.late) (raised_by (numbered M) k.main),
        )

    counts : k.stop ≡ 0 → length k.late + length k.main + length k.carried ≡ length (raised (numbered M) k) + length c
    counts h =
        omega (
          arith,
          kept (numbered M) (λ _. 1) T h,
          length_units k.late,
          length_units k.main,
          total_append (λ (_ : Raised M). 1) (units (numbered M) k.late) (units (numbered M) k.main),
          total_one k.carried,
          total_one c,
          total_one (raised (numbered M) k),
        )

    module _ (one : (x : ℕ) → times M x c + coming x t₀ ≤ 1) where
      raised_once : k.stop ≡ 0 → (x : ℕ) → 1 ≤ times M x (raised (numbered M) k) → times M x k.carried ≡ 0 → times M x (has_run (numbered M) k) ≡ 1
      raised_once h x i j = omega (arith, ap (times M x) (tick_ran (numbered M) T h), kept (numbered M) (is x) T h, tick_fresh M x T, one x)

      carried_once : k.stop ≡ 0 → (x : ℕ) → 1 ≤ times M x c → times M x (has_run (numbered M) k) ≡ 1
      carried_once h x i = omega (arith, ap (times M x) (tick_ran (numbered M) T h), kept (numbered M) (is x) T h, tick_fresh M x T, main_new x, one x)

      orderly : Rising M 0 c t₀ → Orderly M c k
      orderly rising =
          record {
            by_rank = tick_sorted M T;
            only = λ m. omega (arith, tick_keeps (numbered M) m T);
            carries = tick_carry (numbered M) T;
            came = T.came;
            first_late = tick_led M T rising;
            raised_once = raised_once;
            carried_once = carried_once;
            counts = counts;
            told = tick_told (numbered M) T;
          }

  -- ---- the run
  data Chain : List (Raised M) → ℕ → List (Played M) → Type 0 where
    none : {c : List (Raised M)} {t : ℕ} → Chain c t []
    stopped : {c : List (Raised M)} {t : ℕ} {k : Played M} → Ticked (numbered M) c t k → Chain c t (k ∷ [])
    more : {c : List (Raised M)} {t : ℕ} {k : Played M} {ts : List (Played M)} → Ticked (numbered M) c t k → k.stop ≡ 0 → Chain k.carried k.next ts → Chain c t (k ∷ ts)

  chain : (is : List In) (w : W) (c : List (Raised M)) (t : ℕ) → Chain c t (run_on (numbered M) is w c t)
  unfolding run_on
  chain [] w c t = none
  chain (i ∷ is) w c t = let k = tick (numbered M) w i c t in go k.stop refl (chain is k.world k.carried k.next)
    where
      go :
          (s : ℕ) → (tick (numbered M) w i c t).stop ≡ s →
          let k = tick (numbered M) w i c t in
          Chain k.carried k.next (run_on (numbered M) is k.world k.carried k.next) →
          Chain c t (k ∷ go_on (numbered M) s (run_on (numbered M) is k.world k.carried k.next))
      go zero h r = more (ticked (numbered M) w i c t) h r
      go (suc s) h r = stopped (ticked (numbered M) w i c t)

  chain_each : {c : List (Raised M)} {t : ℕ} {ts : List (Played M)} → Chain c t ts → ((x : ℕ) → times M x c + coming x t ≤ 1) → Rising M 0 c t → Each M c ts
  chain_each none one rising = over
  chain_each (stopped T) one rising = last (orderly T one rising)
  chain_each (more T h r) one rising = on (orderly T one rising) h (chain_each r (λ x. omega (arith, potential T x, one x)) (tick_rising M T))

  chain_numbered : {c : List (Raised M)} {t : ℕ} {ts : List (Played M)} → Chain c t ts → (n : ℕ) × Numbered M t (all_raised M ts) n
  chain_numbered {t = t} none = (t, Numbered.none)
  chain_numbered (stopped {k = k} T) = (k.next, numbered_append M (tick_numbered M T) Numbered.none)
  chain_numbered (more T h r) = let i = chain_numbered r in (i.0, numbered_append M (tick_numbered M T) i.1)

  chain_raises : (x : ℕ) {c : List (Raised M)} {t : ℕ} {ts : List (Played M)} → Chain c t ts → raises M x ts ≤ coming x t
  chain_raises x none = zero-le
  chain_raises x (stopped T) = omega (arith, tick_fresh M x T)
  chain_raises x (more T h r) = omega (arith, tick_fresh M x T, chain_raises x r)

  chain_begins : (x : ℕ) {c : List (Raised M)} {t : ℕ} {ts : List (Played M)} → Chain c t ts → begins M x ts ≤ times M x c + coming x t
  chain_begins x none = zero-le
  chain_begins x (stopped T) = omega (arith, potential T x)
  chain_begins x (more T h r) = omega (arith, potential T x, chain_begins x r)

  -- a carried one: in the tick after it, in the late pass, and never again
  chain_late : (x : ℕ) {c : List (Raised M)} {t : ℕ} {ts : List (Played M)} → Chain c t ts → ((x : ℕ) → times M x c + coming x t ≤ 1) → 1 ≤ times M x c → FirstLate M x ts
  chain_late x none one h = tt
  chain_late x (stopped T) one h = (omega (arith, main_new T x, tick_fresh M x T, one x), refl)
  chain_late x (more T s r) one h = (
    omega (arith, main_new T x, tick_fresh M x T, one x),
    omega (arith, chain_begins x r, potential T x, one x, carried_once T one s x h, ap (times M x) (tick_ran (numbered M) T s)),
  )

  uncons : {c : List (Raised M)} {t : ℕ} {k : Played M} {ts : List (Played M)} → Chain c t (k ∷ ts) → Ticked (numbered M) c t k × Chain k.carried k.next ts
  uncons (stopped T) = (T, none)
  uncons (more T h r) = (T, r)

  -- before it is carried it does not begin
  chain_before :
      (pre : List (Played M)) (k : Played M) (post : List (Played M)) (x : ℕ) {c : List (Raised M)} {t : ℕ} → Chain c t (pre ++ (k ∷ post)) →
      begins M x pre + (times M x (begun (numbered M) k) + times M x k.carried) ≤ times M x c + coming x t
  chain_before [] k post x r = omega (arith, potential (uncons r).0 x)
  chain_before (p ∷ pre) k post x r = omega (arith, potential (uncons r).0 x, chain_before pre k post x (uncons r).1)

  chain_after :
      (pre : List (Played M)) (k : Played M) (post : List (Played M)) (x : ℕ) {c : List (Raised M)} {t : ℕ} → Chain c t (pre ++ (k ∷ post)) →
      ((x : ℕ) → times M x c + coming x t ≤ 1) → 1 ≤ times M x k.carried → FirstLate M x post
  chain_after [] k post x r one h = chain_late x (uncons r).1 (λ y. omega (arith, potential (uncons r).0 y, one y)) h
  chain_after (p ∷ pre) k post x r one h = chain_after pre k post x (uncons r).1 (λ y. omega (arith, potential (uncons r).0 y, one y)) h

  zero_coming : (x : ℕ) → coming x 0 ≡ 1
  zero_coming x = rw (le-leb 0 x zero-le)

  pub order : (is : List In) (w : W) → Order M (run (numbered M) is w)
  unfolding run
  order is w =
      let r = chain is w [] 0 in
      let one : (x : ℕ) → times M x [] + coming x 0 ≤ 1 = λ x. omega (arith, zero_coming x) in
      record {
        each = chain_each r one (none_rises M 0);
        as_raised = chain_numbered r;
        fresh = λ x. omega (arith, chain_raises x r, zero_coming x);
        once = λ x. omega (arith, chain_begins x r, zero_coming x);
        next_late =
            λ pre k post h x i.
            let b = chain_before pre k post x (rw h at r) in
            (omega (arith, one x), omega (arith, one x), chain_after pre k post x (rw h at r) one i);
      }

  -- ---- a tick that is followed by another

  each_rest : {c : List (Raised M)} {k : Played M} {ts : List (Played M)} → Each M c (k ∷ ts) → Each M k.carried ts
  each_rest (last o) = over
  each_rest (on o h r) = r

  each_first : {c : List (Raised M)} {k : Played M} {ts : List (Played M)} → Each M c (k ∷ ts) → Orderly M c k
  each_first (last o) = o
  each_first (on o h r) = o

  each_on : {c : List (Raised M)} {k l : Played M} {ts : List (Played M)} → Each M c (k ∷ l ∷ ts) → k.stop ≡ 0
  each_on (on o h r) = h

  -- has no stop, and what it carries is what comes into the next one
  pub comes_in :
      (pre : List (Played M)) (k l : Played M) (post : List (Played M)) {c : List (Raised M)} → Each M c (pre ++ (k ∷ l ∷ post)) →
      (k.stop ≡ 0) × (l.came ≡ k.carried)
  comes_in [] k l post e = (each_on e, (each_first (each_rest e)).came)
  comes_in (p ∷ pre) k l post e = comes_in pre k l post (each_rest e)
