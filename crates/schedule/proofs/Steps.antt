-- What the scheduler's steps did, as data to go through: `Raises` for raising, `Passes` for a pass, and what was taken off a queue and put on it. Each case analysis is made here, once.
use mathlib.Core.Path.{◌≡◌, refl, sym, ap}
use mathlib.Core.List.{List, [], ◌∷◌, ◌++◌, map}
use mathlib.Core.Bool.{Bool, true, false, cond}
use mathlib.Core.Logic.{◌⊎◌, inl, inr}
use Prim.Native.Nat.{ℕ, zero, suc, ◌+◌, ◌<◌}
use native.Mathlib.Omega.{arith}
use lib.ListN.{length}
use lib.Dec.{leb, ltb, eqb}
use borrow.Author.Tests.{ltb-true, eq-eqb}
use Rattle.schedule.specs.Schedule.{Setup, Raise, Took, empty, took, Filed, full, filed, room, most_waiting, list_full, MainQ, OpenQ, Place, to_late, to_delivered, to_pending, When, by_rank, put_off, Activation, rank_of, push, carries, activate_main, activate_open, next_main, next_main', Raising, raise_on, raise_all, Turn, Passed, turning, no_turn, pass_on, pass}
use Rattle.schedule.specs.Promise.{OfTold, RanAsTold, RaisedAsTold, is_carried}

-- a queue that was filed is the one that there was room for
pub room_is : {E Q : Type 0} (l : List E) (most : ℕ) {q q₁ : Q} → room l most q ≡ filed q₁ → (q₁ ≡ q) × (length l < most)
room_is l most {q} {q₁} h = go (ltb (length l) most) refl h
  where
    go : (b : Bool) → ltb (length l) most ≡ b → cond b (filed q) full ≡ filed q₁ → (q₁ ≡ q) × (length l < most)
    go true k h = (cc, ltb-true _ _ k)
    go false k h = let z : ◌≡◌ {A = ℕ} 0 1 = cc in let y : ⊥ = omega arith in absurd y

module _ (S : Setup) where
  open S use {Tag, after}
  open S.machine use {W, Act, rank, body}

  -- ---- taking and putting

  -- the reasons for carrying, in the promise's words
  pub carries_is : (u : Activation S) (p : When) (e : Activation S) → carries S (rank_of S u) p e ≡ is_carried S u p e
  unfolding carries
  carries_is u by_rank e = refl
  carries_is u put_off e = refl

  -- what is not carried is above the rank reached
  pub above : (u : Activation S) (p : When) (e : Activation S) → is_carried S u p e ≡ false → leb (rank e.act) (rank u.act) ≡ false
  above u by_rank e h = h
  above u put_off e h = cc

  -- what the main pass begins was the first pending one
  pub next_main_is : (q : MainQ (Activation S)) (u : Activation S) (q₁ : MainQ (Activation S)) → next_main S q ≡ took u q₁ → (q.pending ≡ u ∷ q₁.pending) × (q.carried ≡ q₁.carried)
  unfolding next_main
  next_main_is q u q₁ h = go q.pending q.carried h
    where
      go : (l c : List (Activation S)) → next_main' S l c ≡ took u q₁ → (l ≡ u ∷ q₁.pending) × (c ≡ q₁.carried)
      go [] c h = (cc, cc)
      go (e ∷ l) c h =
          let hu : e ≡ u = cc in
          let hq : record { pending = l; carried = c } ≡ q₁ = cc in
          let hl : l ≡ q₁.pending = ap (λ (q : MainQ (Activation S)). q.pending) hq in
          (cc, ap (λ (q : MainQ (Activation S)). q.carried) hq)

  -- where the main pass puts what the unit u raised
  pub data ToMain (u : Activation S) (p : When) (e : Activation S) (q q₁ : MainQ (Activation S)) : Type 0 where
    at_carried :
        is_carried S u p e ≡ true → length q.carried < most_waiting → q₁.pending ≡ q.pending → q₁.carried ≡ q.carried ++ (e ∷ []) →
        ToMain u p e q q₁
    at_pending :
        is_carried S u p e ≡ false → length q.pending < most_waiting → q₁.pending ≡ push S e q.pending → q₁.carried ≡ q.carried →
        ToMain u p e q q₁

  pub activate_main_is : (u : Activation S) (p : When) (e : Activation S) (q q₁ : MainQ (Activation S)) → activate_main S u p e q ≡ filed q₁ → ToMain u p e q q₁
  unfolding activate_main
  activate_main_is u p e q q₁ h = go (carries S (rank_of S u) p e) (sym (carries_is u p e)) h
    where
      go :
          (b : Bool) → is_carried S u p e ≡ b →
          cond b
          (room q.carried most_waiting (record { pending = q.pending; carried = q.carried ++ (e ∷ []) }))
          (room q.pending most_waiting (record { pending = push S e q.pending; carried = q.carried }))
          ≡ filed q₁ →
          ToMain u p e q q₁
      go true k h =
          let r = room_is q.carried most_waiting h in
          at_carried k r.1 (ap (λ (q : MainQ (Activation S)). q.pending) r.0) (ap (λ (q : MainQ (Activation S)). q.carried) r.0)
      go false k h =
          let r = room_is q.pending most_waiting h in
          at_pending k r.1 (ap (λ (q : MainQ (Activation S)). q.pending) r.0) (ap (λ (q : MainQ (Activation S)). q.carried) r.0)

  -- the opening adds what it raises to the pending list, or leaves that list as it is
  pub activate_open_is :
      (p : Place) (e : Activation S) (q q₁ : OpenQ (Activation S)) → activate_open S p e q ≡ filed q₁ →
      (q₁.pending ≡ q.pending) ⊎ ((q₁.pending ≡ push S e q.pending) × (length q.pending < most_waiting))
  unfolding activate_open
  activate_open_is to_late e q q₁ h = inl (ap (λ (q : OpenQ (Activation S)). q.pending) (room_is q.lateq.late _ h).0)
  activate_open_is to_delivered e q q₁ h = inl (ap (λ (q : OpenQ (Activation S)). q.pending) (room_is q.lateq.delivered _ h).0)
  activate_open_is to_pending e q q₁ h = let r = room_is q.pending _ h in inr (ap (λ (q : OpenQ (Activation S)). q.pending) r.0, r.1)

  -- ---- raising
  module _ {P Q : Type 0} (activate : P → Activation S → Q → Filed Q) where
    -- what was to be raised, and from the identity t and the queue q what was, up to the identity and the queue at the end
    pub data Raises : List (Raise W Act P) → Tag → Q → List (Activation S) → Tag → Q → Type 0 where
      none : {rs : List (Raise W Act P)} {t : Tag} {q : Q} → Raises rs t q [] t q
      one :
          {rs : List (Raise W Act P)} {q q₁ q₂ : Q} {t₂ : Tag} {e : Activation S} {es : List (Activation S)} (r : Raise W Act P) → r.act ≡ e.act →
          activate r.place e q ≡ filed q₁ →
          Raises rs (after e.tag) q₁ es t₂ q₂ →
          Raises (r ∷ rs) e.tag q (e ∷ es) t₂ q₂

    -- What raising rs in the world w came to, where what raised had the stop s: without a stop in the end there was none before, all was raised, and the world is w.
    pub record DidRaise (rs : List (Raise W Act P)) (t : Tag) (q : Q) (w : W) (s : ℕ) (k : Raising S Q) : Type 0 where
      pub steps : Raises rs t q k.raised k.next k.queue
      pub stopped : k.stop ≡ 0 → s ≡ 0
      pub told : OfTold S k.stop rs k.raised
      pub world : k.stop ≡ 0 → k.world ≡ w

    pub raise_steps : (rs : List (Raise W Act P)) (t : Tag) (q : Q) (w : W) (s : ℕ) → DidRaise rs t q w s (raise_all S activate rs t q w s)
    unfolding raise_all
    raise_steps [] t q w s = record { steps = none; stopped = λ h. h; told = ([], refl, λ h. refl); world = λ h. refl }
    raise_steps (r ∷ rs) t q w s = go (λ q₁. raise_steps rs (after t) q₁ w s) (activate r.place (record { act = r.act; tag = t }) q) refl
      where
        go :
            ((q₁ : Q) → DidRaise rs (after t) q₁ w s (raise_all S activate rs (after t) q₁ w s)) →
            (x : Filed Q) →
            activate r.place (record { act = r.act; tag = t }) q ≡ x →
            DidRaise (r ∷ rs) t q w s (raise_on S x (record { act = r.act; tag = t })
            (record { raised = []; queue = q; next = t; world = r.at; stop = list_full })
            (λ q'. raise_all S activate rs (after t) q' w s))
        go rec full h = record { steps = none; stopped = λ k. omega arith; told = (map (λ (r : Raise W Act P). r.act) (r ∷ rs), refl, λ k. absurd (omega arith)); world = λ k. absurd (omega arith) }
        go rec (filed q₁) h =
            let k = rec q₁ in
            record {
              steps = one r refl h k.steps;
              stopped = k.stopped;
              told = (k.told.0, ap (λ (l : List Act). r.act ∷ l) k.told.1, k.told.2);
              world = k.world;
            }

  -- ---- a pass
  module _ {Q : Type 0} (next : Q → Took (Activation S) Q) (activate : Activation S → When → Activation S → Q → Filed Q) where
    -- from the stop s to the stop at the end; a unit after which there is no stop has run; what is told of each unit
    pub data Passes : Tag → Q → ℕ → List (Turn S) → Tag → Q → ℕ → Type 0 where
      broke : {t : Tag} {q : Q} {s s₁ : ℕ} → Passes t q s [] t q (suc s₁)
      done : {t : Tag} {q : Q} → next q ≡ empty → Passes t q 0 [] t q 0
      turn :
          {t t₁ t₂ : Tag} {q q₁ q₂ q₃ : Q} {s s₁ : ℕ} {u : Activation S} {w : W} {es : List (Activation S)} {b : Bool} {us : List (Turn S)} →
          next q ≡ took u q₁ →
          Raises (activate u) (body w u.act).raises t q₁ es t₁ q₂ →
          (s ≡ 0 → b ≡ true) →
          RanAsTold S (record { unit = u; from = w; raised = es; ran = b }) × RaisedAsTold S s (record { unit = u; from = w; raised = es; ran = b }) →
          Passes t₁ q₂ s us t₂ q₃ s₁ →
          Passes t q 0 (record { unit = u; from = w; raised = es; ran = b } ∷ us) t₂ q₃ s₁

    -- what a pass came to that might begin n units
    pub record DidPass (n : ℕ) (t : Tag) (q : Q) (s : ℕ) (k : Passed S Q) : Type 0 where
      pub steps : Passes t q s k.turns k.next k.queue k.stop
      pub units : length k.turns + k.left ≡ n

    pub pass_steps : (n : ℕ) (t : Tag) (q : Q) (w : W) (s : ℕ) → DidPass n t q s (pass S next activate n t q w s)
    unfolding pass
    pass_steps zero t q w zero = go (next q) refl
      where
        go : (x : Took (Activation S) Q) → next q ≡ x → DidPass 0 t q 0 (pass_on S x (no_turn S zero t q w 0) (λ u q'. no_turn S zero t q w list_full))
        go empty h = record { steps = done h; units = refl }
        go (took u q₁) h = record { steps = broke; units = refl }
    pass_steps zero t q w (suc s) = record { steps = broke; units = refl }
    pass_steps (suc n) t q w zero = go (λ t₁ q₁ w₁ s₁. pass_steps n t₁ q₁ w₁ s₁) (next q) refl
      where
        go :
            ((t₁ : Tag) (q₁ : Q) (w₁ : W) (s₁ : ℕ) → DidPass n t₁ q₁ s₁ (pass S next activate n t₁ q₁ w₁ s₁)) →
            (x : Took (Activation S) Q) →
            next q ≡ x →
            DidPass (suc n) t q 0 (pass_on S x (no_turn S (suc n) t q w 0) (λ u q'.
            let d = body w u.act in
            let k = raise_all S (activate u) d.raises t q' d.world d.stop in
            turning S u w k.raised (eqb d.stop 0) (pass S next activate n k.next k.queue k.world k.stop)))
        go rec empty h = record { steps = done h; units = omega arith }
        go rec (took u q₁) h =
            let d = body w u.act in
            let k = raise_all S (activate u) d.raises t q₁ d.world d.stop in
            let r = raise_steps (activate u) d.raises t q₁ d.world d.stop in
            let rest = rec k.next k.queue k.world k.stop in
            record { steps = turn h r.steps (λ z. eq-eqb _ _ (r.stopped z)) (refl, r.told) rest.steps; units = omega (arith, rest.units) }
    pass_steps (suc n) t q w (suc s) = record { steps = broke; units = omega arith }
