-- Leaving the identities out of a run gives the plain run: each step of the scheduler is the same with them and without.
use mathlib.Core.Path.{◌≡◌, refl, ap, ◌∙◌}
use mathlib.Core.List.{List, [], ◌∷◌, ◌++◌, map}
use mathlib.Core.Bool.{Bool, true, false, cond}
use Prim.Native.Nat.{ℕ, zero, suc}
use lib.ListN.{length, length-map}
use lib.Dec.{leb, ltb, eqb}
use Rattle.schedule.specs.Schedule.{Setup, plain, Raise, Outcome, most_units, most_waiting, most_delivered, list_full, Took, empty, took, Filed, full, filed, room, LateQ, MainQ, OpenQ, Place, to_late, to_delivered, to_pending, When, by_rank, put_off, Activation, rank_of, push, push_all, carries, activate_late, activate_main, activate_open, Raising, raising, raise_on, raise_all, Turn, Passed, turning, no_turn, pass_on, pass, next_late, next_late', late_pass, next_main, next_main', main_pass, Tick, acts, outcome, tick_of, tick, go_on, run_on, run}
use Rattle.schedule.specs.Erasure.{bare, bare_turn, bare_tick}

-- What is worked out of each element of two lists in a row.
pub map_append : {A B : Type 0} (f : A → B) (k l : List A) → map f (k ++ l) ≡ map f k ++ map f l
map_append f [] l = refl
map_append f (a ∷ k) l = rw (map_append f k l)

module _ (S : Setup) where
  open S use {Tag, after}
  open S.machine use {W, In, Act, rank, opening, body, closing}

  abbrev S₀ : Setup
  S₀ = plain S.machine

  abbrev E₀ : Type 0
  E₀ = Activation S₀

  abbrev E₁ : Type 0
  E₁ = Activation S

  abbrev b : E₁ → E₀
  b = bare S

  -- ---- the queues without identities
  abbrev bare_late : LateQ E₁ → LateQ E₀
  bare_late q = record { late = map b q.late; delivered = map b q.delivered }

  abbrev bare_main : MainQ E₁ → MainQ E₀
  bare_main q = record { pending = map b q.pending; carried = map b q.carried }

  abbrev bare_open : OpenQ E₁ → OpenQ E₀
  bare_open q = record { lateq = bare_late q.lateq; pending = map b q.pending }

  module _ {Q Q₀ : Type 0} (h : Q → Q₀) where
    abbrev bare_took : Took E₁ Q → Took E₀ Q₀
    bare_took empty = empty
    bare_took (took u q) = took (b u) (h q)

    abbrev bare_filed : Filed Q → Filed Q₀
    bare_filed full = full
    bare_filed (filed q) = filed (h q)

    abbrev bare_raising : Raising S Q → Raising S₀ Q₀
    bare_raising k = record { raised = map b k.raised; queue = h k.queue; next = tt; world = k.world; stop = k.stop }

    abbrev bare_passed : Passed S Q → Passed S₀ Q₀
    bare_passed k = record { turns = map (bare_turn S) k.turns; queue = h k.queue; next = tt; world = k.world; stop = k.stop; left = k.left }

    room_bare : (l : List E₁) (most : ℕ) (q : Q) → room (map b l) most (h q) ≡ bare_filed (room l most q)
    room_bare l most q = rw length-map (go (ltb (length l) most))
      where
        go : (t : Bool) → cond t (filed (h q)) full ≡ bare_filed (cond t (filed q) full)
        go true = refl
        go false = refl

    cond_bare : (t : Bool) (x y : Filed Q) {x₀ y₀ : Filed Q₀} → x₀ ≡ bare_filed x → y₀ ≡ bare_filed y → cond t x₀ y₀ ≡ bare_filed (cond t x y)
    cond_bare true x y i j = i
    cond_bare false x y i j = j

  -- ---- the lists
  push_bare : (e : E₁) (l : List E₁) → push S₀ (b e) (map b l) ≡ map b (push S e l)
  unfolding push
  push_bare e [] = refl
  push_bare e (x ∷ l) = go (leb (rank x.act) (rank e.act)) (push_bare e l)
    where
      go :
          (t : Bool) → push S₀ (b e) (map b l) ≡ map b (push S e l) →
          cond t (b x ∷ push S₀ (b e) (map b l)) (b e ∷ b x ∷ map b l) ≡ map b (cond t (x ∷ push S e l) (e ∷ x ∷ l))
      go true h = ap (λ (r : List E₀). b x ∷ r) h
      go false h = refl

  push_all_bare : (es l : List E₁) → push_all S₀ (map b es) (map b l) ≡ map b (push_all S es l)
  unfolding push_all
  push_all_bare [] l = refl
  push_all_bare (e ∷ es) l = ap (λ (r : List E₀). push_all S₀ (map b es) r) (push_bare e l) ∙ push_all_bare es (push S e l)

  -- ---- taking and putting
  next_late_bare : (q : LateQ E₁) → next_late S₀ (bare_late q) ≡ bare_took bare_late (next_late S q)
  unfolding next_late
  next_late_bare q = go q.late q.delivered
    where
      go : (l d : List E₁) → next_late' S₀ (map b l) (map b d) ≡ bare_took bare_late (next_late' S l d)
      go [] [] = refl
      go [] (e ∷ d) = refl
      go (e ∷ l) d = refl

  next_main_bare : (q : MainQ E₁) → next_main S₀ (bare_main q) ≡ bare_took bare_main (next_main S q)
  unfolding next_main
  next_main_bare q = go q.pending q.carried
    where
      go : (l c : List E₁) → next_main' S₀ (map b l) (map b c) ≡ bare_took bare_main (next_main' S l c)
      go [] c = refl
      go (e ∷ l) c = refl

  activate_late_bare : (u : E₁) (p : When) (e : E₁) (q : LateQ E₁) → activate_late S₀ (b u) p (b e) (bare_late q) ≡ bare_filed bare_late (activate_late S u p e q)
  unfolding activate_late
  activate_late_bare u p e q = rw (push_bare e q.late) (room_bare bare_late q.late most_waiting _)

  carries_bare : (n : ℕ) (p : When) (e : E₁) → carries S₀ n p (b e) ≡ carries S n p e
  unfolding carries
  carries_bare n by_rank e = refl
  carries_bare n put_off e = refl

  activate_main_bare : (u : E₁) (p : When) (e : E₁) (q : MainQ E₁) → activate_main S₀ (b u) p (b e) (bare_main q) ≡ bare_filed bare_main (activate_main S u p e q)
  unfolding activate_main
  activate_main_bare u p e q =
      rw (carries_bare (rank_of S u) p e) (cond_bare bare_main (carries S (rank_of S u) p e) _ _
      (rw (← map_append b q.carried (e ∷ [])) (room_bare bare_main q.carried most_waiting _))
      (rw (push_bare e q.pending) (room_bare bare_main q.pending most_waiting _)))

  activate_open_bare : (p : Place) (e : E₁) (q : OpenQ E₁) → activate_open S₀ p (b e) (bare_open q) ≡ bare_filed bare_open (activate_open S p e q)
  unfolding activate_open
  activate_open_bare to_late e q = rw (push_bare e q.lateq.late) (room_bare bare_open q.lateq.late most_waiting _)
  activate_open_bare to_delivered e q = rw (← map_append b q.lateq.delivered (e ∷ [])) (room_bare bare_open q.lateq.delivered most_delivered _)
  activate_open_bare to_pending e q = rw (push_bare e q.pending) (room_bare bare_open q.pending most_waiting _)

  -- ---- raising
  module _ {P Q Q₀ : Type 0} (h : Q → Q₀) (activate : P → E₁ → Q → Filed Q) (activate₀ : P → E₀ → Q₀ → Filed Q₀)
      (ha : (p : P) (e : E₁) (q : Q) → activate₀ p (b e) (h q) ≡ bare_filed h (activate p e q)) where
    raise_all_bare : (rs : List (Raise W Act P)) (t : Tag) (q : Q) (w : W) (s : ℕ) → raise_all S₀ activate₀ rs tt (h q) w s ≡ bare_raising h (raise_all S activate rs t q w s)
    unfolding raise_all
    raise_all_bare [] t q w s = refl
    raise_all_bare (r ∷ rs) t q w s =
        ap (λ (x : Filed Q₀). raise_on S₀ x e₀ z₀ k₀) (ha r.place e₁ q) ∙ go (λ q₁. raise_all_bare rs (after t) q₁ w s) (activate r.place e₁ q)
      where
        e₁ : E₁
        e₁ = record { act = r.act; tag = t }

        e₀ : E₀
        e₀ = record { act = r.act; tag = tt }

        z₀ : Raising S₀ Q₀
        z₀ = record { raised = []; queue = h q; next = tt; world = r.at; stop = list_full }

        k₀ : Q₀ → Raising S₀ Q₀
        k₀ q' = raise_all S₀ activate₀ rs tt q' w s

        go :
            ((q₁ : Q) → raise_all S₀ activate₀ rs tt (h q₁) w s ≡ bare_raising h (raise_all S activate rs (after t) q₁ w s)) →
            (x : Filed Q) →
            raise_on S₀ (bare_filed h x) e₀ z₀ k₀
            ≡ bare_raising h (raise_on S x e₁ (record { raised = []; queue = q; next = t; world = r.at; stop = list_full }) (λ q'. raise_all S activate rs (after t) q' w s))
        go rec full = refl
        go rec (filed q₁) = ap (raising S₀ e₀) (rec q₁)

  -- ---- a pass
  module _ {Q Q₀ : Type 0} (h : Q → Q₀)
      (next : Q → Took E₁ Q) (next₀ : Q₀ → Took E₀ Q₀) (hn : (q : Q) → next₀ (h q) ≡ bare_took h (next q))
      (activate : E₁ → When → E₁ → Q → Filed Q) (activate₀ : E₀ → When → E₀ → Q₀ → Filed Q₀)
      (ha : (u : E₁) (p : When) (e : E₁) (q : Q) → activate₀ (b u) p (b e) (h q) ≡ bare_filed h (activate u p e q)) where
    abbrev turn₀ : ℕ → W → Bool → E₀ → Raising S₀ Q₀ → Passed S₀ Q₀
    turn₀ n w ran u k = turning S₀ u w k.raised ran (pass S₀ next₀ activate₀ n k.next k.queue k.world k.stop)

    pass_bare : (n : ℕ) (t : Tag) (q : Q) (w : W) (s : ℕ) → pass S₀ next₀ activate₀ n tt (h q) w s ≡ bare_passed h (pass S next activate n t q w s)
    unfolding pass
    pass_bare zero t q w zero =
        ap (λ (x : Took E₀ Q₀). pass_on S₀ x (no_turn S₀ 0 tt (h q) w 0) (λ u q'. no_turn S₀ 0 tt (h q) w list_full)) (hn q) ∙ go (next q)
      where
        go :
            (x : Took E₁ Q) →
            pass_on S₀ (bare_took h x) (no_turn S₀ 0 tt (h q) w 0) (λ u q'. no_turn S₀ 0 tt (h q) w list_full)
            ≡ bare_passed h (pass_on S x (no_turn S 0 t q w 0) (λ u q'. no_turn S 0 t q w list_full))
        go empty = refl
        go (took u q₁) = refl
    pass_bare zero t q w (suc s) = refl
    pass_bare (suc n) t q w zero =
        ap (λ (x : Took E₀ Q₀). pass_on S₀ x (no_turn S₀ (suc n) tt (h q) w 0) k₀) (hn q) ∙ go (λ t₁ q₁ w₁ s₁. pass_bare n t₁ q₁ w₁ s₁) (next q)
      where
        k₀ : E₀ → Q₀ → Passed S₀ Q₀
        k₀ u q' = let d = body w u.act in turn₀ n w (eqb d.stop 0) u (raise_all S₀ (activate₀ u) d.raises tt q' d.world d.stop)

        k₁ : E₁ → Q → Passed S Q
        k₁ u q' =
            let d = body w u.act in
            let k = raise_all S (activate u) d.raises t q' d.world d.stop in
            turning S u w k.raised (eqb d.stop 0) (pass S next activate n k.next k.queue k.world k.stop)

        go :
            ((t₁ : Tag) (q₁ : Q) (w₁ : W) (s₁ : ℕ) → pass S₀ next₀ activate₀ n tt (h q₁) w₁ s₁ ≡ bare_passed h (pass S next activate n t₁ q₁ w₁ s₁)) →
            (x : Took E₁ Q) →
            pass_on S₀ (bare_took h x) (no_turn S₀ (suc n) tt (h q) w 0) k₀
            ≡ bare_passed h (pass_on S x (no_turn S (suc n) t q w 0) k₁)
        go rec empty = refl
        go rec (took u q₁) =
            let d = body w u.act in
            let k = raise_all S (activate u) d.raises t q₁ d.world d.stop in
            ap (turn₀ n w (eqb d.stop 0) (b u)) (raise_all_bare h (activate u) (activate₀ (b u)) (ha u) d.raises t q₁ d.world d.stop)
            ∙ ap (turning S₀ (b u) w (map b k.raised) (eqb d.stop 0)) (rec k.next k.queue k.world k.stop)
    pass_bare (suc n) t q w (suc s) = refl

  late_pass_bare : (n : ℕ) (t : Tag) (q : LateQ E₁) (w : W) (s : ℕ) → late_pass S₀ n tt (bare_late q) w s ≡ bare_passed bare_late (late_pass S n t q w s)
  unfolding late_pass
  late_pass_bare = pass_bare bare_late (next_late S) (next_late S₀) next_late_bare (activate_late S) (activate_late S₀) activate_late_bare

  main_pass_bare : (n : ℕ) (t : Tag) (q : MainQ E₁) (w : W) (s : ℕ) → main_pass S₀ n tt (bare_main q) w s ≡ bare_passed bare_main (main_pass S n t q w s)
  unfolding main_pass
  main_pass_bare = pass_bare bare_main (next_main S) (next_main S₀) next_main_bare (activate_main S) (activate_main S₀) activate_main_bare

  -- ---- a tick
  acts_bare : (us : List (Turn S)) → acts S₀ (map (bare_turn S) us) ≡ acts S us
  acts_bare [] = refl
  acts_bare (u ∷ us) = ap (λ (l : List Act). u.unit.act ∷ l) (acts_bare us)

  carried_bare : (es : List E₁) → map (λ (e : E₀). e.act) (map b es) ≡ map (λ (e : E₁). e.act) es
  carried_bare [] = refl
  carried_bare (e ∷ es) = ap (λ (l : List Act). e.act ∷ l) (carried_bare es)

  outcome_bare : (l m : List (Turn S)) (c : List E₁) (s : ℕ) → outcome S₀ (map (bare_turn S) l) (map (bare_turn S) m) (map b c) s ≡ outcome S l m c s
  outcome_bare l m c s = λ j. record { late = acts_bare l j; main = acts_bare m j; carried = carried_bare c j; stop = s }

  abbrev open₀ : W → In → List E₀ → Raising S₀ (OpenQ E₀)
  open₀ w i came =
      let d = opening w i in
      raise_all S₀ (activate_open S₀) d.raises tt (record { lateq = record { late = came; delivered = [] }; pending = [] }) d.world d.stop

  abbrev late₀ : Raising S₀ (OpenQ E₀) → Passed S₀ (LateQ E₀)
  late₀ o = late_pass S₀ most_units o.next o.queue.lateq o.world o.stop

  abbrev main₀ : Raising S₀ (OpenQ E₀) → Passed S₀ (LateQ E₀) → Passed S₀ (MainQ E₀)
  main₀ o l = main_pass S₀ l.left l.next (record { pending = o.queue.pending; carried = [] }) l.world l.stop

  abbrev outcome₀ : Passed S₀ (LateQ E₀) → Passed S₀ (MainQ E₀) → Outcome Act
  outcome₀ l m = outcome S₀ l.turns m.turns m.queue.carried m.stop

  abbrev end₀ : In → List E₀ → Raising S₀ (OpenQ E₀) → Passed S₀ (LateQ E₀) → Passed S₀ (MainQ E₀) → Outcome Act → Tick S₀
  end₀ i c o l m r = tick_of S₀ i c tt o.raised l.turns m r

  -- a tick from its parts, each of which is another
  end_is :
      (i : In) (c : List E₀) (o o₁ : Raising S₀ (OpenQ E₀)) (l₁ : Passed S₀ (LateQ E₀)) (m₁ : Passed S₀ (MainQ E₀)) (r : Outcome Act) →
      o ≡ o₁ → late₀ o₁ ≡ l₁ → main₀ o₁ l₁ ≡ m₁ → outcome₀ l₁ m₁ ≡ r →
      end₀ i c o (late₀ o) (main₀ o (late₀ o)) (outcome₀ (late₀ o) (main₀ o (late₀ o))) ≡ end₀ i c o₁ l₁ m₁ r
  end_is i c o o₁ l₁ m₁ r eo el em er =
      ap (λ (o : Raising S₀ (OpenQ E₀)). end₀ i c o (late₀ o) (main₀ o (late₀ o)) (outcome₀ (late₀ o) (main₀ o (late₀ o)))) eo
      ∙ ap (λ (l : Passed S₀ (LateQ E₀)). end₀ i c o₁ l (main₀ o₁ l) (outcome₀ l (main₀ o₁ l))) el
      ∙ ap (λ (m : Passed S₀ (MainQ E₀)). end₀ i c o₁ l₁ m (outcome₀ l₁ m)) em
      ∙ ap (end₀ i c o₁ l₁ m₁) er

  tick_bare : (w : W) (i : In) (c : List E₁) (t : Tag) → tick S₀ w i (map b c) tt ≡ bare_tick S (tick S w i c t)
  unfolding tick
  tick_bare w i c t =
      let d = opening w i in
      let o = raise_all S (activate_open S) d.raises t (record { lateq = record { late = push_all S c []; delivered = [] }; pending = [] }) d.world d.stop in
      let l = late_pass S most_units o.next o.queue.lateq o.world o.stop in
      let m = main_pass S l.left l.next (record { pending = o.queue.pending; carried = [] }) l.world l.stop in
      end_is i (map b c) _ (bare_raising bare_open o) (bare_passed bare_late l) (bare_passed bare_main m) (outcome S l.turns m.turns m.queue.carried m.stop)
      (ap (open₀ w i) (push_all_bare c []) ∙ raise_all_bare bare_open (activate_open S) (activate_open S₀) activate_open_bare d.raises t _ d.world d.stop)
      (late_pass_bare most_units o.next o.queue.lateq o.world o.stop)
      (main_pass_bare l.left l.next (record { pending = o.queue.pending; carried = [] }) l.world l.stop)
      (outcome_bare l.turns m.turns m.queue.carried m.stop)

  -- ---- a run
  abbrev then₀ : List In → Tick S₀ → List (Tick S₀)
  then₀ is k = k ∷ go_on S₀ k.stop (run_on S₀ is k.world k.carried k.next)

  run_on_bare : (is : List In) (w : W) (c : List E₁) (t : Tag) → run_on S₀ is w (map b c) tt ≡ map (bare_tick S) (run_on S is w c t)
  unfolding run_on
  run_on_bare [] w c t = refl
  run_on_bare (i ∷ is) w c t =
      let k = tick S w i c t in
      ap (then₀ is) (tick_bare w i c t) ∙ ap (λ (r : List (Tick S₀)). bare_tick S k ∷ r) (go k.stop _ _ (run_on_bare is k.world k.carried k.next))
    where
      go : (s : ℕ) (r₀ : List (Tick S₀)) (r : List (Tick S)) → r₀ ≡ map (bare_tick S) r → go_on S₀ s r₀ ≡ map (bare_tick S) (go_on S s r)
      go zero r₀ r h = h
      go (suc s) r₀ r h = refl

  -- the plain run is the run with identities, the identities left out
  pub erasure : (is : List In) (w : W) → run (plain S.machine) is w ≡ map (bare_tick S) (run S is w)
  unfolding run
  erasure is w = run_on_bare is w [] S.first
