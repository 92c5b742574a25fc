-- What opening, body and closing keep holds wherever a unit begins, and after each tick, of a whole run; what holds when a tick has opened and is kept by body, up to its closing.
-- A fact may go by how many units may still begin, where each unit uses up one.
use mathlib.Core.Path.{◌≡◌, refl, sym, subst}
use mathlib.Core.List.{List, [], ◌∷◌}
use Prim.Native.Nat.{ℕ, zero, suc}
use lib.Dec.{eqb}
use Rattle.schedule.specs.Schedule.{Raise, When, Outcome, Setup, Took, empty, took, Filed, full, filed, Activation, raise_on, raise_all, Turn, Passed, turning, no_turn, pass_on, pass, push_all, activate_open, next_late, activate_late, next_main, activate_main, most_units, MainQ, OpenQ, late_pass, main_pass, outcome, Tick, tick, go_on, run_on, run, list_full}
use Rattle.schedule.specs.Promise.{All, [·], ◌∷·◌}
use Rattle.schedule.specs.Keeping.{DidKeep, TickKeeps}

module _ (S : Setup) where
  open S use {Tag, after}
  open S.machine use {W, In, Act, opening as opens, body as runs, closing as closes}

  -- B holds wherever a unit of a pass began, and P in the world after it, by the units that may still begin
  pub record PassKeeps {Q : Type 0} (B : W → Type 0) (P : ℕ → W → Type 0) (k : Passed S Q) : Type 0 where
    pub turns : All (λ (u : Turn S). B u.from) k.turns
    pub world : P k.left k.world

  -- B holds wherever a unit of the tick k began, and P in the world before it was closed, by the units that might still have begun
  pub record TickCloses (B : W → Type 0) (P : ℕ → W → Type 0) (i : In) (k : Tick S) : Type 0 where
    pub late : All (λ (u : Turn S). B u.from) k.late
    pub main : All (λ (u : Turn S). B u.from) k.main
    pub before : W
    pub left : ℕ
    pub holds : P left before
    pub done : Outcome Act
    pub world : k.world ≡ (closes before i done).world

  -- what was raised in worlds that keep it
  module _ (P : W → Type 0) where
    pub raise_all_keeps :
        {Pl Q : Type 0} (activate : Pl → Activation S → Q → Filed Q) (rs : List (Raise W Act Pl)) (t : Tag) (q : Q) (w : W) (s : ℕ) →
        P w → All (λ r. P r.at) rs → P (raise_all S activate rs t q w s).world
    unfolding raise_all
    raise_all_keeps activate [] t q w s p a = p
    raise_all_keeps activate (r ∷ rs) t q w s p (◌∷·◌ h a) =
        go (activate r.place (record { act = r.act; tag = t }) q) (λ q₁. raise_all_keeps activate rs (after t) q₁ w s p a)
      where
        go :
            (x : Filed _) → ((q₁ : _) → P (raise_all S activate rs (after t) q₁ w s).world) →
            P (raise_on S x (record { act = r.act; tag = t })
            (record { raised = []; queue = q; next = t; world = r.at; stop = list_full })
            (λ q₁. raise_all S activate rs (after t) q₁ w s)).world
        go full rec = h
        go (filed q₁) rec = rec q₁

  -- P n holds while n units may still begin, each of which uses up one; B is what it says where one begins
  module _ (B : W → Type 0) (P : ℕ → W → Type 0) (begun : (n : ℕ) (w : W) → P (suc n) w → B w)
      (ran : (n : ℕ) (w : W) (a : Act) → P (suc n) w → DidKeep (P n) (runs w a)) where
    module _ {Q : Type 0} (next : Q → Took (Activation S) Q) (activate : Activation S → When → Activation S → Q → Filed Q) where
      -- one unit, and the pass after it
      turn : ℕ → Tag → W → Activation S → Q → Passed S Q
      turn n t w u q =
          let d = runs w u.act in
          let k = raise_all S (activate u) d.raises t q d.world d.stop in
          turning S u w k.raised (eqb d.stop 0) (pass S next activate n k.next k.queue k.world k.stop)

      pass_keeps : (n : ℕ) (t : Tag) (q : Q) (w : W) (s : ℕ) → P n w → PassKeeps B P (pass S next activate n t q w s)
      unfolding pass turn
      pass_keeps zero t q w zero p = go (next q)
        where
          go : (x : Took (Activation S) Q) → PassKeeps B P (pass_on S x (no_turn S zero t q w 0) (λ u q'. no_turn S zero t q w list_full))
          go empty = record { turns = [·]; world = p }
          go (took u q') = record { turns = [·]; world = p }
      pass_keeps zero t q w (suc s) p = record { turns = [·]; world = p }
      pass_keeps (suc n) t q w zero p = go (next q) (λ t₁ q₁ w₁ s₁ p₁. pass_keeps n t₁ q₁ w₁ s₁ p₁)
        where
          go :
              (x : Took (Activation S) Q) →
              ((t₁ : Tag) (q₁ : Q) (w₁ : W) (s₁ : ℕ) → P n w₁ → PassKeeps B P (pass S next activate n t₁ q₁ w₁ s₁)) →
              PassKeeps B P (pass_on S x (no_turn S (suc n) t q w 0) (turn n t w))
          go empty rec = record { turns = [·]; world = p }
          go (took u q') rec =
              let d = ran n w u.act p in
              let r = rec _ _ _ _ (raise_all_keeps (P n) (activate u) _ t q' _ _ d.world d.raises) in
              record { turns = ◌∷·◌ (begun n w p) r.turns; world = r.world }
      pass_keeps (suc n) t q w (suc s) p = record { turns = [·]; world = p }

    -- from the moment on at which a tick has opened
    pub tick_spends : (w : W) (i : In) (came : List (Activation S)) (t : Tag) → DidKeep (P most_units) (opens w i) → TickCloses B P i (tick S w i came t)
    unfolding tick late_pass main_pass
    tick_spends w i came t h =
        let d = opens w i in
        let q₀ : OpenQ (Activation S) = record { lateq = record { late = push_all S came []; delivered = [] }; pending = [] } in
        let o = raise_all S (activate_open S) d.raises t q₀ d.world d.stop in
        let a = raise_all_keeps (P most_units) (activate_open S) d.raises t q₀ d.world d.stop h.world h.raises in
        let l = pass S (next_late S) (activate_late S) most_units o.next o.queue.lateq o.world o.stop in
        let b = pass_keeps (next_late S) (activate_late S) most_units o.next o.queue.lateq o.world o.stop a in
        let q : MainQ (Activation S) = record { pending = o.queue.pending; carried = [] } in
        let m = pass S (next_main S) (activate_main S) l.left l.next q l.world l.stop in
        let e = pass_keeps (next_main S) (activate_main S) l.left l.next q l.world l.stop b.world in
        record {
          late = b.turns;
          main = e.turns;
          before = m.world;
          left = m.left;
          holds = e.world;
          done = outcome S l.turns m.turns m.queue.carried m.stop;
          world = refl;
        }

  -- what holds when a tick has opened, and is kept by body
  module _ (P : W → Type 0) (ran : (w : W) (a : Act) → P w → DidKeep P (runs w a)) where
    pub tick_closes : (w : W) (i : In) (came : List (Activation S)) (t : Tag) → DidKeep P (opens w i) → TickCloses P (λ _. P) i (tick S w i came t)
    tick_closes = tick_spends P (λ _. P) (λ _ _ p. p) (λ _. ran)

    -- and by closing
    module _ (closed : (w : W) (i : In) (o : Outcome Act) → P w → P (closes w i o).world) where
      pub tick_keeps : (w : W) (i : In) (came : List (Activation S)) (t : Tag) → DidKeep P (opens w i) → TickKeeps S P (tick S w i came t)
      tick_keeps w i came t o =
          let h = tick_closes w i came t o in
          record { late = h.late; main = h.main; world = subst P (sym h.world) (closed h.before i h.done h.holds) }

  -- and by opening, of a run
  module _ (P : W → Type 0) (opened : (w : W) (i : In) → P w → DidKeep P (opens w i)) (ran : (w : W) (a : Act) → P w → DidKeep P (runs w a))
      (closed : (w : W) (i : In) (o : Outcome Act) → P w → P (closes w i o).world) where
    run_on_keeps : (is : List In) (w : W) (came : List (Activation S)) (t : Tag) → P w → All (TickKeeps S P) (run_on S is w came t)
    unfolding run_on
    run_on_keeps [] w came t p = [·]
    run_on_keeps (i ∷ is) w came t p =
        let k = tick S w i came t in
        let h = tick_keeps P ran closed w i came t (opened w i p) in
        ◌∷·◌ h (go k.stop (run_on_keeps is k.world k.carried k.next h.world))
      where
        go : (s : ℕ) {ts : List (Tick S)} → All (TickKeeps S P) ts → All (TickKeeps S P) (go_on S s ts)
        go zero a = a
        go (suc s) a = [·]

    pub run_keeps : (is : List In) (w : W) → P w → All (TickKeeps S P) (run S is w)
    unfolding run
    run_keeps is w p = run_on_keeps is w [] _ p
