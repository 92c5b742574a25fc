-- The area at the start of a run: the tables are cleared, and each Queue gets the part of its number, with no records.
use Prim.Native.Nat.{ℕ, zero, suc, ◌+◌, ◌*◌, ◌≤◌, ◌<◌}
use mathlib.Core.Path.{◌≡◌, refl, sym, ap, ap₂, ◌∙◌, subst}
use mathlib.Core.Bool.{Bool, true, false}
use mathlib.Core.List.{List, [], ◌∷◌, ◌++◌, map}
use native.Mathlib.Omega.{arith}
use native.Mathlib.Numerals.{add-one}
use borrow.Author.Tests.{eqb-true, eqb-false, le-leb, lt-leb}
use lib.Dec.{T, leb, eqb}
use lib.ListN.{length, get_or, set, drop, replicate, length-set}
use lib.Seq.{get_or-take, get_or-drop, get_or-set_same, get_or-set_other, drop-set-lt}
use Rattle.words.specs.Words.{words, tail, Stored}
use Rattle.words.proofs.Laws.{words_long}
use Rattle.model.specs.Base.{if◌then◌otherwise◌, from}
use Rattle.model.specs.Circuit.{Circuit, part, kind_of_gate, gates}
use Rattle.model.specs.Questions.{queues}
use Rattle.model.specs.State.{Queued, idle}
use Rattle.delays.specs.States.{under_way, ring}
use Rattle.queue.specs.Queue.{records}
use Rattle.queue.proofs.Laws.{records_none}
use Rattle.states.specs.View.{slot_at, changed_at, queue_at, flight_in, later_in, fires_in, delay_of, is_queue, number, records_at, delay_at, delays, Lent}
use Rattle.states.proofs.Lists.{drop_behind}
use Rattle.model.specs.Questions.{within}
use Rattle.queues.specs.Start.{Cleared, given, next_part, Numbered}
use Rattle.queues.proofs.Numbers.{number_below, number_rises, number_first, number_next, number_most, queue_there}

-- ---- clearing

pub cleared_first : (ws : List ℕ) → Cleared 0 ws ws
cleared_first ws = record { zero = λ i h. absurd (omega arith); behind = refl }

pub cleared_next : (k : ℕ) (ws bs to : List ℕ) → queue_at 0 * 8 ≤ length bs → k < queue_at 0 → Cleared k ws (words bs) → to ≡ set (words bs) k 0 → Cleared (k + 1) ws to
cleared_next k ws bs to l h c e =
    record {
      zero = λ i u. ap (λ (t : List ℕ). get_or t i 0) e ∙ go i u (eqb i k) refl;
      behind = ap (drop (queue_at 0)) e ∙ drop-set-lt (queue_at 0) (words bs) k 0 h ∙ c.behind;
    }
  where
    go : (i : ℕ) → i < k + 1 → (b : Bool) → eqb i k ≡ b → get_or (set (words bs) k 0) i 0 ≡ 0
    go i u true q =
        let z : i ≡ k = eqb-true i k q in
        ap (λ (j : ℕ). get_or (set (words bs) k 0) j 0) z ∙ get_or-set_same (words bs) k 0 0 (omega (arith, words_long (queue_at 0) bs l))
    go i u false q = let z : (i ≡ k → ⊥) = eqb-false i k q in get_or-set_other (words bs) k i 0 0 z ∙ c.zero i (omega (arith, z))

pub cleared_last : (k : ℕ) (ws to : List ℕ) → queue_at 0 ≤ k → Cleared k ws to → Cleared (queue_at 0) ws to
cleared_last k ws to h c = record { zero = λ i u. c.zero i (omega arith); behind = c.behind }

-- ---- a gate gets its part

-- which gates are Queues
below_queues : (c : Circuit) (g k : ℕ) → k ≡ kind_of_gate c g → k < 16 → is_queue c g ≡ false
unfolding is_queue within
below_queues c g k e h = rw (← e, lt-leb 16 k h)

above_queues : (c : Circuit) (g k : ℕ) → k ≡ kind_of_gate c g → 17 < k → is_queue c g ≡ false
unfolding is_queue within
above_queues c g k e h = rw (← e, le-leb 16 k (omega arith), lt-leb k 17 h)

at_queue : (c : Circuit) (g k : ℕ) → k ≡ kind_of_gate c g → 16 ≤ k → k ≤ 17 → is_queue c g ≡ true
unfolding is_queue within
at_queue c g k e h u = rw (← e, le-leb 16 k h, le-leb k 17 u)

-- what a step ensures
abbrev pub Gave : Circuit → ℕ → ℕ → List ℕ → List ℕ → ℕ → Type 0
Gave c g n bs ds r = (words ds ≡ given c g n (words bs)) × (tail ds ≡ tail bs) × (r ≡ next_part c g n)

none_given : (c : Circuit) (g n : ℕ) (bs : List ℕ) → is_queue c g ≡ false → Gave c g n bs bs n
unfolding given next_part if◌then◌otherwise◌
none_given c g n bs e = rw e (refl, refl, refl)

pub given_below : (c : Circuit) (g n k : ℕ) (bs : List ℕ) → k ≡ kind_of_gate c g → k < 16 → Gave c g n bs bs n
given_below c g n k bs e h = none_given c g n bs (below_queues c g k e h)

pub given_above : (c : Circuit) (g n k : ℕ) (bs : List ℕ) → k ≡ kind_of_gate c g → 17 < k → Gave c g n bs bs n
given_above c g n k bs e h = none_given c g n bs (above_queues c g k e h)

pub given_part : (c : Circuit) (g n k : ℕ) (bs ds es : List ℕ) → k ≡ kind_of_gate c g → 16 ≤ k → k ≤ 17 → Stored bs ds g n → Stored ds es (queue_at n + 1) 0 → Gave c g n bs es (n + 1)
unfolding given next_part if◌then◌otherwise◌
given_part c g n k bs ds es e h u s t =
    rw (at_queue c g k e h u) (t.words ∙ ap (λ (w : List ℕ). set w (queue_at n + 1) 0) s.words, t.tail ∙ s.tail, refl)

-- ---- all gates get theirs

pub numbered_first : (c : Circuit) (ws : List ℕ) → Numbered c 0 ws ws
numbered_first c ws = record { slots = λ i h u. refl; parts = λ g h q. absurd (omega arith); counts = λ g h q. absurd (omega arith); rest = refl }

module _ (c : Circuit) (g : ℕ) (bs ws : List ℕ) (l : queue_at (queues c) * 8 ≤ length bs) (h : g < length c.kinds) (m : length c.kinds ≤ 64) (k : Numbered c g ws (words bs)) where
  long : queue_at (queues c) ≤ length (words bs)
  long = words_long (queue_at (queues c)) bs l

  -- a gate that is no Queue
  other_numbered : is_queue c g ≡ false → Numbered c (g + 1) ws (words bs)
  other_numbered e =
      record {
        slots = k.slots;
        parts = λ i u q. k.parts i (less i u q) q;
        counts = λ i u q. k.counts i (less i u q) q;
        rest = k.rest;
      }
    where
      less : (i : ℕ) → i < g + 1 → is_queue c i ≡ true → i < g
      less i u q = go (eqb i g) refl
        where
          go : (b : Bool) → eqb i g ≡ b → i < g
          go true z = absurd (subst T (sym q ∙ ap (is_queue c) (eqb-true i g z) ∙ e) tt)
          go false z = let d : (i ≡ g → ⊥) = eqb-false i g z in omega arith

  -- a Queue
  queue_numbered : is_queue c g ≡ true → Numbered c (g + 1) ws (set (set (words bs) g (number c g)) (queue_at (number c g) + 1) 0)
  queue_numbered e =
      let N = number c g in
      let below : N < queues c = number_below c g e in
      record {
        slots = λ i u v.
            get_or-set_other (set (words bs) g N) (queue_at N + 1) i 0 0 (λ z. omega arith) ∙ get_or-set_other (words bs) g i N 0 (λ z. omega arith) ∙ k.slots i u v;
        parts = λ i u q. get_or-set_other (set (words bs) g N) (queue_at N + 1) i 0 0 (λ z. omega arith) ∙ own i u q (eqb i g) refl;
        counts = λ i u q. count i u q (eqb i g) refl;
        rest =
            drop-set-lt (queue_at (queues c)) (set (words bs) g N) (queue_at N + 1) 0 (omega arith) ∙ drop-set-lt (queue_at (queues c)) (words bs) g N (omega arith) ∙ k.rest;
      }
    where
      own : (i : ℕ) → i < g + 1 → is_queue c i ≡ true → (b : Bool) → eqb i g ≡ b → get_or (set (words bs) g (number c g)) i 0 ≡ number c i
      own i u q true z =
          let d : i ≡ g = eqb-true i g z in
          ap (λ (j : ℕ). get_or (set (words bs) g (number c g)) j 0) d ∙ get_or-set_same (words bs) g (number c g) 0 (omega (arith, long)) ∙ ap (number c) (sym d)
      own i u q false z = let d : (i ≡ g → ⊥) = eqb-false i g z in get_or-set_other (words bs) g i (number c g) 0 d ∙ k.parts i (omega arith) q

      count : (i : ℕ) → i < g + 1 → is_queue c i ≡ true → (b : Bool) → eqb i g ≡ b → get_or (set (set (words bs) g (number c g)) (queue_at (number c g) + 1) 0) (queue_at (number c i) + 1) 0 ≡ 0
      count i u q true z =
          let d : i ≡ g = eqb-true i g z in
          ap (λ (j : ℕ). get_or (set (set (words bs) g (number c g)) (queue_at (number c g) + 1) 0) (queue_at (number c j) + 1) 0) d
          ∙ get_or-set_same (set (words bs) g (number c g)) (queue_at (number c g) + 1) 0 0 (omega (arith, long, number_below c g e, length-set (words bs) g (number c g)))
      count i u q false z =
          let d : (i ≡ g → ⊥) = eqb-false i g z in
          let v : i < g = omega arith in
          get_or-set_other (set (words bs) g (number c g)) (queue_at (number c g) + 1) (queue_at (number c i) + 1) 0 0 (λ z. omega (arith, number_rises c i g v q))
          ∙ get_or-set_other (words bs) g (queue_at (number c i) + 1) (number c g) 0 (λ z. omega arith) ∙ k.counts i v q

  pub numbered_next : (n : ℕ) (to : List ℕ) → n ≡ number c g → to ≡ given c g n (words bs) → Numbered c (g + 1) ws to
  unfolding given if◌then◌otherwise◌
  numbered_next n to en et = go (is_queue c g) refl
    where
      go : (b : Bool) → is_queue c g ≡ b → Numbered c (g + 1) ws to
      go true e =
          let q : to ≡ set (set (words bs) g (number c g)) (queue_at (number c g) + 1) 0 = et ∙ rw (e, en) in
          subst (Numbered c (g + 1) ws) (sym q) (queue_numbered e)
      go false e = let q : to ≡ words bs = et ∙ rw e in subst (Numbered c (g + 1) ws) (sym q) (other_numbered e)

-- the running number
pub running_first : (c : Circuit) → 0 ≡ number c 0
running_first c = sym (number_first c)

pub running_next : (c : Circuit) (g n r : ℕ) → g < length c.kinds → n ≡ number c g → r ≡ next_part c g n → r ≡ number c (g + 1)
unfolding next_part
running_next c g n r h en er =
    er ∙ ap (λ (i : ℕ). if is_queue c g then i otherwise n) (add-one n) ∙ ap (λ (i : ℕ). if is_queue c g then suc i otherwise i) en ∙ sym (number_next c g h) ∙ ap (number c) (sym (add-one g))

-- ---- what the area then holds

-- a list by its numbers that all give the same
from_replicate : {A : Type 0} (f : ℕ → A) (a n : ℕ) (x : A) → ((j : ℕ) → a ≤ j → j < a + n → f j ≡ x) → map f (from a n) ≡ replicate n x
unfolding from
from_replicate f a zero x h = refl
from_replicate {A} f a (suc n) x h =
    ap₂ (λ (y : A) (r : List A). y ∷ r) (h a (omega arith) (omega arith)) (from_replicate f (suc a) n x (λ j u v. h j (omega arith) (omega arith)))

-- a word of a part
part_word : (ws : List ℕ) (k n i : ℕ) → i < n → get_or (part ws k n) i 0 ≡ get_or ws (k + i) 0
unfolding part
part_word ws k n i h = get_or-take n (drop k ws) i 0 h ∙ get_or-drop k ws i 0

-- a slot of zeros
idle_slot : (s : Bool) (ws : List ℕ) (qs : List Queued) → get_or ws 0 0 ≡ 0 → get_or ws 1 0 ≡ 0 → get_or ws 2 0 ≡ 0 → get_or ws 6 0 ≡ 0 → get_or ws 10 0 ≡ 0 → qs ≡ [] → delay_of s ws qs ≡ idle
unfolding delay_of flight_in later_in fires_in under_way ring idle if◌then◌otherwise◌
idle_slot s ws qs e₀ e₁ e₂ e₆ e₁₀ eq = rw (e₀, e₁, e₂, e₆, e₁₀, eq)

module _ (c : Circuit) (bs ds es : List ℕ) (l : queue_at (queues c) * 8 ≤ length bs) (e : length es ≡ length bs) (m : length c.kinds ≤ 64) (z : Cleared (queue_at 0) (words bs) (words ds))
    (k : Numbered c (length c.kinds) (words ds) (words es)) where
  no_records : (h : ℕ) → h < length c.kinds → records_at c (words es) h ≡ []
  unfolding records_at if◌then◌otherwise◌
  no_records h u = go (is_queue c h) refl
    where
      go : (b : Bool) → is_queue c h ≡ b → (if b then records (eqb (kind_of_gate c h) 17) (part (words es) (queue_at (get_or (words es) h 0)) 4354) otherwise []) ≡ []
      go true q =
          ap (λ (i : ℕ). records (eqb (kind_of_gate c h) 17) (part (words es) (queue_at i) 4354)) (k.parts h u q)
          ∙ records_none (eqb (kind_of_gate c h) 17) (part (words es) (queue_at (number c h)) 4354) (part_word (words es) (queue_at (number c h)) 4354 1 (omega arith) ∙ k.counts h u q)
      go false q = refl

  idle_at : (h : ℕ) → h < length c.kinds → delay_at c (words es) h ≡ idle
  unfolding delay_at
  idle_at h u =
      let w : (i : ℕ) → i < 43 → get_or (part (words es) (slot_at h) 43) i 0 ≡ 0 = λ i v. part_word (words es) (slot_at h) 43 i v ∙ k.slots (slot_at h + i) (omega arith) (omega arith) ∙ z.zero (slot_at h + i) (omega arith) in
      idle_slot (leb 12 (kind_of_gate c h)) (part (words es) (slot_at h) 43) (records_at c (words es) h) (w 0 (omega arith)) (w 1 (omega arith)) (w 2 (omega arith)) (w 6 (omega arith)) (w 10 (omega arith)) (no_records h u)

  lent_start : Lent c es
  unfolding delays
  lent_start =
      record {
        room = omega arith;
        parted = λ g q. let u : g < length c.kinds = queue_there c g q in get_or-take 64 (words es) g 0 (omega arith) ∙ k.parts g u q;
      }

  pub started : tail ds ≡ tail bs → tail es ≡ tail ds
      → ((delays c es).delays ≡ replicate (length c.kinds) idle) × ((delays c es).changed ≡ 0) × ((delays c es).rest ≡ (delays c bs).rest) × Lent c es
  unfolding delays gates
  started t₁ t₂ = (
    from_replicate (delay_at c (words es)) 0 (length c.kinds) idle (λ j u v. idle_at j (omega arith)),
    k.slots changed_at (omega arith) (omega arith) ∙ z.zero changed_at (omega arith),
    ap₂ (λ (r t : List ℕ). r ++ t) (k.rest ∙ drop_behind (queue_at 0) (queue_at (queues c)) (words bs) (words ds) (omega arith) z.behind) (t₂ ∙ t₁),
    lent_start,
  )

-- ---- the loop over the gates

-- the next Queue's part, before gate g
pub running_small : (c : Circuit) (n g m : ℕ) → (m ≡ length c.kinds) × (m ≤ 64) → n ≡ number c g → g < m → n ≤ 64
running_small c n g m em en h = omega (arith, em.1, number_most c g)

pub give_next :
    (c : Circuit) (n g m r : ℕ) (bs ds : List ℕ) (ws : List ℕ) → queue_at (queues c) * 8 ≤ length bs → (m ≡ length c.kinds) × (m ≤ 64) → n ≡ number c g →
    Numbered c g ws (words bs) → g < m → Gave c g n bs ds r → (r ≡ number c (g + 1)) × Numbered c (g + 1) ws (words ds)
give_next c n g m r bs ds ws l em en k h q =
    (running_next c g n r (omega (arith, em.0)) en q.2, numbered_next c g bs ws l (omega (arith, em.0)) (omega (arith, em.0)) k n (words ds) en q.0)

pub give_last : (c : Circuit) (g m : ℕ) (ws to : List ℕ) → (m ≡ length c.kinds) × (m ≤ 64) → m ≤ g → g ≤ m → Numbered c g ws to → Numbered c (length c.kinds) ws to
give_last c g m ws to em h u k = let e : g ≡ length c.kinds = omega (arith, em.0) in subst (λ (i : ℕ). Numbered c i ws to) e k
