-- What the proofs of `next_tick` and `start` cite.
use Prim.Native.Nat.{ℕ, zero, suc, ◌+◌, ◌≤◌, ◌<◌, min}
use mathlib.Core.Path.{◌≡◌, refl, sym, ap, subst, ◌∙◌}
use mathlib.Core.Bool.{Bool, true, false, not, cond}
use mathlib.Core.List.{List, [], ◌∷◌, ◌++◌, map, reverse}
use native.Mathlib.Omega.{arith}
use native.Mathlib.Numerals.{add-one}
use borrow.Author.Tests.{lt-ltb, ne_eqb}
use lib.Dec.{leb, ltb}
use lib.ListN.{length, get_or, set, drop, length-map, length-reverse}
use lib.Seq.{get_or-set_same, get_or-set_other}
use Rattle.words.specs.Words.{words, tail, Stored}
use Rattle.words.specs.Tables.{base, marked}
use Rattle.lists.specs.Lists.{stacked, appended, queued, Filed as Answer}
use Rattle.lists.proofs.Stacks.{stacked_length, stacked_none, entry_is}
use Rattle.lists.proofs.Rings.{queued_none}
use Rattle.model.specs.Base.{if◌then◌otherwise◌, from}
use Rattle.model.specs.Circuit.{Circuit, rank_of_gate}
use Rattle.model.specs.State.{Act, Send}
use Rattle.model.specs.Chain.{no_calls}
use Rattle.units.specs.declared.Place.TheVariants.{Late}
use Rattle.units.specs.View.{Tables, Units, sizes, cut, act_of, event_of, listed_of, half_at, event_at, events_of, second_half, units}
use Rattle.units.specs.Raising.{late≔, delivered≔, pending≔, carried≔, with_lists, by_rank, all_by_rank, activate, lists_after}
use Rattle.units.specs.Calls.{with_calls, with_begun, stack≔, forks≔, reopened, empty}
use Rattle.units.proofs.Lending.{poke, cut_poke, cut_peek, sized}
use Rattle.units.proofs.Filing.{whole, Raised}

-- ---- a count of 0

zero_at : (w : List ℕ) (i : ℕ) → get_or (set w i 0) i 0 ≡ 0
zero_at [] i = refl
zero_at (x ∷ w) zero = refl
zero_at (x ∷ w) (suc i) = zero_at w i

-- a store into a table
stored_in : (c : Circuit) (s t : List ℕ) (n i v : ℕ) → i < get_or sizes n 0 → Stored s t (base sizes n + i) v → units c t ≡ whole c (poke n i v (cut (words s))) (tail s)
unfolding units
stored_in c s t n i v h e = rw (e.words, e.tail, cut_poke (words s) n i v h)

module _ (c : Circuit) (s t : List ℕ) where
  -- a list has no entry any more
  stack_emptied : Stored s t 0 0 → units c t ≡ with_calls (units c s) (stack≔ (units c s).calls [])
  unfolding units events_of second_half
  stack_emptied e =
      stored_in c s t 0 0 0 (omega arith) e
      ∙ ap (λ (k : List ℕ). with_calls (units c s) (stack≔ (units c s).calls k)) (stacked_none 256 (set (cut (words s)).stack 0 0) (zero_at (cut (words s)).stack 0))

  forks_emptied : Stored s t 257 0 → units c t ≡ with_calls (units c s) (forks≔ (units c s).calls [])
  unfolding units events_of second_half
  forks_emptied e =
      stored_in c s t 1 0 0 (omega arith) e
      ∙ ap (λ (k : List ℕ). with_calls (units c s) (forks≔ (units c s).calls k)) (queued_none 256 (set (cut (words s)).forks 0 0) (zero_at (cut (words s)).forks 0))

  pending_emptied : Stored s t 515 0 → units c t ≡ with_lists (units c s) (pending≔ (units c s).lists [])
  unfolding units events_of second_half
  pending_emptied e =
      stored_in c s t 2 0 0 (omega arith) e
      ∙ ap (λ (k : List ℕ). with_lists (units c s) (pending≔ (units c s).lists (map (act_of c) k))) (stacked_none 256 (set (cut (words s)).pending 0 0) (zero_at (cut (words s)).pending 0))

  pub late_emptied : Stored s t 772 0 → units c t ≡ with_lists (units c s) (late≔ (units c s).lists [])
  unfolding units events_of second_half
  late_emptied e =
      stored_in c s t 3 0 0 (omega arith) e
      ∙ ap (λ (k : List ℕ). with_lists (units c s) (late≔ (units c s).lists (map (act_of c) k))) (stacked_none 256 (set (cut (words s)).late 0 0) (zero_at (cut (words s)).late 0))

  carried_emptied : Stored s t 1029 0 → units c t ≡ with_lists (units c s) (carried≔ (units c s).lists [])
  unfolding units events_of second_half
  carried_emptied e =
      stored_in c s t 4 0 0 (omega arith) e
      ∙ ap (λ (k : List ℕ). with_lists (units c s) (carried≔ (units c s).lists (map (act_of c) (reverse k)))) (stacked_none 256 (set (cut (words s)).carried 0 0) (zero_at (cut (words s)).carried 0))

  begun_emptied : Stored s t 1352 0 → units c t ≡ with_begun (units c s) []
  unfolding units events_of second_half
  begun_emptied e =
      stored_in c s t 6 0 0 (omega arith) e
      ∙ ap (λ (k : List ℕ). with_begun (units c s) (map listed_of (reverse k))) (stacked_none 1024 (set (cut (words s)).begun 0 0) (zero_at (cut (words s)).begun 0))

-- What `clear_rest` ensures: no call, nothing pending or carried, no unit begun.
abbrev pub cleared : Units → Units
cleared v = with_begun (with_calls (with_lists v (carried≔ (pending≔ v.lists []) [])) no_calls) []

pub rest_cleared : (c : Circuit) (s s₁ s₂ s₃ s₄ s₅ : List ℕ) → Stored s s₁ 0 0 → Stored s₁ s₂ 257 0 → Stored s₂ s₃ 515 0 → Stored s₃ s₄ 1029 0 → Stored s₄ s₅ 1352 0
    → units c s₅ ≡ cleared (units c s)
rest_cleared c s s₁ s₂ s₃ s₄ s₅ e₁ e₂ e₃ e₄ e₅ =
    begun_emptied c s₄ s₅ e₅ ∙ ap (λ (v : Units). with_begun v [])
    (carried_emptied c s₃ s₄ e₄ ∙ ap (λ (v : Units). with_lists v (carried≔ v.lists []))
    (pending_emptied c s₂ s₃ e₃ ∙ ap (λ (v : Units). with_lists v (pending≔ v.lists []))
    (forks_emptied c s₁ s₂ e₂ ∙ ap (λ (v : Units). with_calls v (forks≔ v.calls [])) (stack_emptied c s s₁ e₁))))

-- ---- the halves of the events

-- the tables after three stores are these, of which the view is made
stored_thrice : (c : Circuit) (s s₁ s₂ s₃ : List ℕ) (n₁ i₁ v₁ n₂ i₂ v₂ n₃ i₃ v₃ : ℕ) → i₁ < get_or sizes n₁ 0 → i₂ < get_or sizes n₂ 0 → i₃ < get_or sizes n₃ 0
    → Stored s s₁ (base sizes n₁ + i₁) v₁ → Stored s₁ s₂ (base sizes n₂ + i₂) v₂ → Stored s₂ s₃ (base sizes n₃ + i₃) v₃
    → units c s₃ ≡ whole c (poke n₃ i₃ v₃ (poke n₂ i₂ v₂ (poke n₁ i₁ v₁ (cut (words s))))) (tail s)
stored_thrice c s s₁ s₂ s₃ n₁ i₁ v₁ n₂ i₂ v₂ n₃ i₃ v₃ h₁ h₂ h₃ e₁ e₂ e₃ =
    let q₁ : cut (words s₁) ≡ poke n₁ i₁ v₁ (cut (words s)) = rw e₁.words (cut_poke (words s) n₁ i₁ v₁ h₁) in
    let q₂ : cut (words s₂) ≡ poke n₂ i₂ v₂ (cut (words s₁)) = rw e₂.words (cut_poke (words s₁) n₂ i₂ v₂ h₂) in
    let p : tail s₂ ≡ tail s = e₂.tail ∙ e₁.tail in
    stored_in c s₂ s₃ n₃ i₃ v₃ h₃ e₃ ∙ (λ j. whole c (poke n₃ i₃ v₃ ((q₂ ∙ ap (poke n₂ i₂ v₂) q₁) j)) (p j))

-- What `switch_half` ensures: the outbox is what was sent, a new one is empty, and nothing is delivered.
abbrev pub switched : Units → Units
switched v = record { calls = v.calls; lists = delivered≔ v.lists []; begun = v.begun; outbox = []; events = v.outbox; rest = v.rest }

-- a half with a count of 0
none_sent : (b : Bool) (t : Tables) → get_or t.counts (if b then 1 otherwise 0) 0 ≡ 0 → events_of b t ≡ []
unfolding events_of from
none_sent b t e = ap (λ (n : ℕ). map (event_at t.senders t.rows) (from (half_at b) (min n 64))) e

-- the same count, senders and rows
same_sent : (b : Bool) (t t' : Tables) → t'.senders ≡ t.senders → t'.rows ≡ t.rows → get_or t'.counts (if b then 1 otherwise 0) 0 ≡ get_or t.counts (if b then 1 otherwise 0) 0
    → events_of b t' ≡ events_of b t
unfolding events_of
same_sent b t t' es er ec = λ j. map (event_at (es j) (er j)) (from (half_at b) (min (ec j) 64))

-- what is delivered, where there is nothing
none_delivered : (es : List Send) (w : List ℕ) → map (event_of es) (queued 64 (set w 0 0)) ≡ []
none_delivered es w = ap (map (event_of es)) (queued_none 64 (set w 0 0) (zero_at w 0))

-- the view, by its parts that speak of events
with_events : (c : Circuit) (t t' : Tables) (bs : List ℕ) (o es : List Send) → t'.stack ≡ t.stack → t'.forks ≡ t.forks → t'.pending ≡ t.pending → t'.late ≡ t.late → t'.carried ≡ t.carried
    → t'.delivered ≡ set t.delivered 0 0 → t'.begun ≡ t.begun → t'.rest ≡ t.rest
    → events_of (second_half t') t' ≡ o → events_of (not (second_half t')) t' ≡ es
    → whole c t' bs ≡ record { calls = (whole c t bs).calls; lists = delivered≔ (whole c t bs).lists []; begun = (whole c t bs).begun; outbox = o; events = es; rest = (whole c t bs).rest }
with_events c t t' bs o es e₀ e₁ e₂ e₃ e₄ e₅ e₆ e₇ eo ee =
    let d : map (event_of (events_of (not (second_half t')) t')) (queued 64 t'.delivered) ≡ [] =
    ap (λ (w : List ℕ). map (event_of (events_of (not (second_half t')) t')) (queued 64 w)) e₅ ∙ none_delivered (events_of (not (second_half t')) t') t.delivered in
    λ j. record {
      calls = record { stack = stacked 256 (e₀ j); forks = queued 256 (e₁ j) };
      lists = record { late = map (act_of c) (stacked 256 (e₃ j)); delivered = d j; pending = map (act_of c) (stacked 256 (e₂ j)); carried = map (act_of c) (appended 256 (e₄ j)) };
      begun = map listed_of (appended 1024 (e₆ j));
      outbox = eo j;
      events = ee j;
      rest = e₇ j ++ bs;
    }

-- which half is the outbox, after a store
half_is : (w : List ℕ) (v : ℕ) → length w ≡ 1 → marked (get_or (set w 0 v) 0 0) ≡ marked v
half_is w v l = ap marked (get_or-set_same w 0 v 0 (omega arith))

-- the first half was the outbox: the second is
to_second : (c : Circuit) (t : Tables) (bs : List ℕ) → length t.half ≡ 1 → second_half t ≡ false → whole c (poke 8 1 0 (poke 7 0 1 (poke 5 0 0 t))) bs ≡ switched (whole c t bs)
unfolding second_half if◌then◌otherwise◌
to_second c t bs l h =
    let t' : Tables = poke 8 1 0 (poke 7 0 1 (poke 5 0 0 t)) in
    let a : second_half t' ≡ true = half_is t.half 1 l in
    with_events c t t' bs [] (events_of (second_half t) t) refl refl refl refl refl refl refl refl
    (ap (λ (b : Bool). events_of b t') a ∙ none_sent true t' (zero_at t.counts 1))
    (ap (λ (b : Bool). events_of (not b) t') a ∙ same_sent false t t' refl refl (get_or-set_other t.counts 1 0 0 0 (omega arith)) ∙ ap (λ (b : Bool). events_of b t) (sym h))

-- the second half was the outbox: the first is
to_first : (c : Circuit) (t : Tables) (bs : List ℕ) → length t.half ≡ 1 → second_half t ≡ true → whole c (poke 8 0 0 (poke 7 0 0 (poke 5 0 0 t))) bs ≡ switched (whole c t bs)
unfolding second_half if◌then◌otherwise◌
to_first c t bs l h =
    let t' : Tables = poke 8 0 0 (poke 7 0 0 (poke 5 0 0 t)) in
    let a : second_half t' ≡ false = half_is t.half 0 l in
    with_events c t t' bs [] (events_of (second_half t) t) refl refl refl refl refl refl refl refl
    (ap (λ (b : Bool). events_of b t') a ∙ none_sent false t' (zero_at t.counts 0))
    (ap (λ (b : Bool). events_of (not b) t') a ∙ same_sent true t t' refl refl (get_or-set_other t.counts 0 1 0 0 (omega arith)) ∙ ap (λ (b : Bool). events_of b t) (sym h))

-- the word that says which half is the outbox, behind the store at the delivered
half_read : (s s₁ : List ℕ) (h : ℕ) → Stored s s₁ 1286 0 → h ≡ get_or (words s₁) 2377 0 → h ≡ get_or (cut (words s)).half 0 0
half_read s s₁ h e eh =
    let q : cut (words s₁) ≡ poke 5 0 0 (cut (words s)) = rw e.words (cut_poke (words s) 5 0 0 (omega arith)) in
    eh ∙ cut_peek (words s₁) 7 0 (omega arith) ∙ ap (λ (t : Tables). get_or t.half 0 0) q

-- the ways out of `switch_half`
pub half_first : (c : Circuit) (s s₁ s₂ s₃ : List ℕ) (h : ℕ) → 65536 ≤ length s → Stored s s₁ 1286 0 → h ≡ get_or (words s₁) 2377 0 → h ≡ 0 → Stored s₁ s₂ 2377 1 → Stored s₂ s₃ 2379 0
    → units c s₃ ≡ switched (units c s)
unfolding units second_half
half_first c s s₁ s₂ s₃ h l e₁ eh z e₂ e₃ =
    let k : get_or (cut (words s)).half 0 0 ≡ 0 = sym (half_read s s₁ h e₁ eh) ∙ z in
    stored_thrice c s s₁ s₂ s₃ 5 0 0 7 0 1 8 1 0 (omega arith) (omega arith) (omega arith) e₁ e₂ e₃
    ∙ to_second c (cut (words s)) (tail s) (sized s 7 l (omega arith) (omega arith)) (ap marked k)

pub half_second : (c : Circuit) (s s₁ s₂ s₃ : List ℕ) (h : ℕ) → 65536 ≤ length s → Stored s s₁ 1286 0 → h ≡ get_or (words s₁) 2377 0 → (h ≡ 0 → ⊥) → Stored s₁ s₂ 2377 0 → Stored s₂ s₃ 2378 0
    → units c s₃ ≡ switched (units c s)
unfolding units second_half
half_second c s s₁ s₂ s₃ h l e₁ eh z e₂ e₃ =
    let k : get_or (cut (words s)).half 0 0 ≡ h = sym (half_read s s₁ h e₁ eh) in
    stored_thrice c s s₁ s₂ s₃ 5 0 0 7 0 0 8 0 0 (omega arith) (omega arith) (omega arith) e₁ e₂ e₃
    ∙ to_first c (cut (words s)) (tail s) (sized s 7 l (omega arith) (omega arith)) (ap marked k ∙ ap not (ne_eqb h 0 z))

-- What `clear_events` ensures: no event, and nothing is delivered.
abbrev pub no_events : Units → Units
no_events v = record { calls = v.calls; lists = delivered≔ v.lists []; begun = v.begun; outbox = []; events = []; rest = v.rest }

-- both counts are 0
both_none : (c : Circuit) (t : Tables) (bs : List ℕ) → whole c (poke 5 0 0 (poke 8 1 0 (poke 8 0 0 t))) bs ≡ no_events (whole c t bs)
unfolding if◌then◌otherwise◌
both_none c t bs = with_events c t t' bs [] [] refl refl refl refl refl refl refl refl (none (second_half t')) (none (not (second_half t')))
  where
    t' : Tables
    t' = poke 5 0 0 (poke 8 1 0 (poke 8 0 0 t))

    none : (b : Bool) → events_of b (poke 5 0 0 (poke 8 1 0 (poke 8 0 0 t))) ≡ []
    none true = none_sent true (poke 5 0 0 (poke 8 1 0 (poke 8 0 0 t))) (zero_at (set t.counts 0 0) 1)
    none false = none_sent false (poke 5 0 0 (poke 8 1 0 (poke 8 0 0 t))) (get_or-set_other (set t.counts 0 0) 1 0 0 0 (omega arith) ∙ zero_at t.counts 0)

pub events_cleared : (c : Circuit) (s s₁ s₂ s₃ : List ℕ) → Stored s s₁ 2378 0 → Stored s₁ s₂ 2379 0 → Stored s₂ s₃ 1286 0 → units c s₃ ≡ no_events (units c s)
unfolding units
events_cleared c s s₁ s₂ s₃ e₁ e₂ e₃ =
    stored_thrice c s s₁ s₂ s₃ 8 0 0 8 1 0 5 0 0 (omega arith) (omega arith) (omega arith) e₁ e₂ e₃ ∙ both_none c (cut (words s)) (tail s)

-- ---- the carried are filed

-- element k, and those behind it
map_drop_at : (f : ℕ → Act) (l : List ℕ) (k : ℕ) → k < length l → drop k (map f l) ≡ f (get_or l k 0) ∷ drop (k + 1) (map f l)
map_drop_at f [] k h = absurd (omega arith)
map_drop_at f (x ∷ l) zero h = refl
map_drop_at f (x ∷ l) (suc k) h = let e : suc k + 1 ≡ suc (k + 1) = omega arith in rw e (map_drop_at f l k (omega arith))

-- behind the last one there is none
drop_past : {A : Type 0} (l : List A) (k : ℕ) → length l ≤ k → drop k l ≡ []
drop_past [] zero h = refl
drop_past [] (suc k) h = refl
drop_past (x ∷ l) zero h = absurd (omega arith)
drop_past (x ∷ l) (suc k) h = drop_past l k (omega arith)

-- one more
by_rank_length : (c : Circuit) (a : Act) (l : List Act) → length (by_rank c a l) ≡ suc (length l)
unfolding by_rank
by_rank_length c a [] = refl
by_rank_length c a (b ∷ l) = go (leb (rank_of_gate c b.gate) (rank_of_gate c a.gate)) (by_rank_length c a l)
  where
    go : (t : Bool) → length (by_rank c a l) ≡ suc (length l) → length (cond t (b ∷ by_rank c a l) (a ∷ b ∷ l)) ≡ suc (suc (length l))
    go true e = ap suc e
    go false e = refl

-- as many as the count says
carried_length : (c : Circuit) (u : List ℕ) → length (units c u).lists.carried ≡ length (stacked 256 (cut (words u)).carried)
unfolding units
carried_length c u = length-map (appended 256 (cut (words u)).carried) (act_of c) ∙ length-reverse (stacked 256 (cut (words u)).carried)

-- at most 256
carried_most : (c : Circuit) (u : List ℕ) → length (units c u).lists.carried ≤ 256
carried_most c u = omega (arith, carried_length c u, stacked_length 256 (cut (words u)).carried)

-- the word of the carried one of number k
carried_at : (c : Circuit) (u : List ℕ) (k x : ℕ) → k < length (units c u).lists.carried → x ≡ get_or (words u) (1029 + (k + 1)) 0
    → drop k (units c u).lists.carried ≡ act_of c x ∷ drop (k + 1) (units c u).lists.carried
unfolding units
carried_at c u k x h e =
    let w : List ℕ = (cut (words u)).carried in
    let m : length (appended 256 w) ≡ length (stacked 256 w) = length-reverse (stacked 256 w) in
    let l : k < length (stacked 256 w) = omega (arith, carried_length c u) in
    let b : k < 256 = omega (arith, stacked_length 256 w) in
    let q : x ≡ get_or (appended 256 w) k 0 = entry_is 256 (length (stacked 256 w)) k x w refl l (e ∙ cut_peek (words u) 4 (k + 1) (omega arith)) in
    rw q (map_drop_at (act_of c) (appended 256 w) k (omega arith))

-- The first k of the carried are filed: the late list is that of u, there are k, and filing the others gives what filing all gives.
abbrev pub Moved : Circuit → List ℕ → List ℕ → ℕ → Type 0
Moved c u₀ u k =
    (units c u ≡ with_lists (units c u₀) (late≔ (units c u₀).lists (units c u).lists.late))
    × (length (units c u).lists.late ≡ k)
    × (all_by_rank c (drop k (units c u₀).lists.carried) (units c u).lists.late ≡ all_by_rank c (units c u₀).lists.carried [])

-- none is
pub moved_first : (c : Circuit) (u : List ℕ) → (units c u).lists.late ≡ [] → Moved c u u 0
moved_first c u e = (refl, ap length e, ap (all_by_rank c (units c u).lists.carried) e)

-- one more is: there is room
module _ (c : Circuit) (u₀ u u' : List ℕ) (k n x : ℕ) (r : Answer) where
  late_room : length (units c u).lists.late < 256 → Raised c u u' (activate c Late (act_of c x) (units c u).lists) r
      → units c u' ≡ with_lists (units c u) (late≔ (units c u).lists (by_rank c (act_of c x) (units c u).lists.late))
  unfolding activate lists_after
  late_room h q = let t : ltb (length (units c u).lists.late) 256 ≡ true = lt-ltb (length (units c u).lists.late) 256 h in q.1 ∙ rw t

  pub moved_next : n ≡ length (units c u₀).lists.carried → Moved c u₀ u k → k < n → x ≡ get_or (words u) (1029 + (k + 1)) 0
      → Raised c u u' (activate c Late (act_of c x) (units c u).lists) r → Moved c u₀ u' (k + 1)
  unfolding all_by_rank
  moved_next en m h ex q =
      let same : (units c u).lists.carried ≡ (units c u₀).lists.carried = ap (λ (v : Units). v.lists.carried) m.0 in
      let long : length (units c u).lists.carried ≡ length (units c u₀).lists.carried = ap length same in
      let most : length (units c u).lists.carried ≤ 256 = carried_most c u in
      let v' : units c u' ≡ with_lists (units c u) (late≔ (units c u).lists (by_rank c (act_of c x) (units c u).lists.late)) = late_room (omega (arith, m.1)) q in
      let l' : (units c u').lists.late ≡ by_rank c (act_of c x) (units c u).lists.late = ap (λ (v : Units). v.lists.late) v' in
      let d : drop k (units c u₀).lists.carried ≡ act_of c x ∷ drop (k + 1) (units c u₀).lists.carried =
      subst (λ (l : List Act). drop k l ≡ act_of c x ∷ drop (k + 1) l) same (carried_at c u k x (omega arith) ex) in (
        v' ∙ (λ j. with_lists (m.0 j) (late≔ (m.0 j).lists (by_rank c (act_of c x) (units c u).lists.late))) ∙ ap (λ (l : List Act). with_lists (units c u₀) (late≔ (units c u₀).lists l)) (sym l'),
        ap length l' ∙ by_rank_length c (act_of c x) (units c u).lists.late ∙ ap suc m.1 ∙ sym (add-one k),
        ap (all_by_rank c (drop (k + 1) (units c u₀).lists.carried)) l' ∙ sym (ap (λ (l : List Act). all_by_rank c l (units c u).lists.late) d) ∙ m.2,
      )

-- all are
pub moved_last : (c : Circuit) (u₀ u : List ℕ) (k n : ℕ) → n ≡ length (units c u₀).lists.carried → Moved c u₀ u k → n ≤ k
    → units c u ≡ with_lists (units c u₀) (late≔ (units c u₀).lists (all_by_rank c (units c u₀).lists.carried []))
unfolding all_by_rank
moved_last c u₀ u k n en m h =
    let d : drop k (units c u₀).lists.carried ≡ [] = drop_past (units c u₀).lists.carried k (omega arith) in
    m.0 ∙ ap (λ (l : List Act). with_lists (units c u₀) (late≔ (units c u₀).lists l)) (sym (ap (λ (l : List Act). all_by_rank c l (units c u).lists.late) d) ∙ m.2)

-- ---- the next tick, and the start

-- the list that was emptied
pub late_none : (c : Circuit) (s t : List ℕ) → Stored s t 772 0 → (units c t).lists.late ≡ []
late_none c s t e = ap (λ (v : Units). v.lists.late) (late_emptied c s t e)

pub ticked : (c : Circuit) (s s₁ s₂ s₃ s₄ : List ℕ) → Stored s s₁ 772 0 → units c s₂ ≡ with_lists (units c s₁) (late≔ (units c s₁).lists (all_by_rank c (units c s₁).lists.carried []))
    → units c s₃ ≡ cleared (units c s₂) → units c s₄ ≡ switched (units c s₃) → units c s₄ ≡ reopened c (units c s)
unfolding reopened
ticked c s s₁ s₂ s₃ s₄ e₁ e₂ e₃ e₄ =
    e₄ ∙ ap switched (e₃ ∙ ap cleared (e₂ ∙ ap (λ (v : Units). with_lists v (late≔ v.lists (all_by_rank c v.lists.carried []))) (late_emptied c s s₁ e₁)))

pub started : (c : Circuit) (s s₁ s₂ s₃ : List ℕ) → Stored s s₁ 772 0 → units c s₂ ≡ cleared (units c s₁) → units c s₃ ≡ no_events (units c s₂) → units c s₃ ≡ empty (units c s).rest
unfolding empty
started c s s₁ s₂ s₃ e₁ e₂ e₃ = e₃ ∙ ap no_events (e₂ ∙ ap cleared (late_emptied c s s₁ e₁))
