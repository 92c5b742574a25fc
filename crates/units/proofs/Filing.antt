-- What the proofs of the functions over what waits cite.
use Prim.Native.Nat.{ℕ, ◌+◌, ◌*◌, ◌≤◌, ◌<◌}
use mathlib.Core.Path.{◌≡◌, refl, sym, ap, subst, ◌∙◌}
use mathlib.Core.Bool.{Bool, true, false, cond}
use mathlib.Core.List.{List, [], ◌∷◌, ◌++◌, map, reverse}
use native.Mathlib.Omega.{arith}
use borrow.Rule.Slice.PartMut.{put_mid}
use borrow.Author.Tests.{le-leb, lt-leb}
use lib.Dec.{leb, ltb}
use lib.ListN.{length, get_or, take, drop, length-drop, length-map, length-reverse}
use lib.Seq.{length-take-le}
use Rattle.words.specs.Words.{words, tail}
use Rattle.words.specs.Tables.{base}
use Rattle.schedule.specs.Schedule.{Filed, full, filed, room}
use Rattle.lists.specs.Lists.{stacked, appended, ranked, queued, if_room, taken, Filed as Answer, NoRoom, Done}
use Rattle.lists.specs.Lists as lists
use Rattle.std.specs.Prelude.{Option}
use Rattle.lists.proofs.Stacks.{appended_push}
use Rattle.model.specs.Base.{snoc}
use Rattle.model.specs.Circuit.{Circuit, rank_of_gate}
use Rattle.model.specs.State.{Act}
use Rattle.units.specs.declared.Place.{Place}
use Rattle.units.specs.declared.Place.TheVariants.{Late, Pending, After}
use Rattle.units.specs.View.{Tables, Lists, Units, sizes, cut, gate_of, act_of, event_of, entry_of, events_of, second_half, units_of, units}
use Rattle.units.specs.Raising.{late≔, delivered≔, pending≔, carried≔, with_lists, by_rank, activate, deliver, answer, lists_after}
use Rattle.units.specs.Calls.{first_of, act_taken}
use Rattle.units.proofs.Lending.{to, with_table, lent, lent_back, lent_tail}

-- ---- the view of the area, by its tables

-- what tables and the bytes behind the words hold
abbrev pub whole : Circuit → Tables → List ℕ → Units
whole c t bs =
    record {
      calls = (units_of c t).calls;
      lists = (units_of c t).lists;
      begun = (units_of c t).begun;
      outbox = (units_of c t).outbox;
      events = (units_of c t).events;
      rest = t.rest ++ bs;
    }

-- the area as its tables
pub units_is : (c : Circuit) (u : List ℕ) → units c u ≡ whole c (cut (words u)) (tail u)
unfolding units
units_is c u = refl

-- a table was lent, and comes back as p
pub units_back : (c : Circuit) (u p : List ℕ) (n : ℕ) → n < 11 → 65536 ≤ length u → base sizes n + get_or sizes n 0 ≤ 8192 → length p ≡ get_or sizes n 0 * 8
    → units c (put_mid (base sizes n * 8) (get_or sizes n 0 * 8) u p) ≡ whole c (with_table n (words p) (cut (words u))) (tail u)
unfolding units
units_back c u p n k l h e = rw (lent_back u p n k l h e, lent_tail u p n k l h e)

-- ---- one more on a list

-- A list l of at most `most`, which is m with one more: the answer r, and the list k after it.
abbrev pub Grown : {A : Type 0} → ℕ → List A → List A → Answer → List A → Type 0
Grown most l m r k = (r ≡ cond (ltb (length l) most) Done NoRoom) × (k ≡ cond (ltb (length l) most) m l)

-- of what the entries stand for
pub grown_map : {A : Type 0} (f : ℕ → A) (most : ℕ) (l m k : List ℕ) (r : Answer) → r ≡ lists.filed most l → k ≡ if_room most l m → Grown most (map f l) (map f m) r (map f k)
unfolding lists.filed if_room
grown_map f most l m k r er ek = (er ∙ rw (length-map l f), ap (map f) ek ∙ rw (length-map l f) (go (ltb (length l) most)))
  where
    go : (b : Bool) → map f (cond b m l) ≡ cond b (map f m) (map f l)
    go true = refl
    go false = refl

-- the answer and the lists, by whether there was room
raised : (v v' : Units) (b : Bool) (q : Lists) (r : Answer) → r ≡ cond b Done NoRoom → v' ≡ with_lists v (cond b q v.lists)
    → (r ≡ answer (cond b (filed q) full)) × (v' ≡ with_lists v (lists_after v.lists (cond b (filed q) full)))
unfolding answer lists_after
raised v v' true q r er ev = (er, ev)
raised v v' false q r er ev = (er, ev)

-- one list by a choice is the lists by a choice
late_cond : (l : Lists) (b : Bool) (x : List Act) → late≔ l (cond b x l.late) ≡ cond b (late≔ l x) l
late_cond l true x = refl
late_cond l false x = refl

delivered_cond : (l : Lists) (b : Bool) (x : List Act) → delivered≔ l (cond b x l.delivered) ≡ cond b (delivered≔ l x) l
delivered_cond l true x = refl
delivered_cond l false x = refl

pending_cond : (l : Lists) (b : Bool) (x : List Act) → pending≔ l (cond b x l.pending) ≡ cond b (pending≔ l x) l
pending_cond l true x = refl
pending_cond l false x = refl

carried_cond : (l : Lists) (b : Bool) (x : List Act) → carried≔ l (cond b x l.carried) ≡ cond b (carried≔ l x) l
carried_cond l true x = refl
carried_cond l false x = refl

-- behind the others
map_snoc : {A : Type 0} (f : ℕ → A) (l : List ℕ) (x : ℕ) → map f (l ++ x ∷ []) ≡ snoc (map f l) (f x)
unfolding snoc
map_snoc f [] x = refl
map_snoc f (y ∷ l) x = ap (λ t. f y ∷ t) (map_snoc f l x)

-- of a list that is only appended to
pub grown_snoc : {A : Type 0} (f : ℕ → A) (most : ℕ) (l k : List ℕ) (x : ℕ) (r : Answer) → r ≡ lists.filed most l → k ≡ if_room most l (x ∷ l)
    → Grown most (map f (reverse l)) (snoc (map f (reverse l)) (f x)) r (map f (reverse k))
unfolding lists.filed if_room
grown_snoc f most l k x r er ek =
    let n : length (map f (reverse l)) ≡ length l = length-map (reverse l) f ∙ length-reverse l in
    (er ∙ rw n, ap (λ (t : List ℕ). map f (reverse t)) ek ∙ rw n (go (ltb (length l) most)))
  where
    go : (b : Bool) → map f (reverse (cond b (x ∷ l) l)) ≡ cond b (snoc (map f (reverse l)) (f x)) (map f (reverse l))
    go true = ap (map f) (appended_push x l) ∙ map_snoc f (reverse l) x
    go false = refl

-- ---- one taken off

-- what was taken is the first
pub first_taken : (f : ℕ → Act) (l : List ℕ) (r : Option ℕ) → r ≡ taken l → act_taken f r ≡ first_of (map f l)
unfolding taken act_taken first_of
first_taken f [] r e = rw e
first_taken f (x ∷ l) r e = rw e

-- and the others are left
map_drop : {A : Type 0} (f : ℕ → A) (l k : List ℕ) → k ≡ drop 1 l → map f k ≡ drop 1 (map f l)
map_drop f [] k e = rw e
map_drop f (x ∷ l) k e = rw e

-- ---- the lists lent

module _ (c : Circuit) (u p : List ℕ) (h : 65536 ≤ length u) where
  -- what is in them before
  late_lent : words (take 2056 (drop 6176 u)) ≡ (cut (words u)).late
  late_lent = lent u 3 (omega arith)

  pending_lent : words (take 2056 (drop 4120 u)) ≡ (cut (words u)).pending
  pending_lent = lent u 2 (omega arith)

  carried_lent : words (take 2056 (drop 8232 u)) ≡ (cut (words u)).carried
  carried_lent = lent u 4 (omega arith)

  delivered_lent : words (take 528 (drop 10288 u)) ≡ (cut (words u)).delivered
  delivered_lent = lent u 5 (omega arith)

  -- what is in them after
  late_back : length p ≡ 2056 → units c (put_mid 6176 2056 u p) ≡ with_lists (units c u) (late≔ (units c u).lists (map (act_of c) (ranked 256 (words p))))
  unfolding units events_of second_half
  late_back e = units_back c u p 3 (omega arith) h (omega arith) e

  pending_back : length p ≡ 2056 → units c (put_mid 4120 2056 u p) ≡ with_lists (units c u) (pending≔ (units c u).lists (map (act_of c) (ranked 256 (words p))))
  unfolding units events_of second_half
  pending_back e = units_back c u p 2 (omega arith) h (omega arith) e

  carried_back : length p ≡ 2056 → units c (put_mid 8232 2056 u p) ≡ with_lists (units c u) (carried≔ (units c u).lists (map (act_of c) (appended 256 (words p))))
  unfolding units events_of second_half
  carried_back e = units_back c u p 4 (omega arith) h (omega arith) e

  delivered_back : length p ≡ 528 → units c (put_mid 10288 528 u p) ≡ with_lists (units c u) (delivered≔ (units c u).lists (map (event_of (units c u).events) (queued 64 (words p))))
  unfolding units events_of second_half
  delivered_back e = units_back c u p 5 (omega arith) h (omega arith) e

-- how long a part is
pub part_long : (u : List ℕ) (b n : ℕ) → b + n ≤ length u → length (take n (drop b u)) ≡ n
part_long u b n h = length-take-le n (drop b u) (omega (arith, length-drop b u))

-- What a function that raises ensures: its answer r, and the area from u to u'.
abbrev pub Raised : Circuit → List ℕ → List ℕ → Filed Lists → Answer → Type 0
Raised c u u' f r = (r ≡ answer f) × (units c u' ≡ with_lists (units c u) (lists_after (units c u).lists f))

-- What a function that takes ensures: what was taken, and the area from u to u'.
abbrev pub Took : Circuit → List ℕ → List ℕ → (ℕ → Act) → List Act → Lists → Option ℕ → Type 0
Took c u u' f l q r = (act_taken f r ≡ first_of l) × (units c u' ≡ with_lists (units c u) q)

module _ (c : Circuit) (u p : List ℕ) (h : 65536 ≤ length u) where
  -- the functions that raise
  pub late_filed : (x : ℕ) (r : Answer) → length p ≡ length (take 2056 (drop 6176 u))
      → Grown 256 (map (act_of c) (ranked 256 (words (take 2056 (drop 6176 u))))) (by_rank c (act_of c x) (map (act_of c) (ranked 256 (words (take 2056 (drop 6176 u)))))) r (map (act_of c) (ranked 256 (words p)))
      → Raised c u (put_mid 6176 2056 u p) (activate c Late (act_of c x) (units c u).lists) r
  unfolding units activate
  late_filed x r e g =
      let l : Lists = (units c u).lists in
      let a : Act = act_of c x in
      let g' : Grown 256 l.late (by_rank c a l.late) r (map (act_of c) (ranked 256 (words p))) =
      subst (λ (w : List ℕ). Grown 256 (map (act_of c) (ranked 256 w)) (by_rank c a (map (act_of c) (ranked 256 w))) r (map (act_of c) (ranked 256 (words p)))) (late_lent c u p h) g in
      raised (units c u) _ (ltb (length l.late) 256) (late≔ l (by_rank c a l.late)) r g'.0
      (late_back c u p h (e ∙ part_long u 6176 2056 (omega arith)) ∙ ap (λ (k : List Act). with_lists (units c u) (late≔ l k)) g'.1
      ∙ ap (with_lists (units c u)) (late_cond l (ltb (length l.late) 256) (by_rank c a l.late)))

  pub pending_filed : (x : ℕ) (r : Answer) → length p ≡ length (take 2056 (drop 4120 u))
      → Grown 256 (map (act_of c) (ranked 256 (words (take 2056 (drop 4120 u))))) (by_rank c (act_of c x) (map (act_of c) (ranked 256 (words (take 2056 (drop 4120 u)))))) r (map (act_of c) (ranked 256 (words p)))
      → Raised c u (put_mid 4120 2056 u p) (activate c Pending (act_of c x) (units c u).lists) r
  unfolding units activate
  pending_filed x r e g =
      let l : Lists = (units c u).lists in
      let a : Act = act_of c x in
      let g' : Grown 256 l.pending (by_rank c a l.pending) r (map (act_of c) (ranked 256 (words p))) =
      subst (λ (w : List ℕ). Grown 256 (map (act_of c) (ranked 256 w)) (by_rank c a (map (act_of c) (ranked 256 w))) r (map (act_of c) (ranked 256 (words p)))) (pending_lent c u p h) g in
      raised (units c u) _ (ltb (length l.pending) 256) (pending≔ l (by_rank c a l.pending)) r g'.0
      (pending_back c u p h (e ∙ part_long u 4120 2056 (omega arith)) ∙ ap (λ (k : List Act). with_lists (units c u) (pending≔ l k)) g'.1
      ∙ ap (with_lists (units c u)) (pending_cond l (ltb (length l.pending) 256) (by_rank c a l.pending)))

  pub carried_pushed : (x : ℕ) (r : Answer) → length p ≡ length (take 2056 (drop 8232 u))
      → r ≡ lists.filed 256 (stacked 256 (words (take 2056 (drop 8232 u))))
      → stacked 256 (words p) ≡ if_room 256 (stacked 256 (words (take 2056 (drop 8232 u)))) (x ∷ stacked 256 (words (take 2056 (drop 8232 u))))
      → Raised c u (put_mid 8232 2056 u p) (room (units c u).lists.carried 256 (carried≔ (units c u).lists (snoc (units c u).lists.carried (act_of c x)))) r
  unfolding units
  carried_pushed x r e er ek =
      let l : Lists = (units c u).lists in
      let a : Act = act_of c x in
      let g' : Grown 256 l.carried (snoc l.carried a) r (map (act_of c) (appended 256 (words p))) =
      subst (λ (w : List ℕ). Grown 256 (map (act_of c) (appended 256 w)) (snoc (map (act_of c) (appended 256 w)) a) r (map (act_of c) (appended 256 (words p)))) (carried_lent c u p h)
      (grown_snoc (act_of c) 256 (stacked 256 (words (take 2056 (drop 8232 u)))) (stacked 256 (words p)) x r er ek) in
      raised (units c u) _ (ltb (length l.carried) 256) (carried≔ l (snoc l.carried a)) r g'.0
      (carried_back c u p h (e ∙ part_long u 8232 2056 (omega arith)) ∙ ap (λ (k : List Act). with_lists (units c u) (carried≔ l k)) g'.1
      ∙ ap (with_lists (units c u)) (carried_cond l (ltb (length l.carried) 256) (snoc l.carried a)))

  pub event_queued : (x : ℕ) (r : Answer) → length p ≡ length (take 528 (drop 10288 u))
      → r ≡ lists.filed 64 (queued 64 (words (take 528 (drop 10288 u))))
      → queued 64 (words p) ≡ if_room 64 (queued 64 (words (take 528 (drop 10288 u)))) (queued 64 (words (take 528 (drop 10288 u))) ++ x ∷ [])
      → Raised c u (put_mid 10288 528 u p) (deliver (event_of (units c u).events x) (units c u).lists) r
  unfolding units deliver
  event_queued x r e er ek =
      let l : Lists = (units c u).lists in
      let f : ℕ → Act = event_of (units c u).events in
      let g' : Grown 64 l.delivered (snoc l.delivered (f x)) r (map f (queued 64 (words p))) =
      subst (λ (w : List ℕ). Grown 64 (map f (queued 64 w)) (snoc (map f (queued 64 w)) (f x)) r (map f (queued 64 (words p)))) (delivered_lent c u p h)
      (subst (λ (k : List Act). Grown 64 (map f (queued 64 (words (take 528 (drop 10288 u))))) k r (map f (queued 64 (words p)))) (map_snoc f (queued 64 (words (take 528 (drop 10288 u)))) x)
      (grown_map f 64 (queued 64 (words (take 528 (drop 10288 u)))) (queued 64 (words (take 528 (drop 10288 u))) ++ x ∷ []) (queued 64 (words p)) r er ek)) in
      raised (units c u) _ (ltb (length l.delivered) 64) (delivered≔ l (snoc l.delivered (f x))) r g'.0
      (delivered_back c u p h (e ∙ part_long u 10288 528 (omega arith)) ∙ ap (λ (k : List Act). with_lists (units c u) (delivered≔ l k)) g'.1
      ∙ ap (with_lists (units c u)) (delivered_cond l (ltb (length l.delivered) 64) (snoc l.delivered (f x))))

  -- the functions that take
  pub late_taken : (r : Option ℕ) → length p ≡ length (take 2056 (drop 6176 u)) → r ≡ taken (stacked 256 (words (take 2056 (drop 6176 u))))
      → stacked 256 (words p) ≡ drop 1 (stacked 256 (words (take 2056 (drop 6176 u))))
      → Took c u (put_mid 6176 2056 u p) (act_of c) (units c u).lists.late (late≔ (units c u).lists (drop 1 (units c u).lists.late)) r
  unfolding units
  late_taken r e er ek =
      let q : map (act_of c) (stacked 256 (words (take 2056 (drop 6176 u)))) ≡ (units c u).lists.late = ap (λ (w : List ℕ). map (act_of c) (ranked 256 w)) (late_lent c u p h) in (
        first_taken (act_of c) (stacked 256 (words (take 2056 (drop 6176 u)))) r er ∙ ap (first_of {A = Act}) q,
        late_back c u p h (e ∙ part_long u 6176 2056 (omega arith))
            ∙ ap (λ (k : List Act). with_lists (units c u) (late≔ (units c u).lists k)) (map_drop (act_of c) (stacked 256 (words (take 2056 (drop 6176 u)))) (stacked 256 (words p)) ek ∙ ap (drop {A = Act} 1) q),
      )

  pub pending_taken : (r : Option ℕ) → length p ≡ length (take 2056 (drop 4120 u)) → r ≡ taken (stacked 256 (words (take 2056 (drop 4120 u))))
      → stacked 256 (words p) ≡ drop 1 (stacked 256 (words (take 2056 (drop 4120 u))))
      → Took c u (put_mid 4120 2056 u p) (act_of c) (units c u).lists.pending (pending≔ (units c u).lists (drop 1 (units c u).lists.pending)) r
  unfolding units
  pending_taken r e er ek =
      let q : map (act_of c) (stacked 256 (words (take 2056 (drop 4120 u)))) ≡ (units c u).lists.pending = ap (λ (w : List ℕ). map (act_of c) (ranked 256 w)) (pending_lent c u p h) in (
        first_taken (act_of c) (stacked 256 (words (take 2056 (drop 4120 u)))) r er ∙ ap (first_of {A = Act}) q,
        pending_back c u p h (e ∙ part_long u 4120 2056 (omega arith))
            ∙ ap (λ (k : List Act). with_lists (units c u) (pending≔ (units c u).lists k)) (map_drop (act_of c) (stacked 256 (words (take 2056 (drop 4120 u)))) (stacked 256 (words p)) ek ∙ ap (drop {A = Act} 1) q),
      )

  pub delivered_taken : (r : Option ℕ) → length p ≡ length (take 528 (drop 10288 u)) → r ≡ taken (queued 64 (words (take 528 (drop 10288 u))))
      → queued 64 (words p) ≡ drop 1 (queued 64 (words (take 528 (drop 10288 u))))
      → Took c u (put_mid 10288 528 u p) (event_of (units c u).events) (units c u).lists.delivered (delivered≔ (units c u).lists (drop 1 (units c u).lists.delivered)) r
  unfolding units
  delivered_taken r e er ek =
      let f : ℕ → Act = event_of (units c u).events in
      let q : map f (queued 64 (words (take 528 (drop 10288 u)))) ≡ (units c u).lists.delivered = ap (λ (w : List ℕ). map f (queued 64 w)) (delivered_lent c u p h) in (
        first_taken f (queued 64 (words (take 528 (drop 10288 u)))) r er ∙ ap (first_of {A = Act}) q,
        delivered_back c u p h (e ∙ part_long u 10288 528 (omega arith))
            ∙ ap (λ (k : List Act). with_lists (units c u) (delivered≔ (units c u).lists k)) (map_drop f (queued 64 (words (take 528 (drop 10288 u)))) (queued 64 (words p)) ek ∙ ap (drop {A = Act} 1) q),
      )

-- `carried`: as many as the count says, at most 256
pub carried_count : (c : Circuit) (u : List ℕ) (n : ℕ) → n ≡ length (stacked 256 (words (take 2056 (drop 8232 u)))) → n ≡ length (units c u).lists.carried
unfolding units
carried_count c u n e =
    let q : words (take 2056 (drop 8232 u)) ≡ (cut (words u)).carried = lent u 4 (omega arith) in
    e ∙ ap (λ (w : List ℕ). length (stacked 256 w)) q ∙ sym (length-map (appended 256 (cut (words u)).carried) (act_of c) ∙ length-reverse (stacked 256 (cut (words u)).carried))

-- `activate` in the main pass, by the rank
pub after_carried : (c : Circuit) (s r x g : ℕ) (l : Lists) → g ≡ gate_of x → s ≡ rank_of_gate c g → s ≤ r
    → room l.carried 256 (carried≔ l (snoc l.carried (act_of c x))) ≡ activate c (After r) (act_of c x) l
unfolding activate act_of
after_carried c s r x g l eg es h = let k : leb (rank_of_gate c (gate_of x)) r ≡ true = le-leb (rank_of_gate c (gate_of x)) r (rw (es, eg) at h) in rw k

pub after_pending : (c : Circuit) (s r x g : ℕ) (l : Lists) → g ≡ gate_of x → s ≡ rank_of_gate c g → r < s
    → activate c Pending (act_of c x) l ≡ activate c (After r) (act_of c x) l
unfolding activate act_of
after_pending c s r x g l eg es h = let k : leb (rank_of_gate c (gate_of x)) r ≡ false = lt-leb (rank_of_gate c (gate_of x)) r (rw (es, eg) at h) in rw k

-- `activate` by its place
pub by_place : (c : Circuit) (u u' : List ℕ) (a : Act) (r : Answer) (to p : Place) → to ≡ p
    → Raised c u u' (activate c p a (units c u).lists) r → Raised c u u' (activate c to a (units c u).lists) r
by_place c u u' a r to p e h = subst (λ (q : Place). Raised c u u' (activate c q a (units c u).lists) r) (sym e) h

-- `deliver` of the entry x
pub delivers : (c : Circuit) (u u' : List ℕ) (x g e : ℕ) (r : Answer) → x ≡ entry_of g 1 e
    → Raised c u u' (deliver (event_of (units c u).events x) (units c u).lists) r → Raised c u u' (deliver (event_of (units c u).events (entry_of g 1 e)) (units c u).lists) r
delivers c u u' x g e r q h = subst (λ (y : ℕ). Raised c u u' (deliver (event_of (units c u).events y) (units c u).lists) r) q h

-- where the rank decides
pub by_filed : (c : Circuit) (u u' : List ℕ) (f f' : Filed Lists) (r : Answer) → f ≡ f' → Raised c u u' f r → Raised c u u' f' r
by_filed c u u' f f' r e h = subst (λ (q : Filed Lists). Raised c u u' q r) e h

pub to_carried : (c : Circuit) (u u' : List ℕ) (s reached x g : ℕ) (to : Place) (r : Answer) → g ≡ gate_of x → s ≡ rank_of_gate c g → to ≡ After reached → s ≤ reached
    → Raised c u u' (room (units c u).lists.carried 256 (carried≔ (units c u).lists (snoc (units c u).lists.carried (act_of c x)))) r
    → Raised c u u' (activate c to (act_of c x) (units c u).lists) r
to_carried c u u' s reached x g to r eg es et h q =
    by_place c u u' (act_of c x) r to (After reached) et (by_filed c u u' _ _ r (after_carried c s reached x g (units c u).lists eg es h) q)

pub to_pending : (c : Circuit) (u u' : List ℕ) (s reached x g : ℕ) (to : Place) (r : Answer) → g ≡ gate_of x → s ≡ rank_of_gate c g → to ≡ After reached → reached < s
    → Raised c u u' (activate c Pending (act_of c x) (units c u).lists) r
    → Raised c u u' (activate c to (act_of c x) (units c u).lists) r
to_pending c u u' s reached x g to r eg es et h q =
    by_place c u u' (act_of c x) r to (After reached) et (by_filed c u u' _ _ r (after_pending c s reached x g (units c u).lists eg es h) q)

-- the rank that is handed on
pub rank_is : (c : Circuit) (s x g : ℕ) → g ≡ gate_of x → s ≡ rank_of_gate c g → s ≡ rank_of_gate c (gate_of x)
rank_is c s x g eg es = es ∙ ap (rank_of_gate c) eg
