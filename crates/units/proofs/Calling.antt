-- What the functions over the calls come to: one law for each way out of one.
use Prim.Native.Nat.{ℕ, ◌≤◌, ◌<◌}
use mathlib.Core.Path.{◌≡◌, refl, sym, ap, ◌∙◌}
use mathlib.Core.Bool.{Bool, true, false, cond}
use mathlib.Core.List.{List, [], ◌∷◌, ◌++◌}
use native.Mathlib.Omega.{arith}
use borrow.Rule.Slice.PartMut.{put_mid}
use lib.Dec.{ltb}
use lib.ListN.{length, take, drop}
use borrow.Author.Tests.{le-leb, lt-leb}
use Rattle.words.specs.Words.{words}
use Rattle.std.specs.Prelude.{Option, None}
use Rattle.lists.specs.Lists.{stacked, queued, filed, if_room, taken, Emptied, Filed}
use Rattle.model.specs.Base.{if◌then◌otherwise◌, snoc}
use Rattle.model.specs.Circuit.{Circuit}
use Rattle.model.specs.Chain.{Calls, no_calls, pop_fork, pop}
use Rattle.units.specs.View.{events_of, second_half, units}
use Rattle.units.specs.Calls.{with_calls, stack≔, forks≔, fits_one, called, forked, popped, calls_left}
use Rattle.units.specs.Lent.{Pops}
use Rattle.units.proofs.Lending.{lent, lent_back, lent_tail}

-- ---- the chain stack

-- What is lent of it,
pub stack_lent : (c : Circuit) (bs : List ℕ) → stacked 256 (words (take 2056 bs)) ≡ (units c bs).calls.stack
unfolding units
stack_lent c bs = ap (stacked 256) (lent bs 0 (omega arith))

-- and what it comes back as.
pub stack_back :
    (c : Circuit) (bs p : List ℕ) → 65536 ≤ length bs → length p ≡ 2056 →
    units c (put_mid 0 2056 bs p) ≡ with_calls (units c bs) (stack≔ (units c bs).calls (stacked 256 (words p)))
unfolding units events_of second_half
stack_back c bs p l e = rw (lent_back bs p 0 (omega arith) l (omega arith) e, lent_tail bs p 0 (omega arith) l (omega arith) e)

called_is : (i : ℕ) (q : Calls) → called i q ≡ stack≔ q (if_room 256 q.stack (i ∷ q.stack))
unfolding called if_room
called_is i q = go (ltb (length q.stack) 256)
  where
    go : (b : Bool) → cond b (stack≔ q (i ∷ q.stack)) q ≡ stack≔ q (cond b (i ∷ q.stack) q.stack)
    go true = refl
    go false = refl

pub call_pushed :
    (bs p : List ℕ) (i : ℕ) (r : Filed) → 65536 ≤ length bs → length p ≡ 2056 →
    (r ≡ filed 256 (stacked 256 (words (take 2056 bs)))) × (stacked 256 (words p) ≡ if_room 256 (stacked 256 (words (take 2056 bs))) (i ∷ stacked 256 (words (take 2056 bs)))) →
    (c : Circuit) → (r ≡ fits_one (units c bs).calls.stack) × (units c (put_mid 0 2056 bs p) ≡ with_calls (units c bs) (called i (units c bs).calls))
unfolding fits_one filed
call_pushed bs p i r l e q c = (
  q.0 ∙ ap (filed 256) (stack_lent c bs),
  stack_back c bs p l e
      ∙ ap (λ (x : List ℕ). with_calls (units c bs) (stack≔ (units c bs).calls x)) (q.1 ∙ ap (λ (x : List ℕ). if_room 256 x (i ∷ x)) (stack_lent c bs))
      ∙ ap (with_calls (units c bs)) (sym (called_is i (units c bs).calls)),
)

-- ---- the forks

pub forks_lent : (c : Circuit) (bs : List ℕ) → queued 256 (words (take 2064 (drop 2056 bs))) ≡ (units c bs).calls.forks
unfolding units
forks_lent c bs = ap (queued 256) (lent bs 1 (omega arith))

pub forks_back :
    (c : Circuit) (bs p : List ℕ) → 65536 ≤ length bs → length p ≡ 2064 →
    units c (put_mid 2056 2064 bs p) ≡ with_calls (units c bs) (forks≔ (units c bs).calls (queued 256 (words p)))
unfolding units events_of second_half
forks_back c bs p l e = rw (lent_back bs p 1 (omega arith) l (omega arith) e, lent_tail bs p 1 (omega arith) l (omega arith) e)

forked_is : (i : ℕ) (q : Calls) → forked i q ≡ forks≔ q (if_room 256 q.forks (q.forks ++ i ∷ []))
unfolding forked if_room snoc
forked_is i q = go (ltb (length q.forks) 256)
  where
    go : (b : Bool) → cond b (forks≔ q (q.forks ++ (i ∷ []))) q ≡ forks≔ q (cond b (q.forks ++ i ∷ []) q.forks)
    go true = refl
    go false = refl

pub fork_pushed :
    (bs p : List ℕ) (i : ℕ) (r : Filed) → 65536 ≤ length bs → length p ≡ 2064 →
    (r ≡ filed 256 (queued 256 (words (take 2064 (drop 2056 bs)))))
    × (queued 256 (words p) ≡ if_room 256 (queued 256 (words (take 2064 (drop 2056 bs)))) (queued 256 (words (take 2064 (drop 2056 bs))) ++ i ∷ [])) →
    (c : Circuit) → (r ≡ fits_one (units c bs).calls.forks) × (units c (put_mid 2056 2064 bs p) ≡ with_calls (units c bs) (forked i (units c bs).calls))
unfolding fits_one filed
fork_pushed bs p i r l e q c = (
  q.0 ∙ ap (filed 256) (forks_lent c bs),
  forks_back c bs p l e
      ∙ ap (λ (x : List ℕ). with_calls (units c bs) (forks≔ (units c bs).calls x)) (q.1 ∙ ap (λ (x : List ℕ). if_room 256 x (x ++ i ∷ [])) (forks_lent c bs))
      ∙ ap (with_calls (units c bs)) (sym (forked_is i (units c bs).calls)),
)

-- ---- the next call

-- above what waited before
pop_above : (inside : Bool) (under : ℕ) (q : Calls) (st : List ℕ) → q.stack ≡ st → under < length st →
    (taken st ≡ popped (pop inside under st q.forks)) × (stack≔ q (drop 1 st) ≡ calls_left q (pop inside under st q.forks))
unfolding pop popped calls_left taken if◌then◌otherwise◌
pop_above inside under q [] e l = absurd (omega (arith, l))
pop_above inside under q (i ∷ st) e l = let z = le-leb under (length st) (omega (arith, l)) in rw (z, pop) (refl, refl)

-- with nothing there, a fork
pop_below : (inside : Bool) (under : ℕ) (st fs : List ℕ) → length st ≤ under → pop inside under st fs ≡ pop_fork inside st fs
unfolding pop if◌then◌otherwise◌
pop_below inside under [] fs l = refl
pop_below inside under (i ∷ st) fs l = let z = lt-leb under (length st) (omega (arith, l)) in rw (z, pop)

took : (st fs : List ℕ) → taken fs ≡ popped (pop_fork false st fs)
unfolding taken pop_fork popped
took st [] = refl
took st (i ∷ fs) = refl

left : (q : Calls) (fs : List ℕ) → q.forks ≡ fs → forks≔ q (drop 1 fs) ≡ calls_left q (pop_fork false q.stack fs)
unfolding pop_fork calls_left
left q [] e = λ j. record { stack = q.stack; forks = sym e j }
left q (i ∷ fs) e = refl

-- The stack has one above, which is taken off.
pub call_popped :
    (bs p : List ℕ) (t : Option ℕ) (under n : ℕ) (inside : Bool) → 65536 ≤ length bs → length p ≡ 2056 →
    ((c : Circuit) → n ≡ length (units c bs).calls.stack) → under < n →
    (t ≡ taken (stacked 256 (words (take 2056 bs)))) × (stacked 256 (words p) ≡ drop 1 (stacked 256 (words (take 2056 bs)))) →
    (c : Circuit) → Pops (units c bs) (units c (put_mid 0 2056 bs p)) t (pop inside under (units c bs).calls.stack (units c bs).calls.forks)
call_popped bs p t under n inside l e m h q c =
    let s = stack_lent c bs in
    let u = pop_above inside under (units c bs).calls (units c bs).calls.stack refl (omega (arith, h, m c)) in (
      q.0 ∙ ap taken s ∙ u.0,
      stack_back c bs p l e ∙ ap (λ (x : List ℕ). with_calls (units c bs) (stack≔ (units c bs).calls x)) (q.1 ∙ ap (drop 1) s) ∙ ap (with_calls (units c bs)) u.1,
    )

-- None is above, and the forks wait.
pub none_popped :
    (bs : List ℕ) (under n : ℕ) (inside : Bool) → ((c : Circuit) → n ≡ length (units c bs).calls.stack) → n ≤ under → inside ≡ true →
    (c : Circuit) → Pops (units c bs) (units c bs) None (pop inside under (units c bs).calls.stack (units c bs).calls.forks)
unfolding pop_fork popped calls_left
none_popped bs under n inside m h e c =
    let k = pop_below inside under (units c bs).calls.stack (units c bs).calls.forks (omega (arith, h, m c)) in rw (k, e) (refl, refl)

-- None is above: what there is of the forks is taken off.
pub fork_popped :
    (bs d : List ℕ) (r : Option ℕ) (under n : ℕ) (inside : Bool) → 65536 ≤ length bs → length d ≡ 2064 →
    ((c : Circuit) → n ≡ length (units c bs).calls.stack) → n ≤ under → inside ≡ false →
    (r ≡ taken (queued 256 (words (take 2064 (drop 2056 bs))))) × (queued 256 (words d) ≡ drop 1 (queued 256 (words (take 2064 (drop 2056 bs))))) →
    (c : Circuit) → Pops (units c bs) (units c (put_mid 2056 2064 bs d)) r (pop inside under (units c bs).calls.stack (units c bs).calls.forks)
fork_popped bs d r under n inside l f m h i g c =
    let k = pop_below inside under (units c bs).calls.stack (units c bs).calls.forks (omega (arith, h, m c)) in
    let v = forks_lent c bs in
    rw (k, i) (
      g.0 ∙ ap taken v ∙ took (units c bs).calls.stack (units c bs).calls.forks,
      forks_back c bs d l f
          ∙ ap (λ (x : List ℕ). with_calls (units c bs) (forks≔ (units c bs).calls x)) (g.1 ∙ ap (drop 1) v)
          ∙ ap (with_calls (units c bs)) (left (units c bs).calls (units c bs).calls.forks refl),
    )

-- Both are empty.
pub calls_cleared :
    (bs p d : List ℕ) → 65536 ≤ length bs → 65536 ≤ length (put_mid 0 2056 bs p) → length p ≡ 2056 → length d ≡ 2064 → Emptied (words p) → Emptied (words d) →
    (c : Circuit) → units c (put_mid 2056 2064 (put_mid 0 2056 bs p) d) ≡ with_calls (units c bs) no_calls
calls_cleared bs p d l m e f z y c =
    let b : units c (put_mid 0 2056 bs p) ≡ with_calls (units c bs) (stack≔ (units c bs).calls []) =
    stack_back c bs p l e ∙ ap (λ (x : List ℕ). with_calls (units c bs) (stack≔ (units c bs).calls x)) (z 256).0 in
    forks_back c (put_mid 0 2056 bs p) d m f ∙ (λ j. with_calls (b j) (forks≔ (b j).calls ((y 256).1 j)))
