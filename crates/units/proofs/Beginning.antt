-- What the functions over the units begun come to.
use Prim.Native.Nat.{ℕ, ◌+◌, ◌≤◌}
use mathlib.Core.Path.{◌≡◌, refl, sym, ap, ◌∙◌}
use mathlib.Core.Bool.{Bool, true, false, cond}
use mathlib.Core.List.{List, [], ◌∷◌, ◌++◌, map, reverse}
use native.Mathlib.Omega.{arith}
use borrow.Rule.Slice.PartMut.{put_mid}
use lib.Dec.{ltb}
use lib.ListN.{length, take, drop, length-map, length-reverse}
use Rattle.words.specs.Words.{words}
use Rattle.lists.specs.Lists.{stacked, appended, filed, if_room, Filed, NoRoom, Done}
use Rattle.schedule.proofs.Erase.{map_append}
use Rattle.lists.proofs.Stacks.{appended_push}
use Rattle.model.specs.Base.{snoc}
use Rattle.model.specs.Circuit.{Circuit}
use Rattle.model.specs.Record.{Listed}
use Rattle.units.specs.View.{listed_of, events_of, second_half, units}
use Rattle.units.specs.Calls.{with_begun}
use Rattle.units.proofs.Lending.{lent, lent_back, lent_tail}

pub begun_lent : (c : Circuit) (bs : List ℕ) → map listed_of (appended 1024 (words (take 8200 (drop 10816 bs)))) ≡ (units c bs).begun
unfolding units
begun_lent c bs = ap (λ (x : List ℕ). map listed_of (appended 1024 x)) (lent bs 6 (omega arith))

pub begun_back :
    (c : Circuit) (bs p : List ℕ) → 65536 ≤ length bs → length p ≡ 8200 →
    units c (put_mid 10816 8200 bs p) ≡ with_begun (units c bs) (map listed_of (appended 1024 (words p)))
unfolding units events_of second_half
begun_back c bs p l e = rw (lent_back bs p 6 (omega arith) l (omega arith) e, lent_tail bs p 6 (omega arith) l (omega arith) e)

-- as many as stand on the stack
pub begun_length : (st : List ℕ) → length (map listed_of (reverse st)) ≡ length st
begun_length st = length-map (reverse st) listed_of ∙ length-reverse st

-- one more
begun_more :
    (st : List ℕ) (x : ℕ) →
    map listed_of (reverse (if_room 1024 st (x ∷ st)))
    ≡ cond (ltb (length (map listed_of (reverse st))) 1024) (snoc (map listed_of (reverse st)) (listed_of x)) (map listed_of (reverse st))
unfolding if_room snoc
begun_more st x = rw (begun_length st) (go (ltb (length st) 1024))
  where
    go : (b : Bool) → map listed_of (reverse (cond b (x ∷ st) st)) ≡ cond b (map listed_of (reverse st) ++ (listed_of x ∷ [])) (map listed_of (reverse st))
    go true = ap (map listed_of) (appended_push x st) ∙ map_append listed_of (reverse st) (x ∷ [])
    go false = refl

pub begun_pushed :
    (bs p : List ℕ) (x : ℕ) (r : Filed) → 65536 ≤ length bs → length p ≡ 8200 →
    (r ≡ filed 1024 (stacked 1024 (words (take 8200 (drop 10816 bs)))))
    × (stacked 1024 (words p) ≡ if_room 1024 (stacked 1024 (words (take 8200 (drop 10816 bs)))) (x ∷ stacked 1024 (words (take 8200 (drop 10816 bs))))) →
    (c : Circuit) →
    (r ≡ cond (ltb (length (units c bs).begun) 1024) Done NoRoom)
    × (units c (put_mid 10816 8200 bs p) ≡ with_begun (units c bs) (cond (ltb (length (units c bs).begun) 1024) (snoc (units c bs).begun (listed_of x)) (units c bs).begun))
unfolding filed
begun_pushed bs p x r l e q c =
    let st = stacked 1024 (words (take 8200 (drop 10816 bs))) in
    let v : map listed_of (reverse st) ≡ (units c bs).begun = begun_lent c bs in (
      q.0 ∙ ap (λ (n : ℕ). cond (ltb n 1024) Done NoRoom) (sym (begun_length st) ∙ ap length v),
      begun_back c bs p l e
          ∙ ap (with_begun (units c bs))
          (ap (λ (y : List ℕ). map listed_of (reverse y)) q.1 ∙ begun_more st x ∙ ap (λ (b : List Listed). cond (ltb (length b) 1024) (snoc b (listed_of x)) b) v),
    )

-- how many
pub begun_counted : (bs : List ℕ) (n : ℕ) → n ≡ length (stacked 1024 (words (take 8200 (drop 10816 bs)))) → (c : Circuit) → n ≡ length (units c bs).begun
begun_counted bs n e c = e ∙ sym (begun_length (stacked 1024 (words (take 8200 (drop 10816 bs))))) ∙ ap length (begun_lent c bs)
