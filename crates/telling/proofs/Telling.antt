-- Words told one behind the other lie over those that were there.
use Prim.Native.Nat.{ℕ, ◌+◌}
use mathlib.Core.Path.{◌≡◌, refl, sym, ap, ◌∙◌}
use mathlib.Core.List.{List, [], ◌∷◌, ◌++◌, append-nil, append_assoc}
use lib.ListN.{length, set, length-append}
use lib.Seq.{take-length}
use Rattle.model.specs.Several.{over}
use Rattle.telling.specs.Numbers.{put_from}

-- no words
pub over_none : (old : List ℕ) → over [] old ≡ old
unfolding over
over_none old = take-length old

-- one word more
over_one : (new old : List ℕ) (x : ℕ) → over (new ++ (x ∷ [])) old ≡ set (over new old) (length new) x
unfolding over
over_one [] [] x = refl
over_one [] (o ∷ old) x = refl
over_one (y ∷ new) [] x = refl
over_one (y ∷ new) (o ∷ old) x = ap (λ (l : List ℕ). y ∷ l) (over_one new old x)

-- words behind those told so far
pub over_next : (xs new old : List ℕ) → put_from (length new) xs (over new old) ≡ over (new ++ xs) old
unfolding put_from
over_next [] new old = ap (λ (l : List ℕ). over l old) (sym (append-nil new))
over_next (x ∷ xs) new old =
    (λ j. put_from (sym (length-append new (x ∷ [])) j) xs (sym (over_one new old x) j))
    ∙ over_next xs (new ++ (x ∷ [])) old
    ∙ ap (λ (l : List ℕ). over l old) (append_assoc new (x ∷ []) xs)

-- the first ones
pub put_over : (xs old : List ℕ) → put_from 0 xs old ≡ over xs old
put_over xs old = ap (put_from 0 xs) (sym (over_none old)) ∙ over_next xs [] old
