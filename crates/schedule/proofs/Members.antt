-- What holds of each member of a list.
use mathlib.Core.List.{List, ◌++◌}
use Rattle.schedule.specs.Promise.{All, [·], ◌∷·◌}

pub all_map : {A : Type 0} {P R : A → Type 0} {l : List A} → ((a : A) → P a → R a) → All P l → All R l
all_map f [·] = [·]
all_map f (◌∷·◌ {a = a} p ps) = ◌∷·◌ (f a p) (all_map f ps)

pub all_append : {A : Type 0} {P : A → Type 0} {xs ys : List A} → All P xs → All P ys → All P (xs ++ ys)
all_append [·] b = b
all_append (◌∷·◌ p a) b = ◌∷·◌ p (all_append a b)
