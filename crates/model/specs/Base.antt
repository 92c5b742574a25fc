-- Small things about lists that the definition is written with.
use Rattle.std.specs.Prelude.{ℕ, zero, suc, ◌+◌, Bool, true, false, ◌&&◌, ◌||◌, List, [], ◌∷◌, ◌++◌, eqb, replicate}

infix 4 if◌then◌otherwise◌
-- a choice by a test
unfoldable pub if◌then◌otherwise◌ {ℓ} : {A : Type ℓ} → Bool → A → A → A
if true then a otherwise b = a
if false then a otherwise b = b

module _ {A : Type 0} where
  -- those that pass the test
  unfoldable pub keep : (A → Bool) → List A → List A
  keep p [] = []
  keep p (x ∷ xs) = if p x then x ∷ keep p xs otherwise keep p xs

  -- whether each passes the test
  unfoldable pub all : (A → Bool) → List A → Bool
  all p [] = true
  all p (x ∷ xs) = p x && all p xs

  -- one after the other, from the first
  unfoldable pub each : {B : Type 0} → (B → A → B) → B → List A → B
  each f b [] = b
  each f b (x ∷ xs) = each f (f b x) xs

  -- one more at the end
  unfoldable pub snoc : List A → A → List A
  snoc xs x = xs ++ (x ∷ [])

  -- one list behind the other
  unfoldable pub joined : List (List A) → List A
  joined [] = []
  joined (x ∷ xs) = x ++ joined xs

-- two parallel lists
unfoldable pub both : {A B C : Type 0} → (A → B → C) → List A → List B → List C
both f [] [] = []
both f [] (y ∷ ys) = []
both f (x ∷ xs) [] = []
both f (x ∷ xs) (y ∷ ys) = f x y ∷ both f xs ys

-- whether n is one of them
unfoldable pub among : ℕ → List ℕ → Bool
among n [] = false
among n (x ∷ xs) = eqb n x || among n xs

-- n, n + 1, .. : so many
unfoldable pub from : ℕ → ℕ → List ℕ
from n zero = []
from n (suc k) = n ∷ from (suc n) k

-- added up
unfoldable pub sum : List ℕ → ℕ
sum [] = 0
sum (x ∷ xs) = x + sum xs

-- where each part begins, in a row of parts of these sizes
unfoldable pub starts : ℕ → List ℕ → List ℕ
starts n [] = []
starts n (k ∷ ks) = n ∷ starts (n + k) ks

-- which part each place belongs to
unfoldable pub owners : ℕ → List ℕ → List ℕ
owners g [] = []
owners g (k ∷ ks) = replicate k g ++ owners (suc g) ks

-- What a proof by computation opens: to name it on an `unfolding` line opens each name of its own.
unfoldable pub base_opened : ℕ
unfolding if◌then◌otherwise◌ keep all each snoc joined both among from sum starts owners
base_opened = 0
