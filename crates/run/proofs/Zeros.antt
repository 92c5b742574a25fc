-- An area made zero.
use Prim.Native.Nat.{ℕ}
use mathlib.Core.Path.{◌≡◌, ap, ◌∙◌}
use mathlib.Core.List.{List}
use lib.ListN.{replicate}

-- an area that kept its length until it was cleared
pub zero_as : (n m : ℕ) (l : List ℕ) → l ≡ replicate m 0 → m ≡ n → l ≡ replicate n 0
zero_as n m l e h = e ∙ ap (λ (k : ℕ). replicate k 0) h
