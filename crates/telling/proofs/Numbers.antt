-- What a host is told, from the code's answer and from the definition's.
use Prim.Native.Nat.{ℕ, ◌+◌}
use mathlib.Core.Path.{◌≡◌, refl, ap, ◌∙◌}
use mathlib.Core.List.{List, [], ◌∷◌}
use lib.ListN.{set}
use Rattle.model.specs.Answer.{refused, played, number, ticks_done, log_bytes}
use Rattle.model.specs.Answer as model
use Rattle.model.specs.Several.{told_of}
use Rattle.run.specs.Told.{told}
use Rattle.telling.specs.Numbers.{number_of, ticks_of, bytes_of, end_of, all_of, put_from}

-- ---- the definition's

pub number_told : (m : model.Answer) → number_of (told m) ≡ number m
unfolding told number
number_told (refused n) = refl
number_told (played p) = refl

pub end_told : (m : model.Answer) → end_of (told m) ≡ ticks_done m ∷ log_bytes m ∷ []
unfolding told ticks_done log_bytes
end_told (refused n) = refl
end_told (played p) = refl

pub all_told : (m : model.Answer) → all_of (told m) ≡ told_of m
unfolding told_of
all_told m = λ j. number_told m j ∷ end_told m j

-- ---- words put in their places

-- two words
pub puts_two :
    (at x y x₁ y₁ : ℕ) (ws ws₁ ws₂ : List ℕ) → x ≡ x₁ → ws₁ ≡ set ws at x → y ≡ y₁ → ws₂ ≡ set ws₁ (at + 1) y → ws₂ ≡ put_from at (x₁ ∷ y₁ ∷ []) ws
unfolding put_from
puts_two at x y x₁ y₁ ws ws₁ ws₂ ex e₁ ey e₂ = e₂ ∙ (λ j. set (e₁ j) (at + 1) y) ∙ (λ j. set (set ws at (ex j)) (at + 1) (ey j))

-- one, and then others
pub puts_more :
    (at x x₁ : ℕ) (xs ws ws₁ ws₂ : List ℕ) → x ≡ x₁ → ws₁ ≡ set ws at x → ws₂ ≡ put_from (at + 1) xs ws₁ → ws₂ ≡ put_from at (x₁ ∷ xs) ws
unfolding put_from
puts_more at x x₁ xs ws ws₁ ws₂ ex e₁ e₂ = e₂ ∙ ap (put_from (at + 1) xs) (e₁ ∙ ap (set ws at) ex)
