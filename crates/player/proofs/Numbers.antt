-- What a host is told, from what code tells.
use Prim.Native.Nat.{ℕ}
use mathlib.Core.Path.{◌≡◌, ap, ◌∙◌}
use mathlib.Core.List.{List, [], ◌∷◌}
use Rattle.model.specs.Answer as model
use Rattle.run.specs.Told.{Answer, told}
use Rattle.telling.specs.Numbers.{number_of, end_of, put_from}
use Rattle.telling.proofs.Numbers.{number_told, end_told}
use Rattle.telling.proofs.Telling.{put_over}
use Rattle.player.specs.Numbers.{TellsHost}

pub tells_host :
    (a : Answer) (m : model.Answer) (r : ℕ) (ws ws₁ : List ℕ) → a ≡ told m → r ≡ number_of a → ws₁ ≡ put_from 0 (end_of a) ws → TellsHost m r ws ws₁
tells_host a m r ws ws₁ e n w =
    record { number = n ∙ ap number_of e ∙ number_told m; words = w ∙ ap (λ (xs : List ℕ). put_from 0 xs ws) (ap end_of e ∙ end_told m) ∙ put_over _ ws }
