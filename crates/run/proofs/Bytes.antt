-- The log's bytes after a run.
use Prim.Native.Nat.{ℕ, ◌*◌, ◌≤◌}
use mathlib.Core.Path.{◌≡◌, sym, ap, ◌∙◌}
use mathlib.Core.List.{List, ◌++◌}
use native.Mathlib.Omega.{arith}
use lib.ListN.{length, drop}
use Rattle.words.specs.Words.{words, bytes}
use Rattle.words.proofs.Laws.{Below}
use Rattle.words.proofs.Filling.{front_bytes}
use Rattle.model.specs.Run.{Played}
use Rattle.run.specs.Running.{Logged}

-- The records, and behind them what was there.
pub logged_bytes :
    (p : Played) (before log : List ℕ) (at stop k : ℕ) → Below 256 before → Below 256 log → at * 8 ≤ length before → Logged p before log at stop k →
    log ≡ bytes p.log ++ drop (8 * length p.log) before
logged_bytes p before log at stop k b₁ b₂ h g =
    let e = g.size in
    front_bytes before log p.log b₁ b₂ (omega (arith, h, e)) (g.words ∙ ap (λ (n : ℕ). p.log ++ drop n (words before)) (sym e)) g.tail
