use Rattle.delays.proofs.Countdowns.{one_less, more_seconds}
use mathlib.Core.Path.{ap, ◌∙◌}
use Rattle.delays.specs.States.{counted}
use Rattle.delays.specs.declared.countdown.Countdown.TheVariants.{Ticks}
use Prim.Native.Nat.{ℕ}
use Rattle.delays.proofs.countdown.Countdown.tick_down.Goals as goal

pub returns-in-Ticks : goal.returns-in-Ticks
returns-in-Ticks c = ap (λ (n : ℕ). counted (Ticks n)) c.saturating_sub.ensures ∙ one_less _ _ _ c.in-Ticks.is

pub returns-in-Seconds : goal.returns-in-Seconds
returns-in-Seconds c = more_seconds _ _ _ _ _ c.in-Seconds.is c.plus32.ensures
