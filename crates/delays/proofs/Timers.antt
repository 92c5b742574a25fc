-- Laws of Clocks and Stopwatches: each way out of the methods of clock.rt and stopwatch.rt.
use Prim.Native.Nat.{ℕ}
use mathlib.Core.Path.{◌≡◌, refl, sym, ap, ◌∙◌}
use mathlib.Core.Bool.{Bool, true, false}
use mathlib.Core.List.{[]}
use Rattle.model.specs.Base.{if◌then◌otherwise◌}
use Rattle.model.specs.Value.{bit, plus64, le64, lt64}
use Rattle.model.specs.State.{idle, elapsed≔}
use Rattle.model.specs.Delays.{moved, clock_at, advance_elapsed, stopwatch_at, advance_time, pressed}
use Rattle.delays.specs.declared.clock.Clock.{Clock}
use Rattle.delays.specs.declared.stopwatch.Stopwatch.{Stopwatch}
use Rattle.delays.specs.States.{clock, clock_moved, stopwatch, stopwatch_moved}

-- ---- a Clock

module _ (dt interval : ℕ) (enabled : Bool) (c : Clock) where
  pub clock_stands : enabled ≡ false → clock_moved (record { elapsed = c.elapsed; fired = false }) ≡ advance_elapsed dt interval enabled (clock c)
  unfolding clock_moved clock bit advance_elapsed if◌then◌otherwise◌
  clock_stands e = rw e

  module _ (t : ℕ) (due : Bool) (e : enabled ≡ true) (p : t ≡ plus64 c.elapsed dt) (q : due ≡ le64 interval t) where
    past : (b : Bool) → due ≡ b → le64 interval (plus64 c.elapsed dt) ≡ b
    past b h = ap (le64 interval) (sym p) ∙ sym q ∙ h

    pub clock_fires : due ≡ true → clock_moved (record { elapsed = 0; fired = true }) ≡ advance_elapsed dt interval enabled (clock c)
    unfolding clock_moved clock bit advance_elapsed clock_at elapsed≔ idle if◌then◌otherwise◌
    clock_fires h = let k = past true h in rw (e, k)

    pub clock_counts : due ≡ false → clock_moved (record { elapsed = t; fired = false }) ≡ advance_elapsed dt interval enabled (clock c)
    unfolding clock_moved clock bit advance_elapsed clock_at elapsed≔ idle if◌then◌otherwise◌
    clock_counts h = let k = past false h in rw (e, k, p)

-- ---- a Stopwatch

module _ (dt limit : ℕ) (s : Stopwatch) where
  pub stopwatch_stands : s.running ≡ false
      → stopwatch_moved (record { time = s.time; running = s.running; shows = s.running; expired = false }) ≡ advance_time dt limit (stopwatch s)
  unfolding stopwatch_moved stopwatch bit advance_time elapsed≔ idle if◌then◌otherwise◌
  stopwatch_stands e = rw e

  module _ (t : ℕ) (above : Bool) (e : s.running ≡ true) (p : t ≡ plus64 s.time dt) (a : above ≡ lt64 0 limit) where
    pub stopwatch_unlimited : above ≡ false
        → stopwatch_moved (record { time = t; running = s.running; shows = s.running; expired = false }) ≡ advance_time dt limit (stopwatch s)
    unfolding stopwatch_moved stopwatch bit advance_time stopwatch_at elapsed≔ idle if◌then◌otherwise◌
    stopwatch_unlimited h = let k : lt64 0 limit ≡ false = sym a ∙ h in rw (e, k, p)

    module _ (past : Bool) (h : above ≡ true) (q : past ≡ le64 limit t) where
      limited : lt64 0 limit ≡ true
      limited = sym a ∙ h

      at_limit : (b : Bool) → past ≡ b → le64 limit (plus64 s.time dt) ≡ b
      at_limit b f = ap (le64 limit) (sym p) ∙ sym q ∙ f

      pub stopwatch_expires : past ≡ true
          → stopwatch_moved (record { time = limit; running = false; shows = s.running; expired = true }) ≡ advance_time dt limit (stopwatch s)
      unfolding stopwatch_moved stopwatch bit advance_time stopwatch_at elapsed≔ idle if◌then◌otherwise◌
      stopwatch_expires f = let k = at_limit true f in rw (e, limited, k)

      pub stopwatch_runs : past ≡ false
          → stopwatch_moved (record { time = t; running = s.running; shows = s.running; expired = false }) ≡ advance_time dt limit (stopwatch s)
      unfolding stopwatch_moved stopwatch bit advance_time stopwatch_at elapsed≔ idle if◌then◌otherwise◌
      stopwatch_runs f = let k = at_limit false f in rw (e, limited, k, p)

pub pressed_restart : (s : Stopwatch)
    → stopwatch_moved (record { time = 0; running = true; shows = false; expired = false }) ≡ moved (pressed 0 (stopwatch s)) [] 0
unfolding stopwatch_moved stopwatch bit pressed elapsed≔ idle if◌then◌otherwise◌
pressed_restart s = refl

pub pressed_pause : (s : Stopwatch)
    → stopwatch_moved (record { time = s.time; running = false; shows = false; expired = false }) ≡ moved (pressed 1 (stopwatch s)) [] 0
unfolding stopwatch_moved stopwatch bit pressed elapsed≔ idle if◌then◌otherwise◌
pressed_pause s = refl

pub pressed_resume : (s : Stopwatch)
    → stopwatch_moved (record { time = s.time; running = true; shows = false; expired = false }) ≡ moved (pressed 2 (stopwatch s)) [] 0
unfolding stopwatch_moved stopwatch bit pressed elapsed≔ idle if◌then◌otherwise◌
pressed_resume s = refl
