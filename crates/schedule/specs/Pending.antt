-- What the opening of a tick raises for the main pass.
use Rattle.std.specs.Prelude.{◌≡◌, List, [], ◌∷◌, Bool, true, false, cond, ℕ, ◌≤◌}
use Rattle.schedule.specs.Schedule.{Raise, Place, to_late, to_delivered, to_pending, Setup, Tick, acts}
use Rattle.schedule.specs.Promise.{total}

-- whether it goes to the pending list
abbrev pub pends : Place → Bool
pends to_late = false
pends to_delivered = false
pends to_pending = true

module _ (S : Setup) where
  open S.machine use {W, In, Act, opening}

  -- those that do, of what an opening raises
  abbrev pub for_main : List (Raise W Act Place) → List Act
  for_main [] = []
  for_main (r ∷ rs) = cond (pends r.place) (r.act ∷ for_main rs) (for_main rs)

  -- They all begin in the main pass of a tick t without a stop, which opens in the world w with what the script gives it: whatever number each counts for, they
  -- come to no more than what the pass began. (Each runs once: `raised_once` of `Orderly`.)
  abbrev pub BeginsPending : W → In → Tick S → Type 0
  BeginsPending w i t = t.stop ≡ 0 → (m : Act → ℕ) → total m (for_main (opening w i).raises) ≤ total m (acts S t.main)
