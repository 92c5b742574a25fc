-- What may be put off to the next tick, whatever its rank: the Fire of a ChangeDetector, and a pin (document 02, K5).
use Rattle.std.specs.Prelude.{◌≡◌, ◌⊎◌, ℕ, ◌+◌}
use Rattle.schedule.specs.Schedule.{Raise, When, put_off}
use Rattle.schedule.specs.Promise.{All}
use Rattle.model.specs.Kinds.{ChangeDetector}
use Rattle.model.specs.Circuit.{Circuit, kind_of_gate}
use Rattle.model.specs.State.{form-Fire, form_pin, Act}
use Rattle.model.specs.Unit.{World}
use Rattle.model.specs.Run.{body}

module _ (c : Circuit) where
  -- the Fire of a ChangeDetector, or a pin
  abbrev pub MayWait : Act → Type 0
  MayWait a = ((kind_of_gate c a.gate ≡ ChangeDetector) × (a.form ≡ form-Fire)) ⊎ ((p : ℕ) × (a.form ≡ form_pin + p))

  -- what is put off may be
  abbrev pub Rightly : {W : Type 0} → Raise W Act When → Type 0
  Rightly r = r.place ≡ put_off → MayWait r.act

  -- of all that a unit raises, in whatever world it begins
  abbrev pub PutsOffRightly : World → Act → Type 0
  PutsOffRightly w a = All Rightly (body c w a).raises
