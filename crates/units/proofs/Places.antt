-- The place of what is raised by rank, and of what is put off.
use Prim.Native.Nat.{ℕ, ◌<◌}
use mathlib.Core.Path.{◌≡◌, refl}
use mathlib.Core.Bool.{true}
use native.Mathlib.Omega.{arith}
use lib.Dec.{leb}
use borrow.Author.Tests.{le-leb}
use Rattle.schedule.specs.Schedule.{by_rank, put_off}
use Rattle.model.specs.Circuit.{Circuit, rank_of_gate}
use Rattle.model.specs.State.{Act}
use Rattle.units.specs.declared.Place.{Place}
use Rattle.units.specs.declared.Place.TheVariants.{Late, Pending, After}
use Rattle.units.specs.View.{Lists}
use Rattle.units.specs.Raising.{activate, most_rank, place_for}
use Rattle.units.specs.Lent.{carry}

-- by rank: where the pass files
pub ranked_for : (to : Place) → place_for by_rank to ≡ to
unfolding place_for
ranked_for Late = refl
ranked_for Pending = refl
ranked_for (After r) = refl

-- put off in the main pass: to carried, if there is room
pub put_off_carried : (c : Circuit) (r : ℕ) (a : Act) (l : Lists) → rank_of_gate c a.gate < 65536 → activate c (place_for put_off (After r)) a l ≡ carry a l
unfolding activate place_for
put_off_carried c r a l h =
    let e : leb (rank_of_gate c a.gate) most_rank ≡ true = le-leb (rank_of_gate c a.gate) most_rank (omega arith) in
    rw e refl
