-- What contracts say of the code's tally.
use Rattle.std.specs.Prelude.{◌≡◌, ◌<◌, Option, Some, None, List, length}
use Rattle.model.specs.Base.{each}
use Rattle.hours.specs.Hours.{Share, most_drivers}
use Rattle.hours.specs.Tally.{tallied, tally, at_start, UpTo, above_all, Counts}
use Rattle.hours.specs.declared.tally.Tally.{Tally}

-- some ticks were counted
abbrev pub Counted : List Share → Tally → Tally → Option (Unit {0}) → Type 0
Counted ss t t' r = Counts ss t.drivers t.counts t.n t'.drivers t'.counts t'.n r

-- All ticks of a log were counted: r is their tally, or tells that a 33rd driver appeared.
pub record CountedAll (ss : List Share) (r : Option Tally) : Type 0 where
  pub few : (t : Tally) → r ≡ Some t → tally t.drivers t.counts t.n ≡ each tallied at_start ss
  pub many : r ≡ None → most_drivers < length (each tallied at_start ss).drivers
  pub low : (t : Tally) → r ≡ Some t → UpTo above_all t.counts
