use Rattle.std.proofs.Common.{◌-◌}
use Rattle.play.proofs.print_records.Given as goal

abbrev pub decreases-loop-at : goal.decreases-loop-at
decreases-loop-at g l = l.size - l.at
