use Rattle.hours.proofs.Calls.{driver_wrong, activity_wrong, no_length, some_length}
use mathlib.Core.Path.{ap}
use mathlib.Core.Bool.{not}
use Rattle.hours.proofs.good_names.Goals as goal

pub returns-then-not-value_output : goal.returns-then-not-value_output
returns-then-not-value_output c = driver_wrong _ _ _ _ _ c.value_output.ensures (ap not c.if-not-value_output.true)

pub returns-then-not-value_output-2 : goal.returns-then-not-value_output-2
returns-then-not-value_output-2 c = activity_wrong _ _ _ _ _ c.value_output.ensures (ap not c.if-not-value_output.false) _ c.value_output-2.ensures (ap not c.if-not-value_output-2.true)

pub returns-then-len-lt1 : goal.returns-then-len-lt1
returns-then-len-lt1 c = no_length _ _ _ _ _ c.value_output.ensures (ap not c.if-not-value_output.false) _ c.value_output-2.ensures (ap not c.if-not-value_output-2.false) c.if-len-lt1.true

pub returns : goal.returns
returns c = some_length _ _ _ _ _ c.value_output.ensures (ap not c.if-not-value_output.false) _ c.value_output-2.ensures (ap not c.if-not-value_output-2.false) c.if-len-lt1.false
