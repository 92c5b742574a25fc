use Rattle.whole.proofs.Forms.{has_fire, has_fire_too, fires_from, no_fire}
use Rattle.whole.proofs.units.firing.Goals as goal

pub returns-then-kind-eq-CHANGE_DETECTOR : goal.returns-then-kind-eq-CHANGE_DETECTOR
returns-then-kind-eq-CHANGE_DETECTOR c = has_fire _ c.if-kind-eq-CHANGE_DETECTOR.true

pub returns-then-kind-eq-BUFFER_TICKS_EXEC : goal.returns-then-kind-eq-BUFFER_TICKS_EXEC
returns-then-kind-eq-BUFFER_TICKS_EXEC c = has_fire_too _ c.if-kind-eq-CHANGE_DETECTOR.false c.if-kind-eq-BUFFER_TICKS_EXEC.true

pub returns-then-kind-ge-BUFFER_SECONDS_EXEC : goal.returns-then-kind-ge-BUFFER_SECONDS_EXEC
returns-then-kind-ge-BUFFER_SECONDS_EXEC c = fires_from _ c.if-kind-eq-CHANGE_DETECTOR.false c.if-kind-eq-BUFFER_TICKS_EXEC.false c.if-kind-ge-BUFFER_SECONDS_EXEC.true

pub returns-else-kind-ge-BUFFER_SECONDS_EXEC : goal.returns-else-kind-ge-BUFFER_SECONDS_EXEC
returns-else-kind-ge-BUFFER_SECONDS_EXEC c = no_fire _ c.if-kind-eq-CHANGE_DETECTOR.false c.if-kind-eq-BUFFER_TICKS_EXEC.false c.if-kind-ge-BUFFER_SECONDS_EXEC.false
