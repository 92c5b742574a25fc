use Rattle.words.specs.Words.{words}
use Rattle.units.proofs.Sending.{scan_first, scan_found, scan_next, scan_last}
use Rattle.units.proofs.events.sent_by.Goals as goal

pub loop-i-init : goal.loop-i-init
loop-i-init c = let a = c.args in scan_first (words a.units.now) a.a a.n a.g

pub returns-then-g-get : goal.returns-then-g-get
returns-then-g-get c = let a = c.args in scan_found (words a.units.now) a.a a.n a.g c.loop-i.i _ _ c.loop-i-test.true c.loop-i.invariant c.get.ensures c.if-g-get.true

pub loop-i-preserved : goal.loop-i-preserved
loop-i-preserved c = let a = c.args in scan_next (words a.units.now) a.a a.n a.g c.loop-i.i _ _ c.loop-i-test.true c.loop-i.invariant c.get.ensures c.if-g-get.false

pub returns : goal.returns
returns c = let a = c.args in scan_last (words a.units.now) a.a a.n a.g c.loop-i.i _ c.loop-i-test.false c.loop-i.invariant
