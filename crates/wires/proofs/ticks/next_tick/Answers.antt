use Rattle.wires.proofs.Memory.{tick_word, ticked}
use Rattle.links.specs.Links.{net}
use Rattle.std.proofs.Common.{arith, rules}
use Rattle.wires.proofs.ticks.next_tick.Goals as goal

pub overflow_add-tick : goal.overflow_add-tick
overflow_add-tick c = let q = tick_word (net c.args.links.now) c.args.values.now _ c.get-tick.ensures in omega (arith, q, c.requires.1)

pub returns : goal.returns
returns c = ticked _ _ _ _ _ _ _ _ _ _ _ (search rules) c.get-tick.ensures c.get-uptime.ensures c.put.ensures c.put-2.ensures c.plus64.ensures c.put-3.ensures c.put-4.ensures c.put-5.ensures
