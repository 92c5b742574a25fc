use Rattle.linking.proofs.Chaining.{one_chained}
use Rattle.linking.proofs.chains.Chains.add.Goals as goal

-- `add` meets its contract.

pub returns : goal.returns
returns c = one_chained c.args.self.now.heads c.args.self.now.next _ _ _ _ _ c.at-head.ensures c.put.ensures c.put-2.ensures
