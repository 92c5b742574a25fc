use Rattle.links.proofs.Reading.{gate_setting}
use Rattle.links.proofs.Links.setting.Goals as goal

pub returns : goal.returns
returns c = gate_setting _ _ _ _ _ c.input.ensures c.stored_in.ensures
