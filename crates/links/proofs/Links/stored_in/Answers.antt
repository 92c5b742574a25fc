use Rattle.links.proofs.Reading.{input_stored}
use Rattle.links.proofs.Links.stored_in.Goals as goal

pub returns : goal.returns
returns c = input_stored _ _ _ _ _ c.entry-kind.ensures c.entry-content.ensures c.value_of.ensures
