use Rattle.words.proofs.Access.{read_word}
use Rattle.words.proofs.get.Goals as goal

pub returns : goal.returns
returns c = read_word c.args.i c.args.area.now _ c.requires c.from_le_bytes.ensures
