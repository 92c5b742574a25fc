use borrow.Author.Rules.{rules}
use Rattle.model.specs.Value.{kind_of, content_of}
use Rattle.logging.proofs.Records.{outputs_filled}
use Rattle.logging.proofs.Turns.{outs_say}
use Rattle.logging.proofs.write_outputs.Goals as goal

pub returns : goal.returns
returns c = outputs_filled _ _ c.requires.0 c.requires.1 (c.write_row.ensures _ (outs_say kind_of _ _ c.requires.0 c.requires.1 (λ i r l a. search rules))) (c.write_row-2.ensures _ (outs_say content_of _ _ c.requires.0 c.requires.1 (λ i r l a. search rules)))
