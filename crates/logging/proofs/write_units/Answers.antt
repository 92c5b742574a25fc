use borrow.Author.Rules.{rules}
use Rattle.units.specs.View.{listed_of}
use Rattle.logging.proofs.Records.{units_filled}
use Rattle.logging.proofs.Turns.{entries_say}
use Rattle.logging.proofs.write_units.Goals as goal

pub returns : goal.returns
unfolding listed_of
returns c = units_filled _ _ _ (c.write_row.ensures _ (entries_say (λ u. u.gate) _ _ _ (λ i r l a. search rules))) (c.write_row-2.ensures _ (entries_say (λ u. u.form) _ _ _ (λ i r l a. search rules)))
