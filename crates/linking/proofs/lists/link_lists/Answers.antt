use native.Mathlib.Omega.{arith}
use Rattle.linking.proofs.Members.{rows_small, lists_are}
use Rattle.linking.proofs.lists.link_lists.Goals as goal

-- `link_lists` meets its contract. The chains made have the members that belong to them, so all of them together fit.

pub write_rows-requires-clause-near : goal.write_rows-requires-clause-near
write_rows-requires-clause-near c = omega (arith, c.requires.outputs_le_most_outputs)

pub write_rows-requires-clause-short : goal.write_rows-requires-clause-short
write_rows-requires-clause-short c = rows_small _ _ _ _ c.requires.inputs_le_most_inputs c.requires.outputs_le_most_outputs c.fill_by_keys.ensures

pub write_rows-requires-clause-short_2 : goal.write_rows-requires-clause-short_2
write_rows-requires-clause-short_2 c = rows_small _ _ _ _ c.requires.count_le_most_inputs c.requires.outputs_le_most_outputs c.fill_by_keys-2.ensures

pub returns : goal.returns
returns c =
    lists_are _ _ _ _ _ _ _ _ _ _ _ _ c.requires.inputs_le_most_inputs c.requires.calls_nonzero c.requires.count_le_most_inputs c.requires.outputs_le_most_outputs
    c.fill_by_keys.ensures c.fill_by_keys-2.ensures c.write.ensures c.write-2.ensures c.write_rows.ensures
