use mathlib.Core.Path.{refl}
use native.Mathlib.Omega.{arith}
use borrow.Author.Rules.{rules}
use Rattle.linking.proofs.Chaining.{size_small, start_small, row_is}
use Rattle.linking.proofs.Loops.{cells_first, cells_next, cells_last, below_first, below_next}
use Rattle.linking.proofs.lists.write_rows.Goals as goal

-- `write_rows` meets its contract. The loop: the members of the chains below o, and what is left to write.

pub loop-o-init : goal.loop-o-init
loop-o-init c = (below_first _ 0 refl, below_first _ 0 refl, cells_first _ _ _ _)

pub pack-row-requires-clause-short : goal.pack-row-requires-clause-short
pack-row-requires-clause-short c = start_small _ _ _ _ (search rules) c.requires.short c.loop-o.invariant.0

pub pack-row-requires-clause-short_2 : goal.pack-row-requires-clause-short_2
pack-row-requires-clause-short_2 c = size_small _ _ _ c.size-more_readers.ensures

pub pack-row-requires-clause-short_3 : goal.pack-row-requires-clause-short_3
pack-row-requires-clause-short_3 c = start_small _ _ _ _ (search rules) c.requires.short_2 c.loop-o.invariant.1

pub pack-row-requires-clause-short_4 : goal.pack-row-requires-clause-short_4
pack-row-requires-clause-short_4 c = size_small _ _ _ c.size-more_calls.ensures

pub overflow_add-first_reader : goal.overflow_add-first_reader
overflow_add-first_reader c =
    let a = start_small _ _ _ _ (search rules) c.requires.short c.loop-o.invariant.0 in
    let b = size_small _ _ _ c.size-more_readers.ensures in
    omega arith

pub overflow_add-first_call : goal.overflow_add-first_call
overflow_add-first_call c =
    let a = start_small _ _ _ _ (search rules) c.requires.short_2 c.loop-o.invariant.1 in
    let b = size_small _ _ _ c.size-more_calls.ensures in
    omega arith

pub loop-o-preserved : goal.loop-o-preserved
loop-o-preserved c = (
  below_next _ _ _ _ c.loop-o.invariant.0 c.size-more_readers.ensures,
  below_next _ _ _ _ c.loop-o.invariant.1 c.size-more_calls.ensures,
  cells_next _ _ _ _ _ _ _ _ c.loop-o-test.true
      (row_is _ _ _ _ _ _ _ _ c.loop-o.invariant.0 c.size-more_readers.ensures c.loop-o.invariant.1 c.size-more_calls.ensures c.pack-row.ensures) c.put.ensures c.loop-o.invariant.2,
)

pub returns : goal.returns
returns c = cells_last _ _ _ _ _ _ c.loop-o-test.false c.loop-o.invariant.2
