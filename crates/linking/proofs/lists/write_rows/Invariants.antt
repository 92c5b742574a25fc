use Prim.Native.Nat.{◌+◌, ◌-◌}
use mathlib.Core.List.{map}
use mathlib.Core.Path.{◌≡◌}
use lib.Seq.{sets}
use Rattle.model.specs.Base.{from}
use Rattle.linking.specs.Building.{written, below, size_at, row_of}
use Rattle.linking.proofs.lists.write_rows.Given as goal

abbrev pub invariant-loop-o : goal.invariant-loop-o
invariant-loop-o l = (l.first_reader ≡ below (size_at l.readers) l.o)
    × (l.first_call ≡ below (size_at l.called) l.o)
    × (sets l.cells (l.base + l.o) (map (row_of (size_at l.readers) (size_at l.called)) (from l.o (l.n - l.o)))
    ≡ written l.initial.cells l.base l.n (row_of (size_at l.readers) (size_at l.called)))
