use Rattle.raw_block.proofs.Grids.{AreWritten}
use Rattle.raw_block.proofs.grid.copy_by_columns.Given as goal

abbrev pub invariant-loop-column : goal.invariant-loop-column
invariant-loop-column g l = AreWritten l.grid g.row.N l.other l.column l.bytes
