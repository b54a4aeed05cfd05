use Rattle.std.proofs.Common.{◌-◌, ◌≤◌, length}
use Rattle.fancy_index.specs.inside.Items.{numbers_in}
use Rattle.fancy_index.specs.inside.Tables.{AreRead, InRows}
use Rattle.fancy_index.proofs.fast.table_places.put_columns.Given as goal

abbrev pub invariant-loop-from : goal.invariant-loop-from
invariant-loop-from g l = record {
  within : l.from ≤ l.columns;
  read : AreRead l.reading.named.n (numbers_in l.reading.named.array) (InRows (length l.reading.table.now.columns.items) l.reading.table.now.step l.first 0 l.from) l.are l.fn.places l.places;
}

abbrev pub decreases-loop-from : goal.decreases-loop-from
decreases-loop-from g l = l.columns - l.from
