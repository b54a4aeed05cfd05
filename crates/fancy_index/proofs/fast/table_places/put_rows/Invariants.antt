use Rattle.std.proofs.Common.{◌≡◌, ◌-◌, ◌/◌, ◌%◌, ◌<◌, length}
use Rattle.fancy_index.specs.inside.Items.{numbers_in}
use Rattle.fancy_index.specs.inside.Tables.{AreRead, InRows}
use Rattle.fancy_index.proofs.fast.table_places.put_rows.Given as goal

abbrev pub invariant-loop-row : goal.invariant-loop-row
invariant-loop-row g l = record {
  near : l.row % l.reading.table.now.step ≡ l.first;
  read : AreRead l.reading.named.n (numbers_in l.reading.named.array) (λ k. InRows (length l.reading.table.now.columns.items) l.reading.table.now.step l.first l.from l.end k × (k / length l.reading.table.now.columns.items < l.row)) l.are l.fn.places l.places;
}

abbrev pub decreases-loop-row : goal.decreases-loop-row
decreases-loop-row g l = length l.reading.table.now.rows.items - l.row
