use Rattle.std.proofs.Common.{◌/◌, ◌%◌, ◌<◌, length}
use Rattle.fancy_index.specs.inside.Items.{numbers_in}
use Rattle.fancy_index.specs.inside.Tables.{AreRead}
use Rattle.fancy_index.proofs.fast.table_places.put_table.Given as goal

abbrev pub invariant-loop-first : goal.invariant-loop-first
invariant-loop-first g l = AreRead l.reading.named.n (numbers_in l.reading.named.array) (λ k. k / length l.reading.table.now.columns.items % l.reading.table.now.step < l.first) l.are l.fn.places l.places
