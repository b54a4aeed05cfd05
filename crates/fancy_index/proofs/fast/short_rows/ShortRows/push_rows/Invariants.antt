use Rattle.fancy_index.specs.inside.Kept.{short_offsets}
use Rattle.fancy_index.proofs.Passes.{Pushing}
use Rattle.fancy_index.proofs.ShortLaws.{rows_from}
use Rattle.fancy_index.proofs.fast.short_rows.ShortRows.push_rows.Given as goal

abbrev pub invariant-loop-k : goal.invariant-loop-k
invariant-loop-k l = Pushing (short_offsets l.self) (rows_from l.self l.k) l.source.width l.source.block.now l.fn.items l.items
