use Rattle.std.proofs.Common.{◌≡◌, map, take}
use Rattle.bench_engine.proofs.Words.{index_items, array_by_items}
use Rattle.bench_engine.proofs.index_list.with_arrays.Given as goal

-- the items so far, with their arrays
abbrev pub invariant-loop-item : goal.invariant-loop-item
invariant-loop-item l = index_items l.items.items ≡ map (array_by_items l.bench.state) (take l.item-index l.index)
