use Rattle.std.proofs.Common.{◌≡◌, length, All}
use Rattle.name_store.proofs.Words.{flat_map, EachWithin, run_offsets, put_each}
use Rattle.name_store.proofs.rewrite.fill_runs.Given as goal

-- the remaining runs complete what all runs write
abbrev pub invariant-loop-run : goal.invariant-loop-run
invariant-loop-run l = record {
  rest : put_each (flat_map run_offsets l.run-iterator) l.item l.block ≡ put_each (flat_map run_offsets l.fn.runs) l.item l.fn.block;
  len : length l.block ≡ length l.fn.block;
  inside : All (λ run. EachWithin (length l.fn.block) run.offset run.step (length l.item) run.count) l.run-iterator;
}
