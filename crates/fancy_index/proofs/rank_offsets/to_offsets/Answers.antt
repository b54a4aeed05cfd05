use Rattle.std.proofs.Common.{length, ap, arith}
use Rattle.fancy_index.proofs.Words.{length-offsets, length-run_offsets}
use Rattle.fancy_index.proofs.rank_offsets.to_offsets.Goals as goal

pub run_to_offsets-requires-clause-few : goal.run_to_offsets-requires-clause-few
run_to_offsets-requires-clause-few c =
    omega (arith, length-run_offsets c.in-Some.run', ap length c.in-Some.ensures.items, length-offsets c.args.layout.now, c.items-items.ensures.value, c.items-items.ensures.limit)

pub run_to_offsets-requires-clause-ranks : goal.run_to_offsets-requires-clause-ranks
run_to_offsets-requires-clause-ranks c = λ k d below.
    omega (arith, c.requires.ranks k d below, length-run_offsets c.in-Some.run', ap length c.in-Some.ensures.items, length-offsets c.args.layout.now)
