use Rattle.std.proofs.Common.{◌≡◌, subst, arith, pos}
use Rattle.fancy_index.proofs.Words.{ints, LieInBytes}
use Rattle.fancy_index.proofs.bools.count_run.Goals as goal

pub count_blocks-requires : goal.count_blocks-requires
count_blocks-requires c =
    let one : c.args.bools.run.step ≡ pos 1 = omega (arith, ints) in
    let bools = c.args.bools in
    subst (λ step. LieInBytes (record { bytes = bools.bytes; run = record { offset = bools.run.offset; count = bools.run.count; step = step }; rank = bools.rank })) one c.requires
