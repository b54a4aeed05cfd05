use Rattle.std.proofs.Common.{◌≡◌, ◌+◌, ◌-◌, ◌<◌, ◌++◌, length, set, take, ◌∙◌, arith}
use Rattle.fancy_index.proofs.Words.{length-set, bools_in, ranks_from}
use Rattle.fancy_index.proofs.BoolLaws.{noted, length-bools}
use Rattle.fancy_index.proofs.fast.adjacent_bools.note_all.Goals as goal

pub loop-k-preserved : goal.loop-k-preserved
loop-k-preserved c =
    let bools = c.args.bools in
    let many = c.loop-k.k - c.args.from in
    let more : c.loop-k.k + 1 - c.args.from ≡ many + 1 = omega (arith, c.loop-k.invariant.from) in
    let room : many < length c.loop-k.found = omega (arith, c.loop-k-test.true, c.requires.block.few, c.loop-k.invariant.size) in
    record {
      size = length-set c.loop-k.found many c.loop-k.rank ∙ c.loop-k.invariant.size;
      from = omega (arith, c.loop-k.invariant.from);
      low = omega (arith, c.loop-k-test.true);
      rank = omega (arith, c.loop-k.invariant.rank);
      noted = (λ i. take (more i) (set c.loop-k.found many (c.loop-k.invariant.rank i)) ++ ranks_from bools (c.loop-k.k + 1))
          ∙ noted (bools_in bools) c.loop-k.found _ bools.rank many c.loop-k.k 1 (omega arith) (omega (arith, c.loop-k-test.true, c.requires.block.end, length-bools bools)) room
          (c.requires.all c.loop-k.k c.loop-k.invariant.from c.loop-k-test.true) c.loop-k.invariant.noted;
    }
