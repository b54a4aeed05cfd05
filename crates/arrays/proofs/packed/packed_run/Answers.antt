use Rattle.arrays.proofs.PackedLaws.{row-within}
use Rattle.arrays.proofs.packed.packed_run.Goals as goal

pub returns-clause-within : goal.returns-clause-within
returns-clause-within c = row-within c.args.len c.args.at c.args.width c.args.count c.requires.within
