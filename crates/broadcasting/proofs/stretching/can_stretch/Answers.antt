use Rattle.std.proofs.Common.{sym}
use Rattle.broadcasting.proofs.AlignedLaws.{too-many-axes}
use Rattle.broadcasting.proofs.stretching.can_stretch.Goals as goal

pub returns-then-lengths-rank : goal.returns-then-lengths-rank
returns-then-lengths-rank c = sym (too-many-axes c.args.lengths.now c.args.target.now c.if-lengths-rank.true)
