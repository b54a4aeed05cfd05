use Rattle.view_ops.proofs.PickLaws.{shown-whole}
use Rattle.view_ops.proofs.picks.whole_axis.Goals as goal

pub returns-clause-whole : goal.returns-clause-whole
returns-clause-whole c = shown-whole c.args.n
