use Rattle.elementwise.proofs.AddedLaws.{none-added}
use Rattle.elementwise.proofs.loops.numbers.NumbersPass.push_row.Goals as goal

pub returns-in_default-2 : goal.returns-in_default-2
returns-in_default-2 g c = c.push_from.ensures c.args.block (none-added g.T.Number.WIDTH c.args.block)
