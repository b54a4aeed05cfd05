use Rattle.std.proofs.Common.{length, ◌∙◌}
use Rattle.fancy_index.proofs.Words.{assigned, row-multiples}
use Rattle.fancy_index.proofs.plans.Plan.scatter.Goals as goal

pub returns-clause-written : goal.returns-clause-written
returns-clause-written c =
    c.scatter.ensures.written
    ∙ (λ i. assigned (c.axes.ensures i) (row-multiples c.args.width (length (c.axes.ensures i)) i) c.args.width c.args.items.now c.args.block.now)
