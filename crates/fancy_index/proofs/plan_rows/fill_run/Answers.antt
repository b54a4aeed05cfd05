use Rattle.std.proofs.Common.{length, ◌∙◌}
use Rattle.fancy_index.proofs.Words.{filled, filled-run}
use Rattle.fancy_index.proofs.plan_rows.fill_run.Goals as goal

pub returns-clause-written : goal.returns-clause-written
returns-clause-written c =
    let to = c.args.to in
    c.fill_strided.ensures.filled
    ∙ (λ i. filled (c.strided.ensures i).steps.at (c.strided.ensures i).steps.step c.args.item.now to.count c.args.block.now)
    ∙ filled-run (length c.args.block.now) to.offset to.step c.args.item.now to.count c.args.block.now c.requires
