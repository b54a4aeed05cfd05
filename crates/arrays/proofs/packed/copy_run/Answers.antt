use Rattle.std.proofs.Common.{sym, ◌∙◌}
use Rattle.arrays.proofs.Words.{copied}
use Rattle.arrays.proofs.RunCopies.{copied-even}
use Rattle.arrays.proofs.packed.copy_run.Goals as goal

pub returns-clause-written : goal.returns-clause-written
returns-clause-written c =
    let to = c.strided.ensures in
    let from = c.strided-2.ensures in
    c.copy_strided.ensures.copied
    ∙ (λ i. copied (to i).steps.at (to i).steps.step c.args.other.now (from i).steps.at (from i).steps.step (from i).width (from i).count c.args.block.now)
    ∙ (λ i. copied c.args.to.offset c.args.to.step c.args.other.now c.args.from.offset c.args.from.step c.args.width (sym c.requires.count i) c.args.block.now)
    ∙ copied-even _ _ _ _ _ c.requires.count c.requires.to c.requires.from
