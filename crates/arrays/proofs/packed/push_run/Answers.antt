use Rattle.std.proofs.Common.{◌++◌, length, ap, ◌∙◌}
use Rattle.arrays.proofs.Words.{place, item_at, joined, joined-offsets}
use Rattle.arrays.proofs.packed.push_run.Goals as goal

pub returns-clause-bytes : goal.returns-clause-bytes
returns-clause-bytes c =
    let block = c.args.block.now in
    let items = c.args.items.now.0 in
    let from = c.strided.ensures in
    c.push_strided.ensures.bytes
    ∙ (λ i. items ++ joined (λ k. item_at (place (from i).steps.at (from i).steps.step k) (from i).width block) (from i).count)
    ∙ ap (λ l. items ++ l) (joined-offsets (length block) c.args.width c.args.run block c.requires.from)
