use Rattle.std.proofs.Common.{length, ap, ◌∙◌}
use Rattle.overlap_copy.proofs.Words.{IfOk-weaker, offsets, items_at, with_items}
use Rattle.overlap_copy.proofs.OverwriteLaws.{same-items}
use Rattle.overlap_copy.proofs.fast.overwrites.overwrite_each.Goals as goal

pub returns-clause-written : goal.returns-clause-written
returns-clause-written c =
    let os = offsets c.args.dst.now in
    let item = c.args.item.now in
    let block = c.args.block.now in
    IfOk-weaker c.overwrite.result _ _ (λ _ written.
    written
    ∙ (λ i. with_items os (items_at (c.in_ok-src.ensures.offsets i) (length item) (c.in_ok-other.ensures i)) block)
    ∙ ap (λ parts. with_items os parts block) (same-items (length os) item)) c.overwrite.ensures.written
