use Rattle.std.proofs.Common.{◌*◌, length, ◌∙◌}
use Rattle.raw_block.proofs.Words.{joined_run}
use Rattle.raw_block.proofs.Runs.{run_within}
use Rattle.raw_block.proofs.Appends.{said_otherwise}
use Rattle.raw_block.proofs.pushing.push_items.Goals as goal

pub part-requires : goal.part-requires
part-requires c =
    let items = c.args.items in
    run_within (length c.args.other.now) items.steps.at items.steps.step items.width items.count c.if-count-gt0.true (c.is_adjacent.ensures c.if-is_adjacent.true) c.requires.source

pub returns-then-is_adjacent : goal.returns-then-is_adjacent
returns-then-is_adjacent c =
    let items = c.args.items in
    said_otherwise _ (items.count * items.width) _ _ _ _ c.push_bytes.ensures c.part.ensures.len
    (c.part.ensures.value ∙ joined_run items.steps.at items.steps.step items.width items.count c.args.other.now (c.is_adjacent.ensures c.if-is_adjacent.true))
