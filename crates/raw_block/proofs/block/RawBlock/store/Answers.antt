use Rattle.std.proofs.Common.{length, take, ap, ◌∙◌, arith}
use Rattle.raw_block.proofs.Words.{put}
use Rattle.raw_block.proofs.Numbers.{take-bytes_low_first}
use Rattle.raw_block.proofs.block.RawBlock.store.Goals as goal

pub returns-clause-stored : goal.returns-clause-stored
returns-clause-stored c =
    let width = c.args.width in let same = ap (take width) c.to_le_bytes.ensures ∙ take-bytes_low_first 0 width 8 c.args.bits (omega arith) in
    c.bytes_mut.ensures.same_len c.put_item.new.bytes (c.put_item.auto.bytes ∙ ap length c.bytes_mut.ensures.value) ∙ c.put_item.ensures ∙ (λ i. put c.args.at (same i) (c.bytes_mut.ensures.value i))
