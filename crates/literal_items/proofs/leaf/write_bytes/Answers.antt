use Rattle.std.proofs.Common.{◌++◌, ◌∙◌, length, drop}
use Rattle.literal_items.proofs.Words.{without_nuls}
use Rattle.literal_items.proofs.Nuls.{bytes_encoded, bytes_read_back}
use Rattle.literal_items.proofs.leaf.write_bytes.Goals as goal

pub returns-clause-encoded : goal.returns-clause-encoded
returns-clause-encoded c =
    let zeros = c.fill.ensures.after (λ y same. same) in
    let kept = c.copy_from_slice.ensures.after in
    (λ i. kept i ++ drop c.min-kept.result (zeros i))
    ∙ bytes_encoded (length c.args.item.now) c.min-kept.result c.args.bytes.now c.min-kept.ensures

pub returns-clause-reads_back : goal.returns-clause-reads_back
returns-clause-reads_back c =
    let zeros = c.fill.ensures.after (λ y same. same) in
    let kept = c.copy_from_slice.ensures.after in
    (λ i. without_nuls (kept i ++ drop c.min-kept.result (zeros i)))
    ∙ bytes_read_back (length c.args.item.now) c.min-kept.result c.args.bytes.now c.min-kept.ensures
