use Rattle.std.proofs.Common.{◌∙◌}
use Rattle.raw_block.proofs.Words.{put}
use Rattle.raw_block.proofs.Exchanges.{exchanged-apart}
use Rattle.raw_block.proofs.item.swap_apart.Goals as goal

pub returns : goal.returns
returns g c =
    let a = c.args.a in let b = c.args.b in let bytes = c.args.bytes.now in
    c.put_array.ensures ∙ (λ i. put b (c.array_at-item.ensures i) (c.move_array.ensures i)) ∙ exchanged-apart a b g.row.N bytes c.requires.bounds.0 c.requires.bounds.1 c.requires.apart
