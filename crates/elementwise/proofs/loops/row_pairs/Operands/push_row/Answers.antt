use Rattle.elementwise.specs.Words.{item_size}
use Rattle.elementwise.proofs.AppendedLaws.{row-made}
use Rattle.elementwise.proofs.loops.row_pairs.Operands.push_row.Goals as goal

pub returns : goal.returns
returns g c =
    let o = c.args.self in
    record {
      bytes = row-made (g.P.Pass.makes c.args.pass.now) (item_size o.left.descr.now) (item_size o.right.descr.now) _ _ o.left.block.now o.right.block.now _ _ c.args.row c.args.block.0 c.push_row.result.0
          c.size.ensures.value c.size-2.ensures.value c.bytes.ensures c.bytes-2.ensures c.requires.row.even c.requires.row.first c.requires.row.second c.push_row.ensures.bytes;
      left = c.push_row.ensures.left;
    }
