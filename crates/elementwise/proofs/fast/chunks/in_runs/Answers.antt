use Rattle.std.proofs.Common.{◌≡◌, rules, ap, arith}
use Rattle.elementwise.proofs.Words.{count, max_bytes}
use Rattle.elementwise.proofs.RowLaws.{count-run}
use Rattle.elementwise.proofs.fast.chunks.in_runs.Goals as goal

pub invariant_of-result : goal.invariant_of-result
invariant_of-result c =
    let b = c.args.both in
    let l = b.left.layout.now in
    let first = c.in_ok-left.ensures in
    let second = c.in_ok-right.ensures in
    let same : l.shape ≡ b.shape.now = search rules in
    let other : b.right.layout.now.shape ≡ b.shape.now = search rules in
    record {
      same = first.items;
      also = second.items;
      shape = same;
      other = other;
      begins = (first.lie max_bytes 1 l.within_limit, second.lie max_bytes 1 b.right.layout.now.within_limit);
      few = omega (arith, count-run l c.in_ok-left.left first.items, ap count same, c.items.ensures.value, c.items.ensures.limit);
    }
