use Rattle.std.proofs.Common.{sym, ap, ◌∙◌}
use Rattle.elementwise.proofs.Words.{count, max_bytes}
use Rattle.elementwise.proofs.RowLaws.{count-run, run-inside}
use Rattle.elementwise.proofs.loops.row_pairs.Operands.as_row.Goals as goal

pub returns-clause-row : goal.returns-clause-row
returns-clause-row c =
    let x = c.args.self.left in
    let y = c.args.self.right in
    let first = c.in_ok-first.ensures in
    let second = c.in_ok-second.ensures in
    record {
      even = count-run x.layout.now _ first.items ∙ ap count c.args.self.even ∙ sym (count-run y.layout.now _ second.items);
      first = run-inside x _ first.items (first.lie max_bytes 1 x.layout.now.within_limit);
      second = run-inside y _ second.items (second.lie max_bytes 1 y.layout.now.within_limit);
    }
