use Rattle.std.proofs.Common.{◌≡◌, ◌+◌, ◌*◌, ◌≤◌, ◌++◌, All, length}
use Rattle.elementwise.proofs.Words.{concat, item_size, pairwise, pair_from, pairs_of, made_of_all, IsRow}
use Rattle.elementwise.proofs.PairLaws.{firsts, seconds}
use Rattle.elementwise.proofs.loops.row_pairs.Operands.push_rows.Given as goal

-- appending the results on the remaining rows completes the whole
abbrev pub invariant-loop-row : goal.invariant-loop-row
invariant-loop-row g l =
    let o = l.fn.self in
    let wide = g.P.Pass.width l.pass in
    let width = item_size o.left.descr.now in
    let width' = item_size o.right.descr.now in
    let make = pair_from (g.P.Pass.makes l.pass) width width' o.left.block.now o.right.block.now in
    record {
      bytes : l.block.0 ++ concat (pairwise make (firsts l.row-iterator) (seconds l.row-iterator)) ≡ l.fn.block.0 ++ made_of_all (g.P.Pass.makes l.pass) o;
      room : length (firsts l.row-iterator) * wide ≤ l.block.1;
      left : pairs_of o * wide + l.block.1 ≡ l.fn.block.1 + length (firsts l.row-iterator) * wide;
      rows : All (IsRow o) l.row-iterator;
    }
