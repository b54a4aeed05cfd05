use Rattle.std.proofs.Common.{◌≡◌, ◌+◌, ◌*◌, ◌≤◌, ◌++◌, All, length, sym, ap, subst, ◌∙◌, arith, rules}
use Rattle.elementwise.proofs.Words.{concat, All-rest, item_size, max_bytes, offsets, length-offsets, run_pairs, runs-within, next_pair, pairwise, pair_from, pairs_of, IsRow}
use Rattle.elementwise.proofs.PairLaws.{firsts, seconds}
use Rattle.elementwise.proofs.AppendedLaws.{pushed-next, bytes-next}
use Rattle.elementwise.proofs.loops.row_pairs.Operands.push_rows.Goals as goal

pub loop-row-init : goal.loop-row-init
loop-row-init g c =
    let o = c.args.self in
    let l = o.left.layout.now in
    let m = o.right.layout.now in
    let wide = g.P.Pass.width c.args.pass.now in
    let width = item_size o.left.descr.now in
    let width' = item_size o.right.descr.now in
    let len = length o.left.block.now in
    let len' = length o.right.block.now in
    let ens = c.new-row-items.ensures in
    let rows = c.into_iter-row-iterator.result in
    let are = c.into_iter-row-iterator.ensures.into_iter_gives ∙ ens.pairs in
    let make = pair_from (g.P.Pass.makes c.args.pass.now) width width' o.left.block.now o.right.block.now in
    let xs : firsts rows ≡ offsets l = ap firsts are ∙ ens.first in
    let ys : seconds rows ≡ offsets m = ap seconds are ∙ ens.second in
    let many : length (firsts rows) * wide ≡ pairs_of o * wide = ap (λ os. length os * wide) xs ∙ ap (λ n. n * wide) (length-offsets l) in
    let ends = subst (All (λ offset. offset + width ≤ len)) (sym ens.first) o.left.inside in
    let ends' = subst (All (λ offset. offset + width' ≤ len')) (sym ens.second) o.right.inside in
    record {
      bytes = λ i. c.args.block.0 ++ concat (pairwise make (xs i) (ys i));
      room = omega (arith, many, c.requires.room);
      left = omega (arith, many);
      rows = subst (All (IsRow o)) (sym are) (λ k d low. record {
        even = ens.counts k d low;
        first = runs-within len width (λ row. row.first) (run_pairs l m) (ens.first_lie max_bytes 1 l.within_limit) ends k d low;
        second = runs-within len' width' (λ row. row.second) (run_pairs l m) (ens.second_lie max_bytes 1 m.within_limit) ends' k d low;
      });
    }

pub push_row-block-requires-clause-room : goal.push_row-block-requires-clause-room
push_row-block-requires-clause-room g c = omega (arith, bytes-next (g.P.Pass.width c.args.pass.now) _ _ c.in-Some.row c.in-Some.ensures.steps, c.loop-row.invariant.room)

pub push_row-block-requires-clause-row : goal.push_row-block-requires-clause-row
push_row-block-requires-clause-row g c = next_pair (IsRow c.args.self) _ _ c.in-Some.row c.in-Some.ensures.steps c.loop-row.invariant.rows

pub loop-row-preserved : goal.loop-row-preserved
loop-row-preserved g c =
    let o = c.args.self in
    let wide = g.P.Pass.width c.args.pass.now in
    let left = o.left.block.now in
    let right = o.right.block.now in
    let width = item_size o.left.descr.now in
    let width' = item_size o.right.descr.now in
    let inv = c.loop-row.invariant in
    let row = c.in-Some.row in
    let steps = c.in-Some.ensures.steps in
    let more = bytes-next wide _ _ row steps in
    record {
      bytes = pushed-next (pair_from (g.P.Pass.makes c.args.pass.now) width width' left right) _ _ row c.loop-row.block.0 c.push_row-block.result.0 _ steps (next_pair (IsRow o) _ _ row steps inv.rows).even c.push_row-block.ensures.bytes inv.bytes;
      room = omega (arith, more, inv.room, c.push_row-block.ensures.left);
      left = omega (arith, more, inv.left, c.push_row-block.ensures.left);
      rows = All-rest (IsRow o) _ _ _ steps inv.rows;
    }

pub returns : goal.returns
returns g c = record { bytes = search rules; left = search rules }
