use Rattle.std.proofs.Common.{◌≡◌, ◌*◌, ap, arith}
use Rattle.elementwise.proofs.Words.{item_size, pairs_of, concat, pairwise, pair_from}
use Rattle.elementwise.proofs.AddedLaws.{added-as}
use Rattle.elementwise.proofs.RowLaws.{count-run}
use Rattle.elementwise.proofs.loops.row_pairs.Operands.push_all.Goals as goal

pub push_row-requires-clause-room : goal.push_row-requires-clause-room
push_row-requires-clause-room g c =
    omega (arith, ap (λ n. n * g.P.Pass.width c.args.pass.now) (count-run c.args.self.left.layout.now c.in-Some.row.first c.in-Some.ensures.first), c.requires.room)

pub returns-in-Some : goal.returns-in-Some
returns-in-Some g c =
    let row = c.in-Some.row in
    let o = c.args.self in
    let few : row.first.count ≡ pairs_of o = count-run o.left.layout.now row.first c.in-Some.ensures.first in
    let make = pair_from (g.P.Pass.makes c.args.pass.now) (item_size o.left.descr.now) (item_size o.right.descr.now) o.left.block.now o.right.block.now in
    added-as _ _ _ _ c.args.block c.push_row.result c.push_row.ensures (ap (λ n. n * g.P.Pass.width c.args.pass.now) few) (λ i. concat (pairwise make (c.in-Some.ensures.first i) (c.in-Some.ensures.second i)))
