use Rattle.std.proofs.Common.{arith}
use Rattle.fancy_index.proofs.Passes.{push_front, pushed_front, pushed_all}
use Rattle.fancy_index.proofs.ShortLaws.{split-rows, no-rows}
use Rattle.fancy_index.proofs.fast.short_rows.ShortRows.push_rows.Goals as goal

pub push_each-items-requires : goal.push_each-items-requires
push_each-items-requires c =
    push_front _ _ _ _ _ _ _ _ (split-rows c.args.self c.loop-k.k _ c.loop-k-test.true c.row.ensures) c.loop-k.invariant

pub loop-k-preserved : goal.loop-k-preserved
loop-k-preserved c =
    pushed_front _ _ _ _ _ _ _ _ _ (split-rows c.args.self c.loop-k.k _ c.loop-k-test.true c.row.ensures) c.push_each-items.ensures c.loop-k.invariant

pub returns : goal.returns
returns c =
    pushed_all _ _ _ _ _ _ (no-rows c.args.self c.loop-k.k (omega (arith, c.loop-k-test.false))) c.loop-k.invariant
