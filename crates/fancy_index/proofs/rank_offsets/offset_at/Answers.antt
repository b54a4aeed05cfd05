use Rattle.std.proofs.Common.{get_or, refl, ap, ◌∙◌, arith}
use Rattle.fancy_index.proofs.Words.{ints, Layout, count, offsets}
use Rattle.fancy_index.proofs.RankLaws.{start, low, high, next-at, not-last, offset-is}
use Rattle.fancy_index.proofs.rank_offsets.offset_at.Goals as goal

pub loop-at-preserved : goal.loop-at-preserved
loop-at-preserved c =
    let inv = c.loop-at.invariant in
    record {
      at = next-at c.loop-at.at inv.at _ refl refl c.in-Some.ensures.steps;
      layout = inv.layout;
      from = omega (arith, c.loop-at-test.true, inv.from);
    }

pub unreachable-requires : goal.unreachable-requires
unreachable-requires c =
    let inv = c.loop-at.invariant in
    not-last c.loop-at.at inv.at c.args.rank (omega (arith, c.requires.rank, ap (λ (l : Layout). count l.shape) inv.layout)) inv.from c.loop-at-test.true c.in-None.ensures.steps.0

pub offset_after-requires-clause-start : goal.offset_after-requires-clause-start
offset_after-requires-clause-start c = start c.loop-at.at c.loop-at.invariant.at c.args.rank c.loop-at.invariant.from (omega (arith, c.loop-at-test.false))

pub offset_after-requires-clause-low : goal.offset_after-requires-clause-low
offset_after-requires-clause-low c = low c.loop-at.at c.loop-at.invariant.at c.args.rank c.loop-at.invariant.from (omega (arith, c.loop-at-test.false))

pub offset_after-requires-clause-high : goal.offset_after-requires-clause-high
offset_after-requires-clause-high c = high c.loop-at.at c.loop-at.invariant.at c.args.rank c.loop-at.invariant.from (omega (arith, c.loop-at-test.false))

pub returns-clause-value : goal.returns-clause-value
returns-clause-value c =
    let inv = c.loop-at.invariant in
    offset-is c.loop-at.at inv.at c.args.rank inv.from (omega (arith, c.loop-at-test.false)) c.offset_after.result c.offset_after.ensures
    ∙ ap (λ (l : Layout). get_or (offsets l) c.args.rank 0) inv.layout

pub returns-clause-bound : goal.returns-clause-bound
returns-clause-bound c = omega (arith, ints, c.offset_after.ensures, high c.loop-at.at c.loop-at.invariant.at c.args.rank c.loop-at.invariant.from (omega (arith, c.loop-at-test.false)))
