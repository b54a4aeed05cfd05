use Rattle.std.proofs.Common.{ap, arith}
use Rattle.fancy_index.proofs.Words.{drop_all, offsets, shifted_all}
use Rattle.fancy_index.proofs.Passes.{push_front, pushed_front, pushed_all, split-shifts}
use Rattle.fancy_index.proofs.gather_scatter.push_shifted.Goals as goal

pub push_moved-items-requires : goal.push_moved-items-requires
push_moved-items-requires c =
    let rows = c.args.rows in
    let split = split-shifts rows.inner.now.offset (offsets rows.inner.now) rows.place rows.shifts.now c.loop-shift.shift-index c.moved-start.result c.loop-shift-test.true c.moved-start.ensures.value in
    push_front _ _ _ _ _ _ _ _ split c.loop-shift.invariant

pub loop-shift-preserved : goal.loop-shift-preserved
loop-shift-preserved c =
    let rows = c.args.rows in
    let split = split-shifts rows.inner.now.offset (offsets rows.inner.now) rows.place rows.shifts.now c.loop-shift.shift-index c.moved-start.result c.loop-shift-test.true c.moved-start.ensures.value in
    pushed_front _ _ _ _ _ _ _ _ _ split c.push_moved-items.ensures c.loop-shift.invariant

pub returns : goal.returns
returns c =
    let rows = c.args.rows in
    pushed_all _ _ _ _ _ _ (ap (λ l. shifted_all rows.inner.now.offset l (offsets rows.inner.now) rows.place) (drop_all c.loop-shift.shift-index rows.shifts.now (omega (arith, c.loop-shift-test.false)))) c.loop-shift.invariant
