use Rattle.std.proofs.Common.{arith}
use Rattle.fancy_index.proofs.Passes.{push_front, pushed_front}
use Rattle.fancy_index.proofs.SingleLaws.{split-part}
use Rattle.fancy_index.proofs.fast.singles.push_singles.Goals as goal

pub push_stretch-items-requires-clause-can : goal.push_stretch-items-requires-clause-can
push_stretch-items-requires-clause-can c =
    let rows = c.args.rows in
    let split = split-part rows.inner.now.offset rows.place rows.shifts.now _ c.loop-from.from c.min-end.result (omega (arith, c.loop-from-test.true, c.min-end.ensures)) c.part.ensures.offsets in
    push_front _ _ _ _ _ _ _ _ split c.loop-from.invariant.pass

pub loop-from-preserved : goal.loop-from-preserved
loop-from-preserved c =
    let rows = c.args.rows in
    let split = split-part rows.inner.now.offset rows.place rows.shifts.now _ c.loop-from.from c.min-end.result (omega (arith, c.loop-from-test.true, c.min-end.ensures)) c.part.ensures.offsets in
    record {
      low = omega (arith, c.min-end.ensures);
      pass = pushed_front _ _ _ _ _ _ _ _ _ split c.push_stretch-items.ensures c.loop-from.invariant.pass;
    }
