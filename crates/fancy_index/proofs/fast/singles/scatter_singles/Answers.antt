use Rattle.std.proofs.Common.{◌∙◌, arith}
use Rattle.fancy_index.proofs.Words.{first_offsets}
use Rattle.fancy_index.proofs.Passes.{scatter_front, scattered_front}
use Rattle.fancy_index.proofs.SingleLaws.{split-part}
use Rattle.fancy_index.proofs.fast.singles.scatter_singles.Goals as goal

pub scatter_stretch-at-requires-clause-can : goal.scatter_stretch-at-requires-clause-can
scatter_stretch-at-requires-clause-can c =
    let rows = c.args.rows in
    let split = split-part rows.inner.now.offset rows.place rows.shifts.now _ c.loop-from.from c.min-end.result (omega (arith, c.loop-from-test.true, c.min-end.ensures)) c.part.ensures.offsets in
    scatter_front _ (first_offsets c.part.result) _ c.loop-from.at c.args.source.width _ c.args.source.items.now c.loop-from.block _ split c.loop-from.invariant.pass

pub loop-from-preserved : goal.loop-from-preserved
loop-from-preserved c =
    let rows = c.args.rows in
    let part = c.part.result in
    let split = split-part rows.inner.now.offset rows.place rows.shifts.now _ c.loop-from.from c.min-end.result (omega (arith, c.loop-from-test.true, c.min-end.ensures)) c.part.ensures.offsets in
    record {
      low = omega (arith, c.min-end.ensures);
      pass = scattered_front _ (first_offsets part) _ c.loop-from.at c.scatter_stretch-at.result c.args.source.width _ c.args.source.items.now c.loop-from.block c.scatter_stretch-at.new.block _ split
          c.scatter_stretch-at.ensures.written c.scatter_stretch-at.ensures.len c.scatter_stretch-at.ensures.end
          c.loop-from.invariant.pass;
      len = c.scatter_stretch-at.ensures.len ∙ c.loop-from.invariant.len;
    }
