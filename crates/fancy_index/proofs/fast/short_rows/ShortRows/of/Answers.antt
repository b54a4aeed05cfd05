use Rattle.std.proofs.Common.{ap, length, arith}
use Rattle.fancy_index.proofs.Words.{offsets, length-offsets, length-run_offsets, max_bytes, moved_all}
use Rattle.fancy_index.proofs.fast.short_rows.ShortRows.of.Goals as goal

pub invariant_of-result : goal.invariant_of-result
invariant_of-result c =
    let outer = c.args.axes.now.outer in
    let places = c.in_ok-places.places in
    record {
      shifted = c.as_slice-shifts.ensures.value;
      same = c.in_ok-places.ensures.items;
      begins = c.in_ok-places.ensures.lie max_bytes 1 outer.within_limit;
      few = omega (arith, length-run_offsets places, ap length c.in_ok-places.ensures.items, length-offsets outer, c.items-count.ensures.value, c.items-count.ensures.limit);
      single = omega (arith, c.items.ensures.value, c.if-items-ne1.false);
    }

pub returns : goal.returns
returns c =
    let axes = c.args.axes.now in
    ap (λ l. moved_all axes.inner.offset l axes.shifts.items (offsets axes.inner)) c.in_ok-places.ensures.items
