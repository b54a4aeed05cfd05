use Rattle.std.proofs.Common.{◌*◌, ap, refl, sym, ◌∙◌, arith}
use Rattle.overlap_copy.proofs.Words.{length-run_offsets}
use Rattle.overlap_copy.proofs.OverwriteLaws.{next-left}
use Rattle.overlap_copy.proofs.PairCopies.{runs-lie}
use Rattle.overlap_copy.proofs.fast.overwrites.overwrite_run.Goals as goal

pub loop-left-init : goal.loop-left-init
loop-left-init c =
    let can = c.requires.can in
    let long = length-run_offsets c.args.pair.first in
    record {
      left = record { nested = c.requires.nested; paired = can.paired; rest = refl; fills = omega (arith, can.room, ap (λ n. n * c.args.width) long) };
      len = refl;
      count = sym long ∙ sym can.paired.count ∙ length-run_offsets c.args.pair.second;
      begins = can.begins;
      other_begins = can.other_begins;
    }

pub overwrite_part-requires : goal.overwrite_part-requires
overwrite_part-requires c =
    let to = c.split.ensures in
    let from = c.split-in-loop-left.ensures in
    let can = (next-left _ _ _ _ _ c.args.width c.args.other.now (c.loop-left.block, c.loop-left.kept) _ _ to.offsets from.offsets (omega (arith, to.count, from.count)) to.begins from.begins c.loop-left.invariant.left).0 in
    record { lie = runs-lie c.split.result.0 c.split-in-loop-left.result.0 refl refl can.begins can.other_begins can.paired; room = can.room }

pub loop-left-preserved : goal.loop-left-preserved
loop-left-preserved c =
    let inv = c.loop-left.invariant in
    let to = c.split.ensures in
    let from = c.split-in-loop-left.ensures in
    let part = c.overwrite_part.ensures in
    record {
      left = (next-left _ _ _ _ _ c.args.width c.args.other.now (c.loop-left.block, c.loop-left.kept) _ _ to.offsets from.offsets (omega (arith, to.count, from.count)) to.begins from.begins inv.left).1 _ part;
      len = part.there.len ∙ inv.len;
      count = omega (arith, inv.count, to.rest, from.rest);
      begins = to.rest_begins;
      other_begins = from.rest_begins;
    }

pub overwrite_part-requires-2 : goal.overwrite_part-requires-2
overwrite_part-requires-2 c =
    let inv = c.loop-left.invariant in
    record { lie = runs-lie c.loop-left.left.first c.loop-left.left.second refl refl inv.begins inv.other_begins inv.left.paired; room = omega (arith, inv.left.fills, ap (λ n. n * c.args.width) (length-run_offsets c.loop-left.left.first)) }

pub returns : goal.returns
returns c =
    let inv = c.loop-left.invariant in
    let part = c.overwrite_part-2.ensures in
    record {
      there = record { written = part.there.written ∙ ap (λ p. p.0) inv.left.rest; len = part.there.len ∙ inv.len };
      old_items = part.old_items ∙ ap (λ p. p.1) inv.left.rest;
      left = omega (arith, inv.left.fills, c.requires.can.room, part.left, ap (λ n. n * c.args.width) (length-run_offsets c.loop-left.left.first), ap (λ n. n * c.args.width) (length-run_offsets c.args.pair.first));
    }
