use Rattle.std.proofs.Common.{◌+◌, ◌<◌, length, set, nat_lt, sym, subst, arith}
use Rattle.overlap_copy.proofs.MarkLaws.{Widens, widens-next_set, widens-next_clear}
use Rattle.overlap_copy.proofs.share.widen.Goals.{then-marks-at, else-marks-at}
use Rattle.overlap_copy.proofs.share.widen.Goals as goal

pub loop-at-preserved : goal.loop-at-preserved
loop-at-preserved c =
    let inside : c.loop-at.at < length c.loop-at.marks = omega (arith, c.loop-at-test.true, c.loop-at.auto.marks) in
    let now = set c.loop-at.marks c.loop-at.at (nat_lt 0 c.if-marks-at.left) in
    subst (Widens c.args.marks.now now c.args.width (c.loop-at.at + 1)) (sym c.saturating_sub-left.ensures)
    (elim c.if-marks-at.branch [
      | then-marks-at w ↦ widens-next_set c.args.marks.now c.loop-at.marks c.args.width c.loop-at.at c.loop-at.left c.if-marks-at.left c.requires inside c.loop-at.invariant w.if-marks-at.true w.left-is
      | else-marks-at w ↦ widens-next_clear c.args.marks.now c.loop-at.marks c.args.width c.loop-at.at c.loop-at.left c.if-marks-at.left c.requires inside c.loop-at.invariant w.if-marks-at.false w.left-is
    ])
