use Rattle.std.proofs.Common.{rules, ◌≡◌, ◌++◌}
use Rattle.fancy_index.proofs.Words.{length-run, axes_of_part, shown_part}
use Rattle.fancy_index.proofs.PlaceLaws.{axes_more}
use Rattle.fancy_index.proofs.result_axes.shape_of_all.Goals as goal
use Rattle.fancy_index.proofs.result_axes.shape_of_all.Goals.{in-Axis-Along+in_ok-push-in-Axis-Along, in-Axis-New+in_ok-push-in-Axis-New, in-Axis+in-At-1, in-Points-1, in-Between-1}

pub loop-part-preserved : goal.loop-part-preserved
loop-part-preserved c =
    let added : c.match-part.lengths.items ≡ c.loop-part.lengths.items ++ axes_of_part (shown_part c.part-item.result) = elim c.match-part.branch [
      | in-Axis-Along+in_ok-push-in-Axis-Along w ↦ search (rules, length-run)
      | in-Axis-New+in_ok-push-in-Axis-New w ↦ search rules
      | in-Axis+in-At-1 w ↦ search rules
      | in-Points-1 w ↦ search rules
      | in-Between-1 w ↦ search rules
    ] in
    axes_more c.args.parts.now c.loop-part.part-index c.part-item.result c.loop-part.lengths.items c.match-part.lengths.items _ c.loop-part-test.true c.part-item.is added c.loop-part.invariant
