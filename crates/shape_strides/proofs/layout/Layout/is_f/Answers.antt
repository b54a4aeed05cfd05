use Rattle.std.proofs.Common.{◌+◌, ◌*◌, ◌<◌, pos, length, get_or, refl, ap, sym, ◌∙◌, arith}
use Rattle.shape_strides.proofs.FortranLaws.{f_bytes-bound, f_bytes-step, f_steps-more, is_f-empty, is_f-true, is_f-false}
use Rattle.shape_strides.proofs.layout.Layout.is_f.Goals as goal

pub returns-then-items-eq0 : goal.returns-then-items-eq0
returns-then-items-eq0 c = sym (is_f-empty c.args.self.now c.args.item (omega (arith, c.items.ensures.value)))

pub steps_over-requires-clause-bytes : goal.steps_over-requires-clause-bytes
steps_over-requires-clause-bytes c =
    f_bytes-bound c.args.self.now.shape c.loop-axis.axis c.loop-axis.step c.args.item (omega (arith, c.items.ensures.value)) c.as_slice-lengths.ensures.items c.ranges.item.fits c.loop-axis.invariant.step_is

pub returns-then-not-steps_over : goal.returns-then-not-steps_over
returns-then-not-steps_over c =
    let l = c.args.self.now in
    let below : c.loop-axis.axis < length l.shape = omega (arith, ap length c.as_slice-lengths.ensures.value) in
    let no = rw (c.as_slice-lengths.ensures.value, c.as_slice-strides.ensures) at c.if-not-steps_over.ensures.no in
    sym (is_f-false l c.args.item c.loop-axis.axis c.loop-axis.step (omega (arith, c.items.ensures.value)) below c.loop-axis.invariant.step_is (no refl).0 (no refl).1)

pub overflow_mul-step : goal.overflow_mul-step
overflow_mul-step c =
    let l = c.args.self.now in
    let k = c.loop-axis.axis in
    let below : k < length l.shape = omega (arith, ap length c.as_slice-lengths.ensures.value) in
    let is = f_bytes-step l.shape k c.loop-axis.step c.args.item below c.loop-axis.invariant.step_is in
    let bound = f_bytes-bound l.shape (k + 1) (c.loop-axis.step * get_or l.shape k 0) c.args.item (omega (arith, c.items.ensures.value)) c.as_slice-lengths.ensures.items c.ranges.item.fits is in
    rw c.as_slice-lengths.ensures.value (omega (arith, bound))

pub loop-axis-preserved : goal.loop-axis-preserved
loop-axis-preserved c =
    let l = c.args.self.now in
    let k = c.loop-axis.axis in
    let below : k < length l.shape = omega (arith, ap length c.as_slice-lengths.ensures.value) in
    let yes = rw (c.as_slice-lengths.ensures.value, c.as_slice-strides.ensures) at c.if-not-steps_over.ensures.yes in
    let is = c.loop-axis.invariant.step_is in
    record {
      step_is = rw c.as_slice-lengths.ensures.value (f_bytes-step l.shape k c.loop-axis.step c.args.item below is);
      steps = f_steps-more c.args.item l.strides l.shape k l.one_stride_an_axis below (λ long. yes refl long ∙ ap pos is) c.loop-axis.invariant.steps;
    }

pub returns : goal.returns
returns c =
    let l = c.args.self.now in
    sym (is_f-true l c.args.item c.loop-axis.axis (omega (arith, ap length c.as_slice-lengths.ensures.value)) c.loop-axis.invariant.steps)
