use Rattle.std.proofs.Common.{◌≡◌, ◌+◌, ◌-◌, ◌*◌, pos, subst, drop, get_or, refl, ap, sym, ◌∙◌, arith}
use Rattle.shape_strides.proofs.Words.{count}
use Rattle.shape_strides.proofs.ContiguityLaws.{StepsOver, StepsOver-more, bytes-bound, bytes-step, is_c-empty, is_c-true, is_c-false}
use Rattle.shape_strides.proofs.layout.Layout.is_c.Goals as goal

pub returns-then-items-eq0 : goal.returns-then-items-eq0
returns-then-items-eq0 c = sym (is_c-empty c.args.self.now c.args.item (omega (arith, c.items.ensures.value)))

pub steps_over-requires-clause-bytes : goal.steps_over-requires-clause-bytes
steps_over-requires-clause-bytes c =
    bytes-bound c.args.self.now.shape c.loop-axis.axis c.loop-axis.bytes c.args.item (omega (arith, c.items.ensures.value)) c.as_slice-lengths.ensures.items c.ranges.item.fits c.loop-axis.invariant.bytes_are

pub returns-then-not-steps_over : goal.returns-then-not-steps_over
returns-then-not-steps_over c =
    let l = c.args.self.now in
    let k = c.loop-axis.axis - 1 in
    let next : c.loop-axis.axis ≡ k + 1 = omega arith in
    let is : c.loop-axis.bytes ≡ count (drop (k + 1) l.shape) * c.args.item = c.loop-axis.invariant.bytes_are ∙ ap (λ j. count (drop j l.shape) * c.args.item) next in
    let no = rw (c.as_slice-lengths.ensures.value, c.as_slice-strides.ensures) at c.if-not-steps_over.ensures.no in
    sym (is_c-false l c.args.item k c.loop-axis.bytes (omega (arith, c.items.ensures.value)) (omega (arith, c.loop-axis.invariant.within)) is (no refl).0 (no refl).1)

pub overflow_mul-bytes : goal.overflow_mul-bytes
overflow_mul-bytes c =
    let l = c.args.self.now in
    let k = c.loop-axis.axis - 1 in
    let next : c.loop-axis.axis ≡ k + 1 = omega arith in
    let is = bytes-step l.shape k c.loop-axis.bytes c.args.item (omega (arith, c.loop-axis.invariant.within)) (c.loop-axis.invariant.bytes_are ∙ ap (λ j. count (drop j l.shape) * c.args.item) next) in
    let bound = bytes-bound l.shape k (c.loop-axis.bytes * get_or l.shape k 0) c.args.item (omega (arith, c.items.ensures.value)) c.as_slice-lengths.ensures.items c.ranges.item.fits is in
    rw c.as_slice-lengths.ensures.value (omega (arith, bound))

pub loop-axis-preserved : goal.loop-axis-preserved
loop-axis-preserved c =
    let l = c.args.self.now in
    let k = c.loop-axis.axis - 1 in
    let below = c.loop-axis.invariant.within in
    let next : c.loop-axis.axis ≡ k + 1 = omega arith in
    let yes = rw (c.as_slice-lengths.ensures.value, c.as_slice-strides.ensures) at c.if-not-steps_over.ensures.yes in
    let is : c.loop-axis.bytes ≡ count (drop (k + 1) l.shape) * c.args.item = c.loop-axis.invariant.bytes_are ∙ ap (λ j. count (drop j l.shape) * c.args.item) next in
    record {
      within = omega arith;
      bytes_are = rw c.as_slice-lengths.ensures.value (bytes-step l.shape k c.loop-axis.bytes c.args.item (omega arith) is);
      steps = StepsOver-more c.args.item l.strides l.shape k l.one_stride_an_axis (omega arith) (λ long. yes refl long ∙ ap pos is) (subst (λ j. StepsOver c.args.item (drop j l.strides) (drop j l.shape)) next c.loop-axis.invariant.steps);
    }

pub returns : goal.returns
returns c =
    let l = c.args.self.now in
    let none : c.loop-axis.axis ≡ 0 = omega arith in
    sym (is_c-true l c.args.item (subst (λ j. StepsOver c.args.item (drop j l.strides) (drop j l.shape)) none c.loop-axis.invariant.steps))
