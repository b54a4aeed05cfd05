use Rattle.std.proofs.Common.{◌≡◌, ◌+◌, ◌∷◌, length, map, drop, sym, ap, subst, ◌∙◌}
use Rattle.overlap_copy.proofs.Words.{axes, step_of, IsGreatestDivisor}
use Rattle.overlap_copy.proofs.ApartLaws.{divisor-one, divisor-more, steps_more, no_axes}
use Rattle.overlap_copy.proofs.apart.divisor_with.Goals as goal

pub loop-axis-preserved : goal.loop-axis-preserved
loop-axis-preserved c = λ g is.
    let strides = c.as_slice-strides.result.now in
    let lengths = c.as_slice-lengths.result.now in
    let k = c.loop-axis.axis in
    let same : length strides ≡ length lengths = ap length c.as_slice-strides.ensures ∙ c.args.layout.now.one_stride_an_axis ∙ sym (ap length c.as_slice-lengths.ensures.value) in
    let later = map step_of (axes (drop (k + 1) strides) (drop (k + 1) lengths)) in
    let more = divisor-more g c.loop-axis.divisor c.step_along.result c.common_divisor-divisor.result later c.common_divisor-divisor.ensures is in
    c.loop-axis.invariant g (subst (λ numbers. IsGreatestDivisor g (c.loop-axis.divisor ∷ numbers)) (ap (λ step. step ∷ later) c.step_along.ensures ∙ sym (steps_more strides lengths k same c.loop-axis-test.true)) more)

pub returns : goal.returns
returns c =
    let strides = c.as_slice-strides.result.now in
    let lengths = c.as_slice-lengths.result.now in
    let divisor = c.loop-axis.divisor in
    let none = no_axes strides lengths c.loop-axis.axis c.loop-axis-test.false in
    let all = c.loop-axis.invariant divisor (subst (λ numbers. IsGreatestDivisor divisor (divisor ∷ numbers)) (sym none) (divisor-one divisor)) in
    subst (λ s. IsGreatestDivisor divisor (c.args.number ∷ map step_of (axes s c.args.layout.now.shape))) c.as_slice-strides.ensures (subst (λ s. IsGreatestDivisor divisor (c.args.number ∷ map step_of (axes strides s))) c.as_slice-lengths.ensures.value all)
