use Rattle.std.proofs.Common.{◌*◌, get_or, ap, arith}
use Rattle.overlap_copy.proofs.SearchLaws.{no_axis}
use Rattle.overlap_copy.proofs.StepsBackLaws.{divisor_some, turn_next, turn-near}
use Rattle.overlap_copy.proofs.fast.axis_sums.turn_at.Goals as goal

pub nonzero_div-instead : goal.nonzero_div-instead
nonzero_div-instead c = divisor_some c.common_divisor-divisor.result c.args.axis.step c.requires.step c.common_divisor-divisor.ensures.0

pub nonzero_div-result : goal.nonzero_div-result
nonzero_div-result c = divisor_some c.common_divisor-divisor.result c.args.axis.step c.requires.step c.common_divisor-divisor.ensures.0

pub overflow_mul-result : goal.overflow_mul-result
overflow_mul-result c =
    let near = turn-near c.args.axis c.args.others.now c.common_divisor-divisor.result c.saturating_sub.result c.requires.step c.in-len1-up.len_at_least c.requires.forward c.common_divisor-divisor.ensures.0 c.saturating_sub.ensures in
    record { fits = omega (arith, near) }

pub returns : goal.returns
returns c =
    turn_next c.args.axis c.args.others.now c.common_divisor-divisor.result _ c.in-len1-up.len_at_least (omega (arith, c.if-next-eq0.false)) c.common_divisor-divisor.ensures (ap (λ n. (get_or c.args.others.now 0 no_axis).step * n) c.saturating_sub.ensures)
