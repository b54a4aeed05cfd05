use Rattle.std.proofs.Common.{sym, ap, ◌∙◌}
use Rattle.elementwise.proofs.Words.{integer, low_bits, exact, division_op}
use Rattle.elementwise.proofs.BitLaws.{rest_low}
use Rattle.elementwise.proofs.kernels.bits.division.Goals as goal

pub returns : goal.returns
returns c = λ signed scalar is.
    rest_low signed c.args.left c.args.right c.args.quotient c.ranges.left.fits c.ranges.right.fits c.if-right-eq0.false is
    ∙ ap (λ leaves. low_bits 8 (exact (division_op leaves) scalar (integer signed 8 c.args.left) (integer signed 8 c.args.right))) (sym c.if-not-leaves.false)
