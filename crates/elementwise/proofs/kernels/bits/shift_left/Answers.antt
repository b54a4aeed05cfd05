use Rattle.std.proofs.Common.{◌*◌, ◌%◌, ◌^◌, ◌∙◌}
use Rattle.elementwise.proofs.BitLaws.{kept, shift_left_low}
use Rattle.elementwise.proofs.kernels.bits.shift_left.Goals as goal

pub returns-then-right-width : goal.returns-then-right-width
returns-then-right-width c = λ signed.
    (λ i. (c.args.left * 2 ^ kept c.args.right c.args.width c.max.result c.if-right-width.true c.max.ensures i) % 2 ^ 64)
    ∙ shift_left_low signed c.args.width c.args.left c.args.right c.if-right-width.true c.requires c.ranges.left.fits
