use Rattle.std.proofs.Common.{sym, ◌∙◌, pos, ◌*◌}
use Rattle.elementwise.proofs.Words.{Little, low_bits, ShiftLeft, shifted_left}
use Rattle.elementwise.proofs.WordLaws.{are_bits, applied}
use Rattle.elementwise.proofs.kernels.arithmetic.LeftShiftKernel.make.Goals as goal

pub returns : goal.returns
returns g c =
    applied ShiftLeft (g.N.Number.scalar Little) _ _ _ c.shift_left.result (g.met.N.Number.is_number Little) (g.met.N.Number.is_truth Little c.args.left) (g.met.N.Number.is_truth Little c.args.right)
    (c.of_bits.ensures Little (pos c.shift_left.result) (are_bits c.shift_left.result c.shift_left.type_inv))
    (c.shift_left.ensures g.N.Number.SIGNED
    ∙ λ i. low_bits 8 (shifted_left (8 * (c.WIDTH.ensures ∙ sym (g.met.N.Number.has_width Little)) i) (sym c.bits.ensures.exact i) (sym c.bits-2.ensures.exact i)))
