use Rattle.std.proofs.Common.{sym, ◌∙◌, pos, ◌*◌}
use Rattle.elementwise.proofs.Words.{Little, size, low_bits, integer, ShiftRight, shifted_right}
use Rattle.elementwise.proofs.WordLaws.{are_bits, applied}
use Rattle.elementwise.proofs.kernels.arithmetic.RightShiftKernel.make.Goals as goal

pub returns : goal.returns
returns g c =
    applied ShiftRight (g.N.Number.scalar Little) _ _ _ c.shift_right.result (g.met.N.Number.is_number Little) (g.met.N.Number.is_truth Little c.args.left) (g.met.N.Number.is_truth Little c.args.right)
    (c.of_bits.ensures Little (pos c.shift_right.result) (are_bits c.shift_right.result c.shift_right.type_inv))
    (c.shift_right.ensures
    ∙ (λ i. low_bits 8 (shifted_right (8 * (c.WIDTH.ensures ∙ sym (g.met.N.Number.has_width Little)) i) (integer (c.SIGNED.ensures i) 8 c.bits.result) (integer (c.SIGNED.ensures i) 8 c.bits-2.result)))
    ∙ λ i. low_bits 8 (shifted_right (8 * size (g.N.Number.scalar Little)) (sym c.bits.ensures.exact i) (sym c.bits-2.ensures.exact i)))
