use Rattle.std.proofs.Common.{arith, pos, bit_and}
use Rattle.elementwise.proofs.Words.{and_mod, and_le_l, Little}
use Rattle.elementwise.proofs.WordLaws.{are_bits, bits_applied}
use Rattle.elementwise.proofs.kernels.arithmetic.BitwiseAndKernel.make.Goals as goal

pub returns : goal.returns
returns g c =
    bits_applied bit_and and_mod (g.N.Number.scalar Little) g.N.Number.SIGNED _ _ _ c.bits.result c.bits-2.result (g.met.N.Number.is_number Little) c.bits.type_inv c.bits-2.type_inv (g.met.N.Number.is_truth Little c.args.left) (g.met.N.Number.is_truth Little c.args.right)
    c.bits.ensures.exact c.bits-2.ensures.exact (c.of_bits.ensures Little (pos (bit_and c.bits.result c.bits-2.result)) (are_bits (bit_and c.bits.result c.bits-2.result) (omega (arith, and_le_l c.bits.result c.bits-2.result, c.bits.type_inv))))
