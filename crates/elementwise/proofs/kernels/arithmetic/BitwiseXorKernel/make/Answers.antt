use Rattle.std.proofs.Common.{pos, bit_xor}
use Rattle.elementwise.proofs.Words.{xor_mod, xor_lt, Little}
use Rattle.elementwise.proofs.WordLaws.{are_bits, bits_applied}
use Rattle.elementwise.proofs.kernels.arithmetic.BitwiseXorKernel.make.Goals as goal

pub returns : goal.returns
returns g c =
    bits_applied bit_xor xor_mod (g.N.Number.scalar Little) g.N.Number.SIGNED _ _ _ c.bits.result c.bits-2.result (g.met.N.Number.is_number Little) c.bits.type_inv c.bits-2.type_inv (g.met.N.Number.is_truth Little c.args.left) (g.met.N.Number.is_truth Little c.args.right)
    c.bits.ensures.exact c.bits-2.ensures.exact (c.of_bits.ensures Little (pos (bit_xor c.bits.result c.bits-2.result)) (are_bits (bit_xor c.bits.result c.bits-2.result) (xor_lt 64 c.bits.result c.bits-2.result c.bits.type_inv c.bits-2.type_inv)))
