use Rattle.std.proofs.Common.{ℕ, ◌+◌, ◌-◌, ◌%◌, ◌^◌, sym, ◌∙◌, arith, pos, ◌-ℤ◌}
use Rattle.elementwise.proofs.Words.{mod-lt, Little, low_bits, Subtract}
use Rattle.elementwise.proofs.BitLaws.{difference_low}
use Rattle.elementwise.proofs.WordLaws.{are_bits, applied}
use Rattle.elementwise.proofs.kernels.arithmetic.SubtractingKernel.make.Goals as goal

pub returns : goal.returns
returns g c =
    let r : ℕ = (c.bits.result + (2 ^ 64 - c.bits-2.result)) % 2 ^ 64 in
    applied Subtract (g.N.Number.scalar Little) _ _ _ r (g.met.N.Number.is_number Little) (g.met.N.Number.is_truth Little c.args.left) (g.met.N.Number.is_truth Little c.args.right)
    (c.of_bits.ensures Little (pos r) (are_bits r (mod-lt _ (omega arith))))
    (difference_low g.N.Number.SIGNED g.N.Number.SIGNED c.bits.result c.bits-2.result c.bits.type_inv c.bits-2.type_inv ∙ λ i. low_bits 8 (sym c.bits.ensures.exact i -ℤ sym c.bits-2.ensures.exact i))
