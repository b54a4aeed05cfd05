use Rattle.std.proofs.Common.{ℕ, ◌+◌, ◌-◌, ◌%◌, ◌^◌, sym, ◌∙◌, arith, true, pos, ◌-ℤ◌}
use Rattle.elementwise.proofs.Words.{mod-lt, Little, integer, low_bits}
use Rattle.elementwise.proofs.BitLaws.{difference_low}
use Rattle.elementwise.proofs.WordLaws.{are_bits, applied_one, near_zero}
use Rattle.elementwise.proofs.kernels.arithmetic.SubtractingFromKernel.make.Goals as goal

pub returns : goal.returns
returns g c =
    let r : ℕ = (g.row.BITS + (2 ^ 64 - c.bits.result)) % 2 ^ 64 in
    applied_one (g.N.Number.scalar Little) _ _ r (g.met.N.Number.is_number Little) (λ bool. near_zero g.row.BITS _ g.BITS.fits.fits (g.met.N.Number.is_truth Little c.args.right bool))
    (c.of_bits.ensures Little (pos r) (are_bits r (mod-lt _ (omega arith))))
    (difference_low true g.N.Number.SIGNED g.row.BITS c.bits.result g.BITS.fits.fits c.bits.type_inv ∙ λ i. low_bits 8 (integer true 8 g.row.BITS -ℤ sym c.bits.ensures.exact i))
