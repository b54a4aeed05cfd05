use Rattle.std.proofs.Common.{sym, ◌∙◌, pos, not, ◌==◌}
use Rattle.elementwise.proofs.Words.{Little, low_bits, integer, exact, division_op}
use Rattle.elementwise.proofs.WordLaws.{are_bits, applied}
use Rattle.elementwise.proofs.kernels.arithmetic.DividingKernel.make.Goals as goal

pub returns : goal.returns
returns g c =
    let op = division_op (not (g.row.LEAVES == 0)) in
    let scalar = g.N.Number.scalar Little in
    applied op scalar _ _ _ c.division.result (g.met.N.Number.is_number Little) (g.met.N.Number.is_truth Little c.args.left) (g.met.N.Number.is_truth Little c.args.right)
    (c.of_bits.ensures Little (pos c.division.result) (are_bits c.division.result c.division.type_inv))
    (c.division.ensures c.SIGNED.result scalar c.quotient-quotient.ensures
    ∙ (λ i. low_bits 8 (exact op scalar (integer (c.SIGNED.ensures i) 8 c.bits-first.result) (integer (c.SIGNED.ensures i) 8 c.bits-second.result)))
    ∙ λ i. low_bits 8 (exact op scalar (sym c.bits-first.ensures.exact i) (sym c.bits-second.ensures.exact i)))
