use Rattle.std.proofs.Common.{◌≡◌, ◌%◌, rules, ◌^◌, ap, ◌∙◌, pos}
use Rattle.elementwise.proofs.Words.{integer, low_bits, floor_quotient}
use Rattle.elementwise.proofs.BitLaws.{shift_right_is}
use Rattle.elementwise.proofs.kernels.bits.shift_right.Goals.{then-signed, else-signed}
use Rattle.elementwise.proofs.kernels.bits.shift_right.Goals as goal

pub returns-then-right-width : goal.returns-then-right-width
returns-then-right-width c =
    let z = integer c.args.signed 8 c.args.left in
    let moved : c.if-signed.moved ≡ low_bits 8 (floor_quotient z (pos (2 ^ (c.args.right % c.max.result)))) = elim c.if-signed.branch [ then-signed w ↦ search rules | else-signed w ↦ search rules ] in
    moved ∙ ap (low_bits 8) (shift_right_is c.args.signed c.args.width c.args.right c.max.result z c.if-right-width.true c.requires c.max.ensures)
