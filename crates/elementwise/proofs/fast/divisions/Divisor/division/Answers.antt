use Rattle.std.proofs.Common.{◌≡◌, ◌^◌, ◌<◌, refl, sym, ap, ◌∙◌, arith, Bool, true, false, unsigned_abs}
use Rattle.elementwise.proofs.Words.{integer, low_bits, exact, division_op}
use Rattle.elementwise.proofs.BitLaws.{rest_low}
use Rattle.elementwise.proofs.fast.divisions.Divisor.division.Goals as goal

none_far : (signed : Bool) → unsigned_abs (integer signed 8 0) ≡ 0
none_far true = refl
none_far false = refl

pub returns-then-leaves : goal.returns-then-leaves
returns-then-leaves c = λ scalar.
    let d = c.args.self in
    let signed = c.args.signed in
    let fits : d.bits < 2 ^ 64 = c.well_formed.0.1.1.1.0.1 in
    let some : d.bits ≡ 0 → ⊥ = λ none. omega (arith, d.some, d.far ∙ ap (λ n. unsigned_abs (integer d.signed 8 n)) none ∙ none_far d.signed) in
    rest_low signed c.args.left d.bits c.quotient-quotient.result c.ranges.left.fits fits some c.quotient-quotient.ensures
    ∙ ap (λ leaves. low_bits 8 (exact (division_op leaves) scalar (integer signed 8 c.args.left) (integer signed 8 d.bits))) (sym c.if-leaves.true)
