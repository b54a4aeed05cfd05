use Rattle.std.proofs.Common.{◌-◌, arith}
use Rattle.overlap_copy.proofs.Words.{leb-true, le-leb, false≢true, steps}
use Rattle.overlap_copy.proofs.ApartLaws.{divisor-both, between_made, between_found, none_between}
use Rattle.overlap_copy.proofs.apart.lie_between.Goals as goal

pub returns-then-divisor-eq0 : goal.returns-then-divisor-eq0
returns-then-divisor-eq0 c =
    let a = c.args.a.now in
    let b = c.args.b.now in
    let g = c.divisor_with-divisor.result in
    let divisor = divisor-both g c.divisor_with.result (steps a) (steps b) c.divisor_with.ensures c.divisor_with-divisor.ensures in
    (λ never. absurd (false≢true never), λ between. absurd (none_between a c.args.a_item b c.args.b_item g divisor c.if-divisor-eq0.true between))

pub returns-then-a_item-behind : goal.returns-then-a_item-behind
returns-then-a_item-behind c =
    let a = c.args.a.now in
    let b = c.args.b.now in
    let g = c.divisor_with-divisor.result in
    let r = c.difference-behind.result in
    let divisor = divisor-both g c.divisor_with.result (steps a) (steps b) c.divisor_with.ensures c.divisor_with-divisor.ensures in
    let is = c.difference-behind.ensures in
    (λ fits. between_made a c.args.a_item b c.args.b_item g r divisor is.below is.value c.if-a_item-behind.true (leb-true c.args.b_item (g - r) fits), λ between. le-leb c.args.b_item (g - r) (between_found a c.args.a_item b c.args.b_item g r divisor is.below is.value between).1)

pub returns-else-a_item-behind : goal.returns-else-a_item-behind
returns-else-a_item-behind c =
    let a = c.args.a.now in
    let b = c.args.b.now in
    let g = c.divisor_with-divisor.result in
    let r = c.difference-behind.result in
    let divisor = divisor-both g c.divisor_with.result (steps a) (steps b) c.divisor_with.ensures c.divisor_with-divisor.ensures in
    let is = c.difference-behind.ensures in
    (λ fits. absurd (omega (arith, leb-true c.args.a_item r fits, c.if-a_item-behind.false)), λ between. le-leb c.args.a_item r (between_found a c.args.a_item b c.args.b_item g r divisor is.below is.value between).0)
