use Rattle.std.proofs.Common.{◌≡◌, ◌*◌, ◌/◌, ap, ◌∙◌, arith, get_or}
use Rattle.elementwise.proofs.BitLaws.{byte-quotient, byte_low}
use Rattle.elementwise.proofs.fast.byte_divisions.Reciprocals.quotient.Goals as goal

pub returns : goal.returns
returns c =
    let s = c.args.self.now in
    let a = c.args.left in
    let b = c.args.right in
    let r = get_or s.each b 0 in
    byte_low a b (a * r / 65536) c.requires.left
    (λ zero. let none : r ≡ 0 = ap (λ k. get_or s.each k 0) zero ∙ s.none in let nothing : a * 0 / 65536 ≡ 0 = omega arith in ap (λ n. a * n / 65536) none ∙ nothing)
    (λ some. byte-quotient a b r c.requires.left some c.requires.right (s.are b some c.requires.right))
